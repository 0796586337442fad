use Rattle.std.proofs.Common.{◌∙◌}
use Rattle.service_book.proofs.Texts.{text_by}
use Rattle.service_book.proofs.endpoints.is_text.Goals as goal

pub returns : goal.returns
returns c = c.is_ok.ensures.value ∙ text_by _ _ c.args.bytes.now c.from_utf8.result c.from_utf8.ensures.cases
