use Rattle.std.proofs.Common.{◌∙◌}
use Rattle.session_manager.proofs.Texts.{text_by}
use Rattle.session_manager.proofs.changes.is_text.Goals as goal

pub returns : goal.returns
returns c = c.is_ok.ensures.value ∙ text_by _ _ c.args.bytes.now c.from_utf8.result c.from_utf8.ensures.cases
