use Rattle.std.proofs.Common.{◌≡◌, ◌++◌, length, arith, ap, ◌∙◌}
use Rattle.std.proofs.lemmas.List.{length-append}
use Rattle.uuid.specs.Text.{hyphenated_text, lower}
use Rattle.uuid.proofs.TextLemmas.{by_index_length}
use Rattle.session_manager.specs.Names.{guid_text}
use Rattle.session_manager.proofs.names.add_guid.Goals as goal

pub add-requires : goal.add-requires
add-requires c =
    let text : c.as_bytes.result.now ≡ guid_text c.args.guid.0 =
    c.as_bytes.ensures.value ∙ c.encode_lower-text.ensures.text
    ∙ ap (hyphenated_text lower) (c.hyphenated.ensures ∙ c.from_u128.ensures) in
    let long : length c.as_bytes.result.now ≡ 36 = ap length text ∙ by_index_length 36 _ in
    let room = c.requires in
    omega arith

pub returns-clause-text : goal.returns-clause-text
returns-clause-text c =
    c.add.ensures
    ∙ ap (λ text. c.args.out.now.items ++ text)
    (c.as_bytes.ensures.value ∙ c.encode_lower-text.ensures.text
    ∙ ap (hyphenated_text lower) (c.hyphenated.ensures ∙ c.from_u128.ensures))

pub returns-clause-long : goal.returns-clause-long
returns-clause-long c =
    let text : c.as_bytes.result.now ≡ guid_text c.args.guid.0 =
    c.as_bytes.ensures.value ∙ c.encode_lower-text.ensures.text
    ∙ ap (hyphenated_text lower) (c.hyphenated.ensures ∙ c.from_u128.ensures) in
    let long : length c.as_bytes.result.now ≡ 36 = ap length text ∙ by_index_length 36 _ in
    let more = length-append c.args.out.now.items c.as_bytes.result.now in
    omega (arith, ap length c.add.ensures)
