use Rattle.std.proofs.Common.{◌≡◌, ◌-◌, ◌++◌, length, take, drop, ◌∙◌, arith, rules}
use Rattle.std.proofs.lemmas.List.{length-drop}
use Rattle.buffer_ring.proofs.Reading.{two_pieces}
use Rattle.buffer_ring.proofs.plain.copy_from.Goals as goal

pub returns : goal.returns
returns c =
    let front = c.args.front.now in
    let back = c.args.back.now in
    let skipped = c.min-skipped.result in
    let count = c.min-from_front.result in
    let n = length c.args.words.now in
    let long = length-drop skipped front in
    let first : c.copy_from_slice.new.self ≡ take count (drop skipped front) = search rules in
    let second : c.copy_from_slice-2.new.self ≡ take (n - count) (drop (c.args.i - skipped) back) = search rules in
    (λ i. first i ++ second i)
    ∙ two_pieces front back c.args.i n skipped count (omega arith, omega arith, λ less. omega arith)
    (omega (arith, long), omega (arith, long), λ less. omega (arith, long))
