use Rattle.std.proofs.Common.{◌≡◌, length, arith, ◌∙◌}
use Rattle.wave_format.proofs.FrameLaws.{word_of_eight}
use Rattle.wave_format.proofs.frame.word_from_bytes.Goals as goal

pub returns-in-len8 : goal.returns-in-len8
returns-in-len8 c =
    let l : length c.args.frame.now ≡ 8 = omega arith in
    c.from_le_bytes-in-len8.ensures ∙ word_of_eight c.args.frame.now (λ i. omega (arith, c.type_inv.frame i)) l
