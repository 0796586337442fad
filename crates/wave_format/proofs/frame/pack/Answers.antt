use Rattle.std.proofs.Common.{rules, slice_index_or, pos, arith, ap, ◌∙◌}
use Rattle.std.specs.Int.{cast_unsigned, w16}
use Rattle.std.specs.Int.RustNames.{FitsSigned}
use Rattle.wave_format.proofs.FrameLaws.{sample_back, word_of_four}
use Rattle.wave_format.proofs.frame.pack.Goals as goal

pub returns-in-len4 : goal.returns-in-len4
returns-in-len4 c =
    let f0 : FitsSigned w16 (slice_index_or c.args.samples.now 0 (pos 0)) = search rules in
    let f1 : FitsSigned w16 (slice_index_or c.args.samples.now 1 (pos 0)) = search rules in
    let f2 : FitsSigned w16 (slice_index_or c.args.samples.now 2 (pos 0)) = search rules in
    let f3 : FitsSigned w16 (slice_index_or c.args.samples.now 3 (pos 0)) = search rules in
    word_of_four c.args.samples.now _ _ _ _ (omega arith)
    (c.lane-in-len4.ensures ∙ ap (cast_unsigned w16) (sample_back _ f0))
    (c.lane-in-len4-2.ensures ∙ ap (cast_unsigned w16) (sample_back _ f1))
    (c.lane-in-len4-3.ensures ∙ ap (cast_unsigned w16) (sample_back _ f2))
    (c.lane-in-len4-4.ensures ∙ ap (cast_unsigned w16) (sample_back _ f3))
