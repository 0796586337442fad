use Rattle.std.proofs.Common.{
  ◌≡◌,
  ◌+◌,
  ◌≤◌,
  ◌<◌,
  pos,
  ◌+ℤ◌,
  FitsSigned,
  get_or,
  unsigned_abs,
  length,
  ap,
  sym,
  ◌∙◌,
  arith,
  rules,
}
use Rattle.std.specs.Int.{w16}
use Rattle.std.proofs.lemmas.Int.{to_z-of_z}
use Rattle.volume_stack.specs.Scaling.{scaled}
use Rattle.volume_stack.specs.Sums.{sample_limit}
use Rattle.period_engine.specs.Added.{share, most_sum}
use Rattle.period_engine.proofs.SumSteps.{one_channel, fits_sum, next_within}
use Rattle.period_engine.proofs.adding.add_word.Goals as goal

pub loop-channel-preserved : goal.loop-channel-preserved
loop-channel-preserved c =
    let n = c.loop-channel.channel in
    let sum = get_or c.loop-channel.sums (c.args.at + n) (pos 0) in
    let there : c.args.at + n < length c.args.sums.now = omega arith in
    let sample_fits : FitsSigned w16 c.unpack.result = search rules in
    let exact : c.scaled_sample.result ≡ share c.args.gains.now c.args.word n =
    (rw (to_z-of_z w16 c.unpack.result sample_fits) at c.scaled_sample.ensures.exact)
    ∙ ap (λ z. scaled z (get_or c.args.gains.now n 0)) c.unpack.ensures in
    let small : unsigned_abs (share c.args.gains.now c.args.word n) ≤ sample_limit =
    rw (ap unsigned_abs (sym exact)) c.scaled_sample.ensures.within in
    let near = next_within c.loop-channel.invariant most_sum c.requires.sums in
    let is = fits_sum sum c.scaled_sample.result near c.scaled_sample.ensures.within in
    one_channel c.loop-channel.invariant _ there (is ∙ ap (λ z. sum +ℤ z) exact) small
