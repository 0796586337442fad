use Rattle.std.proofs.Common.{
  ◌≡◌,
  ◌/◌,
  ◌%◌,
  pos,
  [],
  ◌∷◌,
  length,
  get_or,
  to_z,
  of_z,
  FitsSigned,
  ap,
  ◌∙◌,
  arith,
  rules,
}
use Rattle.std.specs.Int.{w16, w32, w64}
use Rattle.std.proofs.lemmas.Int.{to_z-of_z}
use Rattle.wave_format.specs.Frame.{sample_bytes}
use Rattle.volume_stack.specs.Scaling.{scaled, clamp16}
use Rattle.period_engine.specs.Written.{sample_of_sum}
use Rattle.period_engine.proofs.SampleBytes.{channel_wraps, channel_goes, one_pair}
use Rattle.period_engine.proofs.writing.write_samples.Goals as goal
use Rattle.period_engine.proofs.writing.write_samples.Goals.{then-channel-ends, else-channel-ends}

pub loop-place-preserved : goal.loop-place-preserved
loop-place-preserved c =
    let ends = c.args.ends.now in
    let sums = c.args.sums.now in
    let place = c.loop-place.place in
    let channel = c.loop-place.channel in
    let sum = get_or sums place (pos 0) in
    let fits : FitsSigned w32 sum = search rules in
    let wide : FitsSigned w64 sum = record { sfits = omega (arith, fits.sfits) } in
    let small : FitsSigned w16 c.sample_of-sample.result = search rules in
    let sum_is : to_z w64 (of_z w64 (to_z w32 (of_z w32 sum))) ≡ sum =
    rw (to_z-of_z w32 sum fits) (to_z-of_z w64 sum wide) in
    let sample : c.sample_of-sample.result ≡ sample_of_sum ends sums place =
    c.sample_of-sample.ensures ∙ ap (λ z. clamp16 (scaled z (get_or ends channel 0))) sum_is
    ∙ ap (λ n. clamp16 (scaled sum (get_or ends n 0))) c.loop-place.invariant.channel_is in
    let unsigned : c.cast_unsigned.result ≡ of_z w16 (sample_of_sum ends sums place) =
    c.cast_unsigned.ensures ∙ ap (of_z w16) (to_z-of_z w16 c.sample_of-sample.result small) ∙ ap (of_z w16) sample in
    let pair : c.to_le_bytes.result ≡ sample_bytes (sample_of_sum ends sums place) =
    c.to_le_bytes.ensures ∙ ap (λ n. n % 256 ∷ n / 256 % 256 ∷ []) unsigned in
    record {
      here = one_pair c.loop-place.bytes place (λ k. sample_bytes (sample_of_sum ends sums k))
          (get_or c.to_le_bytes.result 0 0) (get_or c.to_le_bytes.result 1 0) (omega arith)
          (ap (λ xs. get_or xs 0 0) pair) (ap (λ xs. get_or xs 1 0) pair) c.loop-place.invariant.here;
      channel_is = elim c.if-channel-ends.branch [
        | then-channel-ends w ↦ rw w.channel-is
            (channel_wraps place (length ends) channel c.loop-place.invariant.channel_is
            w.if-channel-ends.true)
        | else-channel-ends w ↦ rw w.channel-is
            (channel_goes place (length ends) channel c.loop-place.invariant.channel_is
            w.if-channel-ends.false (omega arith))
      ];
    }
