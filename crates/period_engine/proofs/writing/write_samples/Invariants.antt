use Rattle.std.proofs.Common.{◌≡◌, ℕ, ◌+◌, ◌*◌, ◌%◌, ◌<◌, length, get_or}
use Rattle.wave_format.specs.Frame.{sample_bytes}
use Rattle.period_engine.specs.Written.{sample_of_sum}
use Rattle.period_engine.proofs.writing.write_samples.Given as goal

-- the samples so far were written
abbrev pub invariant-loop-place : goal.invariant-loop-place
invariant-loop-place l = record {
  here : (k i : ℕ) → k < l.place → i < 2
      → get_or l.bytes (2 * k + i) 0 ≡ get_or (sample_bytes (sample_of_sum l.ends l.sums k)) i 0;
  channel_is : l.channel ≡ l.place % length l.ends;
}
