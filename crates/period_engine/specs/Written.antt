-- The bytes of a period's sums (this project's own).
use Rattle.std.specs.Prelude.{◌≡◌, ℕ, ◌+◌, ◌*◌, ◌%◌, ◌<◌, ℤ, pos, List, length, replicate, slice_index}
use Rattle.wave_format.specs.Frame.{sample_bytes}
use Rattle.volume_stack.specs.Scaling.{scaled, clamp16}
use Rattle.buffer_ring.specs.declared.step.EndState.{EndState}
use Rattle.buffer_ring.specs.declared.step.StoreStep.{StoreStep}
use Rattle.period_engine.specs.declared.entry.StreamEntry.{StreamEntry}
use Rattle.period_engine.specs.Added.{Threads, AddsEntry, sum_at}

-- the sample of a sum: times the gain of its channel, as a number of 16 bits
abbrev pub sample_of_sum : List ℕ → List ℤ → ℕ → ℤ
sample_of_sum ends sums k = clamp16 (scaled (sum_at sums k) (slice_index ends (k % length ends)))

-- the samples of the sums, two bytes each
pub record HoldSamples (ends : List ℕ) (sums : List ℤ) (bytes : List ℕ) : Type 0 where
  pub size : length bytes ≡ 2 * length sums
  pub here : (k i : ℕ) → k < length sums → i < 2 →
      slice_index bytes (2 * k + i) ≡ slice_index (sample_bytes (sample_of_sum ends sums k)) i

-- what was picked of entries was added to `size` sums that were 0, and these are the bytes of the sums
pub record MixesAll {E : Type 0} (moves : E → List StoreStep → E → Type 0) (state : E → EndState) (ends : List ℕ)
    (size : ℕ) (old new : List (StreamEntry E)) (bytes : List ℕ) : Type 0 where
  pub sums : List ℤ
  pub size_is : length sums ≡ size
  pub adds : Threads (AddsEntry moves state (length ends)) old new (replicate size (pos 0)) sums
  pub holds : HoldSamples ends sums bytes
