-- The bytes of a Sound are the mix of its streams.
use Rattle.std.proofs.Common.{
  ◌≡◌,
  ℕ,
  ◌+◌,
  ◌*◌,
  ◌%◌,
  ◌<◌,
  ℤ,
  pos,
  ◌+ℤ◌,
  List,
  length,
  map,
  replicate,
  false,
  refl,
  sym,
  ap,
  ◌∙◌,
  get_or,
  arith,
}
use Rattle.std.specs.Prelude.{slice_index}
use Rattle.std.specs.List.{All, flat_map, range_with_len}
use Rattle.std.proofs.lemmas.Int.{ints}
use Rattle.std.proofs.lemmas.List.Folds.{flat_map-map}
use Rattle.std.proofs.lemmas.Nat.{mod-mul-add}
use Rattle.std.proofs.Math.Nat.{mul_comm}
use Rattle.wave_format.specs.Frame.{sample_bytes, frame_bytes}
use Rattle.volume_stack.specs.Scaling.{scaled, clamp16, sum_of}
use Rattle.ca_stage.specs.Stage.{Stream, BufferData}
use Rattle.ca_stage.specs.Moves.{Mixing}
use Rattle.ca_stage.specs.Mix.{contribution, due_frames, streams_on, mixed_sample, mix_of, sound_bytes}
use Rattle.buffer_ring.specs.declared.step.EndState.{EndState}
use Rattle.buffer_ring.specs.declared.step.StoreStep.{StoreStep}
use Rattle.period_engine.specs.declared.entry.StreamEntry.{StreamEntry}
use Rattle.period_engine.specs.Entries.{streams_of, is_played}
use Rattle.period_engine.specs.Agreement.{AllAgree}
use Rattle.period_engine.specs.Sounds.{MixesThese}
use Rattle.period_engine.specs.Added.{sum_at, Threads, AddsEntry}
use Rattle.period_engine.specs.Written.{sample_of_sum, HoldSamples}
use Rattle.period_engine.proofs.Rows.{in_rows, alike, made_of_rows}
use Rattle.period_engine.proofs.SumSteps.{zero_at}
use Rattle.period_engine.proofs.DueSums.{part, due_sum, renders, sum_along}
use Rattle.period_engine.proofs.SoundSteps.{Follows}

-- the bytes of a mix, channel by channel
sounded : Mixing → List Stream → ℕ → ℕ → ℕ → List ℕ
sounded m streams number channels frames =
    flat_map (λ i. flat_map (λ c. sample_bytes (mixed_sample m (due_frames i (streams_on number streams)) c))
    (range_with_len 0 channels)) (range_with_len 0 frames)

by_channel : (m : Mixing) (streams : List Stream)
    → sound_bytes m streams ≡ sounded m streams m.endpoint m.channels m.frames
unfolding sounded
by_channel m streams =
    flat_map-map frame_bytes (λ i. mix_of m (due_frames i (streams_on m.endpoint streams))) (range_with_len 0 m.frames)
    ∙ alike (λ i. frame_bytes (mix_of m (due_frames i (streams_on m.endpoint streams))))
    (λ i. flat_map (λ c. sample_bytes (mixed_sample m (due_frames i (streams_on m.endpoint streams)) c))
    (range_with_len 0 m.channels))
    m.frames
    (λ i lt. flat_map-map sample_bytes (mixed_sample m (due_frames i (streams_on m.endpoint streams)))
    (range_with_len 0 m.channels))

from_zero : (z : ℤ) → pos 0 +ℤ z ≡ z
from_zero z = omega (arith, ints)

module _ {E : Type 0} (moves : E → List StoreStep → E → Type 0) (state : E → EndState) (ends : List ℕ)
    (number frames size : ℕ) (xs ys : List (StreamEntry E)) (sums : List ℤ) (steps : ℕ → List StoreStep)
    (h : Threads (AddsEntry moves state (length ends)) xs ys (replicate size (pos 0)) sums)
    (follows : Follows moves state (length ends) steps xs ys (replicate size (pos 0)) sums h)
    (datas : ℕ → BufferData) (m : Mixing) (agree : AllAgree steps datas xs) (mixes : MixesThese m number frames ends xs)
    (plays : All (λ e. is_played number e ≡ false → e.picked ≡ 0) xs)
    (fits : All (λ e. 0 < e.picked → e.channels ≡ length ends) xs) where
  sum_is : (i c : ℕ) → c < length ends → sum_at sums (length ends * i + c)
      ≡ sum_of (map (contribution m c) (due_frames i (streams_on number (streams_of datas xs))))
  sum_is i c lt =
      sum_along moves state (length ends) datas i c lt steps xs ys (replicate size (pos 0)) sums h follows agree fits
      (λ k d within. renders number (get_or xs k d) (plays k d within))
      ∙ ap (λ z. z +ℤ sum_of (map (part datas i c) xs)) (zero_at size (length ends * i + c))
      ∙ from_zero (sum_of (map (part datas i c) xs))
      ∙ sym (due_sum datas m number i c xs (λ k d within. mixes.gains k d within c lt) plays)

  sample_is : (i c : ℕ) → c < length ends → sample_of_sum ends sums (length ends * i + c)
      ≡ mixed_sample m (due_frames i (streams_on number (streams_of datas xs))) c
  sample_is i c lt =
      let k = length ends * i + c in
      let channel : k % length ends ≡ c =
      ap (λ n. (n + c) % length ends) (mul_comm (length ends) i) ∙ mod-mul-add i (length ends) c lt in
      ap (λ z. clamp16 (scaled z (slice_index ends (k % length ends)))) (sum_is i c lt)
      ∙ ap (λ g. clamp16
      (scaled (sum_of (map (contribution m c) (due_frames i (streams_on number (streams_of datas xs))))) g))
      (ap (slice_index ends) channel ∙ sym (mixes.end_gains c lt))

  pub mixed_bytes : (bytes : List ℕ) → length sums ≡ size → size ≡ frames * length ends → HoldSamples ends sums bytes
      → bytes ≡ sound_bytes m (streams_of datas xs)
  unfolding sounded
  mixed_bytes bytes size-is whole holds =
      let streams = streams_of datas xs in
      let count : length sums ≡ length ends * frames = size-is ∙ whole ∙ mul_comm frames (length ends) in
      let Sample : ℕ → List ℕ = λ k. sample_bytes (sample_of_sum ends sums k) in
      made_of_rows 0 Sample 2 (length sums) bytes holds.size (λ k lt. refl) (λ k i lt below. holds.here k i lt below)
      ∙ ap (λ n. flat_map Sample (range_with_len 0 n)) count
      ∙ in_rows Sample (length ends) frames
      ∙ alike (λ i. flat_map (λ c. Sample (length ends * i + c)) (range_with_len 0 (length ends)))
      (λ i. flat_map (λ c. sample_bytes (mixed_sample m (due_frames i (streams_on number streams)) c))
      (range_with_len 0 (length ends)))
      frames (λ i lt. alike (λ c. Sample (length ends * i + c))
      (λ c. sample_bytes (mixed_sample m (due_frames i (streams_on number streams)) c)) (length ends)
      (λ c below. ap sample_bytes (sample_is i c below)))
      ∙ sym (by_channel m streams ∙ ap (λ e. sounded m streams e m.channels m.frames) mixes.endpoint
      ∙ ap (λ n. sounded m streams number n m.frames) mixes.channels
      ∙ ap (λ n. sounded m streams number (length ends) n) mixes.lasts)
