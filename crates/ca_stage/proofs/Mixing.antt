-- The frames of a Sound are the mixes of the frames that are due; and a sum goes stream by stream.
use Rattle.std.proofs.Common.{◌≡◌, ℕ, ℤ, ◌<◌, List, [], ◌∷◌, ◌++◌, map, flat_map, Some, refl, ap, ◌∙◌, arith, zero-add}
use Rattle.std.proofs.Common.{slice_get, pos, negsuc, nat_lt, if◌then◌else◌}
use Rattle.std.proofs.lemmas.List.{map-append}
use Rattle.std.proofs.lemmas.List.FromFn.{length-map-range_with_len, get_or-map-range_with_len}
use Rattle.std.proofs.lemmas.Option.{slice_get-get_or}
use Rattle.ca_stage.specs.Stage.{Frame, Stream}
use Rattle.ca_stage.specs.Moves.{Mixing}
use Rattle.ca_stage.specs.Mix.{due_at, due_frames, streams_on, contribution, mix_of, mixed, mixed_sample}
use Rattle.ca_stage.specs.Laws.{MixSums}
use Rattle.std.proofs.lemmas.Int.{ints}
use Rattle.std.specs.Int.{w16}
use Rattle.std.specs.Int.RustNames.{FitsSigned}
use Rattle.std.specs.List.{range_with_len}
use Rattle.wave_format.specs.Frame.{IsFrame}
use Rattle.volume_stack.specs.Scaling.{scaled, clamp16, sum_of}
use Rattle.ca_stage.specs.Order.{AreFrames}
use Rattle.ca_stage.proofs.Lists.{chosen_by, all-map, all_of}
use Rattle.ca_stage.proofs.Clients.{lt_false}

pub mixed_at : (m : Mixing) (streams : List Stream) (i : ℕ) → i < m.frames →
    slice_get (mixed m streams) i ≡ Some (mix_of m (due_frames i (streams_on m.endpoint streams)))
mixed_at m streams i h =
    slice_get-get_or (mixed m streams) i [] (let e = length-map-range_with_len mix 0 m.frames in omega arith)
    ∙ ap (λ frame. Some frame) (get_or-map-range_with_len mix 0 m.frames i i [] h (zero-add i))
  where
    mix : ℕ → Frame
    mix i = mix_of m (due_frames i (streams_on m.endpoint streams))

-- what is clamped is a sample of 16 bits
high : (n : ℕ) → FitsSigned w16 (if nat_lt 32767 n then pos 32767 else pos n)
high n =
    chosen_by (FitsSigned w16) (nat_lt 32767 n) (pos 32767) (pos n) (λ t. omega (arith, ints))
    (λ t. let l = lt_false 32767 n t in omega (arith, ints))

low : (n : ℕ) → FitsSigned w16 (if nat_lt 32767 n then negsuc 32767 else negsuc n)
low n =
    chosen_by (FitsSigned w16) (nat_lt 32767 n) (negsuc 32767) (negsuc n) (λ t. omega (arith, ints))
    (λ t. let l = lt_false 32767 n t in omega (arith, ints))

clamp_fits : (z : ℤ) → FitsSigned w16 (clamp16 z)
clamp_fits (pos n) = high n
clamp_fits (negsuc n) = low n

pub mix_is_frame : (m : Mixing) (frames : List (ℕ × Frame)) → IsFrame m.channels (mix_of m frames)
mix_is_frame m frames = record {
  count = length-map-range_with_len (mixed_sample m frames) 0 m.channels;
  within =
      all-map (λ channel. Unit {0}) (FitsSigned w16) (mixed_sample m frames)
      (λ channel u. clamp_fits (scaled (sum_of (map (contribution m channel) frames)) (m.endpoint_gain channel)))
      (range_with_len 0 m.channels) (all_of _ (λ channel. tt) (range_with_len 0 m.channels));
}

pub mixed_are_frames : (m : Mixing) (streams : List Stream) → AreFrames m.channels (mixed m streams)
mixed_are_frames m streams =
    all-map (λ i. Unit {0}) (IsFrame m.channels) (λ i. mix_of m (due_frames i (streams_on m.endpoint streams)))
    (λ i u. mix_is_frame m (due_frames i (streams_on m.endpoint streams))) (range_with_len 0 m.frames)
    (all_of _ (λ i. tt) (range_with_len 0 m.frames))

pub mix_sums : MixSums
mix_sums m streams = record {
  count = length-map-range_with_len (λ i. mix_of m (due_frames i (streams_on m.endpoint streams))) 0 m.frames;
  frames = mixed_are_frames m streams;
  each = mixed_at m streams;
}

-- what one stream adds to a channel at a place, and what streams add one after another
abbrev pub contributions : Mixing → ℕ → ℕ → Stream → List ℤ
contributions m channel i s = map (contribution m channel) (map (λ frame. (s.client, frame)) (due_at i s))

pub stream_by_stream : (m : Mixing) (channel i : ℕ) (streams : List Stream) →
    map (contribution m channel) (due_frames i streams) ≡ flat_map (contributions m channel i) streams
stream_by_stream m channel i [] = refl
stream_by_stream m channel i (s ∷ streams) =
    map-append (contribution m channel) (map (λ frame. (s.client, frame)) (due_at i s)) (due_frames i streams)
    ∙ ap (λ zs. contributions m channel i s ++ zs) (stream_by_stream m channel i streams)
