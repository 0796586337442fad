-- The mixed frame: the clamped sum of the frames that are due at a place, each times its gain (this project's own).
use Rattle.std.specs.Prelude.{ℕ, ℤ, pos, ◌==◌, nat_lt, List, [], ◌∷◌, map, slice_index_or, if◌then◌else◌}
use Rattle.std.specs.List.{flat_map, filter, range_with_len}
use Rattle.wave_format.specs.Frame.{frame_bytes}
use Rattle.volume_stack.specs.Scaling.{scaled, clamp16, sum_of}
use Rattle.ca_stage.specs.Stage.{Frame, Stream}
use Rattle.ca_stage.specs.Moves.{Mixing}

-- the streams of an endpoint
abbrev pub streams_on : ℕ → List Stream → List Stream
streams_on number streams = filter (λ s. s.endpoint == number) streams

-- the frame that a stream has due at place i of the period, if as many are picked
abbrev pub due_at : ℕ → Stream → List Frame
due_at i s = if nat_lt i s.picked then slice_index_or s.buffer_data.pending i [] ∷ [] else []

-- the frames that streams have due at place i of the period, each beside its client's number
abbrev pub due_frames : ℕ → List Stream → List (ℕ × Frame)
due_frames i streams = flat_map (λ s. map (λ frame. (s.client, frame)) (due_at i s)) streams

-- the sample of a channel of a frame
abbrev pub sample_of : Frame → ℕ → ℤ
sample_of frame channel = slice_index_or frame channel (pos 0)

-- what a client's frame adds to a channel
abbrev pub contribution : Mixing → ℕ → ℕ × Frame → ℤ
contribution m channel placed = scaled (sample_of placed.1 channel) (m.gain placed.0 channel)

-- a channel of the mix of these frames: their exact sum, times the endpoint's gain, as a number of 16 bits
abbrev pub mixed_sample : Mixing → List (ℕ × Frame) → ℕ → ℤ
mixed_sample m frames channel =
    clamp16 (scaled (sum_of (map (contribution m channel) frames)) (m.endpoint_gain channel))

-- the mix of these frames
abbrev pub mix_of : Mixing → List (ℕ × Frame) → Frame
mix_of m frames = map (mixed_sample m frames) (range_with_len 0 m.channels)

-- the frames of a Sound: at each place of the period the mix of the frames that are due there; and their bytes
abbrev pub mixed : Mixing → List Stream → List Frame
mixed m streams = map (λ i. mix_of m (due_frames i (streams_on m.endpoint streams))) (range_with_len 0 m.frames)

abbrev pub sound_bytes : Mixing → List Stream → List ℕ
sound_bytes m streams = flat_map frame_bytes (mixed m streams)
