-- Periods: which streams a period is about, its sub-steps, and the stage after them (this project's own).
use Rattle.std.specs.Prelude.{ℕ, ◌==◌, ◌&&◌, List, [], ◌∷◌, ◌++◌, map, filter, Bool, true, false, if◌then◌else◌}
use Rattle.ca_base.specs.declared.ids.Reason.TheVariants.{Removal}
use Rattle.ca_stage.specs.Stage.{Frame, Stream, Stage, is_open, is_render, is_capture, is_loopback}
use Rattle.ca_stage.specs.Moves.{Mixing, Move, of_client, sounded, finished, captured, closed, picked, retired, fed}
use Rattle.ca_stage.specs.Moves.{moved, playhead_after, after_moves}
use Rattle.ca_stage.specs.Mix.{mixed}

-- the streams that a period of an endpoint plays: the open render streams on it that run; and all open streams on it
abbrev pub is_playing : ℕ → Stream → Bool
is_playing number s = s.endpoint == number && (is_open s && (s.running && is_render s.kind))

abbrev pub playing_streams_on : ℕ → Stage → List Stream
playing_streams_on number st = filter (is_playing number) st.streams

abbrev pub is_open_on : ℕ → Stream → Bool
is_open_on number s = s.endpoint == number && is_open s

abbrev pub open_streams_on : ℕ → Stage → List Stream
open_streams_on number st = filter (is_open_on number) st.streams

-- the streams that a period of an endpoint offers packets to: the open ones on it that run and record its device, or
-- hear what it gets
abbrev pub is_recording : ℕ → Stream → Bool
is_recording number s = s.endpoint == number && (is_open s && (s.running && is_capture s.kind))

abbrev pub is_hearing : ℕ → Stream → Bool
is_hearing number s = s.endpoint == number && (is_open s && (s.running && is_loopback s.kind))

-- these frames are offered to each stream of a test
abbrev pub feeds : (Stream → Bool) → List Frame → Stage → List Move
feeds test frames st = map (λ s. of_client s.client (fed frames)) (filter test st.streams)

-- the sub-steps of a period before its Sound
abbrev pub picks : Mixing → Stage → List Move
picks m st = map (λ s. of_client s.client (picked m.frames)) (playing_streams_on m.endpoint st)

-- and after it, by the stage at the Sound: what was due is rendered, and those who hear get what the device got; or the
-- device failed and the streams are closed
abbrev pub after_sound : Mixing → Bool → Stage → List Move
after_sound m true st =
    map (λ s. of_client s.client retired) (playing_streams_on m.endpoint st)
    ++ (feeds (is_hearing m.endpoint) (mixed m st.streams) st ++ finished m true ∷ [])
after_sound m false st =
    map (λ s. of_client s.client (closed Removal)) (open_streams_on m.endpoint st) ++ finished m false ∷ []

-- the sub-steps of a period, with nothing between them
abbrev pub sub_steps : Mixing → Bool → Stage → List Move
sub_steps m whole st = picks m st ++ sounded m whole ∷ after_sound m whole (after_moves st (picks m st))

-- the sub-steps of a period of an endpoint that captures, whose device gave these frames
abbrev pub captures : ℕ → List Frame → Stage → List Move
captures number frames st = captured number frames ∷ feeds (is_recording number) frames st

-- a stream once what is due of it was picked, and what a period makes of it: whole, if the device got these frames, or
-- failed
abbrev pub picked_on : Mixing → Stream → Stream
picked_on m s = if is_playing m.endpoint s then moved (picked m.frames) s else s

abbrev pub fed_if : (Stream → Bool) → List Frame → Stream → Stream
fed_if test frames s = if test s then moved (fed frames) s else s

abbrev pub played : Mixing → List Frame → Stream → Stream
played m frames s =
    if is_playing m.endpoint s
    then moved retired (moved (picked m.frames) s)
    else fed_if (is_hearing m.endpoint) frames s

abbrev pub failed : Mixing → Stream → Stream
failed m s = if is_open_on m.endpoint s then moved (closed Removal) s else s

-- the stage after a period with nothing between its sub-steps
abbrev pub after_period : Mixing → Bool → Stage → Stage
after_period m true st = record {
  playheads = map (playhead_after (finished m true)) st.playheads;
  streams = map (played m (mixed m (map (picked_on m) st.streams))) st.streams;
}
after_period m false st = record st { streams = map (failed m) st.streams }

-- and after one of an endpoint that captures
abbrev pub after_captures : ℕ → List Frame → Stage → Stage
after_captures number frames st =
    record st { streams = map (fed_if (is_recording number) frames) st.streams }
