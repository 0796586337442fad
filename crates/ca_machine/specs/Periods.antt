-- A period of an endpoint (this project's own).
use Rattle.std.specs.Prelude.{ℕ, ◌+◌, ◌*◌, ◌==◌, ◌&&◌, ◌||◌, not, nat_lt, List, [], ◌∷◌, ◌++◌, length, map, filter}
use Rattle.std.specs.Prelude.{Bool, true, false, Option, Some, None, if◌then◌else◌, slice_index}
use Rattle.std.specs.List.{find, list_any}
use Rattle.std.specs.Option.{option_map_or}
use Rattle.std.specs.Int.{w32, to_le_bytes}
use Rattle.ca_base.specs.declared.codes.Hr.{Hr}
use Rattle.ca_base.specs.declared.codes.TheConstants.Hr as hr
use Rattle.ca_base.specs.declared.ids.Flow.{Flow}
use Rattle.ca_base.specs.declared.ids.Flow.TheVariants as flow
use Rattle.ca_base.specs.declared.ids.Reason.TheVariants.{Removal}
use Rattle.ca_base.specs.declared.limits.TheConstants.{MAX_COUNT, MAX_LEVEL, SHARED_PERIOD}
use Rattle.ca_base.specs.declared.values.TheConstants.{STATE_ACTIVE, STATE_NOTPRESENT}
use Rattle.ca_base.specs.Rows.{Row}
use Rattle.wave_format.specs.Format.{frames_of_time}
use Rattle.volume_stack.specs.Scaling.{unit_gain}
use Rattle.volume_stack.specs.Gains.{gain_of_stream}
use Rattle.session_manager.specs.declared.session.Session.{Session}
use Rattle.session_manager.specs.Sessions.{session_at}
use Rattle.ca_stage.specs.Stage.{Stage, Stream}
use Rattle.ca_stage.specs.Moves.{Mixing, Move, of_client, closed, after_moves, stream_at}
use Rattle.ca_stage.specs.Periods.{captures, is_hearing, is_open_on, is_recording, open_streams_on, picks, sub_steps}
use Rattle.ca_stage.specs.Mix.{sound_bytes}
use Rattle.ca_stage.specs.Fates.{next_of}
use Rattle.ca_stage.specs.Given.{frames_given, whole_frames}
use Rattle.device_registry.specs.declared.endpoint.Endpoint.{Endpoint}
use Rattle.device_registry.specs.Endpoints.{changed, with_state}
use Rattle.ca_machine.specs.declared.state.Client.{Client}
use Rattle.ca_machine.specs.State.{State, endpoint_at}
use Rattle.ca_machine.specs.Plan.{Outcome, Plan, Answer, plain, refused, moved, is_whole, pieces, bytes_given}
use Rattle.ca_machine.specs.Plan.Asked.{writing, reading}
use Rattle.ca_machine.specs.SharedRows.{shut_rows}

-- the frames of a period that an endpoint's shared streams have
abbrev pub shared_frames : Endpoint → ℕ
shared_frames e = frames_of_time e.format.rate SHARED_PERIOD

-- an exclusive stream holds an endpoint
abbrev pub is_exclusive_on : ℕ → Stream → Bool
is_exclusive_on number s = is_open_on number s && s.exclusive

-- the frames of an endpoint's period: those of the exclusive stream that holds it, running or not, or of its shared
-- ones
abbrev pub period_frames : Endpoint → List Stream → ℕ
period_frames e streams = option_map_or (λ s. s.period) (find (is_exclusive_on e.no.0) streams) (shared_frames e)

-- the session of a stream that is there
abbrev pub session_joined : State → Option Stream → Option Session
session_joined st None = None
session_joined st (Some s) = session_at s.session st.sessions

-- the levels of a live client's stream
abbrev pub levels_of : ℕ → State → List ℕ
levels_of client st = option_map_or (λ c. c.levels) (find (λ c. c.client.0 == client) st.clients) []

-- the gain of a channel by the levels of its stream and of its session: 0 if there is none
abbrev pub gain_in : List ℕ → Option Session → ℕ → ℕ
gain_in levels None channel = 0
gain_in levels (Some s) channel = gain_of_stream (record {
  stream = slice_index levels channel;
  session = slice_index s.channels channel;
  master = s.level;
  duck = MAX_LEVEL;
  mute = s.mute;
})

-- a stream that is there is exclusive
abbrev pub is_exclusive_stream : Option Stream → Bool
is_exclusive_stream stream = option_map_or (λ s. s.exclusive) stream false

-- the gain of a channel of a client's stream: an exclusive one sounds as it is
abbrev pub gain_of : State → ℕ → ℕ → ℕ
gain_of st client channel =
    if is_exclusive_stream (stream_at client st.stage)
    then unit_gain
    else gain_in (levels_of client st) (session_joined st (stream_at client st.stage)) channel

-- what a period of an endpoint mixes by, in this state: its frames and channels, and all gains
abbrev pub mixing_of : State → Endpoint → Mixing
mixing_of st e = record {
  endpoint = e.no.0;
  frames = period_frames e st.stage.streams;
  channels = e.format.channels;
  gain = gain_of st;
  endpoint_gain = λ channel. unit_gain;
}

-- the bytes that a period sounds: the mix of what its sub-steps pick
abbrev pub bytes_due : Mixing → Stage → List ℕ
bytes_due m stage = sound_bytes m (after_moves stage (picks m stage)).streams

-- a period: its frames, or none if the device failed, and whether it failed
abbrev pub period_payload : ℕ → Bool → List ℕ
period_payload frames true = to_le_bytes w32 frames ++ 0 ∷ []
period_payload frames false = to_le_bytes w32 0 ++ 1 ∷ []

-- the endpoints after a period whose device failed: it is NOTPRESENT
abbrev pub with_failed : ℕ → List Endpoint → List Endpoint
with_failed number endpoints = changed number (with_state STATE_NOTPRESENT) endpoints

-- a stream takes part in a period of an endpoint, and is driven by events: each open one that runs plays, hears or
-- records it
abbrev pub is_signaled : ℕ → Stream → Bool
is_signaled number s = is_open_on number s && (s.running && s.event_driven)

-- the event of a client is set if such a stream is its own
abbrev pub with_event : ℕ → List Stream → Client → Client
with_event number streams c =
    if list_any (λ s. s.client == c.client.0 && is_signaled number s) streams then record c { flagged = true } else c

abbrev pub with_events : ℕ → State → State
with_events number st = record st { clients = map (with_event number st.stage.streams) st.clients }

-- the state after a period, by whether the device took or gave all that it was asked
abbrev pub after_period : ℕ → Bool → State → State
after_period number true st = with_events number st
after_period number false st = record st { endpoints = with_failed number st.endpoints }

-- a period of an endpoint that plays
abbrev pub sounding : State → Mixing → List Answer → Outcome
sounding st m given = record {
  result = hr.S_OK;
  payload = period_payload m.frames (is_whole given);
  moves = sub_steps m (is_whole given) st.stage;
  output = pieces m.endpoint (bytes_due m st.stage) given;
  after = after_period m.endpoint (is_whole given) (moved (sub_steps m (is_whole given) st.stage) st);
}

-- ---- endpoints that capture

-- the streams that record an endpoint
abbrev pub recording_streams_on : ℕ → Stage → List Stream
recording_streams_on number st = filter (is_recording number) st.streams

-- the bytes that are asked of an endpoint's device for a period of so many frames, if a stream records the endpoint
abbrev pub bytes_asked : Endpoint → ℕ → List Stream → ℕ
bytes_asked e frames [] = 0
bytes_asked e frames (s ∷ streams) = frames * e.format.channels * 2

-- the frames that a period records: none if the device gave no whole one
abbrev pub frames_recorded : Endpoint → ℕ → List ℕ → ℕ
frames_recorded e frames bytes = if whole_frames e.format.channels bytes == 0 then 0 else frames

-- what a period of an endpoint that captures moves, if its device gave these bytes, or failed: each stream that records
-- it is offered them as a packet, or the streams are closed
abbrev pub recording_moves : Endpoint → ℕ → List ℕ → Bool → Stage → List Move
recording_moves e frames bytes true st =
    if whole_frames e.format.channels bytes == 0
    then []
    else captures e.no.0 (frames_given frames e.format.channels bytes) st
recording_moves e frames bytes false st = map (λ s. of_client s.client (closed Removal)) (open_streams_on e.no.0 st)

-- and after it: events are set if something was offered
abbrev pub after_recording : Endpoint → List ℕ → Bool → State → State
after_recording e bytes true st =
    if whole_frames e.format.channels bytes == 0 then st else after_period e.no.0 true st
after_recording e bytes false st = after_period e.no.0 false st

-- a period of so many frames of an endpoint that captures
abbrev pub recording : State → Endpoint → ℕ → List Answer → Outcome
recording st e frames given = record {
  result = hr.S_OK;
  payload = period_payload (frames_recorded e frames (bytes_given given)) (is_whole given);
  moves = recording_moves e frames (bytes_given given) (is_whole given) st.stage;
  output = [];
  after = after_recording e (bytes_given given) (is_whole given)
      (moved (recording_moves e frames (bytes_given given) (is_whole given) st.stage) st);
}

-- ---- the table

-- a stream that a period of an endpoint offers packets to can't count this many frames more
abbrev pub is_worn : ℕ → ℕ → Stream → Bool
is_worn number frames s = (is_recording number s || is_hearing number s) && nat_lt MAX_COUNT (s.ever + frames)

abbrev pub period_rows : State → Endpoint → ℕ → List (Row Hr)
period_rows st e frames =
    shut_rows st
    ++ (not (e.state == STATE_ACTIVE), hr.DEVICE_INVALIDATED)
    ∷ (
      nat_lt MAX_COUNT (next_of e.no.0 st.stage + frames) || list_any (is_worn e.no.0 frames) st.stage.streams,
      hr.WORN,
    )
    ∷ []

-- a period by its endpoint's flow: it plays, or it records
abbrev pub period_by : State → Endpoint → Flow → Plan
period_by st e flow.Render = record {
  rows = period_rows st e (period_frames e st.stage.streams);
  asks = writing (length (bytes_due (mixing_of st e) st.stage));
  grants = sounding st (mixing_of st e);
}
period_by st e flow.Capture = record {
  rows = period_rows st e (period_frames e st.stage.streams);
  asks = reading e.no.0
      (bytes_asked e (period_frames e st.stage.streams) (recording_streams_on e.no.0 st.stage));
  grants = recording st e (period_frames e st.stage.streams);
}

-- a period of an endpoint, if it is there
abbrev pub period_of : State → Option Endpoint → Plan
period_of st None = plain (shut_rows st ++ (true, hr.E_NOTFOUND) ∷ []) (refused st hr.E_NOTFOUND)
period_of st (Some e) = period_by st e e.flow

abbrev pub period_plan : State → ℕ → Plan
period_plan st number = period_of st (endpoint_at number st)
