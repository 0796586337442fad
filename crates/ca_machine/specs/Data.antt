-- Data calls: GetCurrentPadding, GetBuffer, ReleaseBuffer, and those of packets (IAudioClient, IAudioRenderClient,
-- IAudioCaptureClient). Their rows are those of a client's side over what is seen of its store.
use Rattle.std.specs.Prelude.{ℕ, suc, ◌*◌, ◌==◌, List, [], ◌∷◌, ◌++◌, length, replicate, flat_map, pos, false, Option}
use Rattle.std.specs.Prelude.{Some, None, if◌then◌else◌}
use Rattle.std.specs.Int.{w32, w64, to_le_bytes}
use Rattle.ca_base.specs.declared.codes.Hr.{Hr}
use Rattle.ca_base.specs.declared.ids.Dir.{Dir}
use Rattle.ca_base.specs.declared.ids.Dir.TheVariants as dir
use Rattle.ca_base.specs.declared.ids.Gate.TheVariants as gate
use Rattle.ca_base.specs.declared.ids.Seen.{Seen}
use Rattle.ca_base.specs.declared.ids.StreamKind.{StreamKind}
use Rattle.ca_base.specs.declared.ids.StreamKind.TheVariants as kind
use Rattle.ca_base.specs.declared.values.TheConstants.{BUFFER_DATA_DISCONTINUITY, BUFFER_SILENT}
use Rattle.ca_base.specs.Rows.{Row}
use Rattle.wave_format.specs.Frame.{frame_bytes, frames_from}
use Rattle.client_state.specs.declared.check.DataCall.{DataCall}
use Rattle.client_state.specs.declared.check.DataCall.TheVariants as data_call
use Rattle.client_state.specs.declared.side.ClientSide.{ClientSide}
use Rattle.client_state.specs.Rows.{side_rows}
use Rattle.ca_stage.specs.Stage.{Frame, Packet, Stream, padding, frames_waiting, is_render}
use Rattle.ca_stage.specs.Moves.{of_client, leased, released, read, stream_at}
use Rattle.ca_machine.specs.State.{State}
use Rattle.ca_machine.specs.Plan.{Outcome, Plan, plain, answered, granted}
use Rattle.ca_machine.specs.SharedRows.{data_call_rows, client_rows, with_stream}

-- which way the frames of a stream go
abbrev pub dir_of : StreamKind → Dir
dir_of kind.Render = dir.Render
dir_of kind.Capture = dir.Capture
dir_of kind.Loopback = dir.Capture

-- the client's side of a stream, and that of a client that isn't initialised
abbrev pub side_of : Option Stream → ClientSide
side_of (Some s) = record {
  dir = dir_of s.kind;
  exclusive = s.exclusive;
  event = s.event_driven;
  buffer = s.buffer;
  period = s.period;
  store_frames = s.capacity;
  block = s.channels * 2;
  lease = s.buffer_data.lease;
  released = s.buffer_data.released;
}
side_of None = record {
  dir = dir.Render;
  exclusive = false;
  event = false;
  buffer = 0;
  period = 0;
  store_frames = 0;
  block = 0;
  lease = None;
  released = 0;
}

-- the words in a stream's store: one for each frame that is to be played; for each packet one, and one for each of its
-- frames
abbrev pub words_held : Stream → ℕ
words_held s = if is_render s.kind then padding s else length s.buffer_data.packets * suc s.period

-- what a look at a stream's store finds: its words, and the gate
abbrev pub seen_of : Option Stream → Seen
seen_of (Some s) = record { words = words_held s; gate = s.gate }
seen_of None = record { words = 0; gate = gate.Open }

-- the rows of a data call over the client's stream
abbrev pub data_rows : DataCall → Option Stream → List (Row Hr)
data_rows call stream = side_rows (side_of stream) call (seen_of stream)

-- a data call: its rows, and what it does with the client's stream
abbrev pub data_plan : State → ℕ → ℕ → DataCall → (Stream → Outcome) → Plan
data_plan st conn client call outcome = plain
    (data_call_rows conn st ++ client_rows conn client st ++ data_rows call (stream_at client st.stage))
    (with_stream st (stream_at client st.stage) outcome)

abbrev pub get_current_padding_plan : State → ℕ → ℕ → Plan
get_current_padding_plan st conn client =
    data_plan st conn client data_call.Padding (λ s. answered st (to_le_bytes w32 (frames_waiting s)))

abbrev pub get_buffer_plan : State → ℕ → ℕ → ℕ → Plan
get_buffer_plan st conn client frames =
    data_plan st conn client (data_call.Get frames) (λ s. granted [] (of_client client (leased frames) ∷ []) st)

-- the frames that are released: zeros if they are silent (AUDCLNT_BUFFERFLAGS_SILENT)
abbrev pub frames_released : ℕ → ℕ → List ℕ → ℕ → List Frame
frames_released frames flags bytes channels =
    if flags == BUFFER_SILENT
    then replicate frames (replicate channels (pos 0))
    else frames_from frames channels bytes

abbrev pub release_buffer_plan : State → ℕ → ℕ → ℕ → ℕ → List ℕ → Plan
release_buffer_plan st conn client frames flags bytes =
    data_plan st conn client (data_call.Release frames flags (length bytes))
    (λ s. granted [] (of_client client (released (frames_released frames flags bytes s.channels)) ∷ []) st)

-- ---- packets

-- the frames of the next packet, 0 if there is none
abbrev pub next_packet_size : Stream → ℕ
next_packet_size s = if length s.buffer_data.packets == 0 then 0 else s.period

abbrev pub get_next_packet_size_plan : State → ℕ → ℕ → Plan
get_next_packet_size_plan st conn client =
    data_plan st conn client data_call.NextSize (λ s. answered st (to_le_bytes w32 (next_packet_size s)))

-- the flags of a packet (AUDCLNT_BUFFERFLAGS)
abbrev pub packet_flags : Packet → ℕ
packet_flags p = if p.follows_gap then BUFFER_DATA_DISCONTINUITY else 0

-- a packet as the payload of a reply: its frames, its flags, its position, and the bytes of its frames
abbrev pub packet_bytes : Packet → List ℕ
packet_bytes p =
    to_le_bytes w32 (length p.frames)
    ++ to_le_bytes w32 (packet_flags p)
    ++ to_le_bytes w64 p.position
    ++ flat_map frame_bytes p.frames

-- the first packet; if there is none, a row has refused the call
abbrev pub first_packet : List Packet → List ℕ
first_packet [] = []
first_packet (p ∷ packets) = packet_bytes p

abbrev pub capture_get_buffer_plan : State → ℕ → ℕ → Plan
capture_get_buffer_plan st conn client = data_plan st conn client data_call.CaptureGet
    (λ s. granted (first_packet s.buffer_data.packets) (of_client client (leased s.period) ∷ []) st)

-- how many packets are read by a release of this many frames: none by one of 0
abbrev pub packets_read : ℕ → ℕ
packets_read frames = if frames == 0 then 0 else 1

abbrev pub capture_release_buffer_plan : State → ℕ → ℕ → ℕ → Plan
capture_release_buffer_plan st conn client frames =
    data_plan st conn client (data_call.CaptureRelease frames)
    (λ s. granted [] (of_client client (read (packets_read frames)) ∷ []) st)
