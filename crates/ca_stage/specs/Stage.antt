-- The stage: the playheads of endpoints, and the streams on them (IAudioClient, IAudioRenderClient).
use Rattle.std.specs.Prelude.{ℕ, ◌+◌, ◌*◌, ◌/◌, ℤ, List, [], length, Bool, true, false, Option, None, if◌then◌else◌}
use Rattle.ca_base.specs.declared.ids.Gate.{Gate}
use Rattle.ca_base.specs.declared.ids.Gate.TheVariants as gate
use Rattle.ca_base.specs.declared.ids.StreamKind.{StreamKind}
use Rattle.ca_base.specs.declared.ids.StreamKind.TheVariants as kind

-- a frame: a sample from -32768 to 32767 for each channel (WAVEFORMATEX: nChannels, wBitsPerSample)
abbrev pub Frame : Type 0
Frame = List ℤ

-- a packet (IAudioCaptureClient::GetBuffer): how many frames were offered to the stream between its last Reset and this
-- packet, those of packets that were lost too; whether a packet was lost right ahead of it
-- (AUDCLNT_BUFFERFLAGS_DATA_DISCONTINUITY); its frames
pub record Packet : Type 0 where
  pub position : ℕ
  pub follows_gap : Bool
  pub frames : List Frame

-- what data calls change of a stream (IAudioRenderClient, IAudioCaptureClient): the frames released and not yet given a
-- fate, in order; the packets that wait to be read, in order; how many frames were ever released; how many are leased
pub record BufferData : Type 0 where
  pub pending : List Frame
  pub packets : List Packet
  pub released : ℕ
  pub lease : Option ℕ

-- nothing was released yet, nothing waits to be read, and nothing is leased
abbrev pub no_data : BufferData
no_data = record { pending = []; packets = []; released = 0; lease = None }

-- a stream (IAudioClient)
pub record Stream : Type 0 where
  -- what it was opened as (IAudioClient::Initialize): the numbers of its client and its endpoint; the samples of a
  -- frame, and frames a second; the frames of its buffer and of a period, and the words of its store; its latency in
  -- units of 100 ns; its session's number
  pub client : ℕ
  pub endpoint : ℕ
  pub kind : StreamKind
  pub exclusive : Bool
  pub event_driven : Bool
  pub channels : ℕ
  pub rate : ℕ
  pub buffer : ℕ
  pub period : ℕ
  pub capacity : ℕ
  pub latency : ℕ
  pub session : ℕ
  -- what moves change: picked is how many of the pending frames are due in the period that is under way, 0 if none
  -- is; position is the count of frames rendered since the last Reset (IAudioClock::GetPosition); offered is the count
  -- of frames in packets offered since the last Reset, and ever that of all; after_gap is whether the last packet
  -- offered since the last Reset was lost
  pub running : Bool
  pub gate : Gate
  pub picked : ℕ
  pub position : ℕ
  pub offered : ℕ
  pub ever : ℕ
  pub after_gap : Bool
  pub buffer_data : BufferData

-- an endpoint's number, and the place of the next frame that it plays (this project's own)
pub record Playhead : Type 0 where
  pub number : ℕ
  pub next : ℕ

-- every playhead and every stream that there ever was: neither leaves, and a stream that was released is a closed one
pub record Stage : Type 0 where
  pub playheads : List Playhead
  pub streams : List Stream

-- nothing is there yet
abbrev pub empty_stage : Stage
empty_stage = record { playheads = []; streams = [] }

-- how many frames were released and have no fate yet
abbrev pub padding : Stream → ℕ
padding s = length s.buffer_data.pending

-- how many packets the store holds: each takes a word for its head and one for each frame of a period
abbrev pub packet_room : Stream → ℕ
packet_room s = s.capacity / (s.period + 1)

-- whether frames may pass
abbrev pub is_open_gate : Gate → Bool
is_open_gate gate.Open = true
is_open_gate (gate.Closed reason) = false

abbrev pub is_open : Stream → Bool
is_open s = is_open_gate s.gate

-- whether a stream of this kind plays frames, records what its endpoint's device gives, or hears what it gets
abbrev pub is_render : StreamKind → Bool
is_render kind.Render = true
is_render kind.Capture = false
is_render kind.Loopback = false

abbrev pub is_capture : StreamKind → Bool
is_capture kind.Render = false
is_capture kind.Capture = true
is_capture kind.Loopback = false

abbrev pub is_loopback : StreamKind → Bool
is_loopback kind.Render = false
is_loopback kind.Capture = false
is_loopback kind.Loopback = true

-- how many frames wait to be played, or to be read (IAudioClient::GetCurrentPadding)
abbrev pub frames_waiting : Stream → ℕ
frames_waiting s = if is_render s.kind then padding s else length s.buffer_data.packets * s.period
