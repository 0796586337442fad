-- Moves: what events do to the stage (this project's own). A refused event makes none, a period makes its sub-steps.
use Rattle.std.specs.Prelude.{ℕ, ◌+◌, ◌==◌, ◌&&◌, not, nat_lt, min, List, [], ◌∷◌, ◌++◌, length, map, drop, Bool}
use Rattle.std.specs.Prelude.{true, false, Option, Some, None, if◌then◌else◌}
use Rattle.std.specs.List.{list_any, find}
use Rattle.ca_base.specs.declared.ids.Reason.{Reason}
use Rattle.ca_base.specs.declared.ids.Gate.TheVariants as gate
use Rattle.ca_stage.specs.Stage.{Frame, Packet, Stream, Playhead, Stage, no_data, padding, packet_room, is_open}

-- what a period mixes by: the number of its endpoint, how many frames it plays, their channels, the gain of a client's
-- channel, and the gain of the endpoint's channel. A gain is from 0 to 65536
pub record Mixing : Type 0 where
  pub endpoint : ℕ
  pub frames : ℕ
  pub channels : ℕ
  pub gain : ℕ → ℕ → ℕ
  pub endpoint_gain : ℕ → ℕ

-- a move of one stream
pub data StreamMove : Type 0 where
  -- by a data call: frames are leased; frames are released, or this many packets are read, and the lease ends
  leased : ℕ → StreamMove
  released : List Frame → StreamMove
  read : ℕ → StreamMove
  -- by a control call or a device: Start, Stop, Reset, and a close
  started : StreamMove
  stopped : StreamMove
  reset : StreamMove
  closed : Reason → StreamMove
  -- by a period: at most this many of the first pending frames are due; the frames that were due are rendered; these
  -- frames are offered as a packet
  picked : ℕ → StreamMove
  retired : StreamMove
  fed : List Frame → StreamMove

pub data Move : Type 0 where
  -- an endpoint of this number is added
  added : ℕ → Move
  -- a stream is opened
  opened : Stream → Move
  -- a client's stream is moved
  of_client : ℕ → StreamMove → Move
  -- the frames that are due are mixed and written, and the device took all of them, or failed; the period ends
  sounded : Mixing → Bool → Move
  finished : Mixing → Bool → Move
  -- an endpoint's device gave these frames
  captured : ℕ → List Frame → Move

-- whether the store has room for a packet more, and the packets once these frames were offered as one: it waits behind
-- the others, or is lost if there is no room
abbrev pub has_room : Stream → Bool
has_room s = nat_lt (length s.buffer_data.packets) (packet_room s)

abbrev pub packets_with : List Frame → Stream → List Packet
packets_with frames s =
    if has_room s
    then s.buffer_data.packets
    ++ record { position = s.offered; follows_gap = s.after_gap; frames = frames } ∷ []
    else s.buffer_data.packets

-- what a move of a stream makes of it. A close leaves the lease
abbrev pub moved : StreamMove → Stream → Stream
moved (leased n) s = record s { buffer_data = record (s.buffer_data) { lease = Some n } }
moved (released frames) s = record s {
  buffer_data = record (s.buffer_data) {
    pending = s.buffer_data.pending ++ frames;
    released = s.buffer_data.released + length frames;
    lease = None;
  };
}
moved (read n) s = record s {
  buffer_data = record (s.buffer_data) { packets = drop n s.buffer_data.packets; lease = None };
}
moved started s = record s { running = true }
moved stopped s = record s { running = false }
moved reset s = record s {
  picked = 0;
  position = 0;
  offered = 0;
  after_gap = false;
  buffer_data = record (s.buffer_data) { pending = []; packets = [] };
}
moved (closed reason) s = record s {
  gate = gate.Closed reason;
  running = false;
  picked = 0;
  buffer_data = record (s.buffer_data) { pending = []; packets = [] };
}
moved (picked n) s = record s { picked = min n (padding s) }
moved retired s = record s {
  picked = 0;
  position = s.position + s.picked;
  buffer_data = record (s.buffer_data) { pending = drop s.picked s.buffer_data.pending };
}
moved (fed frames) s = record s {
  offered = s.offered + length frames;
  ever = s.ever + length frames;
  after_gap = not (has_room s);
  buffer_data = record (s.buffer_data) { packets = packets_with frames s };
}

-- whether a stream is the open one of this client: nothing else of a client can be moved
abbrev pub is_open_of : ℕ → Stream → Bool
is_open_of client s = s.client == client && is_open s

-- a stream after a move
abbrev pub stream_after : Move → Stream → Stream
stream_after (of_client client m) s = if is_open_of client s then moved m s else s
stream_after _ s = s

-- a playhead after a move: a period whose device took all brings it on by the period's frames
abbrev pub playhead_after : Move → Playhead → Playhead
playhead_after (finished m true) e = if e.number == m.endpoint then record e { next = e.next + m.frames } else e
playhead_after _ e = e

-- whether an endpoint has a playhead, and whether a client has a stream
abbrev pub has_playhead : ℕ → List Playhead → Bool
has_playhead number heads = list_any (λ e. e.number == number) heads

abbrev pub has_stream : ℕ → List Stream → Bool
has_stream client streams = list_any (λ s. s.client == client) streams

-- the playheads with that of an endpoint that is added: one for each number, and its places begin with 0
abbrev pub with_added : Move → List Playhead → List Playhead
with_added (added number) heads =
    if has_playhead number heads then heads else heads ++ record { number = number; next = 0 } ∷ []
with_added _ heads = heads

-- a stream as it is opened: its gate is open, it doesn't run, and nothing was ever released or offered to it
abbrev pub as_opened : Stream → Stream
as_opened s = record s {
  running = false;
  gate = gate.Open;
  picked = 0;
  position = 0;
  offered = 0;
  ever = 0;
  after_gap = false;
  buffer_data = no_data;
}

-- a stream set before the first one whose client has a greater number
abbrev pub inserted : Stream → List Stream → List Stream
inserted new [] = new ∷ []
inserted new (s ∷ streams) = if nat_lt new.client s.client then new ∷ s ∷ streams else s ∷ inserted new streams

-- the streams with one that is opened: one for each client, in the order of their numbers
abbrev pub with_opened : Move → List Stream → List Stream
with_opened (opened new) streams = if has_stream new.client streams then streams else inserted (as_opened new) streams
with_opened _ streams = streams

-- the stage after a move, and after a list of moves
abbrev pub after_move : Stage → Move → Stage
after_move st x = record {
  playheads = with_added x (map (playhead_after x) st.playheads);
  streams = with_opened x (map (stream_after x) st.streams);
}

abbrev pub after_moves : Stage → List Move → Stage
after_moves st [] = st
after_moves st (x ∷ xs) = after_moves (after_move st x) xs

-- the playhead of an endpoint, and the stream of a client
abbrev pub playhead_at : ℕ → Stage → Option Playhead
playhead_at number st = find (λ e. e.number == number) st.playheads

abbrev pub stream_at : ℕ → Stage → Option Stream
stream_at client st = find (λ s. s.client == client) st.streams
