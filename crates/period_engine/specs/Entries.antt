-- Entries: the engine's ends of streams, and the streams of the stage that they represent (this project's own).
use Rattle.std.specs.Prelude.{◌≡◌, ℕ, ◌+◌, ◌≤◌, List, length, map, Bool, false, true}
use Rattle.ca_base.specs.declared.limits.TheConstants.{CLIENTS, MAX_COUNT}
use Rattle.ca_stage.specs.Stage.{Stream, BufferData, no_data}
use Rattle.ca_stage.specs.Periods.{is_hearing, is_playing, is_recording}
use Rattle.ca_stage.specs.Order.{RisesFrom}
use Rattle.buffer_ring.specs.declared.step.EndState.{EndState}
use Rattle.period_engine.specs.declared.entry.StreamEntry.{StreamEntry}

-- the stream that an entry represents, with these data of its client
abbrev pub stream_with : {E : Type 0} → BufferData → StreamEntry E → Stream
stream_with d e = record {
  client = e.client.0;
  endpoint = e.endpoint.0;
  kind = e.kind;
  exclusive = e.exclusive;
  event_driven = e.event;
  channels = e.channels;
  rate = e.rate;
  buffer = e.buffer;
  period = e.period;
  capacity = e.room;
  latency = e.latency;
  session = e.session.0;
  running = e.running;
  gate = e.gate;
  picked = e.picked;
  position = e.position;
  offered = e.offered;
  ever = e.ever;
  after_gap = e.after_gap;
  buffer_data = d;
}

-- the same, with data by the client's number
abbrev pub stream_of : {E : Type 0} → (ℕ → BufferData) → StreamEntry E → Stream
stream_of datas e = stream_with (datas e.client.0) e

-- and of a list of entries
abbrev pub streams_of : {E : Type 0} → (ℕ → BufferData) → List (StreamEntry E) → List Stream
streams_of datas entries = map (stream_of datas) entries

-- entries are in rising order of their clients' numbers
abbrev pub AreInOrder : {E : Type 0} → List (StreamEntry E) → Type 0
AreInOrder entries = RisesFrom 0 (map (λ e. e.client.0) entries)

-- entries that the engine may have: in order, and no more than there may be clients
pub record AreEntries {E : Type 0} (entries : List (StreamEntry E)) : Type 0 where
  pub order : AreInOrder entries
  pub count : length entries ≤ CLIENTS

-- an entry fits its store: the gate is the one that the engine's end knows, the store is as large as it says, and
-- counts are in range
pub record FitsStore {E : Type 0} (state : E → EndState) (e : StreamEntry E) : Type 0 where
  pub gate : (state e.store).gate ≡ e.gate
  pub size : (state e.store).cap ≡ e.room
  pub position : e.position ≤ MAX_COUNT
  pub offered : e.offered ≤ e.ever
  pub ever : e.ever ≤ MAX_COUNT
  pub some_channel : 1 ≤ e.channels
  pub few_channels : e.channels ≤ 4

-- no frame is picked
pub record IsRested {E : Type 0} (state : E → EndState) (e : StreamEntry E) : Type 0 where
  pub fits : FitsStore state e
  pub unpicked : e.picked ≡ 0

-- an entry that a period of an endpoint plays
abbrev pub is_played : {E : Type 0} → ℕ → StreamEntry E → Bool
is_played number e = is_playing number (stream_with no_data e)

-- the position of an entry that a period of this endpoint plays has room for p frames more
abbrev pub HasRoom : {E : Type 0} → ℕ → ℕ → StreamEntry E → Type 0
HasRoom number p e = is_played number e ≡ true → e.position + p ≤ MAX_COUNT

-- an entry that a period of an endpoint offers packets to: what its device gave, or what it got
abbrev pub is_recorded : {E : Type 0} → ℕ → StreamEntry E → Bool
is_recorded number e = is_recording number (stream_with no_data e)

abbrev pub is_heard : {E : Type 0} → ℕ → StreamEntry E → Bool
is_heard number e = is_hearing number (stream_with no_data e)

-- an entry that may be offered a packet of p frames: its packets have as many, of `channels` channels, and its counts
-- have room for them
pub record IsFeedable {E : Type 0} (channels p : ℕ) (e : StreamEntry E) : Type 0 where
  pub channels_are : e.channels ≡ channels
  pub period : e.period ≡ p
  pub ever : e.ever + p ≤ MAX_COUNT

-- in a period of an endpoint: of frames that were seen at most p are picked, of streams that it plays alone, and the
-- position has room for them
pub record IsPicked {E : Type 0} (state : E → EndState) (number p : ℕ) (e : StreamEntry E) : Type 0 where
  pub fits : FitsStore state e
  pub plays : is_played number e ≡ false → e.picked ≡ 0
  pub seen : e.picked ≤ (state e.store).seen
  pub within : e.picked ≤ p
  pub counts : e.position + e.picked ≤ MAX_COUNT
