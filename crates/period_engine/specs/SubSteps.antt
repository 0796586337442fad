-- The sub-steps of a period over entries: each entry's stream is moved as the stage's, for all data that agree (this
-- project's own).
use Rattle.std.specs.Prelude.{◌≡◌, ℕ, List, if◌then◌else◌}
use Rattle.ca_stage.specs.Stage.{Stream, BufferData, no_data}
use Rattle.ca_stage.specs.Moves.{StreamMove, picked, retired, moved}
use Rattle.ca_stage.specs.Periods.{is_playing}
use Rattle.buffer_ring.specs.declared.step.StoreStep.{StoreStep}
use Rattle.period_engine.specs.declared.entry.StreamEntry.{StreamEntry}
use Rattle.period_engine.specs.Entries.{stream_with}
use Rattle.period_engine.specs.Agreement.{Agrees, ArePacked, data_after, layout_of}

-- what an entry was opened as, and what no sub-step changes
pub record IsSameEntry {E : Type 0} (a b : StreamEntry E) : Type 0 where
  pub client : b.client ≡ a.client
  pub endpoint : b.endpoint ≡ a.endpoint
  pub kind : b.kind ≡ a.kind
  pub exclusive : b.exclusive ≡ a.exclusive
  pub event : b.event ≡ a.event
  pub channels : b.channels ≡ a.channels
  pub rate : b.rate ≡ a.rate
  pub buffer : b.buffer ≡ a.buffer
  pub period : b.period ≡ a.period
  pub room : b.room ≡ a.room
  pub latency : b.latency ≡ a.latency
  pub session : b.session ≡ a.session
  pub gains : b.gains ≡ a.gains

-- an entry went on as f moves its stream: by steps of its store, for all data that agree with them. Whether it runs,
-- its gate, its position and what it was offered go as f moves them whatever the data are
pub record Turned {E : Type 0} (moves : E → List StoreStep → E → Type 0) (f : Stream → Stream) (a b : StreamEntry E)
    : Type 0
  where
    pub same : IsSameEntry a b
    pub steps : List StoreStep
    pub made : moves a.store steps b.store
    pub packs : ArePacked (layout_of a) steps
    pub turns : (d : BufferData) → Agrees (layout_of a) steps d →
        f (stream_with d a) ≡ stream_with (data_after (layout_of a) steps d) b
    pub running : b.running ≡ (f (stream_with no_data a)).running
    pub gate : b.gate ≡ (f (stream_with no_data a)).gate
    pub position : b.position ≡ (f (stream_with no_data a)).position
    pub offered : b.offered ≡ (f (stream_with no_data a)).offered
    pub ever : b.ever ≡ (f (stream_with no_data a)).ever

-- a move of those streams that an endpoint's period plays
abbrev pub if_playing : ℕ → StreamMove → Stream → Stream
if_playing number m s = if is_playing number s then moved m s else s

-- at most this many frames are picked of each stream that a period of the endpoint plays
abbrev pub picks_on : ℕ → ℕ → Stream → Stream
picks_on number frames = if_playing number (picked frames)

-- and what was picked of each is rendered
abbrev pub retires_on : ℕ → Stream → Stream
retires_on number = if_playing number retired
