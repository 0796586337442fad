-- What calls of a client's stream make of its entry (IAudioClient).
use Rattle.std.specs.Prelude.{◌≡◌, ℕ, List, [], Bool, true, false, not, is_some, if◌then◌else◌}
use Rattle.buffer_ring.specs.declared.step.StoreStep.{StoreStep}
use Rattle.ca_stage.specs.Stage.{BufferData, Stream}
use Rattle.ca_stage.specs.Moves.{moved, reset}
use Rattle.ca_machine.specs.Streams.{is_at_start}
use Rattle.period_engine.specs.declared.entry.StreamEntry.{StreamEntry}
use Rattle.period_engine.specs.Agreement.{Agrees, ArePacked, Layout, data_after, layout_of}
use Rattle.period_engine.specs.Entries.{stream_with}
use Rattle.period_engine.specs.SubSteps.{IsSameEntry}
use Rattle.service_board.specs.Does.{layout_at}

-- a client's lease is there exactly if this says so
abbrev pub IsLeased : ℕ → Bool → (ℕ → BufferData) → Type 0
IsLeased client has_lease datas = is_some (datas client).lease ≡ has_lease

-- a client's data are those of its stream's kind alone: no packets of one that plays, nothing pending of another
pub record IsOfKind (l : Layout) (d : BufferData) : Type 0 where
  pub packets : l.plays ≡ true → d.packets ≡ []
  pub pending : l.plays ≡ false → d.pending ≡ []

-- what is known of a client's data at a Reset: whether they are leased, and that they are of the kind of the client's
-- stream
pub record IsKnown {E : Type 0} (client : ℕ) (has_lease : Bool) (entries : List (StreamEntry E))
    (datas : ℕ → BufferData) : Type 0
  where
    pub leased : IsLeased client has_lease datas
    pub kind : IsOfKind (layout_at client entries) (datas client)

-- a stream that was reset, or one that had nothing to throw away
abbrev pub emptied : Bool → Stream → Stream
emptied whether s = if whether then moved reset s else s

-- a look at an entry's store told whether there was something to throw away, and it was thrown away
pub record Empties {E : Type 0} (moves : E → List StoreStep → E → Type 0) (whether : Bool) (a b : StreamEntry E)
    : Type 0
  where
    pub same : IsSameEntry a b
    pub steps : List StoreStep
    pub made : moves a.store steps b.store
    pub packs : ArePacked (layout_of a) steps
    pub tells : (d : BufferData) → Agrees (layout_of a) steps d → is_at_start (stream_with d a) ≡ not whether
    pub turns : (d : BufferData) → Agrees (layout_of a) steps d → IsOfKind (layout_of a) d →
        emptied whether (stream_with d a) ≡ stream_with (data_after (layout_of a) steps d) b
