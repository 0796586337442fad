-- What is noted of a board.
use Rattle.std.proofs.Common.{◌≡◌, ℕ, ◌≤◌, List, [], ◌∷◌, length, map}
use Rattle.std.proofs.Common.{refl, ap}
use Rattle.ca_base.specs.declared.limits.TheConstants.{CLIENTS}
use Rattle.buffer_ring.specs.declared.step.EndState.{EndState}
use Rattle.ca_stage.specs.Stage.{BufferData}
use Rattle.ca_stage.specs.Tally.{Tally}
use Rattle.ca_machine.specs.Notices.{noted, noted_stream}
use Rattle.period_engine.specs.declared.entry.StreamEntry.{StreamEntry}
use Rattle.period_engine.specs.Entries.{streams_of}
use Rattle.service_board.specs.Board.{state_of}
use Rattle.service_board.specs.InOrder.{InOrder}
use Rattle.stream_entries.specs.Noting.{noted_entry, noted_with}
use Rattle.service_board.specs.declared.board.Board.{Board}
use Rattle.service_board.proofs.EntryCounts.{are_entries}

-- the streams of entries are noted as the entries are, whatever the data
pub noted_streams : {E : Type 0} (datas : ℕ → BufferData) (entries : List (StreamEntry E)) →
    map noted_stream (streams_of datas entries) ≡ map noted_entry entries
noted_streams datas [] = refl
noted_streams datas (e ∷ entries) = ap (λ rest. noted_entry e ∷ rest) (noted_streams datas entries)

-- what is noted of a board's state, whatever the data and the tally
pub noted_board : {D E : Type 0} (datas : ℕ → BufferData) (tally : Tally) (b : Board D E) →
    noted_with b.book b.entries.items ≡ noted (state_of datas tally b)
noted_board datas tally b = rw (noted_streams datas b.entries.items) refl

-- there are few enough entries to be noted
pub few_entries : {D E : Type 0} (state : E → EndState) (b : Board D E) → InOrder state b →
    length b.entries.items ≤ CLIENTS
few_entries state b order = (are_entries state b order).count
