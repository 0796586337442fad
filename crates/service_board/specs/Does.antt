-- What an event does on a board: the machine's step, for all data that agree with what its steps found (this project's
-- own).
use Rattle.std.specs.Prelude.{◌≡◌, ℕ, ◌==◌, List, [], ◌∷◌, true, Option, Some, None, if◌then◌else◌}
use Rattle.device_io.specs.DeviceLog.{DeviceLog}
use Rattle.ca_base.specs.declared.codes.Hr.{Hr}
use Rattle.buffer_ring.specs.declared.step.StoreStep.{StoreStep}
use Rattle.ca_stage.specs.Stage.{BufferData}
use Rattle.ca_stage.specs.Tally.{Tally}
use Rattle.ca_machine.specs.State.{State}
use Rattle.ca_machine.specs.Plan.{Plan}
use Rattle.ca_machine.specs.View.{AnswersBy, outside}
use Rattle.period_engine.specs.declared.entry.StreamEntry.{StreamEntry}
use Rattle.period_engine.specs.Agreement.{AllAgree, ArePacked, Layout, data_after, layout_of}
use Rattle.service_board.specs.Board.{state_of}
use Rattle.service_board.specs.declared.board.Board.{Board}

-- the store of a client's entry, and the layout of its words
abbrev pub store_at : {E : Type 0} → ℕ → List (StreamEntry E) → Option E
store_at client [] = None
store_at client (e ∷ entries) = if e.client.0 == client then Some e.store else store_at client entries

abbrev pub no_layout : Layout
no_layout = record { plays = true; channels = 0; period = 0 }

abbrev pub layout_at : {E : Type 0} → ℕ → List (StreamEntry E) → Layout
layout_at client [] = no_layout
layout_at client (e ∷ entries) = if e.client.0 == client then layout_of e else layout_at client entries

-- a client's store was moved by these steps, or went with its stream after them, or is the one that was handed in
abbrev pub Made : {E : Type 0} → (E → List StoreStep → E → Type 0) → Option E → List StoreStep → Option E → Option E →
    Type 0
Made moves given steps (Some a) (Some b) = moves a steps b
Made {E} moves given steps (Some a) None = (b : E) × moves a steps b
Made moves given steps None (Some b) = (steps ≡ []) × (given ≡ Some b)
Made moves given steps None None = steps ≡ []

-- by client: the data after the steps of its store
abbrev pub after_steps : {E : Type 0} → (ℕ → List StoreStep) → List (StreamEntry E) → (ℕ → BufferData) → ℕ → BufferData
after_steps steps entries datas client = data_after (layout_at client entries) (steps client) (datas client)

-- nothing is known of the data but what the steps found
abbrev pub AnyData : (ℕ → BufferData) → Type 0
AnyData datas = Unit {0}

-- from a state, a plan was answered so, and the state after it is that of a board with these data, by some tally
pub record Answered {D E : Type 0} (faults : D → ℕ) (told : D → Option (List DeviceLog)) (plan : State → Plan)
    (result : Hr) (payload : List ℕ) (before : State) (old : Board D E) (datas : ℕ → BufferData) (new : Board D E)
    : Type 0
  where
    pub tally : Tally
    pub answers : AnswersBy before (plan before) result payload (state_of datas tally new)
        (outside faults told old.devices) (outside faults told new.devices)

-- An event on a board. The stores of all clients were moved by steps of the engine's end, and by nothing else; one that
-- is new is the one that was given; whole packets alone came and went. For all data that agree with what the steps
-- found, and of which this is known, and for every tally, the board went on as the plan of the machine says, with this
-- result and payload.
pub record Does {D E : Type 0} (faults : D → ℕ) (told : D → Option (List DeviceLog))
    (moves : E → List StoreStep → E → Type 0) (given : Option E) (known : (ℕ → BufferData) → Type 0)
    (old new : Board D E) (plan : State → Plan) (result : Hr) (payload : List ℕ) : Type 0
  where
    pub steps : ℕ → List StoreStep
    pub made : (client : ℕ) →
        Made moves given (steps client) (store_at client old.entries.items) (store_at client new.entries.items)
    pub packs : (client : ℕ) → ArePacked (layout_at client old.entries.items) (steps client)
    pub does : (datas : ℕ → BufferData) (tally : Tally) → AllAgree steps datas old.entries.items → known datas →
        Answered faults told plan result payload (state_of datas tally old) old
        (after_steps steps old.entries.items datas) new
