-- Data calls on a board that has both ends of each stream (this project's own).
use Rattle.std.specs.Prelude.{◌≡◌, ℕ, ◌<◌, ◌++◌, List, length, Some, None, slice_get}
use Rattle.ca_base.specs.declared.codes.Hr.{Hr}
use Rattle.ca_base.specs.Rows.{Row}
use Rattle.client_state.specs.declared.check.DataCall.{DataCall}
use Rattle.ca_stage.specs.Stage.{BufferData}
use Rattle.ca_stage.specs.Moves.{stream_at}
use Rattle.ca_stage.specs.Tally.{Tally}
use Rattle.ca_machine.specs.State.{State}
use Rattle.ca_machine.specs.SharedRows.{client_rows, data_call_rows}
use Rattle.ca_machine.specs.Data.{data_rows}
use Rattle.period_engine.specs.declared.entry.StreamEntry.{StreamEntry}
use Rattle.period_engine.specs.Entries.{stream_of}
use Rattle.service_board.specs.Board.{state_of}
use Rattle.service_board.specs.Lookups.{Says, client_call_rows}
use Rattle.service_board.specs.declared.board.Board.{Board}

-- the rows of a data call
abbrev pub all_data_rows : ℕ → ℕ → DataCall → State → List (Row Hr)
all_data_rows conn client call st =
    data_call_rows conn st ++ client_rows conn client st ++ data_rows call (stream_at client st.stage)

-- each data call of this client is refused so
abbrev pub RefusesData : {D E : Type 0} → ℕ → ℕ → Board D E → Hr → Type 0
RefusesData conn client b code = (call : DataCall) → Says b (all_data_rows conn client call) (Some code)

-- at this place stands the entry of a live client of the connection
pub record FindsEntry {D E : Type 0} (conn client : ℕ) (b : Board D E) (at : ℕ) : Type 0 where
  pub within : at < length b.entries.items
  pub entry : StreamEntry E
  pub here : slice_get b.entries.items at ≡ Some entry
  pub client_is : entry.client.0 ≡ client
  pub says : Says b (client_call_rows conn client) None
  pub found : (datas : ℕ → BufferData) (tally : Tally) →
      stream_at client (state_of datas tally b).stage ≡ Some (stream_of datas entry)
