-- What look-ups of a call find, and the rows that refuse it if they don't (this project's own).
use Rattle.std.specs.Prelude.{◌≡◌, ℕ, ◌-◌, ◌<◌, ◌++◌, List, length, Bool, false, not, Option, Some, None}
use Rattle.std.specs.Prelude.{slice_get}
use Rattle.std.specs.List.{find}
use Rattle.std.specs.Option.{option_map_or}
use Rattle.ca_base.specs.declared.codes.Hr.{Hr}
use Rattle.ca_base.specs.declared.ids.Gate.TheVariants as gate
use Rattle.ca_base.specs.Rows.{Row, first}
use Rattle.ca_stage.specs.Stage.{BufferData, is_open_gate}
use Rattle.ca_stage.specs.Moves.{stream_at}
use Rattle.ca_stage.specs.Tally.{Tally}
use Rattle.ca_machine.specs.declared.state.Client.{Client}
use Rattle.ca_machine.specs.State.{State, is_client_of}
use Rattle.ca_machine.specs.SharedRows.{client_rows, connection_rows, control_rows, stream_rows}
use Rattle.ca_machine.specs.Streams.{endpoint_rows}
use Rattle.period_engine.specs.declared.entry.StreamEntry.{StreamEntry}
use Rattle.period_engine.specs.Entries.{stream_of}
use Rattle.service_book.specs.Lookups.{IsActiveAt}
use Rattle.stream_entries.specs.Search.{is_entry_of}
use Rattle.service_board.specs.Board.{state_of}
use Rattle.service_board.specs.declared.board.Board.{Board}

-- what the rows of a call say on a board: the code of the first that holds, or that none does, whatever the data
abbrev pub Says : {D E : Type 0} → Board D E → (State → List (Row Hr)) → Option Hr → Type 0
Says b rows verdict = (datas : ℕ → BufferData) (tally : Tally) → first (rows (state_of datas tally b)) ≡ verdict

-- the rows that come first in each call of a client, in each control call of one that isn't answered after a shutdown,
-- and in each control call of a client's stream
abbrev pub client_call_rows : ℕ → ℕ → State → List (Row Hr)
client_call_rows conn client st = connection_rows conn st ++ client_rows conn client st

abbrev pub client_control_rows : ℕ → ℕ → State → List (Row Hr)
client_control_rows conn client st = control_rows conn st ++ client_rows conn client st

abbrev pub stream_call_rows : ℕ → ℕ → State → List (Row Hr)
stream_call_rows conn client st =
    control_rows conn st ++ client_rows conn client st ++ stream_rows (stream_at client st.stage)

-- at this place of the book stands a call's client, and none of those rows holds
pub record FindsClient {D E : Type 0} (conn client : ℕ) (b : Board D E) (at : ℕ) : Type 0 where
  pub within : at < length b.book.clients.items
  pub named : Client
  pub here : slice_get b.book.clients.items at ≡ Some named
  pub found : find (is_client_of conn client) b.book.clients.items ≡ Some named
  pub client_is : named.client.0 ≡ client
  pub conn_is : named.conn.0 ≡ conn
  pub says : Says b (client_call_rows conn client) None

-- at this place of the book stand the notices of a connection, and none of these rows holds
pub record FindsNotices {D E : Type 0} (conn : ℕ) (rows : State → List (Row Hr)) (b : Board D E) (at : ℕ) : Type 0
  where
    pub place : at ≡ conn - 1
    pub within : at < length b.book.notices.items
    pub says : Says b rows None

-- at this place stands the entry of a client's stream, which is open, and none of those rows holds
pub record FindsStream {D E : Type 0} (conn client : ℕ) (b : Board D E) (at : ℕ) : Type 0 where
  pub within : at < length b.entries.items
  pub entry : StreamEntry E
  pub here : slice_get b.entries.items at ≡ Some entry
  pub client_is : entry.client.0 ≡ client
  pub opens : entry.gate ≡ gate.Open
  pub says : Says b (stream_call_rows conn client) None
  pub found : (datas : ℕ → BufferData) (tally : Tally) →
      stream_at client (state_of datas tally b).stage ≡ Some (stream_of datas entry)

-- a client has a stream that was disconnected
abbrev pub is_disconnected : {E : Type 0} → ℕ → List (StreamEntry E) → Bool
is_disconnected client entries =
    option_map_or (λ e. not (is_open_gate e.gate)) (find (is_entry_of client) entries) false

-- at this place stands the endpoint of a call's client, which is ACTIVE; a stream of the client wasn't disconnected;
-- and none of the rows of calls on what a client may open holds
pub record FindsEndpoint {D E : Type 0} (conn client : ℕ) (b : Board D E) (at : ℕ) : Type 0 where
  pub named : Client
  pub found : find (is_client_of conn client) b.book.clients.items ≡ Some named
  pub client_is : named.client.0 ≡ client
  pub conn_is : named.conn.0 ≡ conn
  pub opens : is_disconnected client b.entries.items ≡ false
  pub active : IsActiveAt named.endpoint.0 b.book at
  pub says : Says b (λ st. endpoint_rows st conn client) None
