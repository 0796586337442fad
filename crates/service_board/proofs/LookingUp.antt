-- What the look-ups find on a board, and which rows refuse if they find nothing.
use Rattle.std.proofs.Common.{◌≡◌, ℕ, ◌==◌, List, ◌++◌, Option, Some, None, refl, sym, ap, ◌∙◌, eqb-true}
use Rattle.std.proofs.Common.{if◌then◌else◌, is_none, get_or, subst, not, Bool, true, false, Result, Ok, Err}
use Rattle.std.proofs.Common.{IfErr, IfOk}
use Rattle.std.specs.Option.{option_map}
use Rattle.std.specs.List.{All, find, list_any, position}
use Rattle.std.proofs.lemmas.Bool.{and_parts}
use Rattle.std.proofs.lemmas.Option.{get_or_from_slice_get, none-some, same_Some}
use Rattle.ca_base.specs.declared.codes.Hr.{Hr}
use Rattle.ca_base.specs.declared.codes.TheConstants.Hr as hr
use Rattle.ca_base.specs.declared.ids.Gate.{Gate}
use Rattle.ca_base.specs.declared.ids.Gate.TheVariants as gate
use Rattle.ca_base.specs.declared.ids.Reason.{Reason}
use Rattle.ca_base.specs.declared.ids.Reason.TheVariants as the
use Rattle.ca_base.specs.Rows.{Row, first}
use Rattle.client_state.specs.Rows.{gate_rows}
use Rattle.ca_stage.specs.Stage.{BufferData, no_data}
use Rattle.ca_stage.specs.Moves.{stream_at}
use Rattle.ca_stage.specs.Tally.{Tally, no_tally}
use Rattle.ca_machine.specs.State.{State, is_client_of, is_connection}
use Rattle.ca_machine.specs.SharedRows.{client_rows, connection_rows, control_rows, shut_rows, stream_rows}
use Rattle.period_engine.specs.declared.entry.StreamEntry.{StreamEntry}
use Rattle.period_engine.specs.Entries.{stream_of}
use Rattle.service_book.specs.InOrder.{IsOwned}
use Rattle.service_book.proofs.Rows.{row_fails}
use Rattle.service_book.proofs.Finding.{FoundAt, found_at, none_at, find_mapped, first_front, first_later}
use Rattle.service_board.specs.Board.{state_of}
use Rattle.service_board.specs.Lookups.{FindsClient, FindsStream, Says, client_call_rows, client_control_rows}
use Rattle.service_board.specs.Lookups.{stream_call_rows}
use Rattle.stream_entries.specs.Search.{is_entry_of}
use Rattle.service_board.specs.declared.board.Board.{Board}

-- rows that come first refuse, whatever comes behind them
pub says_front : {D E : Type 0} (b : Board D E) (front rest : State → List (Row Hr)) (code : Hr) →
    Says b front (Some code) → Says b (λ st. front st ++ rest st) (Some code)
says_front b front rest code says datas tally =
    first_front (front (state_of datas tally b)) (rest (state_of datas tally b)) code (says datas tally)

-- rows that come later refuse if those before them don't
pub says_later : {D E : Type 0} (b : Board D E) (front rest : State → List (Row Hr)) (verdict : Option Hr) →
    Says b front None → Says b rest verdict → Says b (λ st. front st ++ rest st) verdict
says_later b front rest verdict passes says datas tally =
    first_later (front (state_of datas tally b)) (rest (state_of datas tally b)) (passes datas tally) ∙ says datas tally

-- a call's client, whose connection is open, and that there is none
module _ {D E : Type 0} (b : Board D E) (conn client : ℕ) where
  pub finds_client : All (IsOwned b.book.connections.items) b.book.clients.items → (at : ℕ) →
      Some at ≡ position (is_client_of conn client) b.book.clients.items → FindsClient conn client b at
  finds_client owned at e =
      let f = found_at (is_client_of conn client) b.book.clients.items at e in
      let parts = and_parts (f.member.client.0 == client) (f.member.conn.0 == conn) f.passes in
      let conn_is = eqb-true f.member.conn.0 conn parts.1 in
      let own : IsOwned b.book.connections.items f.member =
      subst (IsOwned b.book.connections.items)
      (get_or_from_slice_get b.book.clients.items at f.member f.member f.here) (owned at f.member f.within) in
      record {
        within = f.within;
        named = f.member;
        here = f.here;
        found = f.found;
        client_is = eqb-true f.member.client.0 client parts.0;
        conn_is = conn_is;
        says = says_later b (connection_rows conn) (client_rows conn client) None
            (λ datas tally. ap (λ v. if not v then Some hr.E_HANDLE else None)
            (sym (ap (λ n. list_any (is_connection n) b.book.connections.items) conn_is) ∙ own))
            (λ datas tally. ap (λ o. if is_none o then Some hr.E_HANDLE else None) f.found);
      }

  -- whether the connection is open or not
  pub unknown_client : None ≡ position (is_client_of conn client) b.book.clients.items →
      Says b (client_call_rows conn client) (Some hr.E_HANDLE)
  unknown_client e datas tally =
      let connected = list_any (is_connection conn) b.book.connections.items in
      ap (λ o. if not connected then Some hr.E_HANDLE else if is_none o then Some hr.E_HANDLE else None)
      (none_at (is_client_of conn client) b.book.clients.items e)
      ∙ either connected
    where
      either : (v : Bool) → (if not v then Some hr.E_HANDLE else Some hr.E_HANDLE) ≡ Some hr.E_HANDLE
      either true = refl
      either false = refl

-- whether the service runs
pub runs_by : {D E : Type 0} (b : Board D E) → Says b shut_rows None → b.book.is_shut ≡ false
runs_by b says = (row_fails b.book.is_shut hr.SERVICE_NOT_RUNNING None (says (λ n. no_data) no_tally)).0

pub shut_by : {D E : Type 0} (b : Board D E) (code : Hr) → Says b shut_rows (Some code) →
    (b.book.is_shut ≡ true) × (code ≡ hr.SERVICE_NOT_RUNNING)
shut_by b code says = by b.book.is_shut (says (λ n. no_data) no_tally)
  where
    by : (v : Bool) → (if v then Some hr.SERVICE_NOT_RUNNING else None) ≡ Some code →
        (v ≡ true) × (code ≡ hr.SERVICE_NOT_RUNNING)
    by true h = (refl, sym (same_Some hr.SERVICE_NOT_RUNNING code h))
    by false h = absurd (none-some code h)

-- a service that runs has the rows of its calls without that of a shutdown, and no row of a control call holds on one
-- that was shut down
module _ {D E : Type 0} (b : Board D E) (conn client : ℕ) where
  pub running_says : (verdict : Option Hr) → b.book.is_shut ≡ false → Says b (client_call_rows conn client) verdict →
      Says b (client_control_rows conn client) verdict
  running_says verdict runs says datas tally =
      let connected = list_any (is_connection conn) b.book.connections.items in
      let unknown = is_none (find (is_client_of conn client) b.book.clients.items) in
      ap (λ v.
      if not connected then Some hr.E_HANDLE
      else if v then Some hr.SERVICE_NOT_RUNNING else if unknown then Some hr.E_HANDLE else None) runs
      ∙ says datas tally

  pub connected_runs : Says b (control_rows conn) None → b.book.is_shut ≡ false
  connected_runs says =
      let connected = list_any (is_connection conn) b.book.connections.items in
      (row_fails b.book.is_shut hr.SERVICE_NOT_RUNNING None
      (row_fails (not connected) hr.E_HANDLE _ (says (λ n. no_data) no_tally)).1).0

  -- what a look-up of the client tells of a control call
  pub control_refused : b.book.is_shut ≡ false → (r : Result ℕ Hr) →
      IfErr r (λ code. Says b (client_call_rows conn client) (Some code)) →
      IfErr r (λ code. Says b (client_control_rows conn client) (Some code))
  control_refused runs (Ok at) h = h
  control_refused runs (Err code) h = running_says (Some code) runs h

  pub control_found : b.book.is_shut ≡ false → (r : Result ℕ Hr) → IfOk r (FindsClient conn client b) →
      IfOk r (λ at. FindsClient conn client b at × Says b (client_control_rows conn client) None)
  control_found runs (Ok at) h = (h, running_says None runs h.says)
  control_found runs (Err code) h = h

-- the stream of an entry that was found, and that there is none
pub stream_there : {D E : Type 0} (b : Board D E) (client : ℕ) (e : StreamEntry E) →
    find (is_entry_of client) b.entries.items ≡ Some e → (datas : ℕ → BufferData) (tally : Tally) →
    stream_at client (state_of datas tally b).stage ≡ Some (stream_of datas e)
stream_there b client e found datas tally =
    find_mapped (λ s. s.client == client) (stream_of datas) b.entries.items ∙ ap (option_map (stream_of datas)) found

pub no_stream : {D E : Type 0} (b : Board D E) (client : ℕ) →
    find (is_entry_of client) b.entries.items ≡ None → (datas : ℕ → BufferData) (tally : Tally) →
    stream_at client (state_of datas tally b).stage ≡ None
no_stream b client found datas tally =
    find_mapped (λ s. s.client == client) (stream_of datas) b.entries.items ∙ ap (option_map (stream_of datas)) found

-- the rows of a stream that is there are those of its gate
stream_says : {D E : Type 0} (b : Board D E) (client : ℕ) (e : StreamEntry E) (verdict : Option Hr) →
    find (is_entry_of client) b.entries.items ≡ Some e → first (gate_rows e.gate) ≡ verdict →
    Says b (λ st. stream_rows (stream_at client st.stage)) verdict
stream_says b client e verdict found gated datas tally =
    ap (λ o. first (stream_rows o)) (stream_there b client e found datas tally) ∙ gated

-- a closed gate is refused by a row
closed_tells : (reason : Reason) → first (gate_rows (gate.Closed reason)) ≡ None → ⊥
closed_tells the.Removal e = cc
closed_tells the.Shutdown e = cc
closed_tells the.Format e = cc
closed_tells the.Override e = cc
closed_tells the.Released e = cc

-- a gate that no row refuses is open
gate_is_open : (seen : Gate) → first (gate_rows seen) ≡ None → seen ≡ gate.Open
gate_is_open gate.Open e = refl
gate_is_open (gate.Closed reason) e = absurd (closed_tells reason e)

-- a call's stream, and that there is none, or a closed one
module _ {D E : Type 0} (b : Board D E) (conn client : ℕ) (known : Says b (client_control_rows conn client) None) where
  pub unknown_stream : None ≡ position (is_entry_of client) b.entries.items →
      Says b (stream_call_rows conn client) (Some hr.NOT_INITIALIZED)
  unknown_stream e = says_later b (client_control_rows conn client) (λ st. stream_rows (stream_at client st.stage))
      (Some hr.NOT_INITIALIZED) known
      (λ datas tally. ap (λ o. first (stream_rows o))
      (no_stream b client (none_at (is_entry_of client) b.entries.items e) datas tally))

  -- the entry that was found, as it is read by its place
  read_entry : (at : ℕ) (e : StreamEntry E) (f : FoundAt (is_entry_of client) b.entries.items at) →
      e ≡ get_or b.entries.items at e → f.member ≡ e
  read_entry at e f read = sym (get_or_from_slice_get b.entries.items at f.member e f.here) ∙ sym read

  pub closed_stream : (at : ℕ) (e : StreamEntry E) (code : Hr) →
      Some at ≡ position (is_entry_of client) b.entries.items → e ≡ get_or b.entries.items at e →
      Some code ≡ first (gate_rows e.gate) → Says b (stream_call_rows conn client) (Some code)
  closed_stream at e code there read gated =
      let f = found_at (is_entry_of client) b.entries.items at there in
      says_later b (client_control_rows conn client) (λ st. stream_rows (stream_at client st.stage)) (Some code) known
      (stream_says b client f.member (Some code) f.found
      (ap (λ x. first (gate_rows x.gate)) (read_entry at e f read) ∙ sym gated))

  pub finds_stream : (at : ℕ) (e : StreamEntry E) →
      Some at ≡ position (is_entry_of client) b.entries.items → e ≡ get_or b.entries.items at e →
      None ≡ first (gate_rows e.gate) → FindsStream conn client b at
  finds_stream at e there read gated =
      let f = found_at (is_entry_of client) b.entries.items at there in
      let opens : first (gate_rows f.member.gate) ≡ None =
      ap (λ x. first (gate_rows x.gate)) (read_entry at e f read) ∙ sym gated in
      record {
        within = f.within;
        entry = f.member;
        here = f.here;
        client_is = eqb-true f.member.client.0 client f.passes;
        opens = gate_is_open f.member.gate opens;
        says = says_later b (client_control_rows conn client) (λ st. stream_rows (stream_at client st.stage)) None known
            (stream_says b client f.member None f.found opens);
        found = stream_there b client f.member f.found;
      }
