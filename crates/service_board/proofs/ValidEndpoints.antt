-- The endpoint of a call's client, and which row refuses if it can't be used.
use Rattle.std.proofs.Common.{◌≡◌, ℕ, ◌||◌, List, Bool, true, false, not, Option, Some, None, refl, sym, ap, ◌∙◌}
use Rattle.std.proofs.Common.{get_or}
use Rattle.std.proofs.Common.{◌==◌, ap₂, ◌∷◌, eq-eqb, eqb-true, if◌then◌else◌, is_none}
use Rattle.std.specs.Option.{option_map, option_map_or}
use Rattle.std.specs.List.{find, position}
use Rattle.std.proofs.lemmas.Bool.{and_parts}
use Rattle.std.proofs.lemmas.Option.{get_or_from_slice_get}
use Rattle.ca_base.specs.declared.codes.TheConstants.Hr as hr
use Rattle.ca_base.specs.declared.values.TheConstants.{STATE_ACTIVE}
use Rattle.ca_base.specs.Rows.{first}
use Rattle.ca_stage.specs.Stage.{BufferData, is_open, is_open_gate}
use Rattle.ca_stage.specs.Moves.{stream_at}
use Rattle.ca_stage.specs.Tally.{Tally}
use Rattle.ca_stage.proofs.Lists.{found_passes}
use Rattle.ca_machine.specs.declared.state.Client.{Client}
use Rattle.ca_machine.specs.State.{client_of, is_client_of}
use Rattle.device_registry.specs.Endpoints.{is_endpoint}
use Rattle.ca_machine.specs.SharedRows.{client_rows, if_stream, invalidated_rows, is_inactive}
use Rattle.ca_machine.specs.Streams.{endpoint_rows}
use Rattle.period_engine.specs.declared.entry.StreamEntry.{StreamEntry}
use Rattle.period_engine.specs.Entries.{stream_of}
use Rattle.service_book.specs.Lookups.{IsActiveAt, LacksActive}
use Rattle.service_book.specs.declared.book.Book.{Book}
use Rattle.service_book.proofs.Finding.{find_mapped, found_at, none_at}
use Rattle.service_board.specs.Board.{state_of}
use Rattle.service_board.specs.Lookups.{FindsEndpoint, Says, is_disconnected}
use Rattle.stream_entries.specs.Search.{is_entry_of}
use Rattle.service_board.specs.declared.board.Board.{Board}
use Rattle.service_board.proofs.LookingUp.{says_front}

-- the gate of a client's entry, as it is read by its place
pub disconnected_there : {E : Type 0} (client : ℕ) (entries : List (StreamEntry E)) (at : ℕ) (e : StreamEntry E) →
    Some at ≡ position (is_entry_of client) entries → e ≡ get_or entries at e →
    not (is_open_gate e.gate) ≡ is_disconnected client entries
disconnected_there client entries at e there read =
    let f = found_at (is_entry_of client) entries at there in
    let same : f.member ≡ e = sym (get_or_from_slice_get entries at f.member e f.here) ∙ sym read in
    sym (ap (λ o. option_map_or (λ x. not (is_open_gate x.gate)) o false) (f.found ∙ ap (λ x. Some x) same))

pub not_disconnected : {E : Type 0} (client : ℕ) (entries : List (StreamEntry E)) →
    None ≡ position (is_entry_of client) entries → false ≡ is_disconnected client entries
not_disconnected client entries e =
    sym (ap (λ o. option_map_or (λ x. not (is_open_gate x.gate)) o false) (none_at (is_entry_of client) entries e))

mapped_or : {X Y Z : Type 0} (f : Y → Z) (g : X → Y) (o : Option X) (d : Z) →
    option_map_or f (option_map g o) d ≡ option_map_or (λ x. f (g x)) o d
mapped_or f g None d = refl
mapped_or f g (Some x) d = refl

-- a client's stream was disconnected if its entry's gate is closed
stream_disconnected : {D E : Type 0} (b : Board D E) (client : ℕ) (datas : ℕ → BufferData) (tally : Tally) →
    if_stream (λ s. not (is_open s)) (stream_at client (state_of datas tally b).stage)
    ≡ is_disconnected client b.entries.items
stream_disconnected b client datas tally =
    ap (λ o. option_map_or (λ s. not (is_open s)) o false)
    (find_mapped (λ s. s.client == client) (stream_of datas) b.entries.items)
    ∙ mapped_or (λ s. not (is_open s)) (stream_of datas) (find (is_entry_of client) b.entries.items) false

pub no_client_says : {D E : Type 0} (b : Board D E) (conn client : ℕ) →
    None ≡ position (is_client_of conn client) b.book.clients.items →
    Says b (λ st. endpoint_rows st conn client) (Some hr.E_HANDLE)
no_client_says b conn client e = says_front b (client_rows conn client)
    (λ st. invalidated_rows st (client_of conn client st) (stream_at client st.stage)) hr.E_HANDLE
    (λ datas tally. ap (λ o. if is_none o then Some hr.E_HANDLE else None)
    (none_at (is_client_of conn client) b.book.clients.items e))

-- the client of a call, as it is read by its place
pub client_there : (book : Book) (conn client at : ℕ) (named : Client) →
    Some at ≡ position (is_client_of conn client) book.clients.items → named ≡ get_or book.clients.items at named →
    find (is_client_of conn client) book.clients.items ≡ Some named
client_there book conn client at named there read =
    let f = found_at (is_client_of conn client) book.clients.items at there in
    f.found ∙ ap (λ x. Some x) (sym (get_or_from_slice_get book.clients.items at f.member named f.here) ∙ sym read)

-- what the rows say of a client that is there
module _ {D E : Type 0} (b : Board D E) (conn client : ℕ) (named : Client)
    (found : find (is_client_of conn client) b.book.clients.items ≡ Some named) where
  endpoint_says : (verdict : Bool) →
      (is_disconnected client b.entries.items
      || is_inactive (find (is_endpoint named.endpoint.0) b.book.registry.list)) ≡ verdict →
      Says b (λ st. endpoint_rows st conn client) (if verdict then Some hr.DEVICE_INVALIDATED else None)
  endpoint_says verdict e datas tally =
      let st = state_of datas tally b in
      ap (λ o. first ((is_none o, hr.E_HANDLE) ∷ invalidated_rows st o (stream_at client st.stage))) found
      ∙ ap (λ v. if v || is_inactive (find (is_endpoint named.endpoint.0) b.book.registry.list)
      then Some hr.DEVICE_INVALIDATED else None) (stream_disconnected b client datas tally)
      ∙ ap (λ v. if v then Some hr.DEVICE_INVALIDATED else None) e

  pub disconnected_says : true ≡ is_disconnected client b.entries.items →
      Says b (λ st. endpoint_rows st conn client) (Some hr.DEVICE_INVALIDATED)
  disconnected_says closed =
      endpoint_says true
      (ap (λ v. v || is_inactive (find (is_endpoint named.endpoint.0) b.book.registry.list)) (sym closed))

  pub inactive_says : false ≡ is_disconnected client b.entries.items → LacksActive named.endpoint.0 b.book →
      Says b (λ st. endpoint_rows st conn client) (Some hr.DEVICE_INVALIDATED)
  inactive_says opens lacks = endpoint_says true (ap₂ (λ v w. v || w) (sym opens) lacks)

  pub finds_endpoint : (at : ℕ) → false ≡ is_disconnected client b.entries.items →
      IsActiveAt named.endpoint.0 b.book at → FindsEndpoint conn client b at
  finds_endpoint at opens active =
      let parts = and_parts (named.client.0 == client) (named.conn.0 == conn)
      (found_passes (is_client_of conn client) b.book.clients.items named found) in
      let there : is_inactive (find (is_endpoint named.endpoint.0) b.book.registry.list) ≡ false =
      ap is_inactive active.found
      ∙ ap not (eq-eqb active.endpoint.state STATE_ACTIVE active.active) in
      record {
        named = named;
        found = found;
        client_is = eqb-true named.client.0 client parts.0;
        conn_is = eqb-true named.conn.0 conn parts.1;
        opens = sym opens;
        active = active;
        says = endpoint_says false (ap₂ (λ v w. v || w) (sym opens) there);
      }
