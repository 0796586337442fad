-- What the rows of an Initialize say on a board, one after another.
use Rattle.std.proofs.Common.{◌≡◌, ℕ, ◌||◌, not, List, [], ◌∷◌}
use Rattle.std.proofs.Common.{◌++◌, length, Bool, true, false, Option, Some, None}
use Rattle.std.proofs.Common.{refl, sym, ap, ◌∙◌, if◌then◌else◌, is_some, get_or}
use Rattle.std.proofs.Common.{◌<◌, map, filter}
use Rattle.std.specs.Option.{option_map_or}
use Rattle.std.specs.List.{find, list_any, position}
use Rattle.std.proofs.lemmas.Option.{get_or_from_slice_get, none-some}
use Rattle.device_io.specs.DeviceLog.{DeviceLog}
use Rattle.ca_base.specs.declared.codes.Hr.{Hr}
use Rattle.ca_base.specs.declared.codes.TheConstants.Hr as hr
use Rattle.ca_base.specs.declared.ids.EndpointNo.{EndpointNo}
use Rattle.ca_base.specs.Rows.{Row, first}
use Rattle.session_manager.specs.declared.session.SessionKey.{SessionKey}
use Rattle.session_manager.specs.Rows.{join_rows}
use Rattle.ca_stage.specs.Stage.{BufferData, Stream}
use Rattle.ca_stage.specs.Moves.{stream_at}
use Rattle.ca_stage.specs.Periods.{is_open_on}
use Rattle.ca_stage.proofs.Lists.{map_map}
use Rattle.ca_stage.specs.Tally.{Tally}
use Rattle.ca_machine.specs.declared.state.Client.{Client}
use Rattle.ca_machine.specs.declared.state.Connection.{Connection}
use Rattle.device_registry.specs.declared.endpoint.Endpoint.{Endpoint}
use Rattle.ca_machine.specs.State.{State, client_of, is_connection}
use Rattle.device_registry.specs.Endpoints.{is_endpoint}
use Rattle.ca_machine.specs.SharedRows.{connection_rows, control_rows, endpoint_of, shut_rows}
use Rattle.ca_machine.specs.Streams.{endpoint_rows}
use Rattle.exclusive_mode.specs.Claims.{claim, claim_rows}
use Rattle.ca_machine.specs.Formats.{is_exclusive}
use Rattle.ca_machine.specs.Openings.{argument_rows, claim_of, initialize_rows, is_cross_process, joining_rows}
use Rattle.ca_machine.specs.Openings.{session_key}
use Rattle.period_engine.specs.declared.entry.StreamEntry.{StreamEntry}
use Rattle.period_engine.specs.Entries.{stream_of, streams_of}
use Rattle.stream_entries.specs.Holding.{held_on, is_open_entry}
use Rattle.buffer_ring.specs.declared.step.StoreStep.{StoreStep}
use Rattle.service_book.specs.Openings.{arguments, key_by, opening_plan}
use Rattle.service_book.specs.declared.opening.Opening.{Opening as Asked}
use Rattle.service_book.proofs.Finding.{found_at, none_at}
use Rattle.service_board.specs.Board.{state_of}
use Rattle.service_board.specs.Does.{AnyData, Does}
use Rattle.service_board.specs.Lookups.{FindsEndpoint, Says}
use Rattle.stream_entries.specs.Search.{is_entry_of}
use Rattle.service_board.specs.declared.board.Board.{Board}
use Rattle.service_board.proofs.KeptEntries.{kept_mapped}
use Rattle.service_board.proofs.PlainEvents.{refused_does}
use Rattle.service_board.proofs.LookingUp.{no_stream, says_front, says_later, stream_there}

-- a test of a list that finds a member holds of one, and of none if it finds none
any_found : {X : Type 0} (test : X → Bool) (xs : List X) (x : X) → find test xs ≡ Some x → list_any test xs ≡ true
any_found test [] x e = absurd (none-some x e)
any_found test (y ∷ xs) x e = by (test y) e (any_found test xs x)
  where
    by : (b : Bool) → (if b then Some y else find test xs) ≡ Some x →
        (find test xs ≡ Some x → list_any test xs ≡ true) → (b || list_any test xs) ≡ true
    by true h later = refl
    by false h later = later h

any_none : {X : Type 0} (test : X → Bool) (xs : List X) → find test xs ≡ None → list_any test xs ≡ false
any_none test [] e = refl
any_none test (y ∷ xs) e = by (test y) e (any_none test xs)
  where
    by : (b : Bool) → (if b then Some y else find test xs) ≡ None →
        (find test xs ≡ None → list_any test xs ≡ false) → (b || list_any test xs) ≡ false
    by true h later = absurd (none-some y (sym h))
    by false h later = later h

-- the open streams on an endpoint, by entries
pub held_alike : {E : Type 0} (n : ℕ) (datas : ℕ → BufferData) (entries : List (StreamEntry E)) →
    map (λ (s : Stream). record { client = record { 0 = s.client }; exclusive = s.exclusive })
    (filter (is_open_on n) (streams_of datas entries))
    ≡ held_on n entries
held_alike {E} n datas entries =
    ap (map (λ (s : Stream). record { client = record { 0 = s.client }; exclusive = s.exclusive }))
    (kept_mapped (stream_of datas) (is_open_on n) (is_open_entry n) (λ x. refl) entries)
    ∙ map_map (λ (s : Stream). record { client = record { 0 = s.client }; exclusive = s.exclusive }) (stream_of datas)
    (filter (is_open_entry n) entries)

-- ---- the rows of an Initialize's own, as they look its client up

abbrev pub stream_row : Asked → State → List (Row Hr)
stream_row x st = (is_some (stream_at x.client.0 st.stage), hr.ALREADY_INITIALIZED) ∷ []

abbrev pub own_argument_rows : Asked → State → List (Row Hr)
own_argument_rows x st = argument_rows (endpoint_of st (client_of x.conn.0 x.client.0 st)) (arguments x)

abbrev pub own_claim_rows : Asked → State → List (Row Hr)
own_claim_rows x st = claim_rows (claim_of st (endpoint_of st (client_of x.conn.0 x.client.0 st)) (arguments x))

abbrev pub own_session_rows : Asked → State → List (Row Hr)
own_session_rows x st = joining_rows st x.conn.0 (client_of x.conn.0 x.client.0 st) (arguments x)

-- what names a session on an endpoint of this number, by the connection that was looked up
abbrev key_from : Asked → ℕ → Option Connection → SessionKey
key_from x endpoint o =
    if is_cross_process x.flags
    then record { endpoint = record { 0 = endpoint }; process = 0; guid = x.session; name = 42 ∷ [] }
    else record {
      endpoint = record { 0 = endpoint };
      process = option_map_or (λ c. c.process) o 0;
      guid = x.session;
      name = option_map_or (λ c. c.name) o [];
    }

-- ---- what each row says, by what was found

module _ {D E : Type 0} (b : Board D E) (x : Asked) where
  pub known_says : (from : ℕ) → Some from ≡ position (is_connection x.conn.0) b.book.connections.items →
      Says b (connection_rows x.conn.0) None
  known_says from e datas tally =
      let f = found_at (is_connection x.conn.0) b.book.connections.items from e in
      ap (λ v. if not v then Some hr.E_HANDLE else None)
      (any_found (is_connection x.conn.0) b.book.connections.items f.member f.found)

  pub connected_says : (from : ℕ) → Some from ≡ position (is_connection x.conn.0) b.book.connections.items →
      Says b shut_rows None → Says b (control_rows x.conn.0) None
  connected_says from e runs = says_later b (connection_rows x.conn.0) shut_rows None (known_says from e) runs

  pub shut_says : (from : ℕ) (code : Hr) → Some from ≡ position (is_connection x.conn.0) b.book.connections.items →
      Says b shut_rows (Some code) → Says b (control_rows x.conn.0) (Some code)
  shut_says from code e shut = says_later b (connection_rows x.conn.0) shut_rows (Some code) (known_says from e) shut

  pub unconnected_says : None ≡ position (is_connection x.conn.0) b.book.connections.items →
      Says b (control_rows x.conn.0) (Some hr.E_HANDLE)
  unconnected_says e datas tally =
      ap (λ v. if not v then Some hr.E_HANDLE else if b.book.is_shut then Some hr.SERVICE_NOT_RUNNING else None)
      (any_none (is_connection x.conn.0) b.book.connections.items
      (none_at (is_connection x.conn.0) b.book.connections.items e))

  -- what names the session, in a state
  pub key_is : (named : Client) (endpoint : EndpointNo) (c : Connection) → named.endpoint.0 ≡ endpoint.0 →
      find (is_connection x.conn.0) b.book.connections.items ≡ Some c → (datas : ℕ → BufferData) (tally : Tally) →
      session_key (state_of datas tally b) x.conn.0 named (arguments x) ≡ key_by x c endpoint
  key_is named endpoint c on there datas tally =
      ap (key_from x named.endpoint.0) there ∙ ap (λ n. key_from x n (Some c)) on

  pub no_entry : (o : Option ℕ) → o ≡ position (is_entry_of x.client.0) b.entries.items → is_some o ≡ false →
      find (is_entry_of x.client.0) b.entries.items ≡ None
  no_entry None e h = none_at (is_entry_of x.client.0) b.entries.items e
  no_entry (Some at) e h = cc

  pub stream_says : find (is_entry_of x.client.0) b.entries.items ≡ None → Says b (stream_row x) None
  stream_says none datas tally =
      ap (λ o. if is_some o then Some hr.ALREADY_INITIALIZED else None) (no_stream b x.client.0 none datas tally)

  pub stream_refuses : (o : Option ℕ) → o ≡ position (is_entry_of x.client.0) b.entries.items → is_some o ≡ true →
      Says b (stream_row x) (Some hr.ALREADY_INITIALIZED)
  stream_refuses None e h datas tally = cc
  stream_refuses (Some at) e h datas tally =
      let f = found_at (is_entry_of x.client.0) b.entries.items at e in
      ap (λ o. if is_some o then Some hr.ALREADY_INITIALIZED else None)
      (stream_there b x.client.0 f.member f.found datas tally)

  -- of a client on an endpoint that were found
  module _ (at : ℕ) (found : FindsEndpoint x.conn.0 x.client.0 b at) where
    pub read_endpoint : (e : Endpoint) → e ≡ get_or b.book.registry.list at e → found.active.endpoint ≡ e
    read_endpoint e read =
        sym (get_or_from_slice_get b.book.registry.list at found.active.endpoint e found.active.here) ∙ sym read

    pub within : at < length b.book.registry.list
    within = found.active.within

    -- the endpoint's number, and that it is found by it
    pub number_read : (e : Endpoint) → found.active.endpoint ≡ e → found.named.endpoint.0 ≡ e.no.0
    number_read e same = sym found.active.number_is ∙ ap (λ (y : Endpoint). y.no.0) same

    pub there_read : (e : Endpoint) → found.active.endpoint ≡ e →
        find (is_endpoint e.no.0) b.book.registry.list ≡ Some e
    there_read e same =
        ap (λ n. find (is_endpoint n) b.book.registry.list) (sym (number_read e same))
        ∙ found.active.found
        ∙ ap (λ y. Some y) same

    pub argument_says : (e : Endpoint) → found.active.endpoint ≡ e → (verdict : Option Hr) →
        first (argument_rows (Some e) (arguments x)) ≡ verdict → Says b (own_argument_rows x) verdict
    argument_says e same verdict says datas tally =
        ap (λ o. first (argument_rows (endpoint_of (state_of datas tally b) o) (arguments x))) found.found
        ∙ ap (λ o. first (argument_rows o (arguments x))) (found.active.found ∙ ap (λ y. Some y) same)
        ∙ says

    pub claim_says : (e : Endpoint) → found.active.endpoint ≡ e → (verdict : Option Hr) →
        first (claim_rows (claim (is_exclusive x.share) (held_on e.no.0 b.entries.items) e.priority)) ≡ verdict →
        Says b (own_claim_rows x) verdict
    claim_says e same verdict says datas tally =
        ap (λ o. first (claim_rows (claim_of (state_of datas tally b) (endpoint_of (state_of datas tally b) o)
        (arguments x)))) found.found
        ∙ ap (λ o. first (claim_rows (claim_of (state_of datas tally b) o (arguments x))))
        (found.active.found ∙ ap (λ y. Some y) same)
        ∙ ap (λ held. first (claim_rows (claim (is_exclusive x.share) held e.priority)))
        (held_alike e.no.0 datas b.entries.items)
        ∙ says

    pub session_says : (e : Endpoint) → found.active.endpoint ≡ e → (c : Connection) →
        find (is_connection x.conn.0) b.book.connections.items ≡ Some c → (verdict : Option Hr) →
        first (join_rows (key_by x c e.no) b.book.sessions) ≡ verdict → Says b (own_session_rows x) verdict
    session_says e same c there verdict says datas tally =
        ap (λ o. first (joining_rows (state_of datas tally b) x.conn.0 o (arguments x))) found.found
        ∙ ap (λ k. first (join_rows k b.book.sessions))
        (key_is found.named e.no c (number_read e same) there datas tally)
        ∙ says

-- ---- the rows one after another: the first of each group, and those behind them

abbrev Rows : Type 0
Rows = State → List (Row Hr)

module _ (x : Asked) where
  abbrev pub all_rows : Rows
  all_rows st = initialize_rows st x.conn.0 x.client.0 (arguments x)

  abbrev pub two : Rows
  two st = control_rows x.conn.0 st ++ endpoint_rows st x.conn.0 x.client.0

  abbrev pub three : Rows
  three st = two st ++ stream_row x st

  abbrev pub four : Rows
  four st = three st ++ own_argument_rows x st

  abbrev pub five : Rows
  five st = four st ++ own_claim_rows x st

  abbrev behind_four : Rows
  behind_four st = own_claim_rows x st ++ own_session_rows x st

  abbrev behind_three : Rows
  behind_three st = own_argument_rows x st ++ behind_four st

  abbrev behind_two : Rows
  behind_two st = stream_row x st ++ behind_three st

  abbrev behind_one : Rows
  behind_one st = endpoint_rows st x.conn.0 x.client.0 ++ behind_two st

module _ {D E : Type 0} (b : Board D E) (x : Asked) where
  pub past_endpoint : (at : ℕ) → FindsEndpoint x.conn.0 x.client.0 b at → Says b (control_rows x.conn.0) None →
      Says b (two x) None
  past_endpoint at found passes =
      says_later b (control_rows x.conn.0) (λ st. endpoint_rows st x.conn.0 x.client.0) None passes found.says

  pub past_stream : find (is_entry_of x.client.0) b.entries.items ≡ None → Says b (two x) None → Says b (three x) None
  past_stream none passes = says_later b (two x) (stream_row x) None passes (stream_says b x none)

  pub past_arguments : Says b (own_argument_rows x) None → Says b (three x) None → Says b (four x) None
  past_arguments says passes = says_later b (three x) (own_argument_rows x) None passes says

  pub past_claim : Says b (own_claim_rows x) None → Says b (four x) None → Says b (five x) None
  past_claim says passes = says_later b (four x) (own_claim_rows x) None passes says

  pub past_session : Says b (own_session_rows x) None → Says b (five x) None → Says b (all_rows x) None
  past_session says passes = says_later b (five x) (own_session_rows x) None passes says

  -- past the rows before those over the arguments
  pub past_three : (from at : ℕ) → Some from ≡ position (is_connection x.conn.0) b.book.connections.items →
      Says b shut_rows None → FindsEndpoint x.conn.0 x.client.0 b at →
      find (is_entry_of x.client.0) b.entries.items ≡ None → Says b (three x) None
  past_three from at connected runs found none =
      past_stream none (past_endpoint at found (connected_says b x from connected runs))

  pub at_control : (code : Hr) → Says b (control_rows x.conn.0) (Some code) → Says b (all_rows x) (Some code)
  at_control code says = says_front b (control_rows x.conn.0) (behind_one x) code says

  pub at_endpoint : (code : Hr) → Says b (λ st. endpoint_rows st x.conn.0 x.client.0) (Some code) →
      Says b (control_rows x.conn.0) None → Says b (all_rows x) (Some code)
  at_endpoint code says passes = says_front b (two x) (behind_two x) code
      (says_later b (control_rows x.conn.0) (λ st. endpoint_rows st x.conn.0 x.client.0) (Some code) passes says)

  pub at_stream : (code : Hr) → Says b (stream_row x) (Some code) → Says b (two x) None →
      Says b (all_rows x) (Some code)
  at_stream code says passes = says_front b (three x) (behind_three x) code
      (says_later b (two x) (stream_row x) (Some code) passes says)

  pub at_arguments : (code : Hr) → Says b (own_argument_rows x) (Some code) → Says b (three x) None →
      Says b (all_rows x) (Some code)
  at_arguments code says passes = says_front b (four x) (behind_four x) code
      (says_later b (three x) (own_argument_rows x) (Some code) passes says)

  pub at_claim : (code : Hr) → Says b (own_claim_rows x) (Some code) → Says b (four x) None →
      Says b (all_rows x) (Some code)
  at_claim code says passes = says_front b (five x) (own_session_rows x) code
      (says_later b (four x) (own_claim_rows x) (Some code) passes says)

  pub at_session : (code : Hr) → Says b (own_session_rows x) (Some code) → Says b (five x) None →
      Says b (all_rows x) (Some code)
  at_session code says passes = says_later b (five x) (own_session_rows x) (Some code) passes says

-- a refused one does nothing
pub opening_refused : {D E : Type 0} (faults : D → ℕ) (told : D → Option (List DeviceLog))
    (moves : E → List StoreStep → E → Type 0) (stays : (a : E) → moves a [] a) (b : Board D E) (x : Asked) (code : Hr) →
    Says b (all_rows x) (Some code) → Does faults told moves None AnyData b b (opening_plan x) code []
opening_refused faults told moves stays b x code says =
    refused_does faults told moves None AnyData stays b (opening_plan x) code says
