-- Activate: what its rows say of a board, and what it grants.
use Rattle.std.proofs.Common.{◌≡◌, ℕ, suc, ◌+◌, ◌<◌, ◌≤◌, List, [], ◌∷◌, ◌++◌, length, not, Bool, true, false}
use Rattle.std.proofs.Common.{Option, Some, None, refl, sym, ap, ◌∙◌, ◌==◌, nat_le, arith, get_or, is_none}
use Rattle.std.proofs.Common.{subst, length-append}
use Rattle.std.proofs.lemmas.Bool.{leb-false, not-false}
use Rattle.std.proofs.lemmas.Option.{get_or_from_slice_get}
use Rattle.std.proofs.lemmas.List.Elements.{All-from_recursion, All-head, All-push, All-tail, All-weaker}
use Rattle.std.specs.Vec.{vec_capacity}
use Rattle.std.specs.List.{All, find, list_any, position}
use Rattle.std.specs.Int.{w64, to_le_bytes}
use Rattle.ca_base.specs.declared.codes.Hr.{Hr}
use Rattle.ca_base.specs.declared.codes.TheConstants.Hr as hr
use Rattle.ca_base.specs.declared.limits.TheConstants.{CLIENTS, MAX_COUNT, MAX_LEVEL}
use Rattle.ca_base.specs.declared.values.TheConstants.{STATE_ACTIVE}
use Rattle.ca_base.specs.Rows.{Row, first}
use Rattle.ca_stage.specs.Stage.{BufferData, no_data}
use Rattle.ca_stage.specs.Tally.{Tally, no_tally}
use Rattle.ca_stage.specs.Order.{RisesFrom}
use Rattle.ca_stage.proofs.Lists.{find-append, first_of_two}
use Rattle.ca_machine.specs.declared.state.Client.{Client}
use Rattle.device_registry.specs.declared.endpoint.Endpoint.{Endpoint}
use Rattle.ca_machine.specs.State.{State, endpoint_at, is_connection, live_clients}
use Rattle.device_registry.specs.Endpoints.{is_endpoint}
use Rattle.ca_machine.specs.SharedRows.{control_rows, is_inactive}
use Rattle.ca_machine.specs.Clients.{activate_plan, activate_rows, is_role, new_client}
use Rattle.buffer_ring.specs.declared.step.EndState.{EndState}
use Rattle.period_engine.specs.declared.entry.StreamEntry.{StreamEntry}
use Rattle.service_book.specs.InOrder.{HasLevels, IsBook, IsOwned}
use Rattle.service_book.specs.declared.book.Book.{Book}
use Rattle.service_book.proofs.Finding.{found_at, none_at}
use Rattle.service_book.proofs.Rows.{row_fails}
use Rattle.service_board.specs.Board.{state_of}
use Rattle.service_board.specs.InOrder.{Belongs, InOrder}
use Rattle.service_board.specs.Lookups.{Says}
use Rattle.service_board.specs.declared.board.Board.{Board}
use Rattle.service_board.proofs.GrantedEvents.{Grants}
use Rattle.service_board.proofs.LookingUp.{says_later}

-- the rows behind those of the connection
abbrev pub own_rows : ℕ → ℕ → State → List (Row Hr)
own_rows endpoint role st =
    (is_none (endpoint_at endpoint st), hr.E_NOTFOUND)
    ∷ (not (is_role role), hr.E_INVALIDARG)
    ∷ (is_inactive (endpoint_at endpoint st), hr.DEVICE_INVALIDATED)
    ∷ (nat_le CLIENTS (length st.clients), hr.CLIENTS_FULL)
    ∷ (nat_le MAX_COUNT st.clients_made, hr.WORN)
    ∷ []

-- the answer of the first row, by what each says
abbrev pub verdict_of : Bool → Bool → Bool → Bool → Bool → Option Hr
verdict_of missing wrong inactive full worn = first (
    (missing, hr.E_NOTFOUND)
    ∷ (wrong, hr.E_INVALIDARG)
    ∷ (inactive, hr.DEVICE_INVALIDATED)
    ∷ (full, hr.CLIENTS_FULL)
    ∷ (worn, hr.WORN)
    ∷ [])

module _ {D E : Type 0} (b : Board D E) (conn endpoint role : ℕ) (connected : Says b (control_rows conn) None) where
  says_by : (o : Option Endpoint) (wrong inactive full worn : Bool) →
      find (is_endpoint endpoint) b.book.registry.list ≡ o → not (is_role role) ≡ wrong → is_inactive o ≡ inactive →
      nat_le CLIENTS (length b.book.clients.items) ≡ full → nat_le MAX_COUNT b.book.clients_made ≡ worn →
      Says b (λ st. activate_rows st conn endpoint role) (verdict_of (is_none o) wrong inactive full worn)
  says_by o wrong inactive full worn found role_is state_is full_is worn_is =
      says_later b (control_rows conn) (own_rows endpoint role) (verdict_of (is_none o) wrong inactive full worn)
      connected
      (λ datas tally. ap (λ x. verdict_of (is_none x) (not (is_role role)) (is_inactive x)
      (nat_le CLIENTS (length b.book.clients.items)) (nat_le MAX_COUNT b.book.clients_made)) found
      ∙ cc)

  pub unknown_endpoint : None ≡ position (is_endpoint endpoint) b.book.registry.list →
      Says b (λ st. activate_rows st conn endpoint role) (Some hr.E_NOTFOUND)
  unknown_endpoint e =
      says_by None _ _ _ _ (none_at (is_endpoint endpoint) b.book.registry.list e) refl refl refl refl

  pub wrong_role : (at : ℕ) → Some at ≡ position (is_endpoint endpoint) b.book.registry.list →
      false ≡ is_role role → Says b (λ st. activate_rows st conn endpoint role) (Some hr.E_INVALIDARG)
  wrong_role at there r =
      let f = found_at (is_endpoint endpoint) b.book.registry.list at there in
      says_by (Some f.member) true _ _ _ f.found (ap not (sym r)) refl refl refl

  module _ (at : ℕ) (e : Endpoint) (there : Some at ≡ position (is_endpoint endpoint) b.book.registry.list)
      (read : e ≡ get_or b.book.registry.list at e) where
    known : find (is_endpoint endpoint) b.book.registry.list ≡ Some e
    known =
        let f = found_at (is_endpoint endpoint) b.book.registry.list at there in
        f.found
        ∙ ap (λ x. Some x) (sym (get_or_from_slice_get b.book.registry.list at f.member e f.here) ∙ sym read)

    module _ (r : true ≡ is_role role) where
      pub inactive : not (e.state == STATE_ACTIVE) ≡ true →
          Says b (λ st. activate_rows st conn endpoint role) (Some hr.DEVICE_INVALIDATED)
      inactive i = says_by (Some e) false true _ _ known (ap not (sym r)) i refl refl

      module _ (i : not (e.state == STATE_ACTIVE) ≡ false) where
        pub full : nat_le CLIENTS (length b.book.clients.items) ≡ true →
            Says b (λ st. activate_rows st conn endpoint role) (Some hr.CLIENTS_FULL)
        full f = says_by (Some e) false false true _ known (ap not (sym r)) i f refl

        pub worn : nat_le CLIENTS (length b.book.clients.items) ≡ false → nat_le MAX_COUNT b.book.clients_made ≡ true →
            Says b (λ st. activate_rows st conn endpoint role) (Some hr.WORN)
        worn f w = says_by (Some e) false false false true known (ap not (sym r)) i f w

        pub free : nat_le CLIENTS (length b.book.clients.items) ≡ false → nat_le MAX_COUNT b.book.clients_made ≡ false →
            Says b (λ st. activate_rows st conn endpoint role) None
        free f w = says_by (Some e) false false false false known (ap not (sym r)) i f w

-- ---- what is granted

module _ {D E : Type 0} (b : Board D E) (conn endpoint role : ℕ)
    (says : Says b (λ st. activate_rows st conn endpoint role) None) where
  -- there is room for a client more
  pub clients_free : (length b.book.clients.items < CLIENTS) × (b.book.clients_made < MAX_COUNT)
  clients_free =
      let st = state_of (λ client. no_data) no_tally b in
      let connected = row_fails _ hr.E_HANDLE _ (says (λ client. no_data) no_tally) in
      let runs = row_fails b.book.is_shut hr.SERVICE_NOT_RUNNING _ connected.1 in
      let there = row_fails _ hr.E_NOTFOUND _ runs.1 in
      let role_is = row_fails _ hr.E_INVALIDARG _ there.1 in
      let active = row_fails _ hr.DEVICE_INVALIDATED _ role_is.1 in
      let room = row_fails (nat_le CLIENTS (length b.book.clients.items)) hr.CLIENTS_FULL _ active.1 in
      let count = row_fails (nat_le MAX_COUNT b.book.clients_made) hr.WORN None room.1 in
      (leb-false CLIENTS (length b.book.clients.items) room.0, leb-false MAX_COUNT b.book.clients_made count.0)

  -- the connection is open
  pub client_owned : IsOwned b.book.connections.items (new_client (b.book.clients_made + 1) conn endpoint role)
  client_owned =
      not-false (list_any (is_connection conn) b.book.connections.items)
      (row_fails _ hr.E_HANDLE _ (says (λ client. no_data) no_tally)).0

  pub activate_grants : (book : Book) →
      book ≡ record (b.book) { clients = book.clients; clients_made = b.book.clients_made + 1 } →
      book.clients.items
      ≡ b.book.clients.items ++ new_client (b.book.clients_made + 1) conn endpoint role ∷ [] →
      (datas : ℕ → BufferData) (tally : Tally) →
      Grants (activate_plan (state_of datas tally b) conn endpoint role) hr.S_OK
      (to_le_bytes w64 (b.book.clients_made + 1)) (state_of datas tally (record b { book = book }))
  activate_grants book same pushed datas tally = record {
    passes = says datas tally;
    asks = refl;
    output = refl;
    result_is = refl;
    payload_is = refl;
    after_is =
        ap (λ bk. state_of datas tally (record b { book = bk })) same
        ∙ ap (λ cs. record (state_of datas tally b) { clients = cs; clients_made = b.book.clients_made + 1 }) pushed;
  }

-- ---- the order of the tables

-- the levels of a new client are the highest
pub full_levels : (client conn endpoint role : ℕ) → HasLevels (new_client client conn endpoint role)
full_levels client conn endpoint role =
    All-from_recursion (λ level. level ≤ MAX_LEVEL) (new_client client conn endpoint role).levels
    (omega arith, (omega arith, (omega arith, (omega arith, tt))))

rises_push : (low n : ℕ) (clients : List Client) (c : Client) → RisesFrom low (live_clients clients) → low ≤ n →
    All (λ x. x.client.0 < n) clients → c.client.0 ≡ n → RisesFrom low (live_clients (clients ++ c ∷ []))
rises_push low n [] c h lt all e = (omega arith, tt)
rises_push low n (x ∷ clients) c h lt all e =
    let below = All-head (λ x. x.client.0 < n) x clients all in
    (h.0, rises_push (suc x.client.0) n clients c h.1 below (All-tail (λ x. x.client.0 < n) x clients all) e)

-- who is found among the clients is found among them and one more
still_found : {A : Type 0} (test : A → Bool) (xs : List A) (x more : A) → find test xs ≡ Some x →
    find test (xs ++ more ∷ []) ≡ Some x
still_found test xs x more e =
    find-append test xs (more ∷ []) ∙ ap (λ o. first_of_two o (find test (more ∷ []))) e

-- a client that is pushed keeps the board in order
module _ {D E : Type 0} (state : E → EndState) (b : Board D E) (order : InOrder state b) (book : Book) (c : Client)
    (pushed : book.clients.items ≡ b.book.clients.items ++ c ∷ []) (number : c.client.0 ≡ b.book.clients_made + 1)
    (capacity : vec_capacity b.book.clients ≤ vec_capacity book.clients) (leveled : HasLevels c)
    (connected : IsOwned b.book.connections.items c)
    (free : (length b.book.clients.items < CLIENTS) × (b.book.clients_made < MAX_COUNT)) where
  -- the book with the clients of the new one
  abbrev pub with_client : Book
  with_client = record (b.book) { clients = book.clients; clients_made = b.book.clients_made + 1 }

  pushed_book : IsBook with_client
  pushed_book =
      let few = free.0 in
      let count = free.1 in
      let old = order.book in
      record {
        rooms = record {
          connections = old.rooms.connections;
          clients = let r = old.rooms.clients in omega arith;
          notices = old.rooms.notices;
        };
        apart = old.apart;
        opens = old.opens;
        clients =
            subst (λ cs. RisesFrom 0 (live_clients cs)) (sym pushed)
            (rises_push 0 (b.book.clients_made + 1) b.book.clients.items c old.clients (omega arith)
            (All-weaker (λ x. x.client.0 ≤ b.book.clients_made) (λ x. x.client.0 < b.book.clients_made + 1)
            (λ x le. omega arith) b.book.clients.items old.made) number);
        few_clients = subst (λ cs. length cs ≤ CLIENTS) (sym pushed) (simp length-append (omega arith));
        made =
            subst (All (λ x. x.client.0 ≤ b.book.clients_made + 1)) (sym pushed)
            (All-push (λ x. x.client.0 ≤ b.book.clients_made + 1) b.book.clients.items c
            (All-weaker (λ x. x.client.0 ≤ b.book.clients_made) (λ x. x.client.0 ≤ b.book.clients_made + 1)
            (λ x le. omega arith) b.book.clients.items old.made) (omega arith));
        clients_made = omega arith;
        endpoints = old.endpoints;
        added = old.added;
        levels =
            subst (All HasLevels) (sym pushed) (All-push HasLevels b.book.clients.items c old.levels leveled);
        owned =
            subst (All (IsOwned b.book.connections.items)) (sym pushed)
            (All-push (IsOwned b.book.connections.items) b.book.clients.items c old.owned connected);
      }

  still_belongs : (e : StreamEntry E) → Belongs b.book b.seats.items e → Belongs with_client b.seats.items e
  still_belongs e h = record {
    client = h.client;
    live =
        ap (find (λ x. x.client.0 == e.client.0)) pushed
        ∙ still_found (λ x. x.client.0 == e.client.0) b.book.clients.items h.client c h.live;
    on = h.on;
    opens = h.opens;
    within = h.within;
    gains = h.gains;
  }

  pub activated_order : InOrder state (record b { book = with_client })
  activated_order = record {
    order = order.order;
    rested = order.rested;
    belong =
        All-weaker (Belongs b.book b.seats.items) (Belongs with_client b.seats.items) still_belongs b.entries.items
        order.belong;
    alike = order.alike;
    seats = order.seats;
    book = pushed_book;
    room = order.room;
    seat_room = order.seat_room;
    draft_room = order.draft_room;
  }
