-- Open: what its row says of the connections, and what it grants.
use Rattle.std.proofs.Common.{◌≡◌, ℕ, ◌+◌, ◌<◌, ◌≤◌, List, [], ◌∷◌, ◌++◌, length, map, not, Bool, true, false, None}
use Rattle.std.proofs.Common.{refl, sym, ap, ◌||◌, ◌&&◌, ◌==◌, nat_eq, nat_lt, nat_le, arith, ◌∙◌, subst, eqb-true}
use Rattle.std.specs.List.{All, AllByRecursion, IsDistinct, list_all, list_any}
use Rattle.std.specs.Vec.{vec_capacity}
use Rattle.std.proofs.lemmas.Bool.{and_parts, false≢true, leb-true, not-false, or_from, or_parts}
use Rattle.std.proofs.lemmas.Bool.Decides.{nat_tests}
use Rattle.std.proofs.lemmas.Cmp.{nat_eq_equiv}
use Rattle.std.proofs.lemmas.List.{length-map, map-append}
use Rattle.std.proofs.lemmas.List.Folds.{list_any-append}
use Rattle.std.proofs.lemmas.List.Elements.{All-push, All-weaker, recursion_from_All}
use Rattle.std.proofs.lemmas.Map.Keys.{IsDistinct-cons, IsDistinct-push}
use Rattle.std.proofs.lemmas.Map.Steps.{length-le_from_distinct_below}
use Rattle.ca_base.specs.declared.codes.Hr.{Hr}
use Rattle.ca_base.specs.declared.codes.TheConstants.Hr as hr
use Rattle.ca_base.specs.Rows.{Row}
use Rattle.ca_base.specs.declared.limits.TheConstants.{CONNECTIONS, MAX_CONNECTION_NAME}
use Rattle.buffer_ring.specs.declared.step.EndState.{EndState}
use Rattle.ca_stage.specs.Stage.{BufferData, no_data}
use Rattle.ca_stage.specs.Tally.{Tally, no_tally}
use Rattle.ca_machine.specs.declared.state.Connection.{Connection}
use Rattle.ca_machine.specs.SharedRows.{connection_rows}
use Rattle.ca_machine.specs.State.{State, is_connected, is_connection}
use Rattle.ca_machine.specs.Clients.{is_name, is_name_byte, new_connection, open_plan, open_rows}
use Rattle.period_engine.specs.declared.entry.StreamEntry.{StreamEntry}
use Rattle.service_book.specs.InOrder.{IsBook, IsOpen, IsOwned}
use Rattle.service_book.specs.declared.book.Book.{Book}
use Rattle.service_book.proofs.Rows.{row_fails}
use Rattle.service_board.specs.Board.{state_of}
use Rattle.service_board.specs.InOrder.{Belongs, InOrder}
use Rattle.service_board.specs.Lookups.{Says}
use Rattle.service_board.specs.declared.board.Board.{Board}
use Rattle.service_board.proofs.GrantedEvents.{Grants}

-- ---- the numbers of connections

abbrev numbers : List Connection → List ℕ
numbers cs = map (λ c. c.conn.0) cs

-- a number that no connection has is apart from theirs
none_equal : (n : ℕ) (cs : List Connection) → list_any (is_connection n) cs ≡ false →
    AllByRecursion (λ m. nat_eq n m ≡ false) (numbers cs)
none_equal n [] h = tt
none_equal n (c ∷ cs) h =
    let parts = or_parts (c.conn.0 == n) (list_any (is_connection n) cs) h in
    let other = parts.0 in
    (grind (arith, nat_tests), none_equal n cs parts.1)

all_other : (n : ℕ) (ms : List ℕ) → AllByRecursion (λ m. nat_eq n m ≡ false) ms → list_any (nat_eq n) ms ≡ false
all_other n [] h = refl
all_other n (m ∷ ms) h = or_from (nat_eq n m) (list_any (nat_eq n) ms) h.0 (all_other n ms h.1)

-- the numbers of open connections are from 1 to their limit
numbers_within : (cs : List Connection) → AllByRecursion IsOpen cs →
    AllByRecursion (λ m. (nat_eq 0 m ≡ false) × (m < CONNECTIONS + 1)) (numbers cs)
numbers_within [] h = tt
numbers_within (c ∷ cs) h =
    let least = h.0.least in
    let most = h.0.most in
    ((grind (arith, nat_tests), omega arith), numbers_within cs h.1)

any_below : (q n : ℕ) (ms : List ℕ) → AllByRecursion (λ m. (nat_eq 0 m ≡ false) × (m < n)) ms →
    list_any (nat_eq q) ms ≡ true → q < n
any_below q n [] h e = cc
any_below q n (m ∷ ms) h e = by (nat_eq q m) refl e (any_below q n ms h.1)
  where
    by : (b : Bool) → nat_eq q m ≡ b → (b || list_any (nat_eq q) ms) ≡ true →
        (list_any (nat_eq q) ms ≡ true → q < n) → q < n
    by true t f later = let same = eqb-true q m t in let below = h.0.1 in omega arith
    by false t f later = later f

all_first : {A : Type 0} (P Q : A → Type 0) (xs : List A) → AllByRecursion (λ x. P x × Q x) xs → AllByRecursion P xs
all_first P Q [] h = tt
all_first P Q (x ∷ xs) h = (h.0.0, all_first P Q xs h.1)

-- with a free number there is one connection less than there may be
fewer_than_all : (n : ℕ) (cs : List Connection) → 1 ≤ n → n ≤ CONNECTIONS →
    list_any (is_connection n) cs ≡ false → IsDistinct nat_eq (numbers cs) → AllByRecursion IsOpen cs →
    length cs < CONNECTIONS
fewer_than_all n cs least most free apart opens =
    let within : AllByRecursion (λ m. (nat_eq 0 m ≡ false) × (m < CONNECTIONS + 1)) (n ∷ numbers cs) =
    ((grind (arith, nat_tests), omega arith), numbers_within cs opens) in
    let distinct = IsDistinct-cons nat_eq 0 (n ∷ numbers cs)
    (all_first (λ m. nat_eq 0 m ≡ false) (λ m. m < CONNECTIONS + 1) (n ∷ numbers cs) within)
    (IsDistinct-cons nat_eq n (numbers cs) (none_equal n cs free) apart) in
    let few = length-le_from_distinct_below (0 ∷ n ∷ numbers cs) (CONNECTIONS + 1) distinct
    (below_limit within) in
    let same : length (numbers cs) ≡ length cs = length-map cs (λ (c : Connection). c.conn.0) in
    omega arith
  where
    below_limit : AllByRecursion (λ m. (nat_eq 0 m ≡ false) × (m < CONNECTIONS + 1)) (n ∷ numbers cs) → (q : ℕ) →
        list_any (nat_eq q) (0 ∷ n ∷ numbers cs) ≡ true → q < CONNECTIONS + 1
    below_limit within q e = by (nat_eq q 0) refl e
      where
        by : (b : Bool) → nat_eq q 0 ≡ b → (b || list_any (nat_eq q) (n ∷ numbers cs)) ≡ true → q < CONNECTIONS + 1
        by true t f = let same = eqb-true q 0 t in omega arith
        by false t f = any_below q (CONNECTIONS + 1) (n ∷ numbers cs) within f

-- a number that an open connection has is from 1 to their limit
pub open_within : (n : ℕ) (cs : List Connection) → AllByRecursion IsOpen cs → list_any (is_connection n) cs ≡ true →
    (1 ≤ n) × (n ≤ CONNECTIONS)
open_within n [] h e = absurd (false≢true e)
open_within n (c ∷ cs) h e = by (c.conn.0 == n) refl e (open_within n cs h.1)
  where
    by : (b : Bool) → (c.conn.0 == n) ≡ b → (b || list_any (is_connection n) cs) ≡ true →
        (list_any (is_connection n) cs ≡ true → (1 ≤ n) × (n ≤ CONNECTIONS)) → (1 ≤ n) × (n ≤ CONNECTIONS)
    by true t f later =
        let least = h.0.least in
        let most = h.0.most in
        let same = eqb-true c.conn.0 n t in
        (omega arith, omega arith)
    by false t f later = later f

-- of a connection that is open
pub known_within : {D E : Type 0} (b : Board D E) (conn : ℕ) → IsBook b.book → Says b (connection_rows conn) None →
    (1 ≤ conn) × (conn ≤ CONNECTIONS)
known_within b conn is says =
    open_within conn b.book.connections.items (recursion_from_All IsOpen b.book.connections.items is.opens)
    (not-false (list_any (is_connection conn) b.book.connections.items)
    (row_fails _ hr.E_HANDLE None (says (λ client. no_data) no_tally)).0)

-- ---- a connection is opened

-- the row of an Open behind that of a shutdown
abbrev pub own_open_rows : ℕ → ℕ → List ℕ → State → List (Row Hr)
own_open_rows conn process name st = (
  not (nat_le 1 conn && nat_le conn CONNECTIONS) || (is_connected conn st || (process == 0 || not (is_name name))),
  hr.E_INVALIDARG,
)
    ∷ []

module _ {D E : Type 0} (b : Board D E) (conn process : ℕ) (name : List ℕ)
    (says : Says b (λ st. open_rows st conn process name) None) where
  -- its number may be, no open one has it, and its name fits
  record Free : Type 0 where
    pub opens : IsOpen (new_connection conn process name)
    pub free : list_any (is_connection conn) b.book.connections.items ≡ false

  free_conn : Free
  free_conn =
      let range = not (nat_le 1 conn && nat_le conn CONNECTIONS) in
      let runs = row_fails b.book.is_shut hr.SERVICE_NOT_RUNNING _ (says (λ client. no_data) no_tally) in
      let row = (row_fails _ hr.E_INVALIDARG None runs.1).0 in
      let ranged = or_parts range _ row in
      let own = or_parts (list_any (is_connection conn) b.book.connections.items) _ ranged.1 in
      let named = or_parts (process == 0) (not (is_name name)) own.1 in
      let numbered = and_parts (nat_le 1 conn) (nat_le conn CONNECTIONS) (not-false _ ranged.0) in
      let fits = and_parts (nat_lt 0 (length name)) _ (not-false (is_name name) named.1) in
      let short = and_parts (nat_le (length name) MAX_CONNECTION_NAME) (list_all is_name_byte name) fits.1 in
      record {
        opens = record {
          least = leb-true 1 conn numbered.0;
          most = leb-true conn CONNECTIONS numbered.1;
          name = leb-true (length name) MAX_CONNECTION_NAME short.0;
        };
        free = own.0;
      }

  pub free_to_open : IsBook b.book → length b.book.connections.items < CONNECTIONS
  free_to_open is =
      fewer_than_all conn b.book.connections.items free_conn.opens.least free_conn.opens.most free_conn.free is.apart
      (recursion_from_All IsOpen b.book.connections.items is.opens)

  pub open_grants : (book : Book) →
      book ≡ record (b.book) { connections = book.connections } →
      book.connections.items ≡ b.book.connections.items ++ new_connection conn process name ∷ [] →
      (datas : ℕ → BufferData) (tally : Tally) →
      Grants (open_plan (state_of datas tally b) conn process name) hr.S_OK []
      (state_of datas tally (record b { book = book }))
  open_grants book same pushed datas tally = record {
    passes = says datas tally;
    asks = refl;
    output = refl;
    result_is = refl;
    payload_is = refl;
    after_is =
        ap (λ bk. state_of datas tally (record b { book = bk })) same
        ∙ ap (λ cs. record (state_of datas tally b) { connections = cs }) pushed;
  }

  -- ---- the order of the tables

  module _ (state : E → EndState) (order : InOrder state b) (book : Book)
      (pushed : book.connections.items ≡ b.book.connections.items ++ new_connection conn process name ∷ [])
      (capacity : vec_capacity b.book.connections ≤ vec_capacity book.connections) where
    -- the book with the connections of the new one
    abbrev with_connection : Book
    with_connection = record (b.book) { connections = book.connections }

    opened_book : IsBook with_connection
    opened_book =
        let old = order.book in
        record {
          rooms = record {
            connections = let r = old.rooms.connections in omega arith;
            clients = old.rooms.clients;
            notices = old.rooms.notices;
          };
          apart =
              subst (λ cs. IsDistinct nat_eq (numbers cs)) (sym pushed)
              (subst (IsDistinct nat_eq)
              (sym (map-append (λ (c : Connection). c.conn.0) b.book.connections.items
              (new_connection conn process name ∷ [])))
              (IsDistinct-push nat_eq_equiv (numbers b.book.connections.items) conn old.apart
              (all_other conn (numbers b.book.connections.items)
              (none_equal conn b.book.connections.items free_conn.free))));
          opens =
              subst (All IsOpen) (sym pushed)
              (All-push IsOpen b.book.connections.items (new_connection conn process name) old.opens free_conn.opens);
          clients = old.clients;
          few_clients = old.few_clients;
          made = old.made;
          clients_made = old.clients_made;
          endpoints = old.endpoints;
          added = old.added;
          levels = old.levels;
          owned =
              subst (λ cs. All (IsOwned cs) b.book.clients.items) (sym pushed)
              (All-weaker (IsOwned b.book.connections.items)
              (IsOwned (b.book.connections.items ++ new_connection conn process name ∷ []))
              (λ c h.
              list_any-append (is_connection c.conn.0) b.book.connections.items (new_connection conn process name ∷ [])
              ∙ ap (λ v. v || list_any (is_connection c.conn.0) (new_connection conn process name ∷ [])) h)
              b.book.clients.items old.owned);
        }

    still_belongs : (e : StreamEntry E) → Belongs b.book b.seats.items e → Belongs with_connection b.seats.items e
    still_belongs e h = record {
      client = h.client;
      live = h.live;
      on = h.on;
      opens = h.opens;
      within = h.within;
      gains = h.gains;
    }

    pub open_order : InOrder state (record b { book = with_connection })
    open_order = record {
      order = order.order;
      rested = order.rested;
      belong =
          All-weaker (Belongs b.book b.seats.items) (Belongs with_connection b.seats.items) still_belongs
          b.entries.items order.belong;
      alike = order.alike;
      seats = order.seats;
      book = opened_book;
      room = order.room;
      seat_room = order.seat_room;
      draft_room = order.draft_room;
    }
