-- Clients of whom something changes that no look-up asks for, and a board in order after that.
use Rattle.std.proofs.Common.{◌≡◌, ℕ, suc, zero, ◌<◌, ◌≤◌, ◌==◌, ◌&&◌, List, [], ◌∷◌, length, map, set, get_or, Bool}
use Rattle.std.proofs.Common.{true, false, Some, refl, sym, ap, ap₂, subst, ◌∙◌, if◌then◌else◌, arith, eq-eqb}
use Rattle.std.specs.Global.{Vec}
use Rattle.std.specs.List.{All, find, list_any, slice_get}
use Rattle.std.specs.Option.{option_map}
use Rattle.std.specs.Vec.{vec_capacity, with_item}
use Rattle.std.proofs.lemmas.Bool.{ne_eqb}
use Rattle.std.proofs.lemmas.List.{length-map}
use Rattle.std.proofs.lemmas.List.Elements.{All-from_recursion, All-weaker, recursion_from_All}
use Rattle.std.proofs.lemmas.Option.{get_or_from_slice_get, none-some, same_Some}
use Rattle.ca_base.specs.declared.limits.TheConstants.{CLIENTS}
use Rattle.buffer_ring.specs.declared.step.EndState.{EndState}
use Rattle.ca_stage.specs.Order.{RisesFrom}
use Rattle.ca_stage.proofs.Lists.{all-map, all_of, chosen, find_map, map_alike, map_map}
use Rattle.session_manager.specs.Sessions.{session_at}
use Rattle.ca_machine.specs.declared.state.Client.{Client}
use Rattle.ca_machine.specs.State.{is_client_of, is_connection, live_clients}
use Rattle.period_engine.specs.declared.entry.StreamEntry.{StreamEntry}
use Rattle.service_book.specs.Gains.{gains_if}
use Rattle.service_book.specs.InOrder.{HasLevels, IsBook, IsOwned}
use Rattle.service_book.specs.declared.book.Book.{Book}
use Rattle.service_board.specs.InOrder.{Belongs, InOrder}
use Rattle.service_board.specs.Lookups.{FindsClient}
use Rattle.service_board.specs.declared.board.Board.{Board}
use Rattle.service_board.specs.declared.board.Seat.{Seat}

-- a board in order with another book of the same endpoints, to which its entries belong too
pub rebooked : {D E : Type 0} (state : E → EndState) (b : Board D E) (book : Book) →
    book.registry ≡ b.book.registry → IsBook book →
    ((e : StreamEntry E) → Belongs b.book b.seats.items e → Belongs book b.seats.items e) → InOrder state b →
    InOrder state (record b { book = book })
rebooked state b book endpoints fits belongs order = record {
  order = order.order;
  rested = order.rested;
  belong =
      All-weaker (Belongs b.book b.seats.items) (Belongs book b.seats.items) belongs b.entries.items order.belong;
  alike = order.alike;
  seats = rw endpoints order.seats;
  book = fits;
  room = order.room;
  seat_room = order.seat_room;
  draft_room = order.draft_room;
}

-- a book with other clients, whose levels may have changed
abbrev pub with_clients : Vec Client → Bool → Book → Book
with_clients clients changed book = record book { clients = clients; levels_changed = changed }

-- each client is what f makes of it, the same one with levels in range; and unless it is said that levels changed, they
-- are those that they were
pub record ChangesClients (f : Client → Client) (book : Book) (clients : Vec Client) (changed : Bool) : Type 0 where
  pub items : clients.items ≡ map f book.clients.items
  pub room : vec_capacity clients ≡ vec_capacity book.clients
  pub client : (c : Client) → (f c).client ≡ c.client
  pub conn : (c : Client) → (f c).conn ≡ c.conn
  pub endpoint : (c : Client) → (f c).endpoint ≡ c.endpoint
  pub levels : (c : Client) → HasLevels c → HasLevels (f c)
  pub gains : changed ≡ false → (book.levels_changed ≡ false) × ((c : Client) → (f c).levels ≡ c.levels)

module _ (f : Client → Client) (book : Book) (clients : Vec Client) (changed : Bool)
    (changes : ChangesClients f book clients changed) where
  abbrev xs : List Client
  xs = book.clients.items

  all_changed : (P : Client → Type 0) → ((c : Client) → P c → P (f c)) → All P xs → All P clients.items
  all_changed P stays h =
      subst (All P) (sym changes.items)
      (All-from_recursion P (map f xs) (all-map P P f stays xs (recursion_from_All P xs h)))

  numbers_stay : live_clients clients.items ≡ live_clients xs
  numbers_stay =
      ap live_clients changes.items
      ∙ map_map (λ c. c.client.0) f xs
      ∙ map_alike (λ c. (f c).client.0) (λ c. c.client.0) xs
      (all_of (λ c. (f c).client.0 ≡ c.client.0) (λ c. ap (λ n. n.0) (changes.client c)) xs)

  changed_book : IsBook book → IsBook (with_clients clients changed book)
  changed_book h = record {
    rooms = record {
      connections = h.rooms.connections;
      clients = subst (λ n. CLIENTS ≤ n) (sym changes.room) h.rooms.clients;
      notices = h.rooms.notices;
    };
    apart = h.apart;
    opens = h.opens;
    clients = subst (RisesFrom 0) (sym numbers_stay) h.clients;
    few_clients = subst (λ n. n ≤ CLIENTS) (sym (ap length changes.items ∙ length-map xs f)) h.few_clients;
    made =
        all_changed (λ c. c.client.0 ≤ book.clients_made)
        (λ c most. subst (λ n. n.0 ≤ book.clients_made) (sym (changes.client c)) most) h.made;
    clients_made = h.clients_made;
    endpoints = h.endpoints;
    added = h.added;
    levels = all_changed HasLevels changes.levels h.levels;
    owned =
        all_changed (IsOwned book.connections.items)
        (λ c owns.
        subst (λ n. list_any (is_connection n.0) book.connections.items ≡ true) (sym (changes.conn c)) owns) h.owned;
  }

  still_belongs : {E : Type 0} (seats : List Seat) (e : StreamEntry E) → Belongs book seats e →
      Belongs (with_clients clients changed book) seats e
  still_belongs seats e h = record {
    client = f h.client;
    live =
        ap (find (λ y. y.client.0 == e.client.0)) changes.items
        ∙ find_map (λ y. y.client.0 == e.client.0) f (λ y. ap (λ n. n.0 == e.client.0) (changes.client y)) xs
        ∙ ap (option_map f) h.live;
    on = ap (λ n. n.0) (changes.endpoint h.client) ∙ h.on;
    opens = h.opens;
    within = h.within;
    gains = λ same.
        let kept = changes.gains same in
        h.gains kept.0
        ∙ ap (λ levels. gains_if e.exclusive levels (session_at e.session.0 book.sessions.list))
        (sym (kept.1 h.client));
  }

-- a board stays in order
pub clients_order : {D E : Type 0} (state : E → EndState) (b : Board D E) (f : Client → Client) (clients : Vec Client)
    (changed : Bool) → ChangesClients f b.book clients changed → InOrder state b →
    InOrder state (record b { book = with_clients clients changed b.book })
clients_order state b f clients changed changes order =
    rebooked state b (with_clients clients changed b.book) refl
    (changed_book f b.book clients changed changes order.book)
    (still_belongs f b.book clients changed changes b.seats.items) order

-- clients of whom events alone are set or taken
pub flags_change : (f : Client → Client) (book : Book) (clients : Vec Client) →
    ((c : Client) → f c ≡ record c { flagged = (f c).flagged }) → clients.items ≡ map f book.clients.items →
    vec_capacity clients ≡ vec_capacity book.clients → ChangesClients f book clients book.levels_changed
flags_change f book clients same items room = record {
  items = items;
  room = room;
  client = λ c. ap (λ x. x.client) (same c);
  conn = λ c. ap (λ x. x.conn) (same c);
  endpoint = λ c. ap (λ x. x.endpoint) (same c);
  levels = λ c h. subst HasLevels (sym (same c)) h;
  gains = λ fresh. (fresh, λ c. ap (λ x. x.levels) (same c));
}

pub flag_if : (b v : Bool) (c : Client) → (if b then record c { flagged = v } else c)
    ≡ record c { flagged = (if b then record c { flagged = v } else c).flagged }
flag_if true v c = refl
flag_if false v c = refl

-- ---- one client

-- the client of a call, as it is read by its place
pub record Named (conn client : ℕ) (clients : List Client) (at : ℕ) (c : Client) : Type 0 where
  pub here : slice_get clients at ≡ Some c
  pub found : find (is_client_of conn client) clients ≡ Some c
  pub client_is : c.client.0 ≡ client
  pub conn_is : c.conn.0 ≡ conn

pub named_there : {D E : Type 0} (b : Board D E) (conn client at : ℕ) (c : Client) → FindsClient conn client b at →
    c ≡ get_or b.book.clients.items at c → Named conn client b.book.clients.items at c
named_there b conn client at c f read =
    subst (Named conn client b.book.clients.items at)
    (sym (get_or_from_slice_get b.book.clients.items at f.named c f.here) ∙ sym read)
    (record { here = f.here; found = f.found; client_is = f.client_is; conn_is = f.conn_is })

module _ (conn client : ℕ) (f : Client → Client) where
  -- what becomes of each client
  abbrev pub changed_if : Client → Client
  changed_if c = if is_client_of conn client c then f c else c

  -- one of another number stays as it was
  other_stays : (c : Client) → (c.client.0 ≡ client → ⊥) → changed_if c ≡ c
  other_stays c other = ap (λ b. if b && c.conn.0 == conn then f c else c) (ne_eqb c.client.0 client other)

  above : (low : ℕ) (xs : List Client) → client < low → RisesFrom low (live_clients xs) → map changed_if xs ≡ xs
  above low [] l r = refl
  above low (x ∷ xs) l r =
      let k = r.0 in
      ap₂ (λ y (rest : List Client). y ∷ rest) (other_stays x (λ e. omega (arith, e)))
      (above (suc x.client.0) xs (omega arith) r.1)

  -- one behind a place has a number above
  behind : (low at : ℕ) (xs : List Client) (c : Client) → RisesFrom low (live_clients xs) → slice_get xs at ≡ Some c →
      low ≤ c.client.0
  behind low at [] c r here = absurd (none-some c here)
  behind low zero (x ∷ xs) c r here =
      let k = r.0 in
      omega (arith, ap (λ y. y.client.0) (same_Some x c here))
  behind low (suc at) (x ∷ xs) c r here =
      let k = r.0 in
      let l = behind (suc x.client.0) at xs c r.1 here in omega arith

  -- the client at its place alone is the one of the call
  changed_there : (low at : ℕ) (xs : List Client) (c : Client) → RisesFrom low (live_clients xs) →
      slice_get xs at ≡ Some c → c.client.0 ≡ client → c.conn.0 ≡ conn → set xs at (f c) ≡ map changed_if xs
  changed_there low at [] c r here own on = refl
  changed_there low zero (x ∷ xs) c r here own on =
      let same : x ≡ c = same_Some x c here in
      let numbered : x.client.0 ≡ client = ap (λ y. y.client.0) same ∙ own in
      let connected : x.conn.0 ≡ conn = ap (λ y. y.conn.0) same ∙ on in
      ap₂ (λ y (rest : List Client). y ∷ rest)
      (ap f (sym same)
      ∙ sym (ap₂ (λ v w. if v && w then f x else x) (eq-eqb x.client.0 client numbered)
      (eq-eqb x.conn.0 conn connected)))
      (sym (above (suc x.client.0) xs (omega (arith, numbered)) r.1))
  changed_there low (suc at) (x ∷ xs) c r here own on =
      let l = behind (suc x.client.0) at xs c r.1 here in
      ap₂ (λ y (rest : List Client). y ∷ rest) (sym (other_stays x (λ e. omega (arith, l, e, own))))
      (changed_there (suc x.client.0) at xs c r.1 here own on)

  pub changed_items : (xs : List Client) (at : ℕ) (c : Client) → Named conn client xs at c →
      RisesFrom 0 (live_clients xs) → set xs at (f c) ≡ map changed_if xs
  changed_items xs at c named rises = changed_there 0 at xs c rises named.here named.client_is named.conn_is

  if_kept : {Y : Type 0} (g : Client → Y) → ((c : Client) → g (f c) ≡ g c) → (c : Client) → g (changed_if c) ≡ g c
  if_kept g same c = chosen (λ y. g y ≡ g c) (is_client_of conn client c) (f c) c (same c) refl

  pub one_changes : (book : Book) (at : ℕ) (c : Client) (changed : Bool) → Named conn client book.clients.items at c →
      RisesFrom 0 (live_clients book.clients.items) → ((c : Client) → (f c).client ≡ c.client) →
      ((c : Client) → (f c).conn ≡ c.conn) → ((c : Client) → (f c).endpoint ≡ c.endpoint) →
      ((c : Client) → HasLevels c → HasLevels (f c)) →
      (changed ≡ false → (book.levels_changed ≡ false) × ((c : Client) → (f c).levels ≡ c.levels)) →
      ChangesClients changed_if book (with_item book.clients at (f c)) changed
  one_changes book at c changed named rises same_client same_conn same_endpoint in_range gains = record {
    items = changed_items book.clients.items at c named rises;
    room = refl;
    client = if_kept (λ c. c.client) same_client;
    conn = if_kept (λ c. c.conn) same_conn;
    endpoint = if_kept (λ c. c.endpoint) same_endpoint;
    levels = λ c h. chosen HasLevels (is_client_of conn client c) (f c) c (in_range c h) h;
    gains = λ same. ((gains same).0, if_kept (λ c. c.levels) (gains same).1);
  }
