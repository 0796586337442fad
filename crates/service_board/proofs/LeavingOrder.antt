-- A board that clients left is in order.
use Rattle.std.proofs.Common.{◌≡◌, ℕ, ◌≤◌, ◌==◌, nat_eq, not, List, [], ◌∷◌, length, map, filter, Bool, true, false}
use Rattle.std.proofs.Common.{cond, refl, sym, ap, ◌∙◌, subst, find, get_or, arith, eqb-true, eq-eqb}
use Rattle.std.proofs.lemmas.List.Elements.{All-filter, All-from_recursion, recursion_from_All}
use Rattle.std.specs.List.{All, AllByRecursion, IsDistinct, list_any}
use Rattle.std.specs.Vec.{vec_capacity}
use Rattle.std.proofs.lemmas.List.Folds.{list_any_at}
use Rattle.std.proofs.lemmas.Map.Views.{any-filter_same}
use Rattle.std.proofs.lemmas.Map.Keys.{IsDistinct-cons, IsDistinct-head, IsDistinct-tail}
use Rattle.ca_base.specs.declared.limits.TheConstants.{CLIENTS}
use Rattle.buffer_ring.specs.declared.step.EndState.{EndState}
use Rattle.buffer_ring.specs.declared.step.StoreStep.{StoreStep}
use Rattle.ca_stage.specs.Order.{RisesFrom}
use Rattle.session_manager.specs.declared.session.Session.{Session}
use Rattle.session_manager.specs.Sessions.{is_session, session_at}
use Rattle.ca_machine.specs.declared.state.Client.{Client}
use Rattle.ca_machine.specs.declared.state.Connection.{Connection}
use Rattle.ca_machine.specs.State.{is_connection, live_clients}
use Rattle.ca_machine.specs.Clients.{is_client_on}
use Rattle.period_engine.specs.declared.entry.StreamEntry.{StreamEntry}
use Rattle.period_engine.specs.Entries.{IsRested}
use Rattle.service_book.specs.Gains.{gains_if}
use Rattle.service_book.specs.InOrder.{HasLevels, IsBook, IsOpen, IsOwned}
use Rattle.service_book.specs.Leaving.{is_live}
use Rattle.service_book.specs.declared.book.Book.{Book}
use Rattle.service_board.specs.InOrder.{AreAlike, Belongs, InOrder}
use Rattle.service_board.proofs.AlikeEntries.{alike_filtered}
use Rattle.service_board.specs.Leaving.{Forgets}
use Rattle.stream_entries.specs.Leaving.{is_in_use, is_of_live}
use Rattle.service_board.specs.declared.board.Board.{Board}
use Rattle.service_board.proofs.KeptEntries.{fewer_kept, find_kept, found_kept, rises_kept}
use Rattle.service_board.proofs.LeavingState.{without_clients}

-- what holds of a member that passes, by what held of it
passing : {A : Type 0} (p : A → Bool) (P Q : A → Type 0) → ((x : A) → P x → p x ≡ true → Q x) → (xs : List A) →
    AllByRecursion P xs → AllByRecursion Q (filter p xs)
passing p P Q h [] all = tt
passing p P Q h (x ∷ xs) all = by (p x) (h x all.0) (passing p P Q h xs all.1)
  where
    by : (v : Bool) → (v ≡ true → Q x) → AllByRecursion Q (filter p xs) →
        AllByRecursion Q (cond v (x ∷ filter p xs) (filter p xs))
    by true here rest = (here refl, rest)
    by false here rest = rest

-- the connections that are left have numbers apart
pub apart_left : (p : Connection → Bool) (cs : List Connection) → IsDistinct nat_eq (map (λ c. c.conn.0) cs) →
    IsDistinct nat_eq (map (λ c. c.conn.0) (filter p cs))
apart_left p [] h = h
apart_left p (c ∷ cs) h =
    by (p c)
    (all_left p c.conn.0 cs (IsDistinct-head nat_eq c.conn.0 (map (λ d. d.conn.0) cs) h))
    (apart_left p cs (IsDistinct-tail nat_eq c.conn.0 (map (λ d. d.conn.0) cs) h))
  where
    all_left : (p : Connection → Bool) (n : ℕ) (cs : List Connection) →
        AllByRecursion (λ m. nat_eq n m ≡ false) (map (λ d. d.conn.0) cs) →
        AllByRecursion (λ m. nat_eq n m ≡ false) (map (λ d. d.conn.0) (filter p cs))
    all_left p n [] h = tt
    all_left p n (d ∷ cs) h = either (p d) (all_left p n cs h.1)
      where
        either : (v : Bool) → AllByRecursion (λ m. nat_eq n m ≡ false) (map (λ d. d.conn.0) (filter p cs)) →
            AllByRecursion (λ m. nat_eq n m ≡ false) (map (λ d. d.conn.0) (cond v (d ∷ filter p cs) (filter p cs)))
        either true rest = (h.0, rest)
        either false rest = rest

    by : (v : Bool) → AllByRecursion (λ m. nat_eq c.conn.0 m ≡ false) (map (λ d. d.conn.0) (filter p cs)) →
        IsDistinct nat_eq (map (λ d. d.conn.0) (filter p cs)) →
        IsDistinct nat_eq (map (λ d. d.conn.0) (cond v (c ∷ filter p cs) (filter p cs)))
    by true other rest = IsDistinct-cons nat_eq c.conn.0 (map (λ d. d.conn.0) (filter p cs)) other rest
    by false other rest = rest

-- the connections but one
abbrev others : ℕ → List Connection → List Connection
others conn cs = filter (λ c. not (is_connection conn c)) cs

-- the clients that are left have their connections once one is gone with its clients
pub owned_left : (conn : ℕ) (cs : List Connection) (clients : List Client) → All (IsOwned cs) clients →
    All (IsOwned (others conn cs)) (filter (λ c. not (is_client_on conn c)) clients)
owned_left conn cs clients all =
    All-from_recursion (IsOwned (others conn cs)) (filter (λ c. not (is_client_on conn c)) clients)
    (passing (λ c. not (is_client_on conn c)) (IsOwned cs) (IsOwned (others conn cs)) still clients
    (recursion_from_All (IsOwned cs) clients all))
  where
    still : (x : Client) → IsOwned cs x → not (is_client_on conn x) ≡ true → IsOwned (others conn cs) x
    still x owned other =
        any-filter_same (is_connection x.conn.0) (λ c. not (is_connection conn c)) true
        (λ k same. ap (λ n. not (n == conn)) (eqb-true k.conn.0 x.conn.0 same) ∙ other) cs
        ∙ owned

module _ {D E : Type 0} (state : E → EndState) (moves : E → List StoreStep → E → Type 0) (b new : Board D E)
    (book : Book) (order : InOrder state b) (p : Client → Bool) (forgets : Forgets moves (without_clients b book) new)
    (left : book.clients.items ≡ filter (λ c. not (p c)) b.book.clients.items)
    (room : vec_capacity book.clients ≡ vec_capacity b.book.clients)
    (connection_room : vec_capacity book.connections ≡ vec_capacity b.book.connections)
    (same_notices : length book.notices.items ≡ length b.book.notices.items)
    (apart : IsDistinct nat_eq (map (λ c. c.conn.0) book.connections.items))
    (opens : All IsOpen book.connections.items)
    (owned : All (IsOwned book.connections.items) (filter (λ c. not (p c)) b.book.clients.items)) where
  -- the book after
  abbrev last_book : Book
  last_book = record (b.book) {
    connections = book.connections;
    clients = book.clients;
    notices = book.notices;
    sessions = new.book.sessions;
  }

  book_left : IsBook last_book
  book_left =
      let old = order.book in
      let rooms = old.rooms in
      let fewer = fewer_kept (λ c. not (p c)) b.book.clients.items in
      record {
        rooms = record {
          connections = let r = rooms.connections in omega (arith, connection_room);
          clients = let r = rooms.clients in omega (arith, room);
          notices = same_notices ∙ rooms.notices;
        };
        apart = apart;
        opens = opens;
        clients =
            subst (λ cs. RisesFrom 0 (live_clients cs)) (sym left)
            (rises_kept (λ c. c.client.0) (λ c. not (p c)) 0 b.book.clients.items old.clients);
        few_clients =
            subst (λ cs. length cs ≤ CLIENTS) (sym left) (let f = old.few_clients in omega arith);
        made =
            subst (All (λ c. c.client.0 ≤ b.book.clients_made)) (sym left)
            (All-filter (λ c. not (p c)) (λ c. c.client.0 ≤ b.book.clients_made) b.book.clients.items old.made);
        clients_made = old.clients_made;
        endpoints = old.endpoints;
        added = old.added;
        levels =
            subst (All HasLevels) (sym left)
            (All-filter (λ c. not (p c)) HasLevels b.book.clients.items old.levels);
        owned = subst (All (IsOwned book.connections.items)) (sym left) owned;
      }

  -- the streams that are left
  abbrev kept : List (StreamEntry E)
  kept = filter (is_of_live book.clients.items) b.entries.items

  -- a session of one of them stays
  session_kept : (number : ℕ) → list_any (λ (e : StreamEntry E). e.session.0 == number) kept ≡ true →
      session_at number new.book.sessions.list ≡ session_at number b.book.sessions.list
  session_kept number used =
      ap (session_at number) forgets.sessions
      ∙ find_kept (is_session number) (is_in_use new.entries.items)
      (λ (s : Session) own.
      ap (λ (es : List (StreamEntry E)). list_any (λ e. e.session.0 == s.no.0) es) forgets.streams.left
      ∙ ap (λ n. list_any (λ (e : StreamEntry E). e.session.0 == n) kept) (eqb-true s.no.0 number own)
      ∙ used)
      b.book.sessions.list

  belongs_left : (e : StreamEntry E) → Belongs b.book b.seats.items e → is_of_live book.clients.items e ≡ true →
      list_any (λ (d : StreamEntry E). d.session.0 == e.session.0) kept ≡ true → Belongs last_book b.seats.items e
  belongs_left e h live used = record {
    client = h.client;
    live =
        ap (find (λ c. c.client.0 == e.client.0)) left
        ∙ found_kept (λ c. c.client.0) (λ c. not (p c)) e.client.0 0 b.book.clients.items h.client order.book.clients
        h.live (ap (λ cs. is_live cs e.client.0) (sym left) ∙ live);
    on = h.on;
    opens = h.opens;
    within = h.within;
    gains = λ fresh. h.gains fresh ∙ ap (gains_if e.exclusive h.client.levels) (sym (session_kept e.session.0 used));
  }

  -- one of them belonged to the book before
  abbrev Stays : StreamEntry E → Type 0
  Stays e = Belongs b.book b.seats.items e × (is_of_live book.clients.items e ≡ true)

  all_stay : All Stays kept
  all_stay =
      All-from_recursion Stays kept
      (passing (is_of_live book.clients.items) (Belongs b.book b.seats.items) Stays (λ e h live. (h, live))
      b.entries.items (recursion_from_All (Belongs b.book b.seats.items) b.entries.items order.belong))

  all_belong : All (Belongs last_book b.seats.items) kept
  all_belong k d lt =
      let e : StreamEntry E = get_or kept k d in
      let stays = all_stay k d lt in
      belongs_left e stays.0 stays.1
      (list_any_at (λ (y : StreamEntry E). y.session.0 == e.session.0) kept k d lt
      (eq-eqb e.session.0 e.session.0 refl))

  pub order_left : InOrder state new
  order_left =
      subst (InOrder state) (sym forgets.rest) (record {
        order =
            subst (λ (es : List (StreamEntry E)). RisesFrom 0 (map (λ e. e.client.0) es)) (sym forgets.streams.left)
            (rises_kept (λ (e : StreamEntry E). e.client.0) (is_of_live book.clients.items) 0 b.entries.items
            order.order);
        rested =
            subst (All (IsRested state)) (sym forgets.streams.left)
            (All-filter (is_of_live book.clients.items) (IsRested state) b.entries.items order.rested);
        belong = subst (All (Belongs last_book b.seats.items)) (sym forgets.streams.left) all_belong;
        alike =
            subst AreAlike (sym forgets.streams.left)
            (alike_filtered (is_of_live book.clients.items) b.entries.items order.alike);
        seats = order.seats;
        book = book_left;
        room = let r = order.room in let s = forgets.room in omega arith;
        seat_room = order.seat_room;
        draft_room = order.draft_room;
      })
