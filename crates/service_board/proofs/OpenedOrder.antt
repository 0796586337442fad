-- What an Initialize opens stands in order, and there is room for it.
use Rattle.std.proofs.Common.{◌||◌, ◌≡◌, ℕ, suc, ◌<◌, ◌≤◌, ◌==◌, ◌&&◌, not, List, [], ◌∷◌, length, Bool, true}
use Rattle.std.proofs.Common.{false, cond, if◌then◌else◌, Some, refl, sym, ap, ap₂, ◌∙◌, subst, arith, find, eqb-true}
use Rattle.std.specs.List.{All, AllByRecursion, AllZip, insert}
use Rattle.std.specs.Vec.{vec_capacity}
use Rattle.std.proofs.lemmas.List.{length-map}
use Rattle.std.proofs.lemmas.List.Elements.{All-from_recursion, All-weaker, recursion_from_All}
use Rattle.std.proofs.lemmas.Bool.{and_parts, true≢false}
use Rattle.std.proofs.lemmas.Option.{none-some, same_Some}
use Rattle.ca_base.specs.declared.ids.Flow.{Flow}
use Rattle.ca_base.specs.declared.ids.Flow.TheVariants as flow
use Rattle.ca_base.specs.declared.ids.SessionNo.{SessionNo}
use Rattle.ca_base.specs.declared.ids.StreamKind.TheVariants as kind
use Rattle.ca_base.specs.declared.limits.TheConstants.{CLIENTS, ENDPOINTS, MAX_CONNECTION_NAME, NOTICES, SHARED_PERIOD}
use Rattle.wave_format.specs.Format.{frames_of_time}
use Rattle.volume_stack.specs.Scaling.{unit_gain}
use Rattle.buffer_ring.specs.declared.step.EndState.{EndState}
use Rattle.wave_format.specs.declared.format.Format.{Format}
use Rattle.session_manager.specs.declared.session.SessionKey.{SessionKey}
use Rattle.session_manager.specs.Sessions.{SessionList}
use Rattle.ca_stage.specs.Stage.{is_capture}
use Rattle.ca_stage.specs.Order.{RisesFrom, is_among}
use Rattle.ca_stage.proofs.Lists.{all-map, all_found, all_weaker, chosen, found_passes}
use Rattle.ca_machine.specs.declared.state.Client.{Client}
use Rattle.ca_machine.specs.State.{is_client_of, is_connection, live_clients}
use Rattle.ca_machine.specs.Openings.{has_loopback, is_cross_process, kind_opened}
use Rattle.ca_machine.proofs.LiveClients.{found_is_live}
use Rattle.period_engine.specs.declared.entry.StreamEntry.{StreamEntry}
use Rattle.period_engine.specs.Entries.{AreInOrder, IsRested}
use Rattle.service_book.specs.InOrder.{IsBook, IsOpen}
use Rattle.service_book.specs.Openings.{Joins}
use Rattle.service_book.specs.declared.book.Book.{Book}
use Rattle.service_book.specs.declared.opening.Opening.{Opening as Asked}
use Rattle.service_book.specs.declared.opening.OpeningPlan.{OpeningPlan}
use Rattle.service_board.specs.InOrder.{AreAlike, Belongs, InOrder, IsAlike, Seats, scratch_at, suits}
use Rattle.stream_entries.specs.Holding.{is_open_entry}
use Rattle.service_board.proofs.AlikeEntries.{alike_inserted}
use Rattle.service_board.specs.Openings.{IsNewStore, Names, new_entry}
use Rattle.service_board.specs.declared.board.Board.{Board}
use Rattle.service_board.specs.declared.board.Seat.{Seat}
use Rattle.service_board.proofs.Places.{Splits, all_insert, length_insert, numbers, rises_insert, rising_within}

-- ---- the live client of a number

abbrev is_numbered : ℕ → Client → Bool
is_numbered n c = c.client.0 == n

-- a client that is found among later ones has a greater number
found_later : (test : Client → Bool) (low : ℕ) (clients : List Client) (c : Client) →
    RisesFrom low (live_clients clients) → find test clients ≡ Some c → low ≤ c.client.0
found_later test low [] c r f = absurd (none-some c f)
found_later test low (d ∷ clients) c r f = by (test d) f (found_later test (suc d.client.0) clients c r.1)
  where
    by : (b : Bool) → cond b (Some d) (find test clients) ≡ Some c →
        (find test clients ≡ Some c → suc d.client.0 ≤ c.client.0) → low ≤ c.client.0
    by true h later =
        let l = r.0 in
        let e : d.client.0 ≡ c.client.0 = ap (λ (k : Client). k.client.0) (same_Some d c h) in
        omega arith
    by false h later =
        let l = r.0 in
        let k = later h in
        omega arith

-- a call's client is the live one of its number
pub found_live : (conn n low : ℕ) (clients : List Client) (c : Client) → RisesFrom low (live_clients clients) →
    find (is_client_of conn n) clients ≡ Some c → c.client.0 ≡ n → find (is_numbered n) clients ≡ Some c
found_live conn n low [] c r f same = absurd (none-some c f)
found_live conn n low (d ∷ clients) c r f same =
    by (d.client.0 == n) (d.conn.0 == conn) refl f (λ g. found_live conn n (suc d.client.0) clients c r.1 g same)
  where
    by : (a b : Bool) → (d.client.0 == n) ≡ a → cond (a && b) (Some d) (find (is_client_of conn n) clients) ≡ Some c →
        (find (is_client_of conn n) clients ≡ Some c → find (is_numbered n) clients ≡ Some c) →
        cond a (Some d) (find (is_numbered n) clients) ≡ Some c
    by true true t g later = g
    by true false t g later =
        let e = eqb-true d.client.0 n t in
        let l = found_later (is_client_of conn n) (suc d.client.0) clients c r.1 g in
        absurd (omega arith)
    by false b t g later = later g

-- ---- the book

-- a book after a stream joined a session: gains are to be computed
abbrev after_joining : Book → SessionList → Book
after_joining old sessions = record old { sessions = sessions; levels_changed = true }

book_joined : (old : Book) (sessions : SessionList) → IsBook old → IsBook (after_joining old sessions)
book_joined old sessions o = record {
  rooms = record {
    connections = o.rooms.connections;
    clients = o.rooms.clients;
    notices = o.rooms.notices;
  };
  apart = o.apart;
  opens = o.opens;
  clients = o.clients;
  few_clients = o.few_clients;
  made = o.made;
  clients_made = o.clients_made;
  endpoints = o.endpoints;
  added = o.added;
  levels = o.levels;
  owned = o.owned;
}

belongs_joined : {E : Type 0} (old : Book) (sessions : SessionList) (seats : List Seat) (e : StreamEntry E) →
    Belongs old seats e → Belongs (after_joining old sessions) seats e
belongs_joined old sessions seats e b = record {
  client = b.client;
  live = b.live;
  on = b.on;
  opens = b.opens;
  within = b.within;
  gains = λ t. absurd (true≢false t);
}

-- the name of a session that a stream joins fits: it is that of an open connection, or one byte
pub key_fits : {D E : Type 0} (x : Asked) (b : Board D E) (plan : OpeningPlan) → Names x b.book plan → IsBook b.book →
    length plan.key.name ≤ MAX_CONNECTION_NAME
key_fits x b plan n is =
    let c = n.connection in
    let is_open : IsOpen c =
    all_found IsOpen (is_connection x.conn.0) b.book.connections.items c
    (recursion_from_All IsOpen b.book.connections.items is.opens) n.connected in
    subst (λ (k : SessionKey). length k.name ≤ MAX_CONNECTION_NAME) (sym n.key)
    (chosen (λ (k : SessionKey). length k.name ≤ MAX_CONNECTION_NAME) (is_cross_process x.flags)
    (record { endpoint = plan.endpoint; process = 0; guid = x.session; name = 42 ∷ [] })
    (record { endpoint = plan.endpoint; process = c.process; guid = x.session; name = c.name })
    (omega arith) is_open.name)

-- ---- the entries

-- the kind that is opened suits the endpoint
kind_suits : (f : Flow) (flags : ℕ) → suits f (kind_opened f flags) ≡ true
kind_suits flow.Capture flags = refl
kind_suits flow.Render flags = by (has_loopback flags)
  where
    by : (b : Bool) → not (is_capture (if b then kind.Loopback else kind.Render)) ≡ true
    by true = refl
    by false = refl

module _ {D E : Type 0} (state : E → EndState) (x : Asked) (old : Board D E) (plan : OpeningPlan)
    (n : Names x old.book plan) (order : InOrder state old)
    (holds : plan.sizes.period ≤ scratch_at plan.endpoint.0 old.seats.items)
    (alone : All (λ y. is_open_entry plan.endpoint.0 y ≡ true → (plan.exclusive || y.exclusive) ≡ false)
    old.entries.items) (at : ℕ) (session : SessionNo) (store : E) (splits : Splits x.client.0 at old.entries.items)
  where
    abbrev entry : StreamEntry E
    entry = new_entry x plan session store

    numbers_rise : RisesFrom 0 (numbers (insert old.entries.items at entry))
    numbers_rise = rises_insert 0 at entry old.entries.items (omega arith) order.order splits

    -- each entry's client is live
    entry_lives : (e : StreamEntry E) → Belongs old.book old.seats.items e →
        is_among e.client.0 (live_clients old.book.clients.items) ≡ true
    entry_lives e b =
        ap (λ n. is_among n (live_clients old.book.clients.items))
        (sym (found_number b))
        ∙ found_is_live (is_numbered e.client.0) old.book.clients.items b.client b.live
      where
        found_number : (b : Belongs old.book old.seats.items e) → b.client.client.0 ≡ e.client.0
        found_number b =
            eqb-true b.client.client.0 e.client.0
            (found_passes (is_numbered e.client.0) old.book.clients.items b.client b.live)

    new_lives : is_among x.client.0 (live_clients old.book.clients.items) ≡ true
    new_lives =
        ap (λ n. is_among n (live_clients old.book.clients.items)) (sym n.client_is)
        ∙ found_is_live (is_client_of x.conn.0 x.client.0) old.book.clients.items n.named n.found

    all_live : AllByRecursion (λ n. is_among n (live_clients old.book.clients.items) ≡ true)
        (numbers (insert old.entries.items at entry))
    all_live =
        all-map (λ (e : StreamEntry E). is_among e.client.0 (live_clients old.book.clients.items) ≡ true)
        (λ n. is_among n (live_clients old.book.clients.items) ≡ true) (λ e. e.client.0) (λ e h. h)
        (insert old.entries.items at entry)
        (all_insert (λ (e : StreamEntry E). is_among e.client.0 (live_clients old.book.clients.items) ≡ true) at entry
        old.entries.items
        (all_weaker (Belongs old.book old.seats.items) _ entry_lives old.entries.items
        (recursion_from_All (Belongs old.book old.seats.items) old.entries.items order.belong)) new_lives)

    -- fewer than all clients have an entry, for the client of the call has none
    pub has_room : length old.entries.items < CLIENTS
    has_room =
        let all = rising_within 0 (numbers (insert old.entries.items at entry))
        (live_clients old.book.clients.items) numbers_rise order.book.clients all_live in
        let few = order.book.few_clients in
        let live : length (live_clients old.book.clients.items) ≡ length old.book.clients.items =
        length-map old.book.clients.items (λ (c : Client). c.client.0) in
        let count : length (numbers (insert old.entries.items at entry)) ≡ length (insert old.entries.items at entry) =
        length-map (insert old.entries.items at entry) (λ (e : StreamEntry E). e.client.0) in
        let more = length_insert at entry old.entries.items in
        omega arith

    -- ---- the board is in order

    new_rests : IsNewStore state plan store → IsRested state entry
    new_rests is = record {
      fits = record {
        gate = ap (λ (s : EndState). s.gate) is;
        size = ap (λ (s : EndState). s.cap) is;
        position = omega arith;
        offered = omega arith;
        ever = omega arith;
        some_channel = n.format.valid.some_channel;
        few_channels = n.format.valid.few_channels;
      };
      unpicked = refl;
    }

    new_belongs : (sessions : SessionList) → Belongs (after_joining old.book sessions) old.seats.items entry
    new_belongs sessions = record {
      client = n.named;
      live =
          found_live x.conn.0 x.client.0 0 old.book.clients.items n.named order.book.clients n.found n.client_is;
      on = n.on;
      opens = λ unclosed. record {
        endpoint = n.endpoint;
        there = n.there;
        fits = n.format.channels;
        some = n.sizes.some_period;
        longest = n.sizes.longest;
        lasts = λ shared.
            n.sizes.period
            ∙ ap₂ (λ exclusive rate. frames_of_time rate
            (if exclusive && not (x.period == 0) then x.period else SHARED_PERIOD))
            (sym n.exclusive ∙ shared)
            (ap (λ (f : Format). f.rate) (sym n.format.spells) ∙ n.format.rate (sym n.exclusive ∙ shared));
        holds = holds;
        suited =
            subst (λ k. suits n.endpoint.flow k ≡ true) (sym n.kind) (kind_suits n.endpoint.flow x.flags);
        behind = omega arith;
        hears = λ is. omega arith;
      };
      within = All-from_recursion (λ gain. gain ≤ unit_gain) entry.gains
          (omega arith, (omega arith, (omega arith, (omega arith, tt))));
      gains = λ t. absurd (true≢false t);
    }

    all_belong : (sessions : SessionList) →
        All (Belongs (after_joining old.book sessions) old.seats.items) (insert old.entries.items at entry)
    all_belong sessions =
        All-from_recursion (Belongs (after_joining old.book sessions) old.seats.items)
        (insert old.entries.items at entry)
        (all_insert (Belongs (after_joining old.book sessions) old.seats.items) at entry old.entries.items
        (all_weaker (Belongs old.book old.seats.items) (Belongs (after_joining old.book sessions) old.seats.items)
        (belongs_joined old.book sessions old.seats.items) old.entries.items
        (recursion_from_All (Belongs old.book old.seats.items) old.entries.items order.belong)) (new_belongs sessions))

    -- beside an exclusive stream none is open on its endpoint
    new_alike : All (IsAlike entry) old.entries.items
    new_alike =
        All-weaker (λ y. is_open_entry plan.endpoint.0 y ≡ true → (plan.exclusive || y.exclusive) ≡ false) (IsAlike entry)
        (λ y h exclusive opens.
        let own : plan.exclusive ≡ true =
        (and_parts (is_open_entry plan.endpoint.0 entry) plan.exclusive exclusive).1 in
        absurd (true≢false (sym (ap (λ v. v || y.exclusive) own) ∙ h opens))) old.entries.items alone

    old_alike : All (λ y. IsAlike y entry) old.entries.items
    old_alike =
        All-weaker (λ y. is_open_entry plan.endpoint.0 y ≡ true → (plan.exclusive || y.exclusive) ≡ false)
        (λ y. IsAlike y entry)
        (λ y h exclusive opens.
        let its = and_parts (is_open_entry y.endpoint.0 y) y.exclusive exclusive in
        let here : plan.endpoint.0 ≡ y.endpoint.0 =
        eqb-true plan.endpoint.0 y.endpoint.0 (and_parts (plan.endpoint.0 == y.endpoint.0) true opens).0 in
        absurd (true≢false (sym (ap (λ v. plan.exclusive || v) its.1 ∙ or_true plan.exclusive)
        ∙ h (subst (λ k. is_open_entry k y ≡ true) (sym here) its.0)))) old.entries.items alone
      where
        or_true : (v : Bool) → (v || true) ≡ true
        or_true true = refl
        or_true false = refl

    pub opened_order : (new : Board D E) → IsNewStore state plan store → new.seats ≡ old.seats →
        new.drafts ≡ old.drafts → Joins x plan old.book session new.book →
        new.entries.items ≡ insert old.entries.items at entry → vec_capacity old.entries ≤ vec_capacity new.entries →
        InOrder state new
    opened_order new is seats drafts j items more = record {
      order = subst AreInOrder (sym items) numbers_rise;
      rested =
          subst (All (IsRested state)) (sym items)
          (All-from_recursion (IsRested state) (insert old.entries.items at entry)
          (all_insert (IsRested state) at entry old.entries.items
          (recursion_from_All (IsRested state) old.entries.items order.rested) (new_rests is)));
      belong =
          subst (All (Belongs new.book new.seats.items)) (sym items)
          (subst (λ ss. All (Belongs new.book ss) (insert old.entries.items at entry)) (ap (λ v. v.items) (sym seats))
          (subst (λ k. All (Belongs k old.seats.items) (insert old.entries.items at entry)) (sym j.rest)
          (all_belong new.book.sessions)));
      alike =
          subst AreAlike (sym items)
          (alike_inserted at entry old.entries.items order.alike new_alike old_alike (λ exclusive opens. refl));
      seats =
          subst (λ ss. AllZip Seats ss new.book.registry.list) (ap (λ v. v.items) (sym seats))
          (subst (λ (b : Book). AllZip Seats old.seats.items b.registry.list) (sym j.rest) order.seats);
      book = subst IsBook (sym j.rest) (book_joined old.book new.book.sessions order.book);
      room = let room = order.room in omega arith;
      seat_room = subst (λ v. ENDPOINTS ≤ vec_capacity v) (sym seats) order.seat_room;
      draft_room = subst (λ v. NOTICES ≤ vec_capacity v) (sym drafts) order.draft_room;
    }
