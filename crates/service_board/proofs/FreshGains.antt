-- A board whose gains were computed anew is in order.
use Rattle.std.proofs.Common.{◌≡◌, ◌≤◌, List, [], ◌∷◌, length, map, false, refl, sym, ap, ap₂, subst, ◌∙◌}
use Rattle.std.specs.List.{All, AllByRecursion, AllZip}
use Rattle.std.specs.Vec.{vec_capacity, with_items}
use Rattle.std.proofs.lemmas.List.{with_items_is}
use Rattle.std.proofs.lemmas.List.Elements.{All-from_recursion, recursion_from_All}
use Rattle.ca_base.specs.declared.limits.TheConstants.{CLIENTS, ENDPOINTS, NOTICES}
use Rattle.buffer_ring.specs.declared.step.EndState.{EndState}
use Rattle.ca_stage.specs.Order.{RisesFrom}
use Rattle.period_engine.specs.declared.entry.StreamEntry.{StreamEntry}
use Rattle.period_engine.specs.Entries.{IsRested}
use Rattle.service_book.specs.InOrder.{IsBook}
use Rattle.service_book.specs.declared.book.Book.{Book}
use Rattle.service_board.specs.Gains.{HasSameStream}
use Rattle.stream_entries.specs.Gains.{HasClient, Regains}
use Rattle.service_board.specs.InOrder.{Belongs, InOrder, Seats}
use Rattle.service_board.proofs.AlikeEntries.{IsKept, kept_alike}
use Rattle.service_board.specs.declared.board.Board.{Board}
use Rattle.service_board.specs.declared.board.Seat.{Seat}

-- the client of an entry that belongs to a book
pub have_clients : {E : Type 0} (book : Book) (seats : List Seat) (xs : List (StreamEntry E)) →
    All (Belongs book seats) xs → All (HasClient book) xs
have_clients book seats xs all k d lt =
    let belongs = all k d lt in
    record { client = belongs.client; live = belongs.live }

-- the book when the gains were computed
abbrev fresh_book : Book → Book
fresh_book book = record book { levels_changed = false }

is_fresh_book : (book : Book) → IsBook book → IsBook (fresh_book book)
is_fresh_book book h = record {
  rooms = record {
    connections = h.rooms.connections;
    clients = h.rooms.clients;
    notices = h.rooms.notices;
  };
  apart = h.apart;
  opens = h.opens;
  clients = h.clients;
  few_clients = h.few_clients;
  made = h.made;
  clients_made = h.clients_made;
  endpoints = h.endpoints;
  added = h.added;
  levels = h.levels;
  owned = h.owned;
}

module _ {E : Type 0} (book : Book) where
  -- what was computed anew has the same streams
  pub regained_same : (xs ys : List (StreamEntry E)) → AllZip (Regains book) xs ys → AllZip HasSameStream xs ys
  regained_same [] [] h = tt
  regained_same (x ∷ xs) (y ∷ ys) h = (h.0.same, regained_same xs ys h.1)
  regained_same [] (y ∷ ys) h = absurd h
  regained_same (x ∷ xs) [] h = absurd h

  clients_same : (xs ys : List (StreamEntry E)) → AllZip (Regains book) xs ys →
      map (λ e. e.client.0) ys ≡ map (λ e. e.client.0) xs
  clients_same [] [] h = refl
  clients_same (x ∷ xs) (y ∷ ys) h =
      ap₂ (λ n ns. n ∷ ns) (ap (λ (e : StreamEntry E). e.client.0) h.0.same) (clients_same xs ys h.1)
  clients_same [] (y ∷ ys) h = absurd h
  clients_same (x ∷ xs) [] h = absurd h

  rested_same : (state : E → EndState) (xs ys : List (StreamEntry E)) → AllZip (Regains book) xs ys →
      AllByRecursion (IsRested state) xs → AllByRecursion (IsRested state) ys
  rested_same state [] [] h rested = tt
  rested_same state (x ∷ xs) (y ∷ ys) h rested = (
    subst (IsRested state) (sym h.0.same) (record {
      fits = record {
        gate = rested.0.fits.gate;
        size = rested.0.fits.size;
        position = rested.0.fits.position;
        offered = rested.0.fits.offered;
        ever = rested.0.fits.ever;
        some_channel = rested.0.fits.some_channel;
        few_channels = rested.0.fits.few_channels;
      };
      unpicked = rested.0.unpicked;
    }),
    rested_same state xs ys h.1 rested.1,
  )
  rested_same state [] (y ∷ ys) h rested = absurd h
  rested_same state (x ∷ xs) [] h rested = absurd h

  one_belongs : (seats : List Seat) (a b : StreamEntry E) → Regains book a b → Belongs book seats a →
      Belongs (fresh_book book) seats b
  one_belongs seats a b regains h =
      subst (Belongs (fresh_book book) seats) (sym regains.same) (record {
        client = h.client;
        live = h.live;
        on = h.on;
        opens = λ unclosed.
            let on = h.opens unclosed in
            record {
              endpoint = on.endpoint;
              there = on.there;
              fits = on.fits;
              some = on.some;
              longest = on.longest;
              lasts = on.lasts;
              holds = on.holds;
              suited = on.suited;
              behind = on.behind;
              hears = on.hears;
            };
        within = regains.within;
        gains = λ fresh. regains.gains h.client h.live;
      })

  all_belong : (seats : List Seat) (xs ys : List (StreamEntry E)) → AllZip (Regains book) xs ys →
      AllByRecursion (Belongs book seats) xs → AllByRecursion (Belongs (fresh_book book) seats) ys
  all_belong seats [] [] h belong = tt
  all_belong seats (x ∷ xs) (y ∷ ys) h belong =
      (one_belongs seats x y h.0 belong.0, all_belong seats xs ys h.1 belong.1)
  all_belong seats [] (y ∷ ys) h belong = absurd h
  all_belong seats (x ∷ xs) [] h belong = absurd h

-- all but the gains is as it was
kept_regained : {E : Type 0} (book : Book) (xs ys : List (StreamEntry E)) → AllZip (Regains book) xs ys →
    AllZip IsKept xs ys
kept_regained book [] [] h = tt
kept_regained book (x ∷ xs) (y ∷ ys) h = (
  record {
    endpoint = ap (λ e. e.endpoint.0) h.0.same;
    exclusive = ap (λ e. e.exclusive) h.0.same;
    period = ap (λ e. e.period) h.0.same;
    opens = λ opens. sym (ap (λ e. e.gate) h.0.same) ∙ opens;
  },
  kept_regained book xs ys h.1,
)
kept_regained book [] (y ∷ ys) h = absurd h
kept_regained book (x ∷ xs) [] h = absurd h

-- what was computed anew of a board's entries is there
pub regained_there : {D E : Type 0} (old : Board D E) (xs ws : List (StreamEntry E)) → xs ≡ old.entries.items →
    length ws ≡ length xs → AllZip (Regains old.book) xs ws →
    AllZip (Regains old.book) old.entries.items (with_items old.entries ws).items
regained_there old xs ws read size regains =
    subst (AllZip (Regains old.book) old.entries.items)
    (sym (with_items_is old.entries ws (size ∙ ap length read ∙ sym old.entries.ok.0)))
    (subst (λ zs. AllZip (Regains old.book) zs ws) read regains)

-- a board in order stays so
pub fresh_order : {D E : Type 0} (state : E → EndState) (old new : Board D E) → InOrder state old →
    new.book ≡ fresh_book old.book → new.seats ≡ old.seats → new.drafts ≡ old.drafts →
    vec_capacity new.entries ≡ vec_capacity old.entries →
    AllZip (Regains old.book) old.entries.items new.entries.items → InOrder state new
fresh_order state old new order book seats drafts room regains =
    let xs = old.entries.items in
    let ys = new.entries.items in
    record {
      order = subst (RisesFrom 0) (sym (clients_same old.book xs ys regains)) order.order;
      rested =
          All-from_recursion (IsRested state) ys
          (rested_same old.book state xs ys regains (recursion_from_All (IsRested state) xs order.rested));
      belong =
          subst (λ k. All (Belongs k new.seats.items) ys) (sym book)
          (subst (λ s. All (Belongs (fresh_book old.book) s.items) ys) (sym seats)
          (All-from_recursion (Belongs (fresh_book old.book) old.seats.items) ys
          (all_belong old.book old.seats.items xs ys regains
          (recursion_from_All (Belongs old.book old.seats.items) xs order.belong))));
      alike = kept_alike xs ys (kept_regained old.book xs ys regains) order.alike;
      seats =
          subst (λ k. AllZip Seats new.seats.items k.registry.list) (sym book)
          (subst (λ s. AllZip Seats s.items old.book.registry.list) (sym seats) order.seats);
      book = subst IsBook (sym book) (is_fresh_book old.book order.book);
      room = subst (λ n. CLIENTS ≤ n) (sym room) order.room;
      seat_room = subst (λ s. ENDPOINTS ≤ vec_capacity s) (sym seats) order.seat_room;
      draft_room = subst (λ v. NOTICES ≤ vec_capacity v) (sym drafts) order.draft_room;
    }
