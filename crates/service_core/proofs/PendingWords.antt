-- Looks at all stores: what they add up to, and that they change nothing.
use Rattle.std.proofs.Common.{◌≡◌, ℕ, ◌+◌, ◌≤◌, List, [], ◌∷◌, map, refl, sym, ap, ap₂, subst, ◌∙◌, arith, sum_by}
use Rattle.std.proofs.Common.{if◌then◌else◌, ◌==◌, Some}
use Rattle.std.specs.List.{All, AllZip}
use Rattle.std.specs.Option.{option_map_or}
use Rattle.std.proofs.lemmas.List.Sums.{sum_by-cons}
use Rattle.std.proofs.lemmas.List.Elements.{All-nil, All-cons, All-head, All-tail}
use Rattle.buffer_ring.specs.declared.step.EndState.{EndState}
use Rattle.buffer_ring.specs.Kept.{Kept, state_of}
use Rattle.ca_base.specs.declared.limits.TheConstants.{CLIENTS}
use Rattle.ca_stage.specs.Stage.{BufferData, Stream, no_data}
use Rattle.ca_stage.specs.Order.{RisesFrom}
use Rattle.ca_stage.specs.Tally.{Tally}
use Rattle.ca_stage.proofs.Lists.{all_weaker}
use Rattle.ca_stage.proofs.MapTallies.{sum_alike, sum_map}
use Rattle.period_engine.specs.declared.entry.StreamEntry.{StreamEntry}
use Rattle.period_engine.specs.Added.{Threads}
use Rattle.period_engine.specs.Entries.{AreInOrder, IsRested, stream_of, stream_with, streams_of}
use Rattle.service_book.specs.BookState.{book_state}
use Rattle.service_board.specs.Board.{playhead_of, state_of as board_state}
use Rattle.service_board.specs.InOrder.{Belongs, InOrder}
use Rattle.service_board.specs.declared.board.Board.{Board}
use Rattle.service_core.specs.Core.{HasSide, HaveSides, IsLooked, LooksAround, core_data, core_datas, core_state}
use Rattle.service_core.specs.declared.both_ends.BothEnds.{BothEnds}
use Rattle.service_board.proofs.AlikeEntries.{IsKept, kept_alike}
use Rattle.service_board.proofs.StreamMoves.{belongs_kept}
use Rattle.service_core.proofs.EntryData.{data_found, each_entry, entry_at}
use Rattle.service_core.proofs.DataEntries.{looked_rested, looked_side, looked_stream, same_but_store}

-- an entry was looked at, and what it has was added
abbrev pub Adds : {F : Type 0} → (F → Kept) → (StreamEntry (BothEnds F) → ℕ) →
    StreamEntry (BothEnds F) → StreamEntry (BothEnds F) → ℕ → ℕ → Type 0
Adds kept has a b old new = IsLooked kept a b × (new ≡ old + has a)

module _ {F : Type 0} (kept : F → Kept) (has : StreamEntry (BothEnds F) → ℕ) where
  pub all_added : (xs ys : List (StreamEntry (BothEnds F))) (old new : ℕ) → Threads (Adds kept has) xs ys old new →
      new ≡ old + sum_by has xs
  all_added [] [] old new h = h ∙ omega arith
  all_added (x ∷ xs) (y ∷ ys) old new h =
      let rest = all_added xs ys h.0 new h.2 in
      let here = h.1.1 in
      let more = sum_by-cons has x xs in
      omega (arith, rest, here, more)
  all_added [] (y ∷ ys) old new h = absurd h
  all_added (x ∷ xs) [] old new h = absurd h

  pub all_looked : (xs ys : List (StreamEntry (BothEnds F))) (old new : ℕ) → Threads (Adds kept has) xs ys old new →
      AllZip (IsLooked kept) xs ys
  all_looked [] [] old new h = tt
  all_looked (x ∷ xs) (y ∷ ys) old new h = (h.1.0, all_looked xs ys h.0 new h.2)
  all_looked [] (y ∷ ys) old new h = absurd h
  all_looked (x ∷ xs) [] old new h = absurd h

-- in order, what an entry counts of its own store adds up to what the streams count
pub sums : {F : Type 0} (kept : F → Kept) (has : StreamEntry (BothEnds F) → ℕ) (counts : Stream → ℕ) →
    ((e : StreamEntry (BothEnds F)) → has e ≡ counts (stream_with (core_data kept e) e)) →
    (xs : List (StreamEntry (BothEnds F))) → AreInOrder xs →
    sum_by has xs ≡ sum_by counts (streams_of (core_datas kept xs) xs)
sums kept has counts each xs order =
    sum_alike has (λ e. counts (stream_of (core_datas kept xs) e)) xs
    (all_weaker (λ e. entry_at e.client.0 xs ≡ Some e) (λ e. has e ≡ counts (stream_of (core_datas kept xs) e))
    (λ e found. each e
    ∙ sym (ap (λ d. counts (stream_with d e))
    (data_found kept e.client.0 xs ∙ ap (λ o. option_map_or (core_data kept) o no_data) found)))
    xs (each_entry xs order))
    ∙ sym (sum_map counts (stream_of (core_datas kept xs)) xs)

module _ {F : Type 0} (kept : F → Kept) where
  -- the data of each client are as before
  one_data : (a b : StreamEntry (BothEnds F)) → IsLooked kept a b → core_data kept b ≡ core_data kept a
  one_data a b looked = ap (λ s. s.buffer_data) (looked_stream kept (λ x. state_of (kept x)) (λ x. refl) a b looked)

  same_datas : (xs ys : List (StreamEntry (BothEnds F))) → AllZip (IsLooked kept) xs ys → (client : ℕ) →
      core_datas kept ys client ≡ core_datas kept xs client
  same_datas [] [] h client = refl
  same_datas (x ∷ xs) (y ∷ ys) h client =
      ap (λ b. if b then core_data kept y else core_datas kept ys client)
      (ap (λ c. c.0 == client) (ap (λ e. e.client) h.0.same))
      ∙ ap₂ (λ d e. if x.client.0 == client then d else e) (one_data x y h.0) (same_datas xs ys h.1 client)
  same_datas [] (y ∷ ys) h client = absurd h
  same_datas (x ∷ xs) [] h client = absurd h

  -- and so are the streams
  streams_with : (datas datas' : ℕ → BufferData) → ((client : ℕ) → datas' client ≡ datas client) →
      (xs ys : List (StreamEntry (BothEnds F))) → AllZip (IsLooked kept) xs ys →
      streams_of datas' ys ≡ streams_of datas xs
  streams_with datas datas' same [] [] h = refl
  streams_with datas datas' same (x ∷ xs) (y ∷ ys) h =
      ap₂ (λ s ss. s ∷ ss)
      (ap (λ e. stream_with (datas' e.client.0) e) h.0.same ∙ ap (λ d. stream_with d x) (same x.client.0))
      (streams_with datas datas' same xs ys h.1)
  streams_with datas datas' same [] (y ∷ ys) h = absurd h
  streams_with datas datas' same (x ∷ xs) [] h = absurd h

  -- what holds of each holds of each
  each_looked : (P : StreamEntry (BothEnds F) → Type 0) →
      ((a b : StreamEntry (BothEnds F)) → IsLooked kept a b → P a → P b) →
      (xs ys : List (StreamEntry (BothEnds F))) → AllZip (IsLooked kept) xs ys → All P xs → All P ys
  each_looked P keeps [] [] h all = All-nil P
  each_looked P keeps (x ∷ xs) (y ∷ ys) h all =
      All-cons P y ys (keeps x y h.0 (All-head P x xs all)) (each_looked P keeps xs ys h.1 (All-tail P x xs all))
  each_looked P keeps [] (y ∷ ys) h all = absurd h
  each_looked P keeps (x ∷ xs) [] h all = absurd h

  all_kept : (xs ys : List (StreamEntry (BothEnds F))) → AllZip (IsLooked kept) xs ys → AllZip IsKept xs ys
  all_kept [] [] h = tt
  all_kept (a ∷ xs) (b ∷ ys) h = (
    record {
      endpoint = ap (λ e. e.endpoint.0) h.0.same;
      exclusive = ap (λ e. e.exclusive) h.0.same;
      period = ap (λ e. e.period) h.0.same;
      opens = λ opens. sym (ap (λ e. e.gate) h.0.same) ∙ opens;
    },
    all_kept xs ys h.1,
  )
  all_kept [] (b ∷ ys) h = absurd h
  all_kept (a ∷ xs) [] h = absurd h

  same_clients : (xs ys : List (StreamEntry (BothEnds F))) → AllZip (IsLooked kept) xs ys →
      map (λ e. e.client.0) ys ≡ map (λ e. e.client.0) xs
  same_clients [] [] h = refl
  same_clients (x ∷ xs) (y ∷ ys) h =
      ap₂ (λ n ns. n ∷ ns) (ap (λ e. e.client.0) h.0.same) (same_clients xs ys h.1)
  same_clients [] (y ∷ ys) h = absurd h
  same_clients (x ∷ xs) [] h = absurd h

  module _ {D : Type 0} (state : F → EndState) (whole : (x : F) → state_of (kept x) ≡ state x)
      (old new : Board D (BothEnds F)) (around : LooksAround kept old new) where
    -- the state is as before, with any data of the streams, and with those of the stores
    pub looked_state : (datas : ℕ → BufferData) (tally : Tally) →
        board_state datas tally new ≡ board_state datas tally old
    looked_state datas tally =
        ap (λ b. board_state datas tally b) around.same
        ∙ ap (λ streams. book_state old.book (record {
          playheads = map playhead_of old.seats.items;
          streams = streams;
        }) tally)
        (streams_with datas datas (λ client. refl) old.entries.items new.entries.items around.looked)

    pub around_state : (tally : Tally) → core_state kept tally new ≡ core_state kept tally old
    around_state tally =
        ap (λ b. core_state kept tally b) around.same
        ∙ ap (λ streams. book_state old.book (record {
          playheads = map playhead_of old.seats.items;
          streams = streams;
        }) tally)
        (streams_with (core_datas kept old.entries.items) (core_datas kept new.entries.items)
        (same_datas old.entries.items new.entries.items around.looked) old.entries.items new.entries.items
        around.looked)

    pub around_sides : HaveSides kept old → HaveSides kept new
    around_sides sides =
        each_looked (HasSide kept) (λ a b looked has. looked_side kept state whole a b looked has) old.entries.items
        new.entries.items around.looked sides

    pub around_order : InOrder (λ ends. state ends.store) old → InOrder (λ ends. state ends.store) new
    around_order order =
        subst (λ b. InOrder (λ ends. state ends.store) b) (sym around.same) (record {
          order = subst (RisesFrom 0) (sym (same_clients old.entries.items new.entries.items around.looked))
              order.order;
          rested = each_looked (IsRested (λ ends. state ends.store))
              (λ a b looked rested. looked_rested kept state whole a b looked rested) old.entries.items
              new.entries.items
              around.looked order.rested;
          alike = kept_alike old.entries.items new.entries.items
              (all_kept old.entries.items new.entries.items around.looked) order.alike;
          belong = each_looked (Belongs old.book old.seats.items)
              (λ a b looked here. belongs_kept old.book old.seats.items a b (same_but_store a b looked.same)
              (λ opens. sym (ap (λ e. e.gate) looked.same) ∙ opens) (before a b looked) (counted a b looked) here)
              old.entries.items new.entries.items around.looked order.belong;
          seats = order.seats;
          book = order.book;
          room = subst (λ n. CLIENTS ≤ n) (sym around.room) order.room;
          seat_room = order.seat_room;
          draft_room = order.draft_room;
        })
      where
        before : (a b : StreamEntry (BothEnds F)) → IsLooked kept a b → b.position ≤ a.position
        before a b looked = let same = ap (λ e. e.position) looked.same in omega (arith, same)

        counted : (a b : StreamEntry (BothEnds F)) → IsLooked kept a b → b.ever ≤ a.ever
        counted a b looked = let same = ap (λ e. e.ever) looked.same in omega (arith, same)
