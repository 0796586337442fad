-- Calls that move the stream of one entry, and what they leave in order.
use Rattle.std.proofs.Common.{◌≡◌, ℕ, ◌≤◌, ◌==◌, ◌&&◌, List, [], ◌∷◌, map, set, get_or}
use Rattle.std.proofs.Common.{Option, Some, None, refl, sym, ap, ap₂, subst, ◌∙◌, if◌then◌else◌, arith, eq-eqb}
use Rattle.std.specs.List.{All, AllZip, find, slice_get}
use Rattle.std.specs.Vec.{vec_capacity, with_item}
use Rattle.std.proofs.Math.Seq.{map-set_same}
use Rattle.std.proofs.lemmas.Bool.{ne_eqb}
use Rattle.std.proofs.lemmas.List.{set-set}
use Rattle.std.proofs.lemmas.List.Elements.{All-set}
use Rattle.std.proofs.lemmas.Option.{get_or_from_slice_get, same_Some, slice_get_within}
use Rattle.device_io.specs.DeviceLog.{DeviceLog}
use Rattle.ca_base.specs.declared.codes.Hr.{Hr}
use Rattle.ca_base.specs.declared.codes.TheConstants.Hr as hr
use Rattle.ca_base.specs.declared.limits.TheConstants.{CLIENTS, ENDPOINTS, NOTICES}
use Rattle.ca_base.specs.Rows.{Row, first}
use Rattle.volume_stack.specs.Scaling.{unit_gain}
use Rattle.buffer_ring.specs.declared.step.EndState.{EndState}
use Rattle.buffer_ring.specs.declared.step.StoreStep.{StoreStep}
use Rattle.ca_stage.specs.Stage.{BufferData, Stream, is_loopback, is_open, is_open_gate}
use Rattle.ca_stage.specs.Moves.{StreamMove, of_client, moved, playhead_after, stream_after}
use Rattle.ca_stage.specs.Order.{RisesFrom}
use Rattle.ca_stage.specs.Tally.{Tally, tally_after}
use Rattle.ca_stage.proofs.Lists.{map_same}
use Rattle.session_manager.specs.Sessions.{session_at}
use Rattle.ca_machine.specs.State.{State}
use Rattle.device_registry.specs.declared.endpoint.Endpoint.{Endpoint}
use Rattle.device_registry.specs.Endpoints.{is_endpoint}
use Rattle.ca_base.specs.declared.ids.Gate.TheVariants as gate
use Rattle.ca_machine.specs.Plan.{Outcome, Plan, granted}
use Rattle.ca_machine.specs.SharedRows.{stream_plan, with_stream}
use Rattle.ca_machine.specs.View.{AnswersBy, outside}
use Rattle.period_engine.specs.declared.entry.StreamEntry.{StreamEntry}
use Rattle.period_engine.specs.Agreement.{Agrees, AllAgree, ArePacked, data_after, layout_of}
use Rattle.period_engine.specs.Entries.{AreInOrder, IsRested, stream_of, stream_with, streams_of}
use Rattle.period_engine.specs.SubSteps.{IsSameEntry}
use Rattle.service_book.specs.BookState.{book_state}
use Rattle.service_board.specs.Board.{playhead_of, state_of}
use Rattle.service_board.specs.Does.{Does, Made, after_steps, layout_at, store_at}
use Rattle.service_book.specs.InOrder.{IsBook}
use Rattle.service_book.specs.Gains.{gains_if}
use Rattle.service_book.specs.declared.book.Book.{Book}
use Rattle.service_board.specs.InOrder.{AreAlike, IsOn, Belongs, InOrder, Seats, next_at, scratch_at, suits}
use Rattle.reply_payload.specs.declared.packets.TheConstants.{MOST_FRAMES}
use Rattle.service_board.specs.declared.board.Board.{Board}
use Rattle.service_board.specs.declared.board.Seat.{Seat}
use Rattle.service_board.proofs.AlikeEntries.{kept_alike, kept_set}
use Rattle.service_board.proofs.PlainEvents.{answers_refused}
use Rattle.service_board.proofs.OneEntry.{IsSole, agrees_found, layout_found, made_only, only, only_here, packs_only}
use Rattle.service_board.proofs.OneEntry.{sole_there, streams_set}
use Rattle.service_board.proofs.GrantedEvents.{answers_granted}
use Rattle.service_board.proofs.StreamRows.{Opened, grants_outcome, stream_own}

-- the entry at a place became this one, and nothing else was changed
pub record ChangesOne {D E : Type 0} (at : ℕ) (changed : StreamEntry E) (old new : Board D E) : Type 0 where
  pub devices : new.devices ≡ old.devices
  pub book : new.book ≡ old.book
  pub seats : new.seats.items ≡ old.seats.items
  pub seat_room : vec_capacity new.seats ≡ vec_capacity old.seats
  pub draft_room : vec_capacity new.drafts ≡ vec_capacity old.drafts
  pub entries : new.entries.items ≡ set old.entries.items at changed
  pub room : vec_capacity new.entries ≡ vec_capacity old.entries

-- a board in whose entries this one was put at a place
pub sets_one : {D E : Type 0} (b : Board D E) (at : ℕ) (e : StreamEntry E) →
    ChangesOne at e b (record b { entries = with_item b.entries at e })
sets_one b at e = record {
  devices = refl;
  book = refl;
  seats = refl;
  seat_room = refl;
  draft_room = refl;
  entries = refl;
  room = refl;
}

-- and one in which it was put in place of another that was put there
pub sets_again : {D E : Type 0} (b : Board D E) (at : ℕ) (x e : StreamEntry E) →
    ChangesOne at e b (record b { entries = with_item (with_item b.entries at x) at e })
sets_again b at x e = record {
  devices = refl;
  book = refl;
  seats = refl;
  seat_room = refl;
  draft_room = refl;
  entries = set-set b.entries.items at x e;
  room = refl;
}

-- an entry like one that is on its endpoint is on it, if its counts aren't beyond
pub on_kept : {E : Type 0} (endpoints : List Endpoint) (seats : List Seat) (a b : StreamEntry E) → IsSameEntry a b →
    b.position ≤ a.position → b.ever ≤ a.ever → IsOn a endpoints seats → IsOn b endpoints seats
on_kept endpoints seats a b same before offered on = record {
  endpoint = on.endpoint;
  there = ap (λ k. find (is_endpoint k.0) endpoints) same.endpoint ∙ on.there;
  fits = same.channels ∙ on.fits;
  some = subst (λ k. 1 ≤ k) (sym same.period) on.some;
  longest = subst (λ k. k ≤ MOST_FRAMES) (sym same.period) on.longest;
  lasts = λ shared. same.period ∙ on.lasts (sym same.exclusive ∙ shared);
  holds =
      subst (λ k. k ≤ scratch_at b.endpoint.0 seats) (sym same.period)
      (subst (λ k. a.period ≤ scratch_at k.0 seats) (sym same.endpoint) on.holds);
  suited = ap (suits on.endpoint.flow) same.kind ∙ on.suited;
  behind =
      let place : a.position ≤ next_at b.endpoint.0 seats =
      subst (λ k. a.position ≤ next_at k.0 seats) (sym same.endpoint) on.behind in
      omega arith;
  hears = λ loopback.
      let place : a.ever ≤ next_at b.endpoint.0 seats =
      subst (λ k. a.ever ≤ next_at k.0 seats) (sym same.endpoint)
      (on.hears (ap is_loopback (sym same.kind) ∙ loopback)) in
      omega arith;
}

-- an entry still belongs to a book
pub belongs_kept : {E : Type 0} (book : Book) (seats : List Seat) (a b : StreamEntry E) → IsSameEntry a b →
    (b.gate ≡ gate.Open → a.gate ≡ gate.Open) → b.position ≤ a.position → b.ever ≤ a.ever → Belongs book seats a →
    Belongs book seats b
belongs_kept book seats a b same opens before offered h = record {
  client = h.client;
  live = ap (λ n. find (λ c. c.client.0 == n.0) book.clients.items) same.client ∙ h.live;
  on = h.on ∙ ap (λ n. n.0) (sym same.endpoint);
  opens = λ unclosed. on_kept book.registry.list seats a b same before offered (h.opens (opens unclosed));
  within = subst (All (λ gain. gain ≤ unit_gain)) (sym same.gains) h.within;
  gains = λ fresh.
      same.gains
      ∙ h.gains fresh
      ∙ ap₂ (λ v s. gains_if v h.client.levels (session_at s.0 book.sessions.list)) (sym same.exclusive)
      (sym same.session);
}

-- a board stays in order
pub order_kept : {D E : Type 0} (state : E → EndState) (old new : Board D E) (at : ℕ) (a b : StreamEntry E) →
    slice_get old.entries.items at ≡ Some a → (b.gate ≡ gate.Open → a.gate ≡ gate.Open) → ChangesOne at b old new →
    IsSameEntry a b → IsRested state b → b.position ≤ a.position → b.ever ≤ a.ever → InOrder state old →
    InOrder state new
order_kept state old new at a b here opens one same rested before offered order =
    let xs = old.entries.items in
    let within = slice_get_within xs at a here in
    let reads : get_or xs at a ≡ a = get_or_from_slice_get xs at a a here in
    let belonged : Belongs old.book old.seats.items a =
    subst (Belongs old.book old.seats.items) reads (order.belong at a within) in
    record {
      order = subst (λ ys. AreInOrder ys) (sym one.entries)
          (subst (RisesFrom 0)
          (sym (map-set_same (λ e. e.client.0) xs at b a
          (ap (λ n. n.0) same.client ∙ ap (λ e. e.client.0) (sym reads))))
          order.order);
      rested = subst (All (IsRested state)) (sym one.entries) (All-set (IsRested state) xs at b rested order.rested);
      belong = subst (All (Belongs new.book new.seats.items)) (sym one.entries)
          (subst (λ k. All (Belongs k new.seats.items) (set xs at b)) (sym one.book)
          (subst (λ ss. All (Belongs old.book ss) (set xs at b)) (sym one.seats)
          (All-set (Belongs old.book old.seats.items) xs at b
          (belongs_kept old.book old.seats.items a b same opens before offered belonged) order.belong)));
      alike =
          subst AreAlike (sym one.entries)
          (kept_alike xs (set xs at b)
          (kept_set xs at a b here (record {
            endpoint = ap (λ n. n.0) same.endpoint;
            exclusive = same.exclusive;
            period = same.period;
            opens = opens;
          })) order.alike);
      seats = subst (λ ss. AllZip Seats ss new.book.registry.list) (sym one.seats)
          (subst (λ k. AllZip Seats old.seats.items k.registry.list) (sym one.book) order.seats);
      book = subst IsBook (sym one.book) order.book;
      room = subst (λ n. CLIENTS ≤ n) (sym one.room) order.room;
      seat_room = subst (λ n. ENDPOINTS ≤ n) (sym one.seat_room) order.seat_room;
      draft_room = subst (λ n. NOTICES ≤ n) (sym one.draft_room) order.draft_room;
    }

-- the step of a machine that the entry's change is
module _ {D E : Type 0} (faults : D → ℕ) (told : D → Option (List DeviceLog)) (moves : E → List StoreStep → E → Type 0)
    (stays : (a : E) → moves a [] a) (old new : Board D E) (conn at : ℕ) (a b : StreamEntry E)
    (there : Opened conn a.client.0 old at a) (rises : AreInOrder old.entries.items) (one : ChangesOne at b old new)
    (same : b.client ≡ a.client) (ss : List StoreStep) (made : moves a.store ss b.store)
    (packs : ArePacked (layout_of a) ss) where
  abbrev steps : ℕ → List StoreStep
  steps = only a.client.0 ss

  sole : IsSole a old.entries.items at
  sole = sole_there 0 old.entries.items rises at a there.here

  made_all : (client : ℕ) →
      Made moves None (steps client) (store_at client old.entries.items) (store_at client new.entries.items)
  made_all client =
      subst (λ ys. Made moves None (steps client) (store_at client old.entries.items) (store_at client ys))
      (sym one.entries)
      (made_only a b (ap (λ n. n.0) same) moves None stays ss made old.entries.items at sole client)

  packs_all : (client : ℕ) → ArePacked (layout_at client old.entries.items) (steps client)
  packs_all client = packs_only a ss packs old.entries.items at sole client

  module _ (datas : ℕ → BufferData) where
    abbrev datas' : ℕ → BufferData
    datas' = after_steps steps old.entries.items datas

    agree : AllAgree steps datas old.entries.items → Agrees (layout_of a) ss (datas a.client.0)
    agree agrees =
        subst (λ xs. Agrees (layout_of a) xs (datas a.client.0)) (only_here a.client.0 ss)
        (agrees_found a steps datas old.entries.items at sole agrees)

    after_here : datas' a.client.0 ≡ data_after (layout_of a) ss (datas a.client.0)
    after_here =
        ap₂ (λ l xs. data_after l xs (datas a.client.0)) (layout_found a old.entries.items at sole)
        (only_here a.client.0 ss)

    after_others : (n : ℕ) → (a.client.0 ≡ n → ⊥) → datas' n ≡ datas n
    after_others n other =
        ap (λ x. data_after (layout_at n old.entries.items) (if x then ss else []) (datas n))
        (ne_eqb a.client.0 n other)

    -- the state afterwards, if f moves the stream and leaves the others
    state_after : (f : Stream → Stream) → ((s : Stream) → (s.client ≡ a.client.0 → ⊥) → f s ≡ s) →
        f (stream_of datas a) ≡ stream_with (data_after (layout_of a) ss (datas a.client.0)) b → (tally : Tally) →
        state_of datas' tally new
        ≡ book_state old.book (record {
          playheads = map playhead_of old.seats.items;
          streams = map f (streams_of datas old.entries.items);
        }) tally
    state_after f leaves turned tally =
        let streams : streams_of datas' new.entries.items ≡ map f (streams_of datas old.entries.items) =
        ap (streams_of datas') one.entries
        ∙ streams_set a datas datas' f after_others leaves b
        (ap (λ d. stream_with d b) (ap (λ n. datas' n.0) same ∙ after_here) ∙ sym turned)
        old.entries.items at sole in
        ap (λ k. book_state k (record {
          playheads = map playhead_of new.seats.items;
          streams = streams_of datas' new.entries.items;
        }) tally) one.book
        ∙ ap₂ (λ seats xs. book_state old.book (record { playheads = map playhead_of seats; streams = xs }) tally)
        one.seats streams

  -- a move of the client's stream is granted
  module _ (rows : Option Stream → List (Row Hr)) (m : StreamMove) (known : BufferData → Type 0)
      (own : (d : BufferData) → Agrees (layout_of a) ss d → known d → first (rows (Some (stream_with d a))) ≡ None)
      (turns : (d : BufferData) → Agrees (layout_of a) ss d → known d →
      moved m (stream_with d a) ≡ stream_with (data_after (layout_of a) ss d) b) where
    abbrev move_plan : State → Plan
    move_plan st = stream_plan st conn a.client.0 rows (λ s. granted [] (of_client a.client.0 m ∷ []) st)

    leaves_others : (s : Stream) → (s.client ≡ a.client.0 → ⊥) → stream_after (of_client a.client.0 m) s ≡ s
    leaves_others s other =
        ap (λ x. if x && is_open s then moved m s else s) (ne_eqb s.client a.client.0 other)

    moves_it : (d : BufferData) →
        stream_after (of_client a.client.0 m) (stream_with d a) ≡ moved m (stream_with d a)
    moves_it d =
        ap₂ (λ x y. if x && y then moved m (stream_with d a) else stream_with d a)
        (eq-eqb a.client.0 a.client.0 refl) (ap is_open_gate there.opens)

    pub move_does : Does faults told moves None (λ datas. known (datas a.client.0)) old new move_plan hr.S_OK []
    move_does = record {
      steps = steps;
      made = made_all;
      packs = packs_all;
      does = λ datas tally agrees knows.
          let st = state_of datas tally old in
          let agreed = agree datas agrees in
          let left : map (playhead_after (of_client a.client.0 m)) (map playhead_of old.seats.items)
          ≡ map playhead_of old.seats.items =
          map_same (playhead_after (of_client a.client.0 m)) (λ e. refl) (map playhead_of old.seats.items) in
          let after = tally_after tally st.stage (of_client a.client.0 m ∷ []) in
          record {
            tally = after;
            answers =
                subst (λ d. AnswersBy st (move_plan st) hr.S_OK [] (state_of (datas' datas) after new)
                (outside faults told old.devices) (outside faults told d)) (sym one.devices)
                (subst (λ s. AnswersBy st (move_plan st) hr.S_OK [] s (outside faults told old.devices)
                (outside faults told old.devices))
                (sym (state_after datas (stream_after (of_client a.client.0 m)) leaves_others
                (moves_it (datas a.client.0) ∙ turns (datas a.client.0) agreed knows) after
                ∙ ap (λ heads. book_state old.book (record {
                  playheads = heads;
                  streams = map (stream_after (of_client a.client.0 m)) (streams_of datas old.entries.items);
                }) after) (sym left)))
                (answers_granted st (move_plan st) hr.S_OK [] (granted [] (of_client a.client.0 m ∷ []) st).after
                (outside faults told old.devices)
                (grants_outcome (move_plan st) (granted [] (of_client a.client.0 m ∷ []) st)
                (stream_own old conn a.client.0 rows (λ st s. granted [] (of_client a.client.0 m ∷ []) st) at a None
                there datas tally (own (datas a.client.0) agreed knows))
                refl
                (ap (λ o. with_stream st o (λ s. granted [] (of_client a.client.0 m ∷ []) st))
                (there.found datas tally))
                refl)));
          };
    }

  -- a row refuses it for what a look found
  module _ (rows : Option Stream → List (Row Hr)) (outcome : State → Stream → Outcome) (known : BufferData → Type 0)
      (code : Hr)
      (own : (d : BufferData) → Agrees (layout_of a) ss d → known d →
      first (rows (Some (stream_with d a))) ≡ Some code)
      (turns : (d : BufferData) → Agrees (layout_of a) ss d → known d →
      stream_with d a ≡ stream_with (data_after (layout_of a) ss d) b) where
    abbrev look_plan : State → Plan
    look_plan st = stream_plan st conn a.client.0 rows (outcome st)

    pub look_does : Does faults told moves None (λ datas. known (datas a.client.0)) old new look_plan code []
    look_does = record {
      steps = steps;
      made = made_all;
      packs = packs_all;
      does = λ datas tally agrees knows.
          let st = state_of datas tally old in
          let agreed = agree datas agrees in
          record {
            tally = tally;
            answers =
                subst (λ d. AnswersBy st (look_plan st) code [] (state_of (datas' datas) tally new)
                (outside faults told old.devices) (outside faults told d)) (sym one.devices)
                (subst (λ s. AnswersBy st (look_plan st) code [] s (outside faults told old.devices)
                (outside faults told old.devices))
                (sym (state_after datas (λ s. s) (λ s other. refl) (turns (datas a.client.0) agreed knows) tally
                ∙ ap (λ xs. book_state old.book (record {
                  playheads = map playhead_of old.seats.items;
                  streams = xs;
                }) tally) (map_same (λ s. s) (λ s. refl) (streams_of datas old.entries.items))))
                (answers_refused st (look_plan st) code (outside faults told old.devices)
                (stream_own old conn a.client.0 rows outcome at a (Some code) there datas tally
                (own (datas a.client.0) agreed knows))));
          };
    }

-- the layout of a call's stream is found by its client
pub layout_there : {D E : Type 0} (conn client : ℕ) (b : Board D E) (at : ℕ) (e : StreamEntry E) →
    Opened conn client b at e → AreInOrder b.entries.items → layout_at client b.entries.items ≡ layout_of e
layout_there conn client b at e there rises =
    ap (λ n. layout_at n b.entries.items) (sym there.client_is)
    ∙ layout_found e b.entries.items at (sole_there 0 b.entries.items rises at e there.here)

-- the entry of a client, by the client's number
pub by_number : {D E : Type 0} (conn client : ℕ) (b : Board D E) (at : ℕ) (e : StreamEntry E) →
    Opened conn client b at e → Opened conn e.client.0 b at e
by_number conn client b at e there = subst (λ n. Opened conn n b at e) (sym there.client_is) there

-- two reads of one place
pub same_read : {D E : Type 0} (conn client : ℕ) (b : Board D E) (at : ℕ) (x y : StreamEntry E) →
    Opened conn client b at x → Opened conn client b at y → x ≡ y
same_read conn client b at x y there there' = same_Some x y (sym there.here ∙ there'.here)

-- an entry of a board in order is rested
pub rested_at : {D E : Type 0} (state : E → EndState) (b : Board D E) (at : ℕ) (e : StreamEntry E) →
    slice_get b.entries.items at ≡ Some e → InOrder state b → IsRested state e
rested_at state b at e here order =
    subst (IsRested state) (get_or_from_slice_get b.entries.items at e e here)
    (order.rested at e (slice_get_within b.entries.items at e here))

-- the same by the number that a call names
module _ {D E : Type 0} (faults : D → ℕ) (told : D → Option (List DeviceLog)) (moves : E → List StoreStep → E → Type 0)
    (stays : (a : E) → moves a [] a) (old new : Board D E) (conn client at : ℕ) (a b : StreamEntry E)
    (there : Opened conn client old at a) (rises : AreInOrder old.entries.items) (one : ChangesOne at b old new)
    (same : b.client ≡ a.client) (ss : List StoreStep) (made : moves a.store ss b.store)
    (packs : ArePacked (layout_of a) ss) (rows : Option Stream → List (Row Hr)) (known : BufferData → Type 0)
  where
    pub move_done : (m : StreamMove) →
        ((d : BufferData) → Agrees (layout_of a) ss d → known d → first (rows (Some (stream_with d a))) ≡ None) →
        ((d : BufferData) → Agrees (layout_of a) ss d → known d →
        moved m (stream_with d a) ≡ stream_with (data_after (layout_of a) ss d) b) →
        Does faults told moves None (λ datas. known (datas client)) old new
        (λ st. stream_plan st conn client rows (λ s. granted [] (of_client client m ∷ []) st)) hr.S_OK []
    move_done m own turns =
        subst (λ n. Does faults told moves None (λ datas. known (datas n)) old new
        (λ st. stream_plan st conn n rows (λ s. granted [] (of_client n m ∷ []) st)) hr.S_OK []) there.client_is
        (move_does faults told moves stays old new conn at a b (by_number conn client old at a there) rises one
        same ss made packs rows m known own turns)

    pub look_done : (outcome : State → Stream → Outcome) (code : Hr) →
        ((d : BufferData) → Agrees (layout_of a) ss d → known d → first (rows (Some (stream_with d a))) ≡ Some code) →
        ((d : BufferData) → Agrees (layout_of a) ss d → known d →
        stream_with d a ≡ stream_with (data_after (layout_of a) ss d) b) →
        Does faults told moves None (λ datas. known (datas client)) old new
        (λ st. stream_plan st conn client rows (outcome st)) code []
    look_done outcome code own turns =
        subst (λ n. Does faults told moves None (λ datas. known (datas n)) old new
        (λ st. stream_plan st conn n rows (outcome st)) code []) there.client_is
        (look_does faults told moves stays old new conn at a b (by_number conn client old at a there) rises one
        same ss made packs rows outcome known code own turns)
