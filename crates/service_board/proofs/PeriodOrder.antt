-- A board is in order after a period.
use Rattle.std.proofs.Common.{◌≡◌, ℕ, zero, suc, ◌+◌, ◌≤◌, ◌==◌, ◌&&◌, List, [], ◌∷◌, map, Bool, true, false}
use Rattle.std.proofs.Common.{Option, Some, None, refl, sym, ap, ap₂, ◌∙◌, subst, arith, eqb-true, if◌then◌else◌}
use Rattle.std.proofs.Common.{slice_get, slice_set}
use Rattle.std.specs.List.{All, AllByRecursion, AllZip, find}
use Rattle.std.specs.Option.{option_map}
use Rattle.std.specs.Vec.{vec_capacity}
use Rattle.std.proofs.lemmas.List.Elements.{All-from_recursion, recursion_from_All}
use Rattle.std.proofs.lemmas.Option.{none-some, same_Some}
use Rattle.device_io.specs.DeviceLog.{DeviceLog}
use Rattle.ca_base.specs.declared.ids.SessionNo.{SessionNo}
use Rattle.ca_base.specs.declared.ids.Gate.TheVariants as gate
use Rattle.ca_base.specs.declared.limits.TheConstants.{CLIENTS, ENDPOINTS, NOTICES, SHARED_PERIOD}
use Rattle.wave_format.specs.Format.{frames_of_time}
use Rattle.volume_stack.specs.Scaling.{unit_gain}
use Rattle.buffer_ring.specs.declared.step.EndState.{EndState}
use Rattle.buffer_ring.specs.declared.step.StoreStep.{StoreStep}
use Rattle.ca_stage.specs.Stage.{Frame, Playhead, Stream, is_loopback}
use Rattle.ca_stage.specs.Moves.{Mixing, finished, playhead_after}
use Rattle.ca_stage.specs.Fates.{place_of}
use Rattle.ca_stage.specs.Order.{RisesFrom}
use Rattle.ca_stage.proofs.Lists.{chosen, find_map, found_passes}
use Rattle.session_manager.specs.declared.session.Session.{Session}
use Rattle.session_manager.specs.Sessions.{session_at}
use Rattle.ca_machine.specs.declared.state.Client.{Client}
use Rattle.device_registry.specs.declared.endpoint.Endpoint.{Endpoint}
use Rattle.device_registry.specs.Endpoints.{changed, is_endpoint}
use Rattle.period_engine.specs.declared.entry.StreamEntry.{StreamEntry}
use Rattle.period_engine.specs.Entries.{IsRested}
use Rattle.service_book.specs.InOrder.{IsBook}
use Rattle.service_book.specs.Gains.{gains_if}
use Rattle.service_book.specs.declared.book.Book.{Book}
use Rattle.service_book.proofs.Finding.{find_mapped}
use Rattle.service_board.specs.Board.{playhead_of}
use Rattle.service_board.specs.Due.{FindsDue}
use Rattle.service_board.specs.InOrder.{scratch_at, Belongs, InOrder, IsOn, Seats, is_seat, next_at, suits}
use Rattle.service_board.specs.Plays.{AllGo, GoesBy, Plays, StaysNear, plays_on}
use Rattle.reply_payload.specs.declared.packets.TheConstants.{MOST_FRAMES}
use Rattle.stream_entries.specs.Holding.{period_frames}
use Rattle.service_board.specs.declared.board.Board.{Board}
use Rattle.service_board.specs.declared.board.Seat.{Seat}
use Rattle.service_board.proofs.ByClient.{clients_stay}
use Rattle.service_board.proofs.ChangedEndpoints.{found_changed}
use Rattle.service_board.proofs.AlikeEntries.{IsKept, kept_alike, scratch_of, scratch_stays}
use Rattle.service_board.proofs.DuePeriods.{next_by_heads}
use Rattle.service_board.proofs.PeriodDoes.{any_mixing, heads_by, heard}
use Rattle.service_board.proofs.PeriodNeeds.{end_gains}

-- ---- endpoints

-- an endpoint that was found is found, with its flow and its format
pub record KeepsPlace (old new : List Endpoint) (n : ℕ) (e : Endpoint) : Type 0 where
  pub endpoint : Endpoint
  pub found : find (is_endpoint n) new ≡ Some endpoint
  pub flow : endpoint.flow ≡ e.flow
  pub format : endpoint.format ≡ e.format

abbrev one : ℕ → (Endpoint → Endpoint) → Endpoint → Endpoint
one number f e = if is_endpoint number e then f e else e

pub keeps_place : (number : ℕ) (f : Endpoint → Endpoint) → ((e : Endpoint) → (f e).no ≡ e.no) →
    ((e : Endpoint) → (f e).flow ≡ e.flow) → ((e : Endpoint) → (f e).format ≡ e.format) →
    (endpoints new : List Endpoint) → new ≡ changed number f endpoints → (n : ℕ) (e : Endpoint) →
    find (is_endpoint n) endpoints ≡ Some e → KeepsPlace endpoints new n e
keeps_place number f same flow format endpoints new is n e found = record {
  endpoint = one number f e;
  found =
      ap (find (is_endpoint n)) is
      ∙ found_changed number f same n endpoints
      ∙ ap (option_map (one number f)) found;
  flow = chosen (λ (y : Endpoint). y.flow ≡ e.flow) (is_endpoint number e) (f e) e (flow e) refl;
  format = chosen (λ (y : Endpoint). y.format ≡ e.format) (is_endpoint number e) (f e) e (format e) refl;
}

-- ---- next places

-- the next place of an endpoint in a list of playheads
abbrev next_in : ℕ → List Playhead → ℕ
next_in n heads = place_of (find (λ e. e.number == n) heads)

number_stays : (m : Mixing) (n : ℕ) (e : Playhead) →
    ((playhead_after (finished m true) e).number == n) ≡ (e.number == n)
number_stays m n e = go (e.number == m.endpoint)
  where
    go : (b : Bool) → ((if b then record e { next = e.next + m.frames } else e).number == n) ≡ (e.number == n)
    go true = refl
    go false = refl

-- what a whole period adds to a playhead
brought : (m : Mixing) (n : ℕ) (o : Option Playhead) → ((e : Playhead) → o ≡ Some e → e.number ≡ n) →
    (n ≡ m.endpoint → (e : Playhead) × (o ≡ Some e)) →
    place_of o + (if n == m.endpoint then m.frames else 0) ≤ place_of (option_map (playhead_after (finished m true)) o)
brought m n None own some = go (n == m.endpoint) refl
  where
    go : (b : Bool) → (n == m.endpoint) ≡ b → 0 + (if b then m.frames else 0) ≤ 0
    go true h = absurd (none-some _ (some (eqb-true n m.endpoint h)).1)
    go false h = omega arith
brought m n (Some e) own some =
    subst (λ k. e.next + (if k == m.endpoint then m.frames else 0) ≤ (playhead_after (finished m true) e).next)
    (own e refl) (go (e.number == m.endpoint))
  where
    go : (b : Bool) → e.next + (if b then m.frames else 0)
        ≤ (if b then record e { next = e.next + m.frames } else e).next
    go true = omega arith
    go false = omega arith

whole_next : (m : Mixing) (n : ℕ) (heads : List Playhead) →
    (n ≡ m.endpoint → (e : Playhead) × (find (λ e. e.number == n) heads ≡ Some e)) →
    next_in n heads + (if n == m.endpoint then m.frames else 0)
    ≤ next_in n (map (playhead_after (finished m true)) heads)
whole_next m n heads some =
    subst (λ o. next_in n heads + (if n == m.endpoint then m.frames else 0) ≤ place_of o)
    (sym (find_map (λ e. e.number == n) (playhead_after (finished m true)) (number_stays m n) heads))
    (brought m n (find (λ e. e.number == n) heads)
    (λ e found. eqb-true e.number n (found_passes (λ (e : Playhead). e.number == n) heads e found)) some)

next_rises : (m : Mixing) (whole : Bool) (n : ℕ) (heads : List Playhead) →
    (n ≡ m.endpoint → (e : Playhead) × (find (λ e. e.number == n) heads ≡ Some e)) →
    next_in n heads + (if whole && n == m.endpoint then m.frames else 0) ≤ next_in n (heads_by m whole heads)
next_rises m true n heads some = whole_next m n heads some
next_rises m false n heads some = omega arith

-- ---- seats

-- a seat is set
pub zip_set_seat : (seats : List Seat) (endpoints : List Endpoint) (at : ℕ) (s : Seat) (e : Endpoint) → Seats s e →
    slice_get endpoints at ≡ Some e → AllZip Seats seats endpoints → AllZip Seats (slice_set seats at s) endpoints
zip_set_seat [] [] at s e fits here h = tt
zip_set_seat (x ∷ seats) (y ∷ endpoints) zero s e fits here h =
    (subst (Seats s) (sym (same_Some y e here)) fits, h.1)
zip_set_seat (x ∷ seats) (y ∷ endpoints) (suc at) s e fits here h =
    (h.0, zip_set_seat seats endpoints at s e fits here h.1)
zip_set_seat [] (y ∷ endpoints) at s e fits here h = absurd h
zip_set_seat (x ∷ seats) [] at s e fits here h = absurd h

-- ---- entries

-- what a period may add to the counts of an entry that have to stay behind the next place of its endpoint
pub record StaysBehind {E : Type 0} (number frames : ℕ) (whole : Bool) (a b : StreamEntry E) : Type 0 where
  pub position : b.position ≤ a.position + (if whole && a.endpoint.0 == number then frames else 0)
  pub heard : is_loopback a.kind ≡ true → b.ever ≤ a.ever + (if whole && a.endpoint.0 == number then frames else 0)
  pub opens : b.gate ≡ gate.Open → a.gate ≡ gate.Open

all_behind : {E : Type 0} (number frames : ℕ) (whole : Bool) (xs ys : List (StreamEntry E)) →
    AllZip (StaysNear number frames whole) xs ys → AllZip (StaysBehind number frames whole) xs ys
all_behind number frames whole [] [] h = tt
all_behind number frames whole (x ∷ xs) (y ∷ ys) h = (
  record { position = h.0.position; heard = λ kind. h.0.ever; opens = h.0.opens },
  all_behind number frames whole xs ys h.1,
)
all_behind number frames whole [] (y ∷ ys) h = absurd h
all_behind number frames whole (x ∷ xs) [] h = absurd h

module _ {E : Type 0} (moves : E → List StoreStep → E → Type 0) (f : Stream → Stream) (number frames : ℕ) (whole : Bool)
    (book book' : Book) (seats seats' : List Seat) (clients : book'.clients.items ≡ book.clients.items)
    (sessions : book'.sessions ≡ book.sessions) (changed : book'.levels_changed ≡ book.levels_changed)
    (keeps : (n : ℕ) (e : Endpoint) → find (is_endpoint n) book.registry.list ≡ Some e →
    KeepsPlace book.registry.list book'.registry.list n e)
    (next : (n : ℕ) → next_at n seats + (if whole && n == number then frames else 0) ≤ next_at n seats')
    (scratch : (n : ℕ) → scratch_at n seats' ≡ scratch_at n seats)
  where
    -- what was not beyond the next place of an entry's endpoint isn't after the period
    still_behind : (n m p q : ℕ) → m ≡ n → q ≤ p + (if whole && n == number then frames else 0) → p ≤ next_at n seats →
        q ≤ next_at m seats'
    still_behind n m p q same near behind =
        let rises = next n in
        let within : q ≤ next_at n seats' = omega arith in
        subst (λ k. q ≤ next_at k seats') (sym same) within

    still_on : (steps : List StoreStep) (a b : StreamEntry E) → GoesBy moves f steps a b →
        StaysBehind number frames whole a b → IsOn a book.registry.list seats → IsOn b book'.registry.list seats'
    still_on steps a b goes near on =
        let kept = keeps a.endpoint.0 on.endpoint on.there in
        let same : b.endpoint.0 ≡ a.endpoint.0 = ap (λ e. e.0) goes.same.endpoint in
        record {
          endpoint = kept.endpoint;
          there = ap (λ k. find (is_endpoint k) book'.registry.list) same ∙ kept.found;
          fits = goes.same.channels ∙ on.fits ∙ ap (λ format. format.channels) (sym kept.format);
          some = subst (λ k. 1 ≤ k) (sym goes.same.period) on.some;
          longest = subst (λ k. k ≤ MOST_FRAMES) (sym goes.same.period) on.longest;
          lasts = λ shared.
              goes.same.period
              ∙ on.lasts (sym goes.same.exclusive ∙ shared)
              ∙ ap (λ format. frames_of_time format.rate SHARED_PERIOD) (sym kept.format);
          holds =
              subst (λ k. k ≤ scratch_at b.endpoint.0 seats') (sym goes.same.period)
              (subst (λ k. a.period ≤ k) (sym (ap (λ n. scratch_at n seats') same ∙ scratch a.endpoint.0)) on.holds);
          suited = ap₂ suits kept.flow goes.same.kind ∙ on.suited;
          behind = still_behind a.endpoint.0 b.endpoint.0 a.position b.position same near.position on.behind;
          hears = λ kind.
              let before = ap is_loopback (sym goes.same.kind) ∙ kind in
              still_behind a.endpoint.0 b.endpoint.0 a.ever b.ever same (near.heard before) (on.hears before);
        }

    one_belongs : (steps : List StoreStep) (a b : StreamEntry E) → GoesBy moves f steps a b →
        StaysBehind number frames whole a b → Belongs book seats a → Belongs book' seats' b
    one_belongs steps a b goes near h =
        let client : b.client.0 ≡ a.client.0 = ap (λ c. c.0) goes.same.client in
        let endpoint : b.endpoint.0 ≡ a.endpoint.0 = ap (λ e. e.0) goes.same.endpoint in
        record {
          client = h.client;
          live =
              ap (λ n. find (λ (c : Client). c.client.0 == n) book'.clients.items) client
              ∙ ap (find (λ (c : Client). c.client.0 == a.client.0)) clients
              ∙ h.live;
          on = h.on ∙ sym endpoint;
          opens = λ unclosed. still_on steps a b goes near (h.opens (near.opens unclosed));
          within = subst (All (λ gain. gain ≤ unit_gain)) (sym goes.same.gains) h.within;
          gains = λ fresh.
              goes.same.gains
              ∙ h.gains (sym changed ∙ fresh)
              ∙ ap₂ (λ (s : SessionNo) (list : List Session).
              gains_if a.exclusive h.client.levels (session_at s.0 list)) (sym goes.same.session)
              (ap (λ s. s.list) (sym sessions))
              ∙ ap (λ v. gains_if v h.client.levels (session_at b.session.0 book'.sessions.list))
              (sym goes.same.exclusive);
        }

    are_kept : (steps : ℕ → List StoreStep) (xs ys : List (StreamEntry E)) → AllGo moves f steps xs ys →
        AllZip (StaysBehind number frames whole) xs ys → AllZip IsKept xs ys
    are_kept steps [] [] h near = tt
    are_kept steps (x ∷ xs) (y ∷ ys) h near = (
      record {
        endpoint = ap (λ e. e.0) h.0.same.endpoint;
        exclusive = h.0.same.exclusive;
        period = h.0.same.period;
        opens = near.0.opens;
      },
      are_kept steps xs ys h.1 near.1,
    )
    are_kept steps [] (y ∷ ys) h near = absurd h
    are_kept steps (x ∷ xs) [] h near = absurd h

    pub all_belong : (steps : ℕ → List StoreStep) (xs ys : List (StreamEntry E)) → AllGo moves f steps xs ys →
        AllZip (StaysBehind number frames whole) xs ys → AllByRecursion (Belongs book seats) xs →
        AllByRecursion (Belongs book' seats') ys
    all_belong steps [] [] h near belong = tt
    all_belong steps (x ∷ xs) (y ∷ ys) h near belong =
        (one_belongs (steps x.client.0) x y h.0 near.0 belong.0, all_belong steps xs ys h.1 near.1 belong.1)
    all_belong steps [] (y ∷ ys) h near belong = absurd h
    all_belong steps (x ∷ xs) [] h near belong = absurd h

-- ---- the board

-- after entries went on, and no count went beyond its endpoint's next place
module _ {D E : Type 0} (moves : E → List StoreStep → E → Type 0) (state : E → EndState) (b new : Board D E)
    (order : InOrder state b) (f : Stream → Stream) (steps : ℕ → List StoreStep) (number frames : ℕ) (whole : Bool)
    (went : AllGo moves f steps b.entries.items new.entries.items)
    (places : AllZip (StaysBehind number frames whole) b.entries.items new.entries.items)
    (next : (n : ℕ) → next_at n b.seats.items + (if whole && n == number then frames else 0)
    ≤ next_at n new.seats.items) (sizes : map scratch_of new.seats.items ≡ map scratch_of b.seats.items) where
  pub order_after : All (IsRested state) new.entries.items → new.book.clients.items ≡ b.book.clients.items →
      new.book.sessions ≡ b.book.sessions → new.book.levels_changed ≡ b.book.levels_changed →
      ((n : ℕ) (e : Endpoint) → find (is_endpoint n) b.book.registry.list ≡ Some e →
      KeepsPlace b.book.registry.list new.book.registry.list n e) →
      AllZip Seats new.seats.items new.book.registry.list → IsBook new.book →
      CLIENTS ≤ vec_capacity new.entries → ENDPOINTS ≤ vec_capacity new.seats → NOTICES ≤ vec_capacity new.drafts →
      InOrder state new
  order_after rested clients sessions changed keeps seats book room seat_room draft_room = record {
    order =
        subst (RisesFrom 0) (sym (clients_stay moves f steps b.entries.items new.entries.items went)) order.order;
    rested = rested;
    belong =
        All-from_recursion (Belongs new.book new.seats.items) new.entries.items
        (all_belong moves f number frames whole b.book new.book b.seats.items new.seats.items clients sessions changed
        keeps next (scratch_stays b.seats.items new.seats.items sizes) steps b.entries.items new.entries.items went
        places
        (recursion_from_All (Belongs b.book b.seats.items) b.entries.items order.belong));
    alike =
        kept_alike b.entries.items new.entries.items
        (are_kept moves f number frames whole b.book new.book b.seats.items new.seats.items clients sessions changed
        keeps next (scratch_stays b.seats.items new.seats.items sizes) steps b.entries.items new.entries.items went
        places) order.alike;
    seats = seats;
    book = book;
    room = room;
    seat_room = seat_room;
    draft_room = draft_room;
  }

-- a period of an endpoint that plays
module _ {D E : Type 0} (faults : D → ℕ) (told : D → Option (List DeviceLog)) (moves : E → List StoreStep → E → Type 0)
    (state : E → EndState) (b new : Board D E) (order : InOrder state b) (number at : ℕ) (due : FindsDue number b at)
    (whole : Bool)
    (plays : Plays moves due.active.endpoint.no.0 (period_frames due.active.endpoint b.entries.items)
    (end_gains due.active.endpoint.format.channels) whole b.entries.items new.entries.items (faults b.devices)
    (told b.devices) (faults new.devices) (told new.devices))
    (heads : map playhead_of new.seats.items
    ≡ heads_by (any_mixing faults told moves state b new order number at due whole plays) whole
    (map playhead_of b.seats.items))
    (sizes : map scratch_of new.seats.items ≡ map scratch_of b.seats.items)
  where
    abbrev number_of : ℕ
    number_of = due.active.endpoint.no.0

    abbrev frames_of : ℕ
    frames_of = period_frames due.active.endpoint b.entries.items

    abbrev heard_of : List Frame
    heard_of = heard faults told moves state b new order number at due whole plays

    abbrev mixing : Mixing
    mixing = any_mixing faults told moves state b new order number at due whole plays

    head_there : (n : ℕ) → n ≡ number_of →
        (e : Playhead) × (find (λ (e : Playhead). e.number == n) (map playhead_of b.seats.items) ≡ Some e)
    head_there n h = (
      playhead_of due.seat,
      find_mapped (λ (e : Playhead). e.number == n) playhead_of b.seats.items
          ∙ ap (option_map playhead_of)
          (ap (λ k. find (is_seat k) b.seats.items) (h ∙ due.active.number_is) ∙ due.seat_found),
    )

    next_at_rises : (n : ℕ) →
        next_at n b.seats.items + (if whole && n == number_of then frames_of else 0) ≤ next_at n new.seats.items
    next_at_rises n =
        subst (λ k. k + (if whole && n == number_of then frames_of else 0) ≤ next_at n new.seats.items)
        (next_by_heads n b.seats.items)
        (subst (λ k. next_in n (map playhead_of b.seats.items) + (if whole && n == number_of then frames_of else 0) ≤ k)
        (ap (next_in n) (sym heads) ∙ next_by_heads n new.seats.items)
        (next_rises mixing whole n (map playhead_of b.seats.items) (head_there n)))

    pub period_order : All (IsRested state) new.entries.items → new.book.clients.items ≡ b.book.clients.items →
        new.book.sessions ≡ b.book.sessions → new.book.levels_changed ≡ b.book.levels_changed →
        ((n : ℕ) (e : Endpoint) → find (is_endpoint n) b.book.registry.list ≡ Some e →
        KeepsPlace b.book.registry.list new.book.registry.list n e) →
        AllZip Seats new.seats.items new.book.registry.list → IsBook new.book →
        CLIENTS ≤ vec_capacity new.entries → ENDPOINTS ≤ vec_capacity new.seats → NOTICES ≤ vec_capacity new.drafts →
        InOrder state new
    period_order =
        order_after moves state b new order (plays_on number_of frames_of heard_of whole) plays.steps number_of
        frames_of whole plays.went
        (all_behind number_of frames_of whole b.entries.items new.entries.items plays.places) next_at_rises sizes

-- a period of an endpoint that captures brings no endpoint on
module _ {D E : Type 0} (b new : Board D E) (heads : map playhead_of new.seats.items ≡ map playhead_of b.seats.items)
  where
    pub next_stays : (number frames n : ℕ) →
        next_at n b.seats.items + (if false && n == number then frames else 0) ≤ next_at n new.seats.items
    next_stays number frames n =
        let same : next_at n new.seats.items ≡ next_at n b.seats.items =
        sym (next_by_heads n new.seats.items) ∙ ap (next_in n) heads ∙ next_by_heads n b.seats.items in
        omega arith
