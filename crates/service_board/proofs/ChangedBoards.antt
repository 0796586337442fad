-- A board one of whose endpoints was changed, and lost its streams, it may be.
use Rattle.std.proofs.Common.{◌≡◌, ℕ, zero, suc, ◌<◌, ◌≤◌, ◌==◌, List, [], ◌∷◌, map, Bool, true, false, Some}
use Rattle.std.proofs.Common.{refl, sym, ap, ap₂, ◌∙◌, subst, arith, eqb-true, eq-eqb, if◌then◌else◌, slice_get}
use Rattle.std.proofs.Common.{slice_set}
use Rattle.std.specs.Global.{Vec}
use Rattle.std.specs.List.{AllZip, find}
use Rattle.std.specs.Option.{option_map}
use Rattle.std.proofs.lemmas.Bool.{true≢false}
use Rattle.std.proofs.lemmas.Bool.Decides.{nat_tests}
use Rattle.std.proofs.lemmas.Option.{none-some, same_Some}
use Rattle.ca_base.specs.declared.ids.Reason.{Reason}
use Rattle.ca_base.specs.declared.limits.TheConstants.{ENDPOINTS, SHARED_PERIOD}
use Rattle.wave_format.specs.Format.{frames_of_time}
use Rattle.buffer_ring.specs.declared.step.EndState.{EndState}
use Rattle.buffer_ring.specs.declared.step.StoreStep.{StoreStep}
use Rattle.ca_stage.specs.Stage.{BufferData}
use Rattle.ca_stage.specs.Order.{RisesFrom}
use Rattle.ca_stage.specs.Tally.{Tally, tally_after}
use Rattle.ca_stage.proofs.Lists.{chosen, chosen_by, found_passes}
use Rattle.device_registry.specs.declared.endpoint.Endpoint.{Endpoint}
use Rattle.device_registry.specs.Changes.{with_changed}
use Rattle.device_registry.specs.Endpoints.{EndpointList, changed, is_endpoint}
use Rattle.ca_machine.specs.Plan.{granted}
use Rattle.period_engine.specs.declared.entry.StreamEntry.{StreamEntry}
use Rattle.std.specs.Vec.{vec_capacity}
use Rattle.service_book.specs.BookState.{book_state}
use Rattle.service_book.specs.declared.book.Book.{Book}
use Rattle.service_board.specs.Board.{playhead_of, state_of}
use Rattle.stream_entries.specs.Closing.{Disconnects}
use Rattle.service_board.specs.InOrder.{InOrder, IsOn, Seats, next_at, suits, scratch_at}
use Rattle.service_board.specs.declared.board.Board.{Board}
use Rattle.service_board.specs.declared.board.Seat.{Seat}
use Rattle.service_board.proofs.ChangedEndpoints.{book_changed, found_changed}
use Rattle.service_board.proofs.Disconnecting.{IsGranted, close_moves, stage_after, stage_before, stage_moved}
use Rattle.service_board.proofs.DisconnectedOrder.{disconnected_order, is_lost}

-- ---- lists of rising numbers

abbrev pub numbers : List Endpoint → List ℕ
numbers list = map (λ e. e.no.0) list

-- one of a lower number isn't there
above : (number low : ℕ) (x : ℕ) → number < low → low ≤ x → (x == number) ≡ false
above number low x lt le = grind (arith, nat_tests)

pub changed_none : (number low : ℕ) (f : Endpoint → Endpoint) (list : List Endpoint) → number < low →
    RisesFrom low (numbers list) → changed number f list ≡ list
changed_none number low f [] lt rises = refl
changed_none number low f (x ∷ list) lt rises =
    let le = rises.0 in
    ap₂ (λ y ys. y ∷ ys) (ap (λ v. if v then f x else x) (above number low x.no.0 lt rises.0))
    (changed_none number (suc x.no.0) f list (omega arith) rises.1)

-- what is there has a number from the lowest one on
get_above : (low at : ℕ) (list : List Endpoint) (e : Endpoint) → RisesFrom low (numbers list) →
    slice_get list at ≡ Some e → low ≤ e.no.0
get_above low at [] e rises here = absurd (none-some e here)
get_above low zero (x ∷ list) e rises here = subst (λ (y : Endpoint). low ≤ y.no.0) (same_Some x e here) rises.0
get_above low (suc at) (x ∷ list) e rises here =
    let first = rises.0 in
    let rest = get_above (suc x.no.0) at list e rises.1 here in
    omega arith

-- two changes of the one of a number that make the same of it
pub changed_alike : (number low : ℕ) (f g : Endpoint → Endpoint) (list : List Endpoint) (e : Endpoint) →
    RisesFrom low (numbers list) → find (is_endpoint number) list ≡ Some e → f e ≡ g e →
    changed number f list ≡ changed number g list
changed_alike number low f g [] e rises found same = refl
changed_alike number low f g (x ∷ list) e rises found same =
    by (is_endpoint number x) refl found (λ k. changed_alike number (suc x.no.0) f g list e rises.1 k same)
  where
    by : (v : Bool) → is_endpoint number x ≡ v →
        (if v then Some x else find (is_endpoint number) list) ≡ Some e →
        (find (is_endpoint number) list ≡ Some e → changed number f list ≡ changed number g list) →
        (if v then f x else x) ∷ changed number f list ≡ (if v then g x else x) ∷ changed number g list
    by true own here rest =
        let is = eqb-true x.no.0 number own in
        let le : number < suc x.no.0 = omega arith in
        ap₂ (λ y ys. y ∷ ys) (ap f (same_Some x e here) ∙ same ∙ ap g (sym (same_Some x e here)))
        (changed_none number (suc x.no.0) f list le rises.1 ∙ sym (changed_none number (suc x.no.0) g list le rises.1))
    by false other here rest = ap (λ ys. x ∷ ys) (rest here)

-- the seat of the one that is changed is set
pub zip_replaced : (number low at : ℕ) (f : Endpoint → Endpoint) (seats : List Seat) (list : List Endpoint)
    (s : Seat) (e : Endpoint) → RisesFrom low (numbers list) → slice_get list at ≡ Some e → e.no.0 ≡ number →
    Seats s (f e) → AllZip Seats seats list → AllZip Seats (slice_set seats at s) (changed number f list)
zip_replaced number low at f [] [] s e rises here is fits h = absurd (none-some e here)
zip_replaced number low zero f (t ∷ seats) (x ∷ list) s e rises here is fits h =
    let same = same_Some x e here in
    let own : x.no.0 ≡ number = ap (λ (y : Endpoint). y.no.0) same ∙ is in (
      subst (λ v. Seats s (if v then f x else x)) (sym (eq-eqb x.no.0 number own))
          (subst (λ (y : Endpoint). Seats s (f y)) (sym same) fits),
      subst (AllZip Seats seats)
          (sym (changed_none number (suc x.no.0) f list (omega arith) rises.1)) h.1,
    )
zip_replaced number low (suc at) f (t ∷ seats) (x ∷ list) s e rises here is fits h =
    let beyond = get_above (suc x.no.0) at list e rises.1 here in
    let other : (x.no.0 == number) ≡ false = grind (arith, nat_tests) in (
      subst (λ v. Seats t (if v then f x else x)) (sym other) h.0,
      zip_replaced number (suc x.no.0) at f seats list s e rises.1 here is fits h.1,
    )
zip_replaced number low at f [] (x ∷ list) s e rises here is fits h = absurd h
zip_replaced number low at f (t ∷ seats) [] s e rises here is fits h = absurd h

-- ---- the board

module _ {D E : Type 0} (moves : E → List StoreStep → E → Type 0) (state : E → EndState) (b : Board D E)
    (order : InOrder state b) (lost : Bool) (reason : Reason) (number : ℕ) (entries : Vec (StreamEntry E))
    (loses : Disconnects moves state lost reason (Some number) b.entries entries) (f : Endpoint → Endpoint)
    (registry : EndpointList) (is : registry ≡ with_changed number f b.book.registry) (seats : Vec Seat) where
  abbrev pub changed_book : Book
  changed_book = record (b.book) { registry = registry }

  -- the machine's grant of the closes, with the endpoint changed
  pub changed_granted : (heads : map playhead_of seats.items ≡ map playhead_of b.seats.items)
      (datas : ℕ → BufferData) (tally : Tally) →
      IsGranted
      (granted [] (close_moves moves state b order lost reason (Some number) entries loses datas)
      (record (state_of datas tally b) { endpoints = changed number f b.book.registry.list }))
      (book_state changed_book
      (stage_after moves state b order lost reason (Some number) entries loses seats.items datas)
      (tally_after tally (stage_before moves state b order lost reason (Some number) entries loses datas)
      (close_moves moves state b order lost reason (Some number) entries loses datas)))
  changed_granted heads datas tally =
      let after = tally_after tally (stage_before moves state b order lost reason (Some number) entries loses datas)
      (close_moves moves state b order lost reason (Some number) entries loses datas) in
      record {
        result = refl;
        payload = refl;
        output = refl;
        after_is =
            ap (λ (r : EndpointList). book_state (record (b.book) { registry = r })
            (stage_after moves state b order lost reason (Some number) entries loses seats.items datas) after) is
            ∙ ap (λ stage. book_state
            (record (b.book) { registry = with_changed number f b.book.registry }) stage after)
            (stage_moved moves state b order lost reason (Some number) entries loses seats.items datas heads);
      }

  module _ (keeps_number : (e : Endpoint) → (f e).no ≡ e.no)
      (keeps_flow : (e : Endpoint) → (f e).flow ≡ e.flow)
      (keeps_channels : (e : Endpoint) → find (is_endpoint number) b.book.registry.list ≡ Some e → lost ≡ false →
      (f e).format.channels ≡ e.format.channels)
      (keeps_rate : (e : Endpoint) → find (is_endpoint number) b.book.registry.list ≡ Some e → lost ≡ false →
      (f e).format.rate ≡ e.format.rate)
      (next : (n : ℕ) → next_at n seats.items ≡ next_at n b.seats.items)
      (scratch : (n : ℕ) → scratch_at n b.seats.items ≤ scratch_at n seats.items)
    where
      -- scratch is no less than it was
      no_less : (n : ℕ) {period : ℕ} → period ≤ scratch_at n b.seats.items → period ≤ scratch_at n seats.items
      no_less n le = let more = scratch n in omega arith

      abbrev one : Endpoint → Endpoint
      one e = if is_endpoint number e then f e else e

      not_lost : (l : Bool) (n : ℕ) → is_lost l (Some number) n ≡ false → n ≡ number → l ≡ false
      not_lost true n left same = absurd (true≢false (sym (eq-eqb n number same) ∙ left))
      not_lost false n left same = refl

      still_flow : (e : Endpoint) → (one e).flow ≡ e.flow
      still_flow e = chosen (λ (x : Endpoint). x.flow ≡ e.flow) (is_endpoint number e) (f e) e (keeps_flow e) refl

      -- what the change leaves of the endpoint that it is of, it leaves of each
      still : (value : Endpoint → ℕ) →
          ((e : Endpoint) → find (is_endpoint number) b.book.registry.list ≡ Some e → lost ≡ false →
          value (f e) ≡ value e) → (n : ℕ) (e : Endpoint) → is_lost lost (Some number) n ≡ false →
          find (is_endpoint n) b.book.registry.list ≡ Some e → value (one e) ≡ value e
      still value keeps n e left found =
          let own : e.no.0 ≡ n = eqb-true e.no.0 n (found_passes (is_endpoint n) b.book.registry.list e found) in
          chosen_by (λ (x : Endpoint). value x ≡ value e) (is_endpoint number e) (f e) e
          (λ here.
          let same : n ≡ number = sym own ∙ eqb-true e.no.0 number here in
          keeps e (ap (λ k. find (is_endpoint k) b.book.registry.list) (sym same) ∙ found)
          (not_lost lost n left same))
          (λ other. refl)

      keeps_on : (e : StreamEntry E) → is_lost lost (Some number) e.endpoint.0 ≡ false →
          IsOn e b.book.registry.list b.seats.items → IsOn e registry.list seats.items
      keeps_on e left on =
          let n = e.endpoint.0 in
          let channels = still (λ x. x.format.channels) keeps_channels n on.endpoint left on.there in
          let rate = still (λ x. x.format.rate) keeps_rate n on.endpoint left on.there in
          record {
            endpoint = one on.endpoint;
            there =
                ap (λ (r : EndpointList). find (is_endpoint n) r.list) is
                ∙ found_changed number f keeps_number n b.book.registry.list
                ∙ ap (option_map one) on.there;
            fits = on.fits ∙ sym channels;
            some = on.some;
            longest = on.longest;
            lasts = λ shared. on.lasts shared ∙ sym (ap (λ k. frames_of_time k SHARED_PERIOD) rate);
            holds = no_less n on.holds;
            suited = ap (λ k. suits k e.kind) (still_flow on.endpoint) ∙ on.suited;
            behind = subst (λ k. e.position ≤ k) (sym (next n)) on.behind;
            hears = λ loopback. subst (λ k. e.ever ≤ k) (sym (next n)) (on.hears loopback);
          }

      pub changed_order : AllZip Seats seats.items (changed number f b.book.registry.list) →
          ENDPOINTS ≤ vec_capacity seats →
          InOrder state (record b { book = changed_book; seats = seats; entries = entries })
      changed_order fits seat_room =
          disconnected_order moves state b order lost reason (Some number) entries loses changed_book seats refl refl
          refl keeps_on
          (subst (λ (r : EndpointList). AllZip Seats seats.items r.list) (sym is) fits)
          (book_changed number f keeps_number b.book registry is order.book) seat_room
