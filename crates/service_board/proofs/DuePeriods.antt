-- The endpoint and the seat of a period, and which row refuses a period.
use Rattle.std.proofs.Common.{◌≡◌, ℕ, zero, suc, ◌+◌, ◌<◌, ◌≤◌, ◌==◌, nat_lt, not, List, [], ◌∷◌, length, map, Bool}
use Rattle.std.proofs.Common.{◌&&◌, ◌||◌, true}
use Rattle.std.proofs.Common.{false, cond, Option, Some, None, refl, sym, ap, ap₂, ◌∙◌, subst, arith, eqb-true, eq-eqb}
use Rattle.std.proofs.Common.{if◌then◌else◌, get_or, slice_get}
use Rattle.std.specs.List.{All, AllZip, find, list_any, position, position_or_len}
use Rattle.std.specs.Option.{option_map, option_map_or}
use Rattle.std.proofs.lemmas.List.Elements.{recursion_from_All}
use Rattle.std.proofs.lemmas.List.Folds.{find_at}
use Rattle.std.proofs.lemmas.Option.{cond_some, none-some, same_Some, get_or_from_slice_get, slice_get_within}
use Rattle.std.proofs.lemmas.Bool.{and_parts, ne_eqb}
use Rattle.std.proofs.lemmas.Bool.Decides.{nat_tests}
use Rattle.ca_base.specs.declared.codes.TheConstants.Hr as hr
use Rattle.ca_base.specs.declared.ids.Flow.{Flow}
use Rattle.ca_base.specs.declared.ids.Flow.TheVariants as flow
use Rattle.ca_base.specs.declared.limits.TheConstants.{MAX_COUNT}
use Rattle.ca_base.specs.declared.values.TheConstants.{STATE_ACTIVE}
use Rattle.ca_base.specs.Rows.{first}
use Rattle.ca_stage.specs.Stage.{BufferData, Playhead, is_open_gate}
use Rattle.ca_stage.specs.Fates.{next_of, place_of}
use Rattle.ca_stage.specs.Order.{RisesFrom}
use Rattle.ca_stage.specs.Tally.{Tally}
use Rattle.device_registry.specs.declared.endpoint.Endpoint.{Endpoint}
use Rattle.device_registry.specs.Endpoints.{is_endpoint}
use Rattle.ca_machine.specs.Periods.{is_worn, period_by, period_of, period_plan, period_rows}
use Rattle.ca_machine.specs.Periods as machine
use Rattle.ca_machine.specs.State.{State, endpoint_at}
use Rattle.period_engine.specs.declared.entry.StreamEntry.{StreamEntry}
use Rattle.period_engine.specs.Entries.{streams_of}
use Rattle.service_book.proofs.Finding.{FoundAt, find_mapped, found_at, none_at}
use Rattle.service_book.proofs.Rows.{row_holds, row_passes}
use Rattle.service_board.specs.Board.{playhead_of, state_of}
use Rattle.service_board.specs.Due.{FindsDue, is_capture_flow, is_worn_entry}
use Rattle.stream_entries.specs.Holding.{is_open_entry, period_frames}
use Rattle.service_board.specs.InOrder.{Belongs, Seats, is_seat, next_at, scratch_at}
use Rattle.service_board.specs.Lookups.{Says}
use Rattle.service_board.specs.declared.board.Board.{Board}
use Rattle.service_board.specs.declared.board.Seat.{Seat}
use Rattle.service_board.proofs.PeriodLengths.{frames_alike, period_holds}
use Rattle.service_board.proofs.WornEntries.{all_count, any_worn, open_by}

-- ---- the seat of an endpoint

-- the seat that stands where an endpoint stands
pub record SeatAt (seats : List Seat) (at : ℕ) (e : Endpoint) : Type 0 where
  pub seat : Seat
  pub here : slice_get seats at ≡ Some seat
  pub fits : Seats seat e

pub seat_at : (seats : List Seat) (endpoints : List Endpoint) (at : ℕ) (e : Endpoint) → AllZip Seats seats endpoints →
    slice_get endpoints at ≡ Some e → SeatAt seats at e
seat_at [] [] at e h here = absurd (none-some e here)
seat_at (s ∷ seats) (x ∷ endpoints) zero e h here =
    record { seat = s; here = refl; fits = subst (Seats s) (same_Some x e here) h.0 }
seat_at (s ∷ seats) (x ∷ endpoints) (suc at) e h here =
    let rest = seat_at seats endpoints at e h.1 here in
    record { seat = rest.seat; here = rest.here; fits = rest.fits }
seat_at [] (x ∷ endpoints) at e h here = absurd h
seat_at (s ∷ seats) [] at e h here = absurd h

pub seats_length : (seats : List Seat) (endpoints : List Endpoint) → AllZip Seats seats endpoints →
    length seats ≡ length endpoints
seats_length [] [] h = refl
seats_length (s ∷ seats) (e ∷ endpoints) h = let rest = seats_length seats endpoints h.1 in omega arith
seats_length [] (e ∷ endpoints) h = absurd h
seats_length (s ∷ seats) [] h = absurd h

-- the seat of a number stands where the endpoint of that number stands
same_places : (n : ℕ) (seats : List Seat) (endpoints : List Endpoint) → AllZip Seats seats endpoints →
    position_or_len (is_seat n) seats ≡ position_or_len (is_endpoint n) endpoints
same_places n [] [] h = refl
same_places n (s ∷ seats) (e ∷ endpoints) h =
    let test : is_seat n s ≡ is_endpoint n e = ap (λ m. m == n) h.0.number in
    let rest = same_places n seats endpoints h.1 in
    ap₂ (λ b k. cond (not b) (1 + k) 0) test rest
same_places n [] (e ∷ endpoints) h = absurd h
same_places n (s ∷ seats) [] h = absurd h

pub place_is : {X : Type 0} (test : X → Bool) (xs : List X) (at : ℕ) → Some at ≡ position test xs →
    position_or_len test xs ≡ at
place_is test xs at e =
    (cond_some (nat_lt (position_or_len test xs) (length xs)) (position_or_len test xs) at (sym e)).1

pub seat_found : (n : ℕ) (seats : List Seat) (endpoints : List Endpoint) (at : ℕ) → AllZip Seats seats endpoints →
    Some at ≡ position (is_endpoint n) endpoints → find (is_seat n) seats ≡ slice_get seats at
seat_found n seats endpoints at h there =
    find_at (is_seat n) seats
    ∙ ap (slice_get seats) (same_places n seats endpoints h ∙ place_is (is_endpoint n) endpoints at there)

-- the seat that stands where an endpoint stands is found by the endpoint's number, since numbers rise
above_all : (low : ℕ) (endpoints : List Endpoint) (at : ℕ) (e : Endpoint) →
    RisesFrom low (map (λ (y : Endpoint). y.no.0) endpoints) → slice_get endpoints at ≡ Some e → low ≤ e.no.0
above_all low [] at e r here = absurd (none-some e here)
above_all low (y ∷ endpoints) zero e r here =
    subst (λ (z : Endpoint). low ≤ z.no.0) (same_Some y e here) r.0
above_all low (y ∷ endpoints) (suc at) e r here =
    let beyond = above_all (suc y.no.0) endpoints at e r.1 here in
    let least = r.0 in
    omega arith

pub seat_by_number : (low : ℕ) (seats : List Seat) (endpoints : List Endpoint) (at : ℕ) (e : Endpoint) →
    AllZip Seats seats endpoints → RisesFrom low (map (λ (y : Endpoint). y.no.0) endpoints) →
    slice_get endpoints at ≡ Some e → (seat : Seat) → slice_get seats at ≡ Some seat →
    find (is_seat e.no.0) seats ≡ Some seat
seat_by_number low [] [] at e h r here seat there = absurd (none-some e here)
seat_by_number low (s ∷ seats) (y ∷ endpoints) zero e h r here seat there =
    ap (λ v. cond v (Some s) (find (is_seat e.no.0) seats))
    (eq-eqb s.endpoint.0 e.no.0 (h.0.number ∙ ap (λ (z : Endpoint). z.no.0) (same_Some y e here))) ∙ there
seat_by_number low (s ∷ seats) (y ∷ endpoints) (suc at) e h r here seat there =
    let beyond = above_all (suc y.no.0) endpoints at e r.1 here in
    let own = h.0.number in
    ap (λ v. cond v (Some s) (find (is_seat e.no.0) seats))
    (ne_eqb s.endpoint.0 e.no.0 (λ q. omega (arith, q, own, beyond)))
    ∙ seat_by_number (suc y.no.0) seats endpoints at e h.1 r.1 here seat there
seat_by_number low [] (y ∷ endpoints) at e h r here seat there = absurd h
seat_by_number low (s ∷ seats) [] at e h r here seat there = absurd h

-- ---- the next place of an endpoint

place_of_seat : (o : Option Seat) → place_of (option_map playhead_of o) ≡ option_map_or (λ s. s.next) o 0
place_of_seat None = refl
place_of_seat (Some s) = refl

pub next_by_heads : (n : ℕ) (seats : List Seat) →
    place_of (find (λ (e : Playhead). e.number == n) (map playhead_of seats)) ≡ next_at n seats
next_by_heads n seats =
    ap place_of (find_mapped (λ (e : Playhead). e.number == n) playhead_of seats)
    ∙ place_of_seat (find (is_seat n) seats)

pub next_of_seat : {D E : Type 0} (b : Board D E) (n : ℕ) (datas : ℕ → BufferData) (tally : Tally) →
    next_of n (state_of datas tally b).stage ≡ next_at n b.seats.items
next_of_seat b n datas tally = next_by_heads n b.seats.items

-- ---- the rows of a period

pub no_endpoint_says : {D E : Type 0} (b : Board D E) (n : ℕ) → b.book.is_shut ≡ false →
    None ≡ position (is_endpoint n) b.book.registry.list → Says b (λ st. (period_plan st n).rows) (Some hr.E_NOTFOUND)
no_endpoint_says b n runs e datas tally =
    ap (λ o. first (period_of (state_of datas tally b) o).rows) (none_at (is_endpoint n) b.book.registry.list e)
    ∙ row_passes b.book.is_shut hr.SERVICE_NOT_RUNNING _ runs refl

-- whatever the endpoint's flow
pub rows_by : (st : State) (e : Endpoint) (f : Flow) →
    (period_by st e f).rows ≡ period_rows st e (machine.period_frames e st.stage.streams)
rows_by st e flow.Render = refl
rows_by st e flow.Capture = refl

-- a service that was shut down
pub shut_period_says : {D E : Type 0} (b : Board D E) (n : ℕ) → b.book.is_shut ≡ true →
    Says b (λ st. (period_plan st n).rows) (Some hr.SERVICE_NOT_RUNNING)
shut_period_says b n shut datas tally = by (endpoint_at n (state_of datas tally b))
  where
    by : (o : Option Endpoint) →
        first (period_of (state_of datas tally b) o).rows ≡ Some hr.SERVICE_NOT_RUNNING
    by None = row_holds b.book.is_shut hr.SERVICE_NOT_RUNNING _ shut
    by (Some e) =
        ap first (rows_by (state_of datas tally b) e e.flow)
        ∙ row_holds b.book.is_shut hr.SERVICE_NOT_RUNNING _ shut

-- what was looked at, with the frames as they were computed
pub worn_of : {D E : Type 0} (b : Board D E) (e : Endpoint) (frames : ℕ) (seen verdict : Bool) →
    frames ≡ period_frames e b.entries.items →
    seen ≡ (is_capture_flow e.flow && list_any (is_worn_entry e.no.0 frames) b.entries.items) → seen ≡ verdict →
    (is_capture_flow e.flow && list_any (is_worn_entry e.no.0 (period_frames e b.entries.items)) b.entries.items) ≡
    verdict
worn_of b e frames seen verdict same is h =
    ap (λ n. is_capture_flow e.flow && list_any (is_worn_entry e.no.0 n) b.entries.items) (sym same) ∙ sym is ∙ h

-- an endpoint, and its seat, as they are read at a place
module _ {D E : Type 0} (b : Board D E) (n at : ℕ) (runs : b.book.is_shut ≡ false)
    (seats : AllZip Seats b.seats.items b.book.registry.list)
    (there : Some at ≡ position (is_endpoint n) b.book.registry.list) (e : Endpoint)
    (read : e ≡ get_or b.book.registry.list at e) where
  abbrev found_there : FoundAt (is_endpoint n) b.book.registry.list at
  found_there = found_at (is_endpoint n) b.book.registry.list at there

  read_is : found_there.member ≡ e
  read_is =
      sym (get_or_from_slice_get b.book.registry.list at found_there.member e found_there.here) ∙ sym read

  here : slice_get b.book.registry.list at ≡ Some e
  here = found_there.here ∙ ap (λ x. Some x) read_is

  found : find (is_endpoint n) b.book.registry.list ≡ Some e
  found = found_there.found ∙ ap (λ x. Some x) read_is

  number_is : e.no.0 ≡ n
  number_is = eqb-true e.no.0 n (ap (is_endpoint n) (sym read_is) ∙ found_there.passes)

  abbrev its_seat : SeatAt b.seats.items at e
  its_seat = seat_at b.seats.items b.book.registry.list at e seats here

  pub seat_within : at < length b.seats.items
  seat_within = slice_get_within b.seats.items at its_seat.seat its_seat.here

  its_seat_found : find (is_seat n) b.seats.items ≡ Some its_seat.seat
  its_seat_found = seat_found n b.seats.items b.book.registry.list at seats there ∙ its_seat.here

  its_next : (datas : ℕ → BufferData) (tally : Tally) →
      next_of e.no.0 (state_of datas tally b).stage ≡ its_seat.seat.next
  its_next datas tally =
      ap (λ k. next_of k (state_of datas tally b).stage) number_is
      ∙ next_of_seat b n datas tally
      ∙ ap (λ o. option_map_or (λ (s : Seat). s.next) o 0) its_seat_found

  -- a stream that the period offers packets to can't count its frames
  abbrev wears : (ℕ → BufferData) → Bool
  wears datas = list_any (is_worn e.no.0 (period_frames e b.entries.items)) (streams_of datas b.entries.items)

  says_by : (datas : ℕ → BufferData) (tally : Tally) (a w : Bool) → (e.state == STATE_ACTIVE) ≡ a →
      (nat_lt MAX_COUNT (its_seat.seat.next + period_frames e b.entries.items) || wears datas) ≡ w →
      first (period_plan (state_of datas tally b) n).rows
      ≡ (if not a then Some hr.DEVICE_INVALIDATED else (if w then Some hr.WORN else None))
  says_by datas tally a w active worn =
      ap (λ o. first (period_of (state_of datas tally b) o).rows) found
      ∙ ap first (rows_by (state_of datas tally b) e e.flow)
      ∙ ap (λ k. first (period_rows (state_of datas tally b) e k)) (frames_alike e datas b.entries.items)
      ∙ row_passes b.book.is_shut hr.SERVICE_NOT_RUNNING _ runs refl
      ∙ ap (λ k. if not (e.state == STATE_ACTIVE) then Some hr.DEVICE_INVALIDATED
      else (if nat_lt MAX_COUNT (k + period_frames e b.entries.items) || wears datas then Some hr.WORN else None))
      (its_next datas tally)
      ∙ ap₂ (λ c v. if not c then Some hr.DEVICE_INVALIDATED else (if v then Some hr.WORN else None)) active worn

  pub inactive_says : (e.state == STATE_ACTIVE) ≡ false → Says b (λ st. (period_plan st n).rows)
      (Some hr.DEVICE_INVALIDATED)
  inactive_says h datas tally =
      says_by datas tally false (nat_lt MAX_COUNT (its_seat.seat.next + period_frames e b.entries.items) || wears datas)
      h refl

  -- the seat, as it is read at the place
  module _ (s : Seat) (read_seat : s ≡ get_or b.seats.items at s) where
    seat_is : its_seat.seat ≡ s
    seat_is = sym (get_or_from_slice_get b.seats.items at its_seat.seat s its_seat.here) ∙ sym read_seat

    pub seat_bound : s.next ≤ MAX_COUNT
    seat_bound = subst (λ (t : Seat). t.next ≤ MAX_COUNT) seat_is its_seat.fits.next

    pub worn_says : (e.state == STATE_ACTIVE) ≡ true → MAX_COUNT < s.next + period_frames e b.entries.items →
        Says b (λ st. (period_plan st n).rows) (Some hr.WORN)
    worn_says active worn datas tally =
        let beyond : nat_lt MAX_COUNT (s.next + period_frames e b.entries.items) ≡ true = grind (arith, nat_tests) in
        says_by datas tally true true active
        (ap (λ v. v || wears datas)
        (ap (λ (t : Seat). nat_lt MAX_COUNT (t.next + period_frames e b.entries.items)) seat_is ∙ beyond))

    -- the endpoint's next place has room for the period
    module _ (belong : All (Belongs b.book b.seats.items) b.entries.items)
        (room : s.next + period_frames e b.entries.items ≤ MAX_COUNT) where
      its_room : its_seat.seat.next + period_frames e b.entries.items ≤ MAX_COUNT
      its_room = subst (λ (t : Seat). t.next + period_frames e b.entries.items ≤ MAX_COUNT) (sym seat_is) room

      within : nat_lt MAX_COUNT (its_seat.seat.next + period_frames e b.entries.items) ≡ false
      within = let le = its_room in grind (arith, nat_tests)

      next_room : next_at n b.seats.items + period_frames e b.entries.items ≤ MAX_COUNT
      next_room =
          subst (λ k. k + period_frames e b.entries.items ≤ MAX_COUNT)
          (sym (ap (λ o. option_map_or (λ (t : Seat). t.next) o 0) its_seat_found)) its_room

      wears_is : (datas : ℕ → BufferData) →
          wears datas ≡ (is_capture_flow e.flow && list_any (is_worn_entry e.no.0 (period_frames e b.entries.items))
          b.entries.items)
      wears_is datas =
          ap (λ k. list_any (is_worn k (period_frames e b.entries.items)) (streams_of datas b.entries.items)) number_is
          ∙ any_worn b.book b.seats.items n e found (period_frames e b.entries.items) next_room datas b.entries.items
          (recursion_from_All (Belongs b.book b.seats.items) b.entries.items belong)
          ∙ ap (λ k. is_capture_flow e.flow && list_any (is_worn_entry k (period_frames e b.entries.items))
          b.entries.items)
          (sym number_is)

      pub worn_stream_says : (e.state == STATE_ACTIVE) ≡ true →
          (is_capture_flow e.flow && list_any (is_worn_entry e.no.0 (period_frames e b.entries.items)) b.entries.items)
          ≡ true →
          Says b (λ st. (period_plan st n).rows) (Some hr.WORN)
      worn_stream_says active worn datas tally =
          says_by datas tally true true active (ap₂ (λ v w. v || w) within (wears_is datas ∙ worn))

      -- the period fits in the seat's scratch
      its_fits : period_frames e b.entries.items ≤ its_seat.seat.block.frames
      its_fits =
          period_holds (λ n. n ≤ its_seat.seat.block.frames) e b.entries.items its_seat.fits.fits
          (λ k d lt opens. holds_here (get_or b.entries.items k d) (belong k d lt) opens)
        where
          holds_here : (x : StreamEntry E) → Belongs b.book b.seats.items x → is_open_entry e.no.0 x ≡ true →
              x.period ≤ its_seat.seat.block.frames
          holds_here x belongs opens =
              let o = and_parts (x.endpoint.0 == e.no.0) (is_open_gate x.gate) opens in
              let here : x.endpoint.0 ≡ n = eqb-true x.endpoint.0 e.no.0 o.0 ∙ number_is in
              subst (λ k. x.period ≤ k)
              (ap (λ m. scratch_at m b.seats.items) here
              ∙ ap (λ q. option_map_or (λ (t : Seat). t.block.frames) q 0) its_seat_found)
              (belongs.opens (open_by x.gate o.1)).holds

      pub finds_due : e.state ≡ STATE_ACTIVE →
          (is_capture_flow e.flow && list_any (is_worn_entry e.no.0 (period_frames e b.entries.items)) b.entries.items)
          ≡ false →
          FindsDue n b at
      finds_due active fresh = record {
        active = record {
          endpoint = e;
          here = here;
          within = slice_get_within b.book.registry.list at e here;
          found = found;
          number_is = number_is;
          active = active;
        };
        seat = its_seat.seat;
        seat_here = its_seat.here;
        seat_found = its_seat_found;
        seats = its_seat.fits;
        fits = its_fits;
        room = its_room;
        ever =
            all_count b.book b.seats.items n e found (period_frames e b.entries.items) b.entries.items
            (recursion_from_All (Belongs b.book b.seats.items) b.entries.items belong)
            (ap (λ k. is_capture_flow e.flow && list_any (is_worn_entry k (period_frames e b.entries.items))
            b.entries.items)
            (sym number_is) ∙ fresh);
        says = λ datas tally.
            says_by datas tally true false (eq-eqb e.state STATE_ACTIVE active)
            (ap₂ (λ v w. v || w) within (wears_is datas ∙ fresh));
      }
