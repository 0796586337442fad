-- The board after the streams were closed that a new one takes its endpoint from, and its seat got scratch for it: it
-- is in order, the new period fits, and what is open on the endpoint is beside a shared stream alone.
use Rattle.std.proofs.Common.{◌≡◌, ℕ, ◌*◌, ◌≤◌, ◌==◌, ◌&&◌, ◌||◌, not, nat_le, List, [], ◌∷◌, length, map, filter, Bool}
use Rattle.std.proofs.Common.{true}
use Rattle.std.proofs.Common.{false, cond, Option, Some, None, refl, sym, ap, ap₂, ◌∙◌, subst, arith, find}
use Rattle.std.proofs.Common.{if◌then◌else◌, slice_get, slice_set, zero, suc}
use Rattle.std.specs.Global.{Vec}
use Rattle.std.specs.List.{All, AllByRecursion, AllZip, position}
use Rattle.std.specs.Option.{option_map_or}
use Rattle.std.specs.Vec.{vec_capacity}
use Rattle.std.proofs.lemmas.Bool.{and_parts, or_parts, true≢false}
use borrow.Author.Tests.{leb-false, leb-true}
use Rattle.std.proofs.lemmas.List.Elements.{All-from_recursion}
use Rattle.std.proofs.Math.Seq.{map-set_same}
use Rattle.std.proofs.lemmas.Bool.{ne_eqb}
use Rattle.std.proofs.lemmas.Option.{get_or_from_slice_get, none-some, same_Some}
use Rattle.ca_base.specs.declared.codes.TheConstants.Hr as hr
use Rattle.ca_base.specs.declared.ids.Gate.TheVariants as gate
use Rattle.ca_base.specs.declared.ids.Reason.TheVariants.{Override}
use Rattle.ca_base.specs.declared.limits.TheConstants.{ENDPOINTS}
use Rattle.buffer_ring.specs.declared.step.EndState.{EndState}
use Rattle.buffer_ring.specs.declared.step.StoreStep.{StoreStep}
use Rattle.exclusive_mode.specs.declared.claims.Claim.{Claim}
use Rattle.exclusive_mode.specs.declared.claims.Claim.TheVariants as gets
use Rattle.exclusive_mode.specs.declared.claims.Held.{Held}
use Rattle.exclusive_mode.specs.Claims.{claim, has_exclusive, has_streams, is_refused, is_takeover}
use Rattle.ca_stage.specs.Stage.{Playhead, is_open_gate}
use Rattle.ca_stage.specs.Fates.{place_of}
use Rattle.ca_stage.proofs.Lists.{all_of, all_weaker}
use Rattle.device_registry.specs.declared.endpoint.Endpoint.{Endpoint}
use Rattle.device_registry.specs.Endpoints.{is_endpoint}
use Rattle.period_engine.specs.declared.block.Block.{Block}
use Rattle.period_engine.specs.declared.entry.StreamEntry.{StreamEntry}
use Rattle.period_engine.specs.SubSteps.{Turned}
use Rattle.service_book.specs.declared.opening.Opening.{Opening as Asked}
use Rattle.service_book.specs.declared.opening.OpeningPlan.{OpeningPlan}
use Rattle.stream_entries.specs.Closing.{Disconnects, closes_if}
use Rattle.stream_entries.specs.Holding.{held_on, is_open_entry}
use Rattle.service_board.specs.InOrder.{InOrder, IsOn, Seats, next_at, scratch_at}
use Rattle.service_board.specs.Openings.{IsNewBlock, Plans, with_scratch}
use Rattle.service_board.specs.Board.{playhead_of}
use Rattle.service_board.specs.declared.board.Board.{Board}
use Rattle.service_board.specs.declared.board.Seat.{Seat}
use Rattle.service_board.proofs.AlikeEntries.{scratch_grows}
use Rattle.service_board.proofs.DisconnectedOrder.{disconnected_order, is_lost, still_open}
use Rattle.service_board.proofs.DuePeriods.{SeatAt, next_by_heads, seat_at, seat_found}
use Rattle.service_board.proofs.PeriodOrder.{zip_set_seat}
use Rattle.service_book.proofs.Finding.{FoundAt, found_at}
use Rattle.service_board.proofs.WornEntries.{open_by}

-- ---- claims

-- what is claimed, by whether one of the streams that are held is exclusive, and whether there are some
abbrev claimed_by : Bool → Bool → Bool → Bool → Claim
claimed_by exclusive priority alone some =
    if alone || (exclusive && some && not priority) then gets.Refused hr.DEVICE_IN_USE
    else if exclusive && priority && some && not alone then gets.TakeOver
    else gets.Granted

-- a claim that is granted beside streams is not exclusive, nor is one of them
granted_by : (exclusive priority alone some : Bool) → some ≡ true →
    is_refused (claimed_by exclusive priority alone some) ≡ false →
    is_takeover (claimed_by exclusive priority alone some) ≡ false → (exclusive ≡ false) × (alone ≡ false)
granted_by exclusive priority true some there refused takes = absurd (true≢false refused)
granted_by true true false true there refused takes = absurd (true≢false takes)
granted_by true false false true there refused takes = absurd (true≢false refused)
granted_by true priority false false there refused takes = absurd (true≢false (sym there))
granted_by false priority false some there refused takes = (refl, refl)

granted_beside : (exclusive : Bool) (held : List Held) (priority : Bool) → has_streams held ≡ true →
    is_refused (claim exclusive held priority) ≡ false → is_takeover (claim exclusive held priority) ≡ false →
    (exclusive ≡ false) × (has_exclusive held ≡ false)
granted_beside exclusive held priority some =
    granted_by exclusive priority (has_exclusive held) (has_streams held) some

-- the streams that are held, by whether the first entry is
abbrev held_if : {E : Type 0} → Bool → ℕ → StreamEntry E → List (StreamEntry E) → List Held
held_if {E} v n x xs = map (λ (y : StreamEntry E). record { client = y.client; exclusive = y.exclusive })
    (cond v (x ∷ filter (is_open_entry n) xs) (filter (is_open_entry n) xs))

-- of streams that are held none is exclusive, so no open one is
none_exclusive : {E : Type 0} (n : ℕ) (xs : List (StreamEntry E)) → has_exclusive (held_on n xs) ≡ false →
    AllByRecursion (λ (x : StreamEntry E). is_open_entry n x ≡ true → x.exclusive ≡ false) xs
none_exclusive n [] none = tt
none_exclusive {E} n (x ∷ xs) none = by (is_open_entry n x) refl none (none_exclusive n xs)
  where
    by : (v : Bool) → is_open_entry n x ≡ v → has_exclusive (held_if v n x xs) ≡ false →
        (has_exclusive (held_on n xs) ≡ false →
        AllByRecursion (λ (y : StreamEntry E). is_open_entry n y ≡ true → y.exclusive ≡ false) xs) →
        AllByRecursion (λ (y : StreamEntry E). is_open_entry n y ≡ true → y.exclusive ≡ false) (x ∷ xs)
    by true opens h rest =
        let parts = or_parts x.exclusive (has_exclusive (held_on n xs)) h in
        (λ o. parts.0, rest parts.1)
    by false closed h rest = (λ o. absurd (true≢false (sym o ∙ closed)), rest h)

-- an open one is held
some_held : {E : Type 0} (n : ℕ) (xs : List (StreamEntry E)) →
    AllByRecursion (λ (x : StreamEntry E). is_open_entry n x ≡ true → 1 ≤ length (held_on n xs)) xs
some_held n [] = tt
some_held {E} n (x ∷ xs) = (
  λ opens. first (is_open_entry n x) opens,
  all_weaker (λ (y : StreamEntry E). is_open_entry n y ≡ true → 1 ≤ length (held_on n xs))
      (λ y. is_open_entry n y ≡ true → 1 ≤ length (held_on n (x ∷ xs)))
      (λ y h opens. more (is_open_entry n x) (h opens)) xs (some_held n xs),
)
  where
    first : (v : Bool) → v ≡ true → 1 ≤ length (held_if v n x xs)
    first true opens = omega arith
    first false opens = absurd (true≢false (sym opens))

    more : (v : Bool) → 1 ≤ length (held_on n xs) → 1 ≤ length (held_if v n x xs)
    more true h = omega arith
    more false h = h

-- ---- the seat

-- what was set is there
set_there : {X : Type 0} (xs : List X) (i : ℕ) (new old : X) → slice_get xs i ≡ Some old →
    slice_get (slice_set xs i new) i ≡ Some new
set_there [] i new old here = absurd (none-some old here)
set_there (x ∷ xs) zero new old here = refl
set_there (x ∷ xs) (suc i) new old here = set_there xs i new old here

-- a seat of a valid endpoint with the scratch that was planned for a period: the period fits
module _ (plan : OpeningPlan) (e : Endpoint) (seat : Seat) (fits : Seats seat e)
    (channels : plan.format.channels ≡ e.format.channels)
    (needs : plan.scratch ≡ (if nat_le plan.sizes.period seat.block.frames then None else Some plan.sizes.period)) where
  record Suits (new : Seat) : Type 0 where
    pub seats : Seats new e
    pub number : new.endpoint.0 ≡ seat.endpoint.0
    pub next : new.next ≡ seat.next
    pub more : seat.block.frames ≤ new.block.frames
    pub holds : plan.sizes.period ≤ new.block.frames

  suits_block : (block : Option Block) → IsNewBlock plan.scratch plan.format.channels block → Suits
      (with_scratch block seat)
  suits_block block made = by (nat_le plan.sizes.period seat.block.frames) refl block
      (subst (λ o. IsNewBlock o plan.format.channels block) needs made)
    where
      by : (v : Bool) → nat_le plan.sizes.period seat.block.frames ≡ v → (block : Option Block) →
          IsNewBlock (if v then None else Some plan.sizes.period) plan.format.channels block →
          Suits (with_scratch block seat)
      by true le None h = record {
        seats = fits;
        number = refl;
        next = refl;
        more = omega arith;
        holds = leb-true plan.sizes.period seat.block.frames le;
      }
      by true le (Some b) h = absurd h
      by false gt None h = absurd h
      by false gt (Some b) h =
          let above = leb-false plan.sizes.period seat.block.frames gt in
          let is = h.frames_are in
          record {
            seats = record {
              number = fits.number;
              next = fits.next;
              block = record {
                samples = h.samples ∙ ap₂ (λ n k. n * k) (sym h.frames_are) channels;
                bytes = h.bytes ∙ ap₂ (λ n k. 2 * (n * k)) (sym h.frames_are) channels;
              };
              fits = let le = fits.fits in omega arith;
              format = fits.format;
            };
            number = refl;
            next = refl;
            more = omega arith;
            holds = omega arith;
          }

-- ---- the board

module _ {D E : Type 0} (moves : E → List StoreStep → E → Type 0) (state : E → EndState) (x : Asked) (old : Board D E)
    (plan : OpeningPlan) (p : Plans x old plan) (order : InOrder state old) (mid : Vec (StreamEntry E))
    (loses : Disconnects moves state plan.takes_over Override (Some plan.endpoint.0) old.entries mid) (at : ℕ)
    (place : Some at ≡ position (is_endpoint plan.endpoint.0) old.book.registry.list) (block : Option Block)
    (made : IsNewBlock plan.scratch plan.format.channels block) (seats : Vec Seat)
    (seats_are : (seat : Seat) → slice_get old.seats.items at ≡ Some seat →
    seats.items ≡ slice_set old.seats.items at (with_scratch block seat))
    (room : ENDPOINTS ≤ vec_capacity seats)
  where
    abbrev n : ℕ
    n = plan.endpoint.0

    abbrev pub mid_board : Board D E
    mid_board = record old { seats = seats; entries = mid }

    abbrev here : FoundAt (is_endpoint n) old.book.registry.list at
    here = found_at (is_endpoint n) old.book.registry.list at place

    member_is : here.member ≡ p.names.endpoint
    member_is = same_Some here.member p.names.endpoint (sym here.found ∙ p.names.there)

    its_endpoint : slice_get old.book.registry.list at ≡ Some p.names.endpoint
    its_endpoint = here.here ∙ ap (λ e. Some e) member_is

    abbrev its_seat : SeatAt old.seats.items at p.names.endpoint
    its_seat = seat_at old.seats.items old.book.registry.list at p.names.endpoint order.seats its_endpoint

    scratch_is : scratch_at n old.seats.items ≡ its_seat.seat.block.frames
    scratch_is =
        ap (λ o. option_map_or (λ (s : Seat). s.block.frames) o 0)
        (seat_found n old.seats.items old.book.registry.list at order.seats place ∙ its_seat.here)

    its_suits : Suits plan p.names.endpoint its_seat.seat its_seat.fits p.names.format.channels
        (p.scratch ∙ ap (λ k. if nat_le plan.sizes.period k then None else Some plan.sizes.period) scratch_is)
        (with_scratch block its_seat.seat)
    its_suits =
        suits_block plan p.names.endpoint its_seat.seat its_seat.fits p.names.format.channels
        (p.scratch ∙ ap (λ k. if nat_le plan.sizes.period k then None else Some plan.sizes.period) scratch_is) block
        made

    items : seats.items ≡ slice_set old.seats.items at (with_scratch block its_seat.seat)
    items = seats_are its_seat.seat its_seat.here

    pub heads_are : map playhead_of seats.items ≡ map playhead_of old.seats.items
    heads_are =
        ap (map playhead_of) items
        ∙ map-set_same playhead_of old.seats.items at (with_scratch block its_seat.seat) its_seat.seat
        (ap₂ (λ number next. record { number = number; next = next }) its_suits.number its_suits.next
        ∙ ap playhead_of (sym (get_or_from_slice_get old.seats.items at its_seat.seat its_seat.seat its_seat.here)))

    fit : AllZip Seats seats.items old.book.registry.list
    fit =
        subst (λ ss. AllZip Seats ss old.book.registry.list) (sym items)
        (zip_set_seat old.seats.items old.book.registry.list at (with_scratch block its_seat.seat) p.names.endpoint
        its_suits.seats its_endpoint order.seats)

    grows : (k : ℕ) → scratch_at k old.seats.items ≤ scratch_at k seats.items
    grows k =
        subst (λ ss. scratch_at k old.seats.items ≤ scratch_at k ss) (sym items)
        (scratch_grows old.seats.items at its_seat.seat (with_scratch block its_seat.seat) its_seat.here
        its_suits.number its_suits.more k)

    next_stays : (k : ℕ) → next_at k seats.items ≡ next_at k old.seats.items
    next_stays k =
        sym (next_by_heads k seats.items)
        ∙ ap (λ heads. place_of (find (λ (h : Playhead). h.number == k) heads)) heads_are
        ∙ next_by_heads k old.seats.items

    keeps : (e : StreamEntry E) → IsOn e old.book.registry.list old.seats.items → IsOn e old.book.registry.list
        seats.items
    keeps e on = record {
      endpoint = on.endpoint;
      there = on.there;
      fits = on.fits;
      some = on.some;
      longest = on.longest;
      lasts = on.lasts;
      holds = let more = grows e.endpoint.0 in let held = on.holds in omega arith;
      suited = on.suited;
      behind = subst (λ k. e.position ≤ k) (sym (next_stays e.endpoint.0)) on.behind;
      hears = λ loopback. subst (λ k. e.ever ≤ k) (sym (next_stays e.endpoint.0)) (on.hears loopback);
    }

    pub mid_order : InOrder state mid_board
    mid_order =
        disconnected_order moves state old order plan.takes_over Override (Some n) mid loses old.book seats refl refl
        refl
        (λ e left. keeps e) fit order.book room

    -- the new period fits in the endpoint's scratch
    pub mid_holds : plan.sizes.period ≤ scratch_at n seats.items
    mid_holds =
        subst (λ o. plan.sizes.period ≤ option_map_or (λ (s : Seat). s.block.frames) o 0)
        (sym (seat_found n seats.items old.book.registry.list at fit place
        ∙ ap (λ ss. slice_get ss at) items
        ∙ set_there old.seats.items at (with_scratch block its_seat.seat) its_seat.seat its_seat.here))
        its_suits.holds

    -- what is open on the endpoint isn't exclusive, and neither is the new stream beside it
    pub mid_alone : All (λ (y : StreamEntry E). is_open_entry n y ≡ true → (plan.exclusive || y.exclusive) ≡ false)
        mid.items
    mid_alone =
        All-from_recursion (λ (y : StreamEntry E). is_open_entry n y ≡ true → (plan.exclusive || y.exclusive) ≡ false)
        mid.items (go old.entries.items mid.items loses.turned (some_held n old.entries.items) alone)
      where
        claimed : Claim
        claimed = claim plan.exclusive (held_on n old.entries.items) p.names.endpoint.priority

        refuses : is_refused claimed ≡ false
        refuses = ap is_refused (sym p.claims) ∙ p.granted

        none : plan.takes_over ≡ false → 1 ≤ length (held_on n old.entries.items) →
            (plan.exclusive ≡ false) × (has_exclusive (held_on n old.entries.items) ≡ false)
        none left some =
            granted_beside plan.exclusive (held_on n old.entries.items) p.names.endpoint.priority
            (ap not (ne_eqb (length (held_on n old.entries.items)) 0 (λ e. omega (arith, e, some)))) refuses
            (ap is_takeover (sym p.claims) ∙ sym p.takes_over ∙ left)

        -- if none that is held is exclusive, none that is open is
        alone : AllByRecursion (λ (a : StreamEntry E). has_exclusive (held_on n old.entries.items) ≡ false →
            is_open_entry n a ≡ true → a.exclusive ≡ false) old.entries.items
        alone = by (has_exclusive (held_on n old.entries.items)) refl
          where
            by : (v : Bool) → has_exclusive (held_on n old.entries.items) ≡ v →
                AllByRecursion (λ (a : StreamEntry E). has_exclusive (held_on n old.entries.items) ≡ false →
                is_open_entry n a ≡ true → a.exclusive ≡ false) old.entries.items
            by true some =
                all_of (λ (a : StreamEntry E). has_exclusive (held_on n old.entries.items) ≡ false →
                is_open_entry n a ≡ true → a.exclusive ≡ false)
                (λ a h o. absurd (true≢false (sym some ∙ h))) old.entries.items
            by false none_there =
                all_weaker (λ (a : StreamEntry E). is_open_entry n a ≡ true → a.exclusive ≡ false)
                (λ a. has_exclusive (held_on n old.entries.items) ≡ false → is_open_entry n a ≡ true → a.exclusive ≡
                false)
                (λ a h again o. h o) old.entries.items (none_exclusive n old.entries.items none_there)

        not_taken : (v : Bool) (k : ℕ) → is_lost v (Some n) k ≡ false → (k == n) ≡ true → v ≡ false
        not_taken true k left same = absurd (true≢false (sym same ∙ left))
        not_taken false k left same = refl

        one : (a b : StreamEntry E) → Turned moves (closes_if plan.takes_over Override (Some n)) a b →
            (is_open_entry n a ≡ true → 1 ≤ length (held_on n old.entries.items)) →
            (has_exclusive (held_on n old.entries.items) ≡ false → is_open_entry n a ≡ true → a.exclusive ≡ false) →
            is_open_entry n b ≡ true → (plan.exclusive || b.exclusive) ≡ false
        one a b turned some none_there opens =
            let o = and_parts (b.endpoint.0 == n) (is_open_gate b.gate) opens in
            let was = still_open moves plan.takes_over Override (Some n) a b turned (open_by b.gate o.1) in
            let here : (a.endpoint.0 == n) ≡ true = ap (λ k. k.0 == n) (sym turned.same.endpoint) ∙ o.0 in
            let opened : is_open_entry n a ≡ true = ap₂ (λ v w. v && w) here (ap is_open_gate was.0) in
            let both = none (not_taken plan.takes_over a.endpoint.0 was.1 here) (some opened) in
            ap₂ (λ v w. v || w) both.0 (turned.same.exclusive ∙ none_there both.1 opened)

        go : (xs ys : List (StreamEntry E)) → AllZip (Turned moves (closes_if plan.takes_over Override (Some n))) xs ys
            →
            AllByRecursion (λ (a : StreamEntry E). is_open_entry n a ≡ true →
            1 ≤ length (held_on n old.entries.items)) xs →
            AllByRecursion (λ (a : StreamEntry E). has_exclusive (held_on n old.entries.items) ≡ false →
            is_open_entry n a ≡ true → a.exclusive ≡ false) xs →
            AllByRecursion (λ (y : StreamEntry E). is_open_entry n y ≡ true →
            (plan.exclusive || y.exclusive) ≡ false) ys
        go [] [] h some none_there = tt
        go (a ∷ xs) (b ∷ ys) h some none_there =
            (one a b h.0 some.0 none_there.0, go xs ys h.1 some.1 none_there.1)
        go [] (b ∷ ys) h some none_there = absurd h
        go (a ∷ xs) [] h some none_there = absurd h
