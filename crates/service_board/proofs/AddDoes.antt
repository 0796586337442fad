-- Add: the endpoint that is added, and the board with it.
use Rattle.std.proofs.Common.{◌≡◌, ℕ, suc, ◌*◌, ◌<◌, ◌≤◌, ◌==◌, List, [], ◌∷◌, ◌++◌, length, map, Bool, false}
use Rattle.std.proofs.Common.{Option, Some, None, nat_le, nat_lt, refl, sym, ap, ap₂, ◌∙◌, subst, arith, if◌then◌else◌}
use Rattle.std.specs.List.{All, AllByRecursion, AllZip, find}
use Rattle.std.specs.Option.{option_map_or}
use Rattle.std.specs.Vec.{vec_capacity}
use borrow.Author.Tests.{ltb-false}
use Rattle.std.proofs.lemmas.Bool.{leb-false, or_from, or_parts}
use Rattle.std.proofs.lemmas.Bool.Decides.{nat_tests}
use Rattle.std.proofs.lemmas.List.{map-append}
use Rattle.std.proofs.lemmas.List.Elements.{All-push, All-weaker, recursion_from_All}
use Rattle.device_io.specs.DeviceLog.{DeviceLog}
use Rattle.ca_base.specs.declared.codes.Hr.{Hr}
use Rattle.ca_base.specs.declared.codes.TheConstants.Hr as hr
use Rattle.ca_base.specs.declared.ids.Flow.{Flow}
use Rattle.ca_base.specs.declared.ids.Flow.TheVariants as flow
use Rattle.ca_base.specs.declared.limits.TheConstants.{ENDPOINTS, MAX_COUNT}
use Rattle.ca_base.specs.declared.values.TheConstants.{FLOW_CAPTURE}
use Rattle.wave_format.specs.Format.{IsValid}
use Rattle.buffer_ring.specs.declared.step.EndState.{EndState}
use Rattle.buffer_ring.specs.declared.step.StoreStep.{StoreStep}
use Rattle.ca_stage.specs.Stage.{BufferData, Playhead, no_data}
use Rattle.ca_stage.specs.Moves.{added, after_moves, has_playhead, playhead_after, stream_after, with_added}
use Rattle.ca_stage.specs.Order.{RisesFrom}
use Rattle.ca_stage.specs.Tally.{Tally, no_tally}
use Rattle.ca_stage.proofs.Lists.{find-append, first_of_two, map_same}
use Rattle.device_registry.specs.declared.endpoint.Endpoint.{Endpoint}
use Rattle.ca_machine.specs.State.{State}
use Rattle.device_registry.specs.Endpoints.{EndpointList, added as with_one_more, flow_number, is_endpoint}
use Rattle.ca_machine.specs.Plan.{Plan}
use Rattle.ca_machine.specs.Plan.Answer.{found, out_of_memory}
use Rattle.ca_machine.specs.Devices.{add_plan, add_rows, flow_numbered, new_endpoint}
use Rattle.ca_machine.proofs.DevicesGive.{found_gives_none, passes_unread, short_gives_none}
use Rattle.ca_machine.specs.Periods.{shared_frames}
use Rattle.ca_machine.specs.View.{AnswersBy, outside}
use Rattle.period_engine.specs.declared.entry.StreamEntry.{StreamEntry}
use Rattle.period_engine.specs.Entries.{streams_of}
use Rattle.period_engine.specs.Sounds.{IsBlockFor}
use Rattle.service_book.specs.InOrder.{IsBook}
use Rattle.service_book.proofs.Rows.{row_fails}
use Rattle.service_board.specs.Board.{playhead_of, stage_with, state_of}
use Rattle.service_board.specs.Does.{AnyData, Does, Made, store_at}
use Rattle.service_board.specs.InOrder.{IsOn, Belongs, InOrder, Seats, is_seat, next_at, scratch_at}
use Rattle.service_board.specs.Lookups.{Says}
use Rattle.service_board.specs.declared.board.Board.{Board}
use Rattle.service_board.specs.declared.board.Seat.{Seat}
use Rattle.service_board.proofs.PlainEvents.{add_none, made_still}
use Rattle.service_board.proofs.Offering.{answers_granted_by}

-- a board whose stores stay goes on as a plan says
pub stays_does : {D E : Type 0} (faults : D → ℕ) (told : D → Option (List DeviceLog))
    (moves : E → List StoreStep → E → Type 0) (stays : (a : E) → moves a [] a) (b new : Board D E)
    (entries : new.entries.items ≡ b.entries.items) (plan : State → Plan) (result : Hr) (payload : List ℕ) →
    ((datas : ℕ → BufferData) (tally : Tally) →
    AnswersBy (state_of datas tally b) (plan (state_of datas tally b)) result payload (state_of datas tally new)
    (outside faults told b.devices) (outside faults told new.devices)) →
    Does faults told moves None AnyData b new plan result payload
stays_does faults told moves stays b new entries plan result payload answers = record {
  steps = λ client. [];
  made = λ client.
      subst (λ es. Made moves None [] (store_at client b.entries.items) (store_at client es)) (sym entries)
      (made_still moves None stays (store_at client b.entries.items));
  packs = λ client. tt;
  does = λ datas tally agrees knows. record { tally = tally; answers = answers datas tally };
}

-- numbers that rise, and a greater one behind them
rises_push : (low n : ℕ) (ns : List ℕ) → RisesFrom low ns → low ≤ n → AllByRecursion (λ m. m < n) ns →
    RisesFrom low (ns ++ n ∷ [])
rises_push low n [] rises le below = (le, tt)
rises_push low n (m ∷ ns) rises le below = (rises.0, rises_push (suc m) n ns rises.1 below.0 below.1)

numbers_below : (n last : ℕ) (endpoints : List Endpoint) → last < n →
    AllByRecursion (λ e. e.no.0 ≤ last) endpoints →
    AllByRecursion (λ m. m < n) (map (λ e. e.no.0) endpoints)
numbers_below n last [] lt all = tt
numbers_below n last (e ∷ endpoints) lt all =
    let le = all.0 in
    (omega arith, numbers_below n last endpoints lt all.1)

-- no seat has a greater number than the last one
no_head : (n last : ℕ) (seats : List Seat) (endpoints : List Endpoint) → AllZip Seats seats endpoints → last < n →
    AllByRecursion (λ e. e.no.0 ≤ last) endpoints → has_playhead n (map playhead_of seats) ≡ false
no_head n last [] [] h lt all = refl
no_head n last (s ∷ seats) (e ∷ endpoints) h lt all =
    let number = h.0.number in
    let le = all.0 in
    let other : (s.endpoint.0 == n) ≡ false = grind (arith, nat_tests) in
    or_from (s.endpoint.0 == n) (has_playhead n (map playhead_of seats)) other
    (no_head n last seats endpoints h.1 lt all.1)
no_head n last [] (e ∷ endpoints) h lt all = absurd h
no_head n last (s ∷ seats) [] h lt all = absurd h

zip_push : (seats : List Seat) (endpoints : List Endpoint) (s : Seat) (e : Endpoint) → AllZip Seats seats endpoints →
    Seats s e → AllZip Seats (seats ++ s ∷ []) (endpoints ++ e ∷ [])
zip_push [] [] s e h fits = (fits, tt)
zip_push (x ∷ seats) (y ∷ endpoints) s e h fits = (h.0, zip_push seats endpoints s e h.1 fits)
zip_push [] (y ∷ endpoints) s e h fits = absurd h
zip_push (x ∷ seats) [] s e h fits = absurd h

-- what is found is found among more; and a next place doesn't fall
still_found : {A : Type 0} (test : A → Bool) (xs : List A) (x more : A) → find test xs ≡ Some x →
    find test (xs ++ more ∷ []) ≡ Some x
still_found test xs x more e =
    find-append test xs (more ∷ []) ∙ ap (λ o. first_of_two o (find test (more ∷ []))) e

next_or : (o p : Option Seat) → option_map_or (λ s. s.next) o 0 ≤ option_map_or (λ s. s.next) (first_of_two o p) 0
next_or None p = omega arith
next_or (Some s) p = omega arith

next_stays : (n : ℕ) (seats : List Seat) (s : Seat) → next_at n seats ≤ next_at n (seats ++ s ∷ [])
next_stays n seats s =
    subst (λ o. next_at n seats ≤ option_map_or (λ (t : Seat). t.next) o 0)
    (sym (find-append (is_seat n) seats (s ∷ []))) (next_or (find (is_seat n) seats) (find (is_seat n) (s ∷ [])))

scratch_or : (o p : Option Seat) → option_map_or (λ (s : Seat). s.block.frames) o 0
    ≤ option_map_or (λ (s : Seat). s.block.frames) (first_of_two o p) 0
scratch_or None p = omega arith
scratch_or (Some s) p = omega arith

scratch_stays : (n : ℕ) (seats : List Seat) (s : Seat) → scratch_at n seats ≤ scratch_at n (seats ++ s ∷ [])
scratch_stays n seats s =
    subst (λ o. scratch_at n seats ≤ option_map_or (λ (t : Seat). t.block.frames) o 0)
    (sym (find-append (is_seat n) seats (s ∷ [])))
    (scratch_or (find (is_seat n) seats) (find (is_seat n) (s ∷ [])))

-- ---- the seat of an endpoint, with a new block

pub seat_made : (seat : Seat) (e : Endpoint) → seat.endpoint.0 ≡ e.no.0 → seat.next ≤ MAX_COUNT →
    (frames : ℕ) → shared_frames e ≤ frames → IsBlockFor frames e.format.channels seat.block → IsValid e.format →
    Seats seat e
seat_made seat e number next frames fits block valid = record {
  number = number;
  next = next;
  block = record {
    samples = block.samples ∙ ap (λ n. n * e.format.channels) (sym block.frames_are);
    bytes = block.bytes ∙ ap (λ n. 2 * (n * e.format.channels)) (sym block.frames_are);
  };
  fits = subst (λ n. shared_frames e ≤ n) (sym block.frames_are) fits;
  format = valid;
}

-- the flow of a number
pub flow_is : (f : Flow) (n : ℕ) → flow_number f ≡ n → f ≡ flow_numbered n
flow_is flow.Render n e = ap flow_numbered e
flow_is flow.Capture n e = ap flow_numbered e

-- ---- an endpoint is added

module _ {D E : Type 0} (state : E → EndState) (b : Board D E) (order : InOrder state b) (number flow : ℕ)
    (format name : List ℕ) (says : Says b (λ st. add_rows st number flow format name) None) where
  -- there is room for an endpoint more, its number is new, and its flow is one that there is
  pub free_to_add :
      (length b.book.registry.list < ENDPOINTS) × (b.book.registry.last < number) × (flow ≤ FLOW_CAPTURE)
  free_to_add =
      let runs = row_fails b.book.is_shut hr.SERVICE_NOT_RUNNING _ (says (λ client. no_data) no_tally) in
      let second = row_fails _ hr.E_INVALIDARG _ runs.1 in
      let third = row_fails (nat_le ENDPOINTS (length b.book.registry.list)) hr.ENDPOINTS_FULL None second.1 in
      let above = or_parts (nat_le number b.book.registry.last) _ second.0 in
      let small = or_parts (nat_lt FLOW_CAPTURE flow) _ above.1 in (
        leb-false ENDPOINTS (length b.book.registry.list) third.0,
        leb-false number b.book.registry.last above.0,
        ltb-false FLOW_CAPTURE flow small.0,
      )

  below_number : AllByRecursion (λ e. e.no.0 ≤ b.book.registry.last) b.book.registry.list
  below_number =
      recursion_from_All (λ (e : Endpoint). e.no.0 ≤ b.book.registry.last) b.book.registry.list order.book.added

  -- memory ran out
  pub no_memory : (faults : D → ℕ) (told : D → Option (List DeviceLog)) (moves : E → List StoreStep → E → Type 0)
      (stays : (a : E) → moves a [] a) →
      Does faults told moves None AnyData b b (λ st. add_plan st number flow format name) hr.E_OUTOFMEMORY []
  no_memory faults told moves stays =
      stays_does faults told moves stays b b refl (λ st. add_plan st number flow format name) hr.E_OUTOFMEMORY []
      (λ datas tally.
      answers_granted_by (state_of datas tally b) (add_plan (state_of datas tally b) number flow format name)
      hr.E_OUTOFMEMORY [] (state_of datas tally b) (outside faults told b.devices) (outside faults told b.devices)
      (out_of_memory ∷ []) (says datas tally) tt refl refl refl
      (passes_unread (outside faults told b.devices) (outside faults told b.devices) [] (out_of_memory ∷ [])
      short_gives_none (add_none (told b.devices)) refl))

  module _ (new : Board D E) (endpoint : Endpoint) (seat : Seat)
      (pushed : new.book.registry ≡ with_one_more endpoint b.book.registry)
      (seated : new.seats.items ≡ b.seats.items ++ seat ∷ [])
      (endpoint_is : endpoint ≡ new_endpoint number flow format name)
      (seat_is : playhead_of seat ≡ record { number = number; next = 0 })
    where
      abbrev pub added_board : Board D E
      added_board = record b { book = record (b.book) { registry = new.book.registry }; seats = new.seats }

      list_is : new.book.registry.list ≡ b.book.registry.list ++ endpoint ∷ []
      list_is = ap (λ (r : EndpointList). r.list) pushed

      number_is : endpoint.no.0 ≡ number
      number_is = ap (λ (e : Endpoint). e.no.0) endpoint_is

      last_is : new.book.registry.last ≡ number
      last_is = ap (λ (r : EndpointList). r.last) pushed ∙ number_is

      heads_are : map playhead_of new.seats.items
          ≡ with_added (added number) (map (playhead_after (added number)) (map playhead_of b.seats.items))
      heads_are =
          let heads = map playhead_of b.seats.items in
          let none =
          no_head number b.book.registry.last b.seats.items b.book.registry.list order.seats free_to_add.1
          below_number
          in
          ap (map playhead_of) seated
          ∙ map-append playhead_of b.seats.items (seat ∷ [])
          ∙ ap (λ (h : Playhead). heads ++ h ∷ []) seat_is
          ∙ ap (λ c. if c then heads else heads ++ record { number = number; next = 0 } ∷ []) (sym none)
          ∙ ap (with_added (added number)) (sym (map_same (playhead_after (added number)) (λ e. refl) heads))

      stage_is : (datas : ℕ → BufferData) → stage_with datas new.seats.items b.entries.items
          ≡ after_moves (stage_with datas b.seats.items b.entries.items) (added number ∷ [])
      stage_is datas =
          ap₂ (λ hs ss. record { playheads = hs; streams = ss }) heads_are
          (sym (map_same (stream_after (added number)) (λ s. refl) (streams_of datas b.entries.items)))

      pub add_does : (faults : D → ℕ) (told : D → Option (List DeviceLog)) (moves : E → List StoreStep → E → Type 0)
          (stays : (a : E) → moves a [] a) →
          Does faults told moves None AnyData b added_board (λ st. add_plan st number flow format name) hr.S_OK []
      add_does faults told moves stays =
          stays_does faults told moves stays b added_board refl (λ st. add_plan st number flow format name) hr.S_OK []
          (λ datas tally.
          answers_granted_by (state_of datas tally b) (add_plan (state_of datas tally b) number flow format name)
          hr.S_OK [] (state_of datas tally added_board) (outside faults told b.devices)
          (outside faults told b.devices) (found ∷ []) (says datas tally) refl refl refl
          (ap₂ (λ (r : List Endpoint × ℕ) stage. record (state_of datas tally b) {
            endpoints = r.0;
            last_endpoint = r.1;
            stage = stage;
          })
          (ap₂ (λ es last. (es, last))
          (list_is ∙ ap (λ (e : Endpoint). b.book.registry.list ++ e ∷ []) endpoint_is) last_is)
          (stage_is datas))
          (passes_unread (outside faults told b.devices) (outside faults told b.devices) [] (found ∷ [])
          found_gives_none (add_none (told b.devices)) refl))

      -- ---- the order of the board

      -- a next place is no lower
      no_lower : (n count : ℕ) → count ≤ next_at n b.seats.items → count ≤ next_at n new.seats.items
      no_lower n count le =
          let rises = next_stays n b.seats.items seat in
          let after : next_at n new.seats.items ≡ next_at n (b.seats.items ++ seat ∷ []) = ap (next_at n) seated in
          omega arith

      -- scratch is no less
      no_less : (n frames : ℕ) → frames ≤ scratch_at n b.seats.items → frames ≤ scratch_at n new.seats.items
      no_less n frames le =
          let more = scratch_stays n b.seats.items seat in
          let after : scratch_at n new.seats.items ≡ scratch_at n (b.seats.items ++ seat ∷ []) =
          ap (scratch_at n) seated in
          omega arith

      still_on : (e : StreamEntry E) → IsOn e b.book.registry.list b.seats.items →
          IsOn e new.book.registry.list new.seats.items
      still_on e on = record {
        endpoint = on.endpoint;
        there =
            ap (find (is_endpoint e.endpoint.0)) list_is
            ∙ still_found (is_endpoint e.endpoint.0) b.book.registry.list on.endpoint endpoint on.there;
        fits = on.fits;
        some = on.some;
        longest = on.longest;
        lasts = on.lasts;
        holds = no_less e.endpoint.0 e.period on.holds;
        suited = on.suited;
        behind = no_lower e.endpoint.0 e.position on.behind;
        hears = λ is. no_lower e.endpoint.0 e.ever (on.hears is);
      }

      still_belongs : (e : StreamEntry E) → Belongs b.book b.seats.items e → Belongs added_board.book new.seats.items e
      still_belongs e h = record {
        client = h.client;
        live = h.live;
        on = h.on;
        opens = λ unclosed. still_on e (h.opens unclosed);
        within = h.within;
        gains = h.gains;
      }

      added_book : IsBook added_board.book
      added_book =
          let old = order.book in
          let above = free_to_add.1 in
          record {
            rooms = record {
              connections = old.rooms.connections;
              clients = old.rooms.clients;
              notices = old.rooms.notices;
            };
            apart = old.apart;
            opens = old.opens;
            clients = old.clients;
            few_clients = old.few_clients;
            made = old.made;
            clients_made = old.clients_made;
            endpoints =
                subst (λ es. RisesFrom 0 (map (λ (e : Endpoint). e.no.0) es)) (sym list_is)
                (subst (RisesFrom 0)
                (sym (map-append (λ (e : Endpoint). e.no.0) b.book.registry.list (endpoint ∷ [])
                ∙ ap (λ n. map (λ (e : Endpoint). e.no.0) b.book.registry.list ++ n ∷ []) number_is))
                (rises_push 0 number (map (λ (e : Endpoint). e.no.0) b.book.registry.list) old.endpoints
                (omega arith)
                (numbers_below number b.book.registry.last b.book.registry.list above below_number)));
            added =
                subst (λ n. All (λ (e : Endpoint). e.no.0 ≤ n) new.book.registry.list) (sym last_is)
                (subst (All (λ (e : Endpoint). e.no.0 ≤ number)) (sym list_is)
                (All-push (λ (e : Endpoint). e.no.0 ≤ number) b.book.registry.list endpoint
                (All-weaker (λ (e : Endpoint). e.no.0 ≤ b.book.registry.last) (λ e. e.no.0 ≤ number)
                (λ e le. omega arith) b.book.registry.list old.added) (omega (arith, number_is))));
            levels = old.levels;
            owned = old.owned;
          }

      pub added_order : vec_capacity new.seats ≡ vec_capacity b.seats → Seats seat endpoint → InOrder state added_board
      added_order seat_capacity fits = record {
        order = order.order;
        rested = order.rested;
        belong =
            All-weaker (Belongs b.book b.seats.items) (Belongs added_board.book new.seats.items) still_belongs
            b.entries.items order.belong;
        seats =
            subst (λ ss. AllZip Seats ss new.book.registry.list) (sym seated)
            (subst (AllZip Seats (b.seats.items ++ seat ∷ [])) (sym list_is)
            (zip_push b.seats.items b.book.registry.list seat endpoint order.seats fits));
        alike = order.alike;
        book = added_book;
        room = order.room;
        seat_room = let room = order.seat_room in omega arith;
        draft_room = order.draft_room;
      }
