-- An event that changes what is said of an endpoint, and nothing that its streams depend on: what it does on a board,
-- and that the board stays in order.
use Rattle.std.proofs.Common.{arith, ◌≡◌, ℕ, ◌≤◌, ◌++◌, List, [], false, Option, Some, None, Ok, Err, refl, sym, ap}
use Rattle.std.proofs.Common.{◌∙◌}
use Rattle.std.proofs.Common.{subst}
use Rattle.std.proofs.lemmas.Option.{none-some}
use Rattle.device_io.specs.DeviceLog.{DeviceLog}
use Rattle.ca_base.specs.declared.codes.Hr.{Hr}
use Rattle.ca_base.specs.declared.codes.TheConstants.Hr as hr
use Rattle.ca_base.specs.declared.ids.Reason.TheVariants.{Removal}
use Rattle.ca_base.specs.Rows.{Row, first}
use Rattle.ca_base.specs.declared.limits.TheConstants.{SHARED_PERIOD}
use Rattle.wave_format.specs.declared.format.Format.{Format}
use Rattle.wave_format.specs.Format.{IsValid, frames_of_time}
use Rattle.buffer_ring.specs.declared.step.EndState.{EndState}
use Rattle.buffer_ring.specs.declared.step.StoreStep.{StoreStep}
use Rattle.ca_stage.specs.Order.{RisesFrom}
use Rattle.device_registry.specs.declared.endpoint.Endpoint.{Endpoint}
use Rattle.device_registry.specs.Changes.{Sets, with_changed}
use Rattle.device_registry.specs.Endpoints.{EndpointList, changed, endpoint_at, replaced_by}
use Rattle.device_registry.specs.Rows.{found_rows}
use Rattle.ca_machine.specs.State.{State}
use Rattle.ca_machine.specs.Devices.{missing_rows}
use Rattle.ca_machine.specs.Plan.{Plan, granted, plain}
use Rattle.service_board.specs.Board.{state_of}
use Rattle.service_board.specs.Does.{AnyData, Does}
use Rattle.service_board.specs.InOrder.{InOrder, Seats, IsScratch}
use Rattle.service_board.specs.Lookups.{Says}
use Rattle.service_board.specs.NamedEndpoints.{FindsNamed}
use Rattle.service_board.specs.declared.board.Board.{Board}
use Rattle.service_board.specs.declared.board.Seat.{Seat}
use Rattle.service_board.proofs.ChangedBoards.{changed_alike, changed_order, numbers}
use Rattle.service_board.proofs.ChangedEndpoints.{zip_changed}
use Rattle.stream_entries.proofs.TurnedEntries.{none_lost}
use Rattle.service_board.proofs.GrantedEvents.{book_does}
use Rattle.service_board.proofs.NamedRows.{own_says}

-- what the registry may replace of an endpoint is changed, and its format stays
pub record KeepsUse (f : Endpoint → Endpoint) : Type 0 where
  pub replaces : (e : Endpoint) → replaced_by (f e) e ≡ f e
  pub format : (e : Endpoint) → (f e).format ≡ e.format

-- the plan of such an event, with rows of its own
abbrev pub changing_plan : (Endpoint → Endpoint) → (State → List (Row Hr)) → ℕ → State → Plan
changing_plan f rows number st = plain (missing_rows st number ++ rows st)
    (granted [] [] (record st { endpoints = changed number f st.endpoints }))

module _ {D E : Type 0} (b : Board D E) (number at : ℕ) (found : FindsNamed number b at) (f : Endpoint → Endpoint)
    (keeps : KeepsUse f) (new : Endpoint) (is : new ≡ f found.endpoint) (registry : EndpointList) where
  same_number : (e : Endpoint) → (f e).no ≡ e.no
  same_number e = ap (λ (x : Endpoint). x.no) (sym (keeps.replaces e))

  same_flow : (e : Endpoint) → (f e).flow ≡ e.flow
  same_flow e = ap (λ (x : Endpoint). x.flow) (sym (keeps.replaces e))

  number_is : new.no.0 ≡ number
  number_is =
      ap (λ (e : Endpoint). e.no.0) is ∙ ap (λ n. n.0) (same_number found.endpoint) ∙ found.number_is

  -- the endpoint is there
  pub is_there : (code : Hr) → Sets (found_rows (endpoint_at new.no.0 b.book.registry.list))
      (with_changed new.no.0 (replaced_by new) b.book.registry) (Err code) b.book.registry registry → ⊥
  is_there code sets =
      none-some code
      (sym (sets.says
      ∙ ap (λ n. first (found_rows (endpoint_at n b.book.registry.list))) number_is
      ∙ ap (λ o. first (found_rows o)) found.found))

  -- it is replaced by what f makes of it
  module _ (rises : RisesFrom 0 (numbers b.book.registry.list))
      (sets : Sets (found_rows (endpoint_at new.no.0 b.book.registry.list))
      (with_changed new.no.0 (replaced_by new) b.book.registry) (Ok tt) b.book.registry registry)
    where
      changes_one : registry ≡ with_changed number f b.book.registry
      changes_one =
          sets.now
          ∙ ap (λ n. with_changed n (replaced_by new) b.book.registry) number_is
          ∙ ap (λ (e : Endpoint). with_changed number (replaced_by e) b.book.registry) is
          ∙ ap (λ es. record (b.book.registry) { list = es })
          (changed_alike number 0 (replaced_by (f found.endpoint)) f b.book.registry.list found.endpoint rises
          found.found (keeps.replaces found.endpoint))

      abbrev board_with : Board D E
      board_with = record b { book = record (b.book) { registry = registry } }

      pub changing_does : (faults : D → ℕ) (told : D → Option (List DeviceLog))
          (moves : E → List StoreStep → E → Type 0) (stays : (a : E) → moves a [] a) →
          (rows : State → List (Row Hr)) → Says b rows None →
          Does faults told moves None AnyData b board_with (changing_plan f rows number) hr.S_OK []
      changing_does faults told moves stays rows passes =
          book_does faults told moves None AnyData stays b board_with.book (changing_plan f rows number) hr.S_OK []
          (λ datas tally. record {
            passes = own_says b number at found rows None passes datas tally;
            asks = refl;
            output = refl;
            result_is = refl;
            payload_is = refl;
            after_is =
                ap (λ (r : EndpointList).
                record (state_of datas tally b) { endpoints = r.list; last_endpoint = r.last }) changes_one;
          })

      seats_fit : (s : Seat) (e : Endpoint) → Seats s e → Seats s (f e)
      seats_fit s e fits = record {
        number = fits.number ∙ ap (λ n. n.0) (sym (same_number e));
        next = fits.next;
        block = subst (λ (k : Format). IsScratch k.channels s.block) (sym (keeps.format e)) fits.block;
        fits =
            subst (λ (k : Format). frames_of_time k.rate SHARED_PERIOD ≤ s.block.frames) (sym (keeps.format e))
            fits.fits;
        format = subst IsValid (sym (keeps.format e)) fits.format;
      }

      pub changing_order : (moves : E → List StoreStep → E → Type 0) (stays : (a : E) → moves a [] a)
          (state : E → EndState) → InOrder state b → InOrder state board_with
      changing_order moves stays state order =
          changed_order moves state b order false Removal number b.entries
          (none_lost moves stays state Removal (Some number) b.entries order.rested) f registry changes_one b.seats
          same_number same_flow (λ e there left. ap (λ (k : Format). k.channels) (keeps.format e))
          (λ e there left. ap (λ (k : Format). k.rate) (keeps.format e)) (λ n. refl) (λ n. omega arith)
          (zip_changed number f b.seats.items b.book.registry.list seats_fit order.seats) order.seat_room
