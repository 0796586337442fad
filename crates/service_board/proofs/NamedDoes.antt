-- What an event does on a board with the endpoint that it names: another state, name or format, and a choice.
use Rattle.std.proofs.Common.{arith, ◌≡◌, ℕ, not, List, [], ◌∷◌, get_or, Bool, Option, Some, None, Ok, Err, refl, sym}
use Rattle.std.proofs.Common.{ap, ◌∙◌}
use Rattle.std.proofs.Common.{subst}
use Rattle.std.specs.Global.{Vec}
use Rattle.std.proofs.lemmas.Option.{get_or_from_slice_get}
use Rattle.device_io.specs.DeviceLog.{DeviceLog}
use Rattle.ca_base.specs.declared.codes.Hr.{Hr}
use Rattle.ca_base.specs.declared.codes.TheConstants.Hr as hr
use Rattle.ca_base.specs.declared.ids.Reason.TheVariants.{Removal}
use Rattle.ca_base.specs.Rows.{first}
use Rattle.buffer_ring.specs.declared.step.EndState.{EndState}
use Rattle.buffer_ring.specs.declared.step.StoreStep.{StoreStep}
use Rattle.device_registry.specs.declared.endpoint.Endpoint.{Endpoint}
use Rattle.device_registry.specs.Changes.{Sets, with_changed}
use Rattle.device_registry.specs.Endpoints.{EndpointList, endpoint_at, is_state, with_state}
use Rattle.device_registry.specs.Rows.{state_rows}
use Rattle.ca_machine.specs.State.{State}
use Rattle.ca_machine.specs.Plan.{Outcome}
use Rattle.ca_machine.specs.Devices.{leaves_active, set_state_plan, with_endpoint_state, with_named}
use Rattle.period_engine.specs.declared.entry.StreamEntry.{StreamEntry}
use Rattle.service_board.specs.Board.{state_of}
use Rattle.stream_entries.specs.Closing.{Disconnects}
use Rattle.service_board.specs.Does.{AnyData, Does}
use Rattle.service_board.specs.InOrder.{InOrder}
use Rattle.service_board.specs.Lookups.{Says}
use Rattle.service_board.specs.NamedEndpoints.{FindsNamed}
use Rattle.service_board.specs.declared.board.Board.{Board}
use Rattle.service_board.proofs.ChangedBoards.{changed_granted, changed_order}
use Rattle.service_board.proofs.ChangedEndpoints.{zip_changed}
use Rattle.service_board.proofs.Disconnecting.{IsGranted, disconnects_does}
use Rattle.service_board.proofs.PlainEvents.{not_asked, refused_does}
use Rattle.service_board.proofs.NamedRows.{own_says}

-- the endpoint that was found, as it is read at its place
pub named_read : {D E : Type 0} (number : ℕ) (b : Board D E) (at : ℕ) (found : FindsNamed number b at)
    (list : List Endpoint) → list ≡ b.book.registry.list → (e : Endpoint) → e ≡ get_or list at e →
    found.endpoint ≡ e
named_read number b at found list same e read =
    sym (get_or_from_slice_get b.book.registry.list at found.endpoint e found.here)
    ∙ sym (read ∙ ap (λ es. get_or es at e) same)

pub granted_named : (st : State) (o : Option Endpoint) (e : Endpoint) (outcome : Endpoint → Outcome) (after : State) →
    o ≡ Some e → IsGranted (outcome e) after → IsGranted (with_named st o outcome) after
granted_named st o e outcome after found granted =
    subst (λ p. IsGranted (with_named st p outcome) after) (sym found) granted

-- ---- another state

module _ {D E : Type 0} (b : Board D E) (number at to : ℕ) (found : FindsNamed number b at) where
  -- the rows say what the registry's say
  state_says : (verdict : Option Hr) → verdict ≡ first (state_rows to (endpoint_at number b.book.registry.list)) →
      Says b (λ st. (set_state_plan st number to).rows) verdict
  state_says verdict h =
      own_says b number at found (λ st. (not (is_state to), hr.E_INVALIDARG) ∷ []) verdict
      (λ datas tally. sym (h ∙ ap (λ o. first (state_rows to o)) found.found))

  module _ (faults : D → ℕ) (told : D → Option (List DeviceLog)) (moves : E → List StoreStep → E → Type 0)
      (registry : EndpointList) where
    pub state_refused : (stays : (a : E) → moves a [] a) (code : Hr) →
        Sets (state_rows to (endpoint_at number b.book.registry.list))
        (with_changed number (with_state to) b.book.registry) (Err code) b.book.registry registry →
        Does faults told moves None AnyData b (record b { book = record (b.book) { registry = registry } })
        (λ st. set_state_plan st number to) code []
    state_refused stays code sets =
        subst (λ (r : EndpointList). Does faults told moves None AnyData b
        (record b { book = record (b.book) { registry = r } }) (λ st. set_state_plan st number to) code [])
        (sym sets.now)
        (refused_does faults told moves None AnyData stays b (λ st. set_state_plan st number to) code
        (state_says (Some code) sets.says))

    module _ (state : E → EndState) (order : InOrder state b)
        (sets : Sets (state_rows to (endpoint_at number b.book.registry.list))
        (with_changed number (with_state to) b.book.registry) (Ok tt) b.book.registry registry)
        (entries : Vec (StreamEntry E))
      where
        abbrev state_board : Board D E
        state_board = record b { book = record (b.book) { registry = registry }; entries = entries }

        state_does_by : Disconnects moves state (leaves_active to found.endpoint) Removal (Some number) b.entries
            entries →
            Does faults told moves None AnyData b state_board (λ st. set_state_plan st number to) hr.S_OK []
        state_does_by loses =
            let lost = leaves_active to found.endpoint in
            disconnects_does moves state b order lost Removal (Some number) entries loses state_board.book b.seats
            faults told (λ st. set_state_plan st number to) [] (state_says None sets.says) not_asked
            (λ datas tally. refl)
            (λ datas tally.
            granted_named (state_of datas tally b) (endpoint_at number b.book.registry.list) found.endpoint
            (with_endpoint_state (state_of datas tally b) number to) _ found.found
            (changed_granted moves state b order lost Removal number entries loses (with_state to) registry sets.now
            b.seats refl datas tally))

        pub state_does : (lost : Bool) → lost ≡ leaves_active to found.endpoint →
            Disconnects moves state lost Removal (Some number) b.entries entries →
            Does faults told moves None AnyData b state_board (λ st. set_state_plan st number to) hr.S_OK []
        state_does lost is loses =
            state_does_by (subst (λ l. Disconnects moves state l Removal (Some number) b.entries entries) is loses)

        pub state_order : (lost : Bool) → Disconnects moves state lost Removal (Some number) b.entries entries →
            InOrder state state_board
        state_order lost loses =
            changed_order moves state b order lost Removal number entries loses (with_state to) registry sets.now
            b.seats (λ e. refl) (λ e. refl) (λ e found left. refl) (λ e found left. refl) (λ n. refl) (λ n. omega arith)
            (zip_changed number (with_state to) b.seats.items b.book.registry.list
            (λ t e fits. record {
              number = fits.number;
              next = fits.next;
              block = fits.block;
              fits = fits.fits;
              format = fits.format;
            })
            order.seats)
            order.seat_room
