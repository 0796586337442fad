-- An event that chooses the default endpoint of a flow in a role: what it does on a board.
use Rattle.std.proofs.Common.{◌≡◌, ℕ, ◌==◌, not, nat_lt, List, [], ◌∷◌, Bool, true, false, Option, Some, None}
use Rattle.std.proofs.Common.{refl, sym, ap, ◌∙◌, eqb-true}
use Rattle.std.specs.List.{find}
use Rattle.std.proofs.lemmas.Bool.{or_parts, true≢false}
use Rattle.device_io.specs.DeviceLog.{DeviceLog}
use Rattle.ca_base.specs.declared.codes.Hr.{Hr}
use Rattle.ca_base.specs.declared.codes.TheConstants.Hr as hr
use Rattle.ca_base.specs.declared.values.TheConstants.{FLOW_CAPTURE, ROLE_COMMUNICATIONS}
use Rattle.ca_base.specs.Rows.{Row}
use Rattle.buffer_ring.specs.declared.step.StoreStep.{StoreStep}
use Rattle.device_registry.specs.declared.endpoint.Endpoint.{Endpoint}
use Rattle.device_registry.specs.Endpoints.{flow_number, is_endpoint}
use Rattle.role_defaults.specs.declared.choices.Choices.{Choices}
use Rattle.role_defaults.specs.Defaults.{with_choice}
use Rattle.ca_machine.specs.State.{State, endpoint_at}
use Rattle.ca_machine.specs.Devices.{is_wrong_choice, missing_rows, set_default_plan}
use Rattle.service_book.proofs.Rows.{row_holds, row_passes}
use Rattle.service_board.specs.Board.{state_of}
use Rattle.service_board.specs.Does.{AnyData, Does}
use Rattle.service_board.specs.Lookups.{Says}
use Rattle.service_board.specs.NamedEndpoints.{FindsNamed}
use Rattle.service_board.specs.declared.board.Board.{Board}
use Rattle.service_board.proofs.GrantedEvents.{book_does}
use Rattle.service_board.proofs.LookingUp.{says_front}
use Rattle.service_board.proofs.NamedRows.{own_says}

-- ---- the rows

-- the row of the choice
abbrev choice_row : ℕ → ℕ → ℕ → State → List (Row Hr)
choice_row flow role number st = (is_wrong_choice flow role (endpoint_at number st), hr.E_INVALIDARG) ∷ []

pub choice_missing : {D E : Type 0} (b : Board D E) (flow role number : ℕ) (code : Hr) →
    Says b (λ st. missing_rows st number) (Some code) →
    Says b (λ st. (set_default_plan st flow role number).rows) (Some code)
choice_missing b flow role number code says =
    says_front b (λ st. missing_rows st number) (choice_row flow role number) code says

untrue : (v : Bool) → not v ≡ false → v ≡ true
untrue true h = refl
untrue false h = absurd (true≢false h)

-- the flow of a choice that is right
right_flow : (flow role : ℕ) (e : Endpoint) → false ≡ is_wrong_choice flow role (Some e) → flow_number e.flow ≡ flow
right_flow flow role e right =
    let known = or_parts (nat_lt FLOW_CAPTURE flow) _ (sym right) in
    let parts = or_parts (nat_lt ROLE_COMMUNICATIONS role) (not (flow_number e.flow == flow)) known.1 in
    eqb-true (flow_number e.flow) flow (untrue (flow_number e.flow == flow) parts.1)

module _ {D E : Type 0} (b : Board D E) (flow role number at : ℕ) (found : FindsNamed number b at) (e : Endpoint)
    (read : found.endpoint ≡ e) where
  choice_is : (v : Bool) → v ≡ is_wrong_choice flow role (Some e) →
      is_wrong_choice flow role (find (is_endpoint number) b.book.registry.list) ≡ v
  choice_is v is =
      ap (is_wrong_choice flow role) found.found
      ∙ ap (λ (x : Endpoint). is_wrong_choice flow role (Some x)) read
      ∙ sym is

  pub wrong_choice : true ≡ is_wrong_choice flow role (Some e) →
      Says b (λ st. (set_default_plan st flow role number).rows) (Some hr.E_INVALIDARG)
  wrong_choice wrong =
      own_says b number at found (choice_row flow role number) (Some hr.E_INVALIDARG)
      (λ datas tally. row_holds _ hr.E_INVALIDARG None (choice_is true wrong))

  -- ---- the choice

  module _ (right : false ≡ is_wrong_choice flow role (Some e)) where
    choice_passes : Says b (λ st. (set_default_plan st flow role number).rows) None
    choice_passes =
        own_says b number at found (choice_row flow role number) None
        (λ datas tally. row_passes _ hr.E_INVALIDARG None (choice_is false right) refl)

    module _ (choices : Choices) (chosen : choices ≡ with_choice (flow_number e.flow) role number b.book.choices) where
      abbrev chosen_board : Board D E
      chosen_board = record b { book = record (b.book) { choices = choices } }

      pub choice_does : (faults : D → ℕ) (told : D → Option (List DeviceLog)) (moves : E → List StoreStep → E → Type 0)
          (stays : (a : E) → moves a [] a) →
          Does faults told moves None AnyData b chosen_board (λ st. set_default_plan st flow role number) hr.S_OK []
      choice_does faults told moves stays =
          book_does faults told moves None AnyData stays b chosen_board.book
          (λ st. set_default_plan st flow role number) hr.S_OK []
          (λ datas tally. record {
            passes = choice_passes datas tally;
            asks = refl;
            output = refl;
            result_is = refl;
            payload_is = refl;
            after_is =
                ap (λ (c : Choices). record (state_of datas tally b) { choices = c })
                (chosen
                ∙ ap (λ k. with_choice k role number b.book.choices) (right_flow flow role e right));
          })
