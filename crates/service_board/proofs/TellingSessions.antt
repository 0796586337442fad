-- What calls tell of sessions.
use Rattle.std.proofs.Common.{◌≡◌, ℕ, List, [], ◌∷◌, ◌++◌, Bool}
use Rattle.std.proofs.Common.{true, false, Option, Some, None, is_none, is_some, not, refl, sym, ap, ◌∙◌}
use Rattle.std.proofs.Common.{if◌then◌else◌}
use Rattle.std.specs.List.{find, position}
use Rattle.device_io.specs.DeviceLog.{DeviceLog}
use Rattle.ca_base.specs.declared.codes.Hr.{Hr}
use Rattle.ca_base.specs.declared.codes.TheConstants.Hr as hr
use Rattle.ca_base.specs.Rows.{Row, first}
use Rattle.buffer_ring.specs.declared.step.StoreStep.{StoreStep}
use Rattle.ca_stage.specs.Stage.{BufferData}
use Rattle.session_manager.specs.declared.session.Session.{Session}
use Rattle.session_manager.specs.Rows.{found_rows}
use Rattle.session_manager.specs.Sessions.{numbers_on, session_at}
use Rattle.device_registry.specs.declared.endpoint.Endpoint.{Endpoint}
use Rattle.ca_machine.specs.State.{State, endpoint_at}
use Rattle.device_registry.specs.Endpoints.{is_endpoint}
use Rattle.ca_machine.specs.Plan.{Outcome, answered, plain}
use Rattle.ca_machine.specs.SharedRows.{control_rows}
use Rattle.ca_machine.specs.Sessions.{enum_sessions_plan, get_session_plan, numbers_payload, session_payload}
use Rattle.ca_machine.specs.Sessions.{state_of_session, with_session}
use Rattle.period_engine.specs.Entries.{streams_of}
use Rattle.service_book.proofs.Finding.{found_at, none_at}
use Rattle.service_board.specs.Board.{state_of}
use Rattle.service_board.specs.Does.{AnyData, Does}
use Rattle.service_board.specs.Lookups.{Says}
use Rattle.service_board.specs.declared.board.Board.{Board}
use Rattle.service_board.proofs.PlainEvents.{refused_does}
use Rattle.service_board.proofs.EndpointCalls.{plain_tells}
use Rattle.service_board.proofs.LookingUp.{says_front, says_later}

-- whether an endpoint is there, by its place
pub endpoint_tested : (endpoint : ℕ) (list : List Endpoint) (place : Option ℕ) →
    place ≡ position (is_endpoint endpoint) list → is_none (find (is_endpoint endpoint) list) ≡ not (is_some place)
endpoint_tested endpoint list None e = ap is_none (none_at (is_endpoint endpoint) list e)
endpoint_tested endpoint list (Some at) e =
    let f = found_at (is_endpoint endpoint) list at e in ap is_none f.found

-- ---- what the calls answer

module _ {D E : Type 0} (faults : D → ℕ) (told : D → Option (List DeviceLog)) (moves : E → List StoreStep → E → Type 0)
    (stays : (a : E) → moves a [] a) (b : Board D E) (conn : ℕ) where
  -- the connection isn't open
  pub told_unconnected : (rows : State → List (Row Hr)) (outcome : State → Outcome) (code : Hr) →
      Says b (control_rows conn) (Some code) →
      Does faults told moves None AnyData b b (λ st. plain (control_rows conn st ++ rows st) (outcome st)) code []
  told_unconnected rows outcome code says =
      refused_does faults told moves None AnyData stays b
      (λ st. plain (control_rows conn st ++ rows st) (outcome st)) code
      (says_front b (control_rows conn) rows code says)

  module _ (connected : Says b (control_rows conn) None) where
    -- what the row of an endpoint says
    enum_says : (endpoint : ℕ) (missing : Bool) →
        is_none (find (is_endpoint endpoint) b.book.registry.list) ≡ missing →
        Says b (λ st. (enum_sessions_plan st conn endpoint).rows) (if missing then Some hr.E_NOTFOUND else None)
    enum_says endpoint missing e =
        says_later b (control_rows conn) (λ st. (is_none (endpoint_at endpoint st), hr.E_NOTFOUND) ∷ [])
        (if missing then Some hr.E_NOTFOUND else None) connected
        (λ datas tally. ap (λ v. if v then Some hr.E_NOTFOUND else None) e)

    -- the endpoint isn't there
    pub enum_refused : (endpoint : ℕ) → is_none (find (is_endpoint endpoint) b.book.registry.list) ≡ true →
        Does faults told moves None AnyData b b (λ st. enum_sessions_plan st conn endpoint) hr.E_NOTFOUND []
    enum_refused endpoint missing =
        refused_does faults told moves None AnyData stays b (λ st. enum_sessions_plan st conn endpoint)
        hr.E_NOTFOUND (enum_says endpoint true missing)

    -- the numbers of its sessions are told
    pub enum_told : (endpoint : ℕ) → is_none (find (is_endpoint endpoint) b.book.registry.list) ≡ false →
        Does faults told moves None AnyData b b (λ st. enum_sessions_plan st conn endpoint) hr.S_OK
        (numbers_payload (numbers_on endpoint b.book.sessions.list))
    enum_told endpoint there =
        plain_tells faults told moves None AnyData stays b
        (λ st. (enum_sessions_plan st conn endpoint).rows) (λ st. (enum_sessions_plan st conn endpoint).grants [])
        hr.S_OK (numbers_payload (numbers_on endpoint b.book.sessions.list)) (enum_says endpoint false there)
        (λ datas tally. refl)

    -- the session isn't there
    pub get_refused : (number : ℕ) → session_at number b.book.sessions.list ≡ None →
        Does faults told moves None AnyData b b (λ st. get_session_plan st conn number) hr.E_NOTFOUND []
    get_refused number missing =
        refused_does faults told moves None AnyData stays b (λ st. get_session_plan st conn number) hr.E_NOTFOUND
        (says_later b (control_rows conn) (λ st. found_rows (session_at number st.sessions)) (Some hr.E_NOTFOUND)
        connected (λ datas tally. ap (λ o. first (found_rows o)) missing))

    -- its data are told
    pub get_told : (number : ℕ) (s : Session) → session_at number b.book.sessions.list ≡ Some s → (state : ℕ) →
        ((datas : ℕ → BufferData) → state ≡ state_of_session number (streams_of datas b.entries.items)) →
        Does faults told moves None AnyData b b (λ st. get_session_plan st conn number) hr.S_OK
        (session_payload state s)
    get_told number s there state is =
        plain_tells faults told moves None AnyData stays b
        (λ st. (get_session_plan st conn number).rows) (λ st. (get_session_plan st conn number).grants [])
        hr.S_OK (session_payload state s)
        (says_later b (control_rows conn) (λ st. found_rows (session_at number st.sessions)) None connected
        (λ datas tally. ap (λ o. first (found_rows o)) there))
        (λ datas tally.
        let st = state_of datas tally b in
        ap (λ o. with_session st o (λ s. answered st (session_payload (state_of_session number st.stage.streams) s)))
        there
        ∙ ap (λ n. answered st (session_payload n s)) (sym (is datas)))
