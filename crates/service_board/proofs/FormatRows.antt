use Rattle.std.proofs.Common.{◌≡◌, ℕ, get_or, [], ◌++◌, List, Bool, true, false}
use Rattle.std.proofs.Common.{Option, Some, None}
use Rattle.std.proofs.Common.{Result, Ok, Err, refl, sym, ap, subst, ◌∙◌, if◌then◌else◌}
use Rattle.device_io.specs.DeviceLog.{DeviceLog}
use Rattle.ca_base.specs.declared.codes.Hr.{Hr}
use Rattle.ca_base.specs.declared.codes.TheConstants.Hr as hr
use Rattle.ca_base.specs.Rows.{Row, first}
use Rattle.buffer_ring.specs.declared.step.StoreStep.{StoreStep}
use Rattle.device_registry.specs.declared.endpoint.Endpoint.{Endpoint}
use Rattle.ca_machine.specs.Plan.{answered}
use Rattle.ca_machine.specs.SharedRows.{control_rows, endpoint_of}
use Rattle.ca_machine.specs.State.{State, client_of}
use Rattle.ca_machine.specs.Streams.{endpoint_rows, is_format_supported_plan}
use Rattle.ca_machine.specs.Formats.{format_payload}
use Rattle.ca_machine.specs.Streams.{supported, supported_rows}
use Rattle.reply_payload.specs.Answers.{code_of, payload_bytes, payload_code, payload_of}
use Rattle.service_book.specs.Formats.{TellsSupport, is_unsupported, support_payload}
use Rattle.service_board.specs.Board.{state_of}
use Rattle.service_board.specs.Does.{AnyData, Does}
use Rattle.service_board.specs.Lookups.{FindsEndpoint, Says}
use Rattle.service_board.specs.declared.board.Board.{Board}
use Rattle.reply_payload.specs.declared.payload.Payload.{Payload}
use Rattle.reply_payload.specs.declared.payload.Payload.TheVariants as payload
use Rattle.service_board.proofs.PlainEvents.{refused_does}
use Rattle.service_board.proofs.EndpointCalls.{endpoint_read, endpoint_there, plain_tells, told}
use Rattle.service_board.proofs.LookingUp.{says_front, says_later}

-- the call's own rows, behind those of the endpoint
abbrev pub own_rows : ℕ → ℕ → ℕ → List ℕ → State → List (Row Hr)
own_rows conn client share bytes st = supported_rows share (endpoint_of st (client_of conn client st)) bytes

-- the outcome for an endpoint of this format is what the code tells of it
pub supported_told : (st : State) (share : ℕ) (bytes : List ℕ) (e : Endpoint) →
    supported st share bytes e
    ≡ told st (payload_code (support_payload share e.format bytes))
    (payload_bytes (support_payload share e.format bytes))
supported_told st share bytes e = by (is_unsupported share e.format bytes)
  where
    by : (b : Bool) →
        (if b then record (answered st (format_payload e.format)) { result = hr.S_FALSE } else answered st [])
        ≡ told st (payload_code (if b then payload.Closest e.format else payload.Nothing))
        (payload_bytes (if b then payload.Closest e.format else payload.Nothing))
    by true = refl
    by false = refl

module _ {D E : Type 0} (b : Board D E) (conn client share : ℕ) (bytes : List ℕ) where
  abbrev pub all_rows : State → List (Row Hr)
  all_rows st = (is_format_supported_plan st conn client share bytes).rows

  pub unconnected : (code : Hr) → Says b (control_rows conn) (Some code) → Says b all_rows (Some code)
  unconnected code says =
      says_front b (control_rows conn)
      (λ st. endpoint_rows st conn client ++ own_rows conn client share bytes st) code says

  module _ (connected : Says b (control_rows conn) None) where
    abbrev front : State → List (Row Hr)
    front st = control_rows conn st ++ endpoint_rows st conn client

    pub unusable : (code : Hr) → Says b (λ st. endpoint_rows st conn client) (Some code) → Says b all_rows (Some code)
    unusable code says =
        says_front b front (own_rows conn client share bytes) code
        (says_later b (control_rows conn) (λ st. endpoint_rows st conn client) (Some code) connected says)

    -- of an endpoint that was found
    pub by_own : (at : ℕ) (f : FindsEndpoint conn client b at) (e : Endpoint) → f.active.endpoint ≡ e →
        (verdict : Option Hr) → first (supported_rows share (Some e) bytes) ≡ verdict → Says b all_rows verdict
    by_own at f e same verdict says =
        says_later b front (own_rows conn client share bytes) verdict
        (says_later b (control_rows conn) (λ st. endpoint_rows st conn client) None connected f.says)
        (λ datas tally.
        ap (λ o. first (supported_rows share (endpoint_of (state_of datas tally b) o) bytes)) f.found
        ∙ ap (λ o. first (supported_rows share o bytes)) (f.active.found ∙ ap (λ y. Some y) same)
        ∙ says)

-- the answer is that of the endpoint's format
module _ {D E : Type 0} (faults : D → ℕ) (log : D → Option (List DeviceLog)) (moves : E → List StoreStep → E → Type 0)
    (stays : (a : E) → moves a [] a) (b : Board D E) (conn client share : ℕ) (bytes : List ℕ)
    (connected : Says b (control_rows conn) None) (at : ℕ) (f : FindsEndpoint conn client b at) (e : Endpoint)
    (read : e ≡ get_or b.book.registry.list at e) where
  pub tells_support : (result : Result Payload Hr) → TellsSupport result share e bytes →
      Does faults log moves None AnyData b b (λ st. is_format_supported_plan st conn client share bytes)
      (code_of result) (payload_of result)
  tells_support (Err code) h =
      refused_does faults log moves None AnyData stays b
      (λ st. is_format_supported_plan st conn client share bytes) code
      (by_own b conn client share bytes connected at f e
      (endpoint_read b.book f.named.endpoint.0 at e f.active read) (Some code) h)
  tells_support (Ok answer) h =
      subst (λ x. Does faults log moves None AnyData b b
      (λ st. is_format_supported_plan st conn client share bytes) (payload_code x) (payload_bytes x)) (sym h.1)
      (plain_tells faults log moves None AnyData stays b (all_rows b conn client share bytes)
      (λ st. (is_format_supported_plan st conn client share bytes).grants [])
      (payload_code (support_payload share e.format bytes)) (payload_bytes (support_payload share e.format bytes))
      (by_own b conn client share bytes connected at f e
      (endpoint_read b.book f.named.endpoint.0 at e f.active read) None h.0)
      (λ datas tally.
      endpoint_there b conn client at f (λ st x. supported st share bytes x) datas tally
      ∙ ap (supported (state_of datas tally b) share bytes)
      (endpoint_read b.book f.named.endpoint.0 at e f.active read)
      ∙ supported_told (state_of datas tally b) share bytes e))
