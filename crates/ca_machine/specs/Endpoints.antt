-- Calls that tell of endpoints (IMMDeviceEnumerator, IMMDevice; the order of the rows, and the text of an id, are this
-- project's own).
use Rattle.std.specs.Prelude.{ℕ, ◌/◌, ◌==◌, ◌||◌, not, nat_lt, List, [], ◌∷◌, ◌++◌, length, map, codes, decimal}
use Rattle.std.specs.Prelude.{Bool, Option, Some, None, is_none, if◌then◌else◌}
use Rattle.std.specs.List.{find, flat_map}
use Rattle.std.specs.Option.{option_map}
use Rattle.std.specs.Str.{bytes_eq}
use Rattle.std.specs.Int.{w32, to_le_bytes}
use Rattle.ca_base.specs.declared.codes.TheConstants.Hr as hr
use Rattle.ca_base.specs.declared.ids.EndpointNo.{EndpointNo}
use Rattle.ca_base.specs.declared.values.TheConstants.{FLOW_ALL, FLOW_CAPTURE, ROLE_COMMUNICATIONS}
use Rattle.device_registry.specs.declared.endpoint.Endpoint.{Endpoint}
use Rattle.device_registry.specs.Endpoints.{flow_number, matching}
use Rattle.role_defaults.specs.Defaults.{default_of}
use Rattle.ca_machine.specs.State.{State, endpoint_at}
use Rattle.ca_machine.specs.Plan.{Outcome, Plan, plain, answered, refused}
use Rattle.ca_machine.specs.SharedRows.{control_rows}
use Rattle.ca_machine.specs.Sessions.{text_payload}
use Rattle.ca_machine.specs.Formats.{format_payload}

-- a flow that there isn't, no state at all, or a state that there isn't: states are bits 0 to 3
abbrev pub is_wrong_enumeration : ℕ → ℕ → Bool
is_wrong_enumeration flow mask = nat_lt FLOW_ALL flow || (mask == 0 || not (mask / 16 == 0))

-- numbers of endpoints in a payload: four bytes that say how many, and four for each
abbrev pub endpoints_payload : List EndpointNo → List ℕ
endpoints_payload numbers = to_le_bytes w32 (length numbers) ++ flat_map (λ n. to_le_bytes w32 n.0) numbers

abbrev pub enum_endpoints_plan : State → ℕ → ℕ → ℕ → Plan
enum_endpoints_plan st conn flow mask =
    plain (control_rows conn st ++ (is_wrong_enumeration flow mask, hr.E_INVALIDARG) ∷ [])
    (answered st (endpoints_payload (map (λ e. e.no) (matching flow mask st.endpoints))))

-- the default of a flow and a role, if there is one
abbrev pub default_at : ℕ → ℕ → State → Option ℕ
default_at flow role st = default_of st.endpoints st.choices flow role

-- an endpoint's number in a payload; if there is none, a row has refused the call
abbrev pub number_told : State → Option ℕ → Outcome
number_told st None = refused st hr.E_NOTFOUND
number_told st (Some number) = answered st (to_le_bytes w32 number)

abbrev pub get_default_plan : State → ℕ → ℕ → ℕ → Plan
get_default_plan st conn flow role = plain
    (control_rows conn st
    ++ (nat_lt FLOW_CAPTURE flow || nat_lt ROLE_COMMUNICATIONS role, hr.E_INVALIDARG)
    ∷ (is_none (default_at flow role st), hr.E_NOTFOUND)
    ∷ [])
    (number_told st (default_at flow role st))

-- IMMDevice::GetId: the text that names an endpoint
abbrev pub id_of : ℕ → List ℕ
id_of number = codes "endpoint-" ++ decimal number

-- the endpoint of an id, if it is there
abbrev pub endpoint_named : List ℕ → State → Option Endpoint
endpoint_named id st = find (λ e. bytes_eq (id_of e.no.0) id) st.endpoints

abbrev pub get_device_plan : State → ℕ → List ℕ → Plan
get_device_plan st conn id =
    plain (control_rows conn st ++ (is_none (endpoint_named id st), hr.E_NOTFOUND) ∷ [])
    (number_told st (option_map (λ e. e.no.0) (endpoint_named id st)))

-- the data of an endpoint
abbrev pub endpoint_payload : Endpoint → List ℕ
endpoint_payload e =
    flow_number e.flow ∷ to_le_bytes w32 e.state
    ++ (if e.allow then 1 else 0) ∷ (if e.priority then 1 else 0) ∷ format_payload e.format
    ++ text_payload (id_of e.no.0) ++ text_payload e.name

-- what a call tells of the endpoint that it names; if there is none, a row has refused it
abbrev pub endpoint_told : State → Option Endpoint → Outcome
endpoint_told st None = refused st hr.E_NOTFOUND
endpoint_told st (Some e) = answered st (endpoint_payload e)

abbrev pub device_info_plan : State → ℕ → ℕ → Plan
device_info_plan st conn number =
    plain (control_rows conn st ++ (is_none (endpoint_at number st), hr.E_NOTFOUND) ∷ [])
    (endpoint_told st (endpoint_at number st))
