-- The default endpoint of a flow and a role (IMMDeviceEnumerator::GetDefaultAudioEndpoint, ERole; what takes the place
-- of an endpoint that isn't active is this project's own).
use Rattle.std.specs.Prelude.{ℕ, ◌+◌, ◌*◌, ◌==◌, ◌&&◌, List, [], ◌∷◌, Bool, false, slice_index, slice_set}
use Rattle.std.specs.Prelude.{Option, Some, None, Result, Ok, Err, if◌then◌else◌}
use Rattle.std.specs.List.{find}
use Rattle.std.specs.Option.{option_map, option_map_or}
use Rattle.ca_base.specs.declared.codes.Hr.{Hr}
use Rattle.ca_base.specs.declared.codes.TheConstants.Hr as hr
use Rattle.ca_base.specs.declared.ids.EndpointNo.{EndpointNo}
use Rattle.ca_base.specs.declared.values.TheConstants.{STATE_ACTIVE}
use Rattle.device_registry.specs.declared.endpoint.Endpoint.{Endpoint}
use Rattle.device_registry.specs.Endpoints.{endpoint_at, flow_number}
use Rattle.role_defaults.specs.declared.choices.Choices.{Choices}
use Rattle.role_defaults.specs.declared.choices.TheConstants.{ROLES}

-- none was chosen
abbrev pub no_choices : Choices
no_choices = record { chosen = 0 ∷ 0 ∷ 0 ∷ 0 ∷ 0 ∷ 0 ∷ [] }

-- the number that was chosen for a flow and a role, 0 if none was: render (0) before capture (1), each with its roles
-- (EDataFlow, ERole)
abbrev pub chosen_at : ℕ → ℕ → Choices → ℕ
chosen_at flow role c = slice_index c.chosen (flow * ROLES + role)

-- the choices after one for a flow and a role
abbrev pub with_choice : ℕ → ℕ → ℕ → Choices → Choices
with_choice flow role endpoint c = record c { chosen = slice_set c.chosen (flow * ROLES + role) endpoint }

-- it can be used (DEVICE_STATE_ACTIVE)
abbrev pub is_active : Endpoint → Bool
is_active e = e.state == STATE_ACTIVE

-- the endpoint of a number is there, and can be used
abbrev pub is_active_at : ℕ → List Endpoint → Bool
is_active_at number list = option_map_or is_active (endpoint_at number list) false

-- the first active endpoint of a flow: the one with the lowest number, since numbers rise in the list
abbrev pub first_active : ℕ → List Endpoint → Option Endpoint
first_active flow list = find (λ e. flow_number e.flow == flow && is_active e) list

-- the chosen endpoint if it is there and active, or else the first active one of the flow, if there is one
-- (IMMDeviceEnumerator::GetDefaultAudioEndpoint)
abbrev pub default_of : List Endpoint → Choices → ℕ → ℕ → Option ℕ
default_of list c flow role =
    if is_active_at (chosen_at flow role c) list then Some (chosen_at flow role c)
    else option_map (λ e. e.no.0) (first_active flow list)

-- the answer of the call: E_NOTFOUND if there is none
abbrev pub answered : Option ℕ → Result EndpointNo Hr
answered None = Err hr.E_NOTFOUND
answered (Some number) = Ok (record { 0 = number })
