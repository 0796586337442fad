-- The list of endpoints (IMMDeviceEnumerator, IMMDevice, DEVICE_STATE_XXX; numbers and order are this project's own).
use Rattle.std.specs.Prelude.{ℕ, ◌/◌, ◌%◌, ◌==◌, ◌&&◌, ◌||◌, not, List, [], ◌∷◌, ◌++◌, filter, Bool, Option}
use Rattle.std.specs.List.{find}
use Rattle.ca_base.specs.declared.ids.Flow.{Flow}
use Rattle.ca_base.specs.declared.ids.Flow.TheVariants.{Render, Capture}
use Rattle.ca_base.specs.declared.values.TheConstants.{FLOW_ALL, FLOW_CAPTURE, FLOW_RENDER}
use Rattle.ca_base.specs.declared.values.TheConstants.{STATE_ACTIVE, STATE_DISABLED, STATE_NOTPRESENT, STATE_UNPLUGGED}
use Rattle.ca_base.specs.Numbered.{changed_numbered}
use Rattle.device_registry.specs.declared.endpoint.Endpoint.{Endpoint}

-- the endpoints that are there, in the order of their numbers, and the greatest number that was ever added
pub record EndpointList : Type 0 where
  pub list : List Endpoint
  pub last : ℕ

-- none was ever added
abbrev pub no_endpoints : EndpointList
no_endpoints = record { list = []; last = 0 }

-- the number of an endpoint
abbrev pub number_of : Endpoint → ℕ
number_of e = e.no.0

-- the endpoint of a number, if it is there (IMMDeviceEnumerator::GetDevice)
abbrev pub is_endpoint : ℕ → Endpoint → Bool
is_endpoint number e = e.no.0 == number

abbrev pub endpoint_at : ℕ → List Endpoint → Option Endpoint
endpoint_at number list = find (is_endpoint number) list

-- ---- endpoints come, go and change

-- one more, at the end: its number is above all others (IMMNotificationClient::OnDeviceAdded)
abbrev pub added : Endpoint → EndpointList → EndpointList
added e book = record { list = book.list ++ e ∷ []; last = e.no.0 }

-- all but the one of this number (IMMNotificationClient::OnDeviceRemoved)
abbrev pub removed : ℕ → List Endpoint → List Endpoint
removed number list = filter (λ e. not (is_endpoint number e)) list

-- the endpoints after a change of the one of this number, if it is there
abbrev pub changed : ℕ → (Endpoint → Endpoint) → List Endpoint → List Endpoint
changed number f list = changed_numbered number_of number f list

-- its state is another (IMMNotificationClient::OnDeviceStateChanged)
abbrev pub with_state : ℕ → Endpoint → Endpoint
with_state state e = record e { state = state }

-- its format, its name and the properties of exclusive use are those of another record of it
-- (IMMNotificationClient::OnPropertyValueChanged)
abbrev pub replaced_by : Endpoint → Endpoint → Endpoint
replaced_by new e =
    record e { format = new.format; name = new.name; allow = new.allow; priority = new.priority }

-- ---- endpoints of a flow and of states

-- the number of a flow (EDataFlow)
abbrev pub flow_number : Flow → ℕ
flow_number Render = FLOW_RENDER
flow_number Capture = FLOW_CAPTURE

-- the number is that of a state (DEVICE_STATE_XXX)
abbrev pub is_state : ℕ → Bool
is_state state =
    state == STATE_ACTIVE || (state == STATE_DISABLED || (state == STATE_NOTPRESENT || state == STATE_UNPLUGGED))

-- the bit of a state is set in a mask: a state is a power of two
abbrev pub has_bit : ℕ → ℕ → Bool
has_bit mask state = not (mask / state % 2 == 0)

-- its flow is the wanted one, or both are wanted, and the bit of its state is set in a mask
-- (IMMDeviceEnumerator::EnumAudioEndpoints)
abbrev pub is_matching : ℕ → ℕ → Endpoint → Bool
is_matching flow mask e = (flow == FLOW_ALL || flow_number e.flow == flow) && has_bit mask e.state

-- those endpoints, in the order of their numbers
abbrev pub matching : ℕ → ℕ → List Endpoint → List Endpoint
matching flow mask list = filter (is_matching flow mask) list
