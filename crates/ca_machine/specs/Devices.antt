-- Device events: endpoints appear, change and leave, and the service shuts down (IMMNotificationClient; the order of
-- the rows is this project's own).
use Rattle.std.specs.Prelude.{ℕ, ◌==◌, ◌&&◌, ◌||◌, not, nat_lt, nat_le, List, [], ◌∷◌, ◌++◌, length, map}
use Rattle.std.specs.Prelude.{Bool, true, false, Option, Some, None, is_none, if◌then◌else◌}
use Rattle.std.specs.List.{filter}
use Rattle.std.specs.Option.{option_map_or}
use Rattle.std.specs.Str.{is_utf8}
use Rattle.ca_base.specs.declared.codes.Hr.{Hr}
use Rattle.ca_base.specs.declared.codes.TheConstants.Hr as hr
use Rattle.ca_base.specs.declared.ids.Flow.{Flow}
use Rattle.ca_base.specs.declared.ids.Flow.TheVariants as flow
use Rattle.ca_base.specs.declared.ids.Reason.{Reason}
use Rattle.ca_base.specs.declared.ids.Reason.TheVariants.{Removal, Shutdown, Format}
use Rattle.ca_base.specs.declared.limits.TheConstants.{ENDPOINTS}
use Rattle.ca_base.specs.declared.values.TheConstants.{FLOW_CAPTURE, ROLE_COMMUNICATIONS, STATE_ACTIVE}
use Rattle.ca_base.specs.Rows.{Row}
use Rattle.wave_format.specs.Format.{spelled}
use Rattle.ca_stage.specs.Stage.{Stream, Stage, is_open}
use Rattle.ca_stage.specs.Moves.{Move, added, of_client, closed}
use Rattle.device_registry.specs.declared.endpoint.Endpoint.{Endpoint}
use Rattle.device_registry.specs.Endpoints.{changed, flow_number, is_state, removed, with_state}
use Rattle.role_defaults.specs.Defaults.{with_choice}
use Rattle.ca_machine.specs.State.{State, endpoint_at, endpoint_numbers}
use Rattle.ca_machine.specs.Plan.{Outcome, Plan, plain, with_memory, granted, moved, refused}
use Rattle.ca_machine.specs.Seats.{with_playheads}
use Rattle.ca_machine.specs.SharedRows.{shut_rows}
use Rattle.ca_machine.specs.Formats.{is_faulty, matches}

-- ---- streams that lose their device

-- all streams, or those of one endpoint
abbrev pub is_within : Option ℕ → Stream → Bool
is_within None s = true
is_within (Some number) s = s.endpoint == number

-- their open ones are closed, in the order of their clients
abbrev pub disconnects : Reason → Option ℕ → Stage → List Move
disconnects reason scope st =
    map (λ s. of_client s.client (closed reason)) (filter (λ s. is_within scope s && is_open s) st.streams)

-- and nothing else happens, if nothing is lost
abbrev pub disconnects_if : Bool → Reason → Option ℕ → Stage → List Move
disconnects_if false reason scope st = []
disconnects_if true reason scope st = disconnects reason scope st

-- ---- Add

abbrev pub add_rows : State → ℕ → ℕ → List ℕ → List ℕ → List (Row Hr)
add_rows st number flow format name =
    shut_rows st
    ++ (
      nat_le number st.last_endpoint
          || (nat_lt FLOW_CAPTURE flow || (is_faulty format || not (is_utf8 name))),
      hr.E_INVALIDARG,
    )
    ∷ (nat_le ENDPOINTS (length st.endpoints), hr.ENDPOINTS_FULL)
    ∷ []

-- the flow of a number (EDataFlow)
abbrev pub flow_numbered : ℕ → Flow
flow_numbered number = if number == FLOW_CAPTURE then flow.Capture else flow.Render

-- an endpoint as it is added: it is ACTIVE, and may be used exclusively
abbrev pub new_endpoint : ℕ → ℕ → List ℕ → List ℕ → Endpoint
new_endpoint number flow format name = record {
  no = record { 0 = number };
  flow = flow_numbered flow;
  state = STATE_ACTIVE;
  format = spelled format;
  name = name;
  allow = true;
  priority = true;
}

abbrev pub add_plan : State → ℕ → ℕ → List ℕ → List ℕ → Plan
add_plan st number flow format name = with_memory st (add_rows st number flow format name)
    (granted [] (added number ∷ [])
    (record st { endpoints = st.endpoints ++ new_endpoint number flow format name ∷ []; last_endpoint = number }))

-- ---- events of an endpoint that is there

-- the endpoint isn't there
abbrev pub missing_rows : State → ℕ → List (Row Hr)
missing_rows st number = shut_rows st ++ (is_none (endpoint_at number st), hr.E_NOTFOUND) ∷ []

-- what an event does with the endpoint that it names; if there is none, a row has refused it
abbrev pub with_named : State → Option Endpoint → (Endpoint → Outcome) → Outcome
with_named st None outcome = refused st hr.E_NOTFOUND
with_named st (Some e) outcome = outcome e

-- an endpoint leaves ACTIVE
abbrev pub leaves_active : ℕ → Endpoint → Bool
leaves_active state e = e.state == STATE_ACTIVE && not (state == STATE_ACTIVE)

-- an endpoint's state is another: if it leaves ACTIVE, its streams are closed
abbrev pub with_endpoint_state : State → ℕ → ℕ → Endpoint → Outcome
with_endpoint_state st number state e =
    granted [] (disconnects_if (leaves_active state e) Removal (Some number) st.stage)
    (record st { endpoints = changed number (with_state state) st.endpoints })

abbrev pub set_state_plan : State → ℕ → ℕ → Plan
set_state_plan st number state =
    plain (missing_rows st number ++ (not (is_state state), hr.E_INVALIDARG) ∷ [])
    (with_named st (endpoint_at number st) (with_endpoint_state st number state))

-- these endpoints alone are there: what the service keeps of another one is gone, its playhead too
abbrev pub with_endpoints : List Endpoint → State → State
with_endpoints endpoints st =
    record st { endpoints = endpoints; stage = with_playheads (endpoint_numbers endpoints) st.stage }

-- an endpoint is gone, and its streams are closed
abbrev pub remove_plan : State → ℕ → Plan
remove_plan st number = plain (missing_rows st number) (record {
  result = hr.S_OK;
  payload = [];
  moves = disconnects Removal (Some number) st.stage;
  output = [];
  after = with_endpoints (removed number st.endpoints) (moved (disconnects Removal (Some number) st.stage) st);
})

-- an endpoint with another format
abbrev pub with_format : List ℕ → Endpoint → Endpoint
with_format bytes e = record e { format = spelled bytes }

-- an endpoint's format is another: if it doesn't match the old one, its streams are closed
abbrev pub with_endpoint_format : State → ℕ → List ℕ → Endpoint → Outcome
with_endpoint_format st number bytes e =
    granted [] (disconnects_if (not (matches e.format (spelled bytes))) Format (Some number) st.stage)
    (record st { endpoints = changed number (with_format bytes) st.endpoints })

abbrev pub set_format_plan : State → ℕ → List ℕ → Plan
set_format_plan st number bytes =
    with_memory st (missing_rows st number ++ (is_faulty bytes, hr.E_INVALIDARG) ∷ [])
    (with_named st (endpoint_at number st) (with_endpoint_format st number bytes))

-- whether an endpoint may be used by one stream alone, and whether that takes precedence over shared streams
abbrev pub with_exclusive : ℕ → ℕ → Endpoint → Endpoint
with_exclusive allow priority e = record e { allow = allow == 1; priority = priority == 1 }

abbrev pub set_exclusive_plan : State → ℕ → ℕ → ℕ → Plan
set_exclusive_plan st number allow priority =
    plain (missing_rows st number ++ (nat_lt 1 allow || nat_lt 1 priority, hr.E_INVALIDARG) ∷ [])
    (granted [] [] (record st { endpoints = changed number (with_exclusive allow priority) st.endpoints }))

-- an endpoint with another name
abbrev pub with_name : List ℕ → Endpoint → Endpoint
with_name name e = record e { name = name }

abbrev pub set_name_plan : State → ℕ → List ℕ → Plan
set_name_plan st number name = plain (missing_rows st number ++ (not (is_utf8 name), hr.E_INVALIDARG) ∷ [])
    (granted [] [] (record st { endpoints = changed number (with_name name) st.endpoints }))

-- a flow that isn't the endpoint's, or a role that there isn't
abbrev pub is_wrong_choice : ℕ → ℕ → Option Endpoint → Bool
is_wrong_choice flow role e =
    nat_lt FLOW_CAPTURE flow
    || (nat_lt ROLE_COMMUNICATIONS role || option_map_or (λ e. not (flow_number e.flow == flow)) e false)

abbrev pub set_default_plan : State → ℕ → ℕ → ℕ → Plan
set_default_plan st flow role number =
    plain (missing_rows st number ++ (is_wrong_choice flow role (endpoint_at number st), hr.E_INVALIDARG) ∷ [])
    (granted [] [] (record st { choices = with_choice flow role number st.choices }))

-- ---- the end of the service

-- every stream is closed, and control calls are refused from then on
abbrev pub shutdown_plan : State → Plan
shutdown_plan st =
    plain (shut_rows st) (granted [] (disconnects Shutdown None st.stage) (record st { is_shut = true }))
