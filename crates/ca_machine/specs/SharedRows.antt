-- Rows that several calls share, and how calls of a stream look it up (this project's own order; the codes are those of
-- the Core Audio reference).
use Rattle.std.specs.Prelude.{ℕ, ◌==◌, ◌||◌, not, List, [], ◌∷◌, ◌++◌, Bool, true, false, Option, Some, None, is_none}
use Rattle.std.specs.Option.{option_map_or}
use Rattle.ca_base.specs.declared.codes.Hr.{Hr}
use Rattle.ca_base.specs.declared.codes.TheConstants.Hr as hr
use Rattle.ca_base.specs.declared.ids.Gate.{Gate}
use Rattle.ca_base.specs.declared.ids.Gate.TheVariants as gate
use Rattle.ca_base.specs.declared.values.TheConstants.{STATE_ACTIVE}
use Rattle.ca_base.specs.Rows.{Row}
use Rattle.client_state.specs.Rows.{gate_rows}
use Rattle.ca_stage.specs.Stage.{Stream, is_open}
use Rattle.ca_stage.specs.Moves.{stream_at}
use Rattle.ca_machine.specs.declared.state.Client.{Client}
use Rattle.device_registry.specs.declared.endpoint.Endpoint.{Endpoint}
use Rattle.ca_machine.specs.State.{State, is_connected, client_of, endpoint_at}
use Rattle.ca_machine.specs.Plan.{Outcome, Plan, plain, refused}

-- the service was shut down
abbrev pub shut_rows : State → List (Row Hr)
shut_rows st = (st.is_shut, hr.SERVICE_NOT_RUNNING) ∷ []

-- a control call that is answered after a shutdown too: the connection isn't open
abbrev pub connection_rows : ℕ → State → List (Row Hr)
connection_rows conn st = (not (is_connected conn st), hr.E_HANDLE) ∷ []

-- a control call: the connection isn't open, or the service was shut down
abbrev pub control_rows : ℕ → State → List (Row Hr)
control_rows conn st = connection_rows conn st ++ shut_rows st

-- a data call: the connection isn't open
abbrev pub data_call_rows : ℕ → State → List (Row Hr)
data_call_rows conn st = (not (is_connected conn st), hr.E_HANDLE) ∷ []

-- the client named isn't a live client of this connection
abbrev pub client_rows : ℕ → ℕ → State → List (Row Hr)
client_rows conn client st = (is_none (client_of conn client st), hr.E_HANDLE) ∷ []

-- the test holds of a stream that is there
abbrev pub if_stream : (Stream → Bool) → Option Stream → Bool
if_stream test stream = option_map_or test stream false

-- the gate of a stream that is there
abbrev pub gate_of : Option Stream → Gate
gate_of None = gate.Open
gate_of (Some s) = s.gate

-- the client isn't initialised, or its stream was disconnected
abbrev pub stream_rows : Option Stream → List (Row Hr)
stream_rows stream = (is_none stream, hr.NOT_INITIALIZED) ∷ gate_rows (gate_of stream)

-- what a call does with the client's stream; if there is none, a row has refused it
abbrev pub with_stream : State → Option Stream → (Stream → Outcome) → Outcome
with_stream st None outcome = refused st hr.NOT_INITIALIZED
with_stream st (Some s) outcome = outcome s

-- a control call of a client's stream, with rows of its own over the stream
abbrev pub stream_plan : State → ℕ → ℕ → (Option Stream → List (Row Hr)) → (Stream → Outcome) → Plan
stream_plan st conn client rows outcome = plain
    (control_rows conn st ++ client_rows conn client st
    ++ (stream_rows (stream_at client st.stage) ++ rows (stream_at client st.stage)))
    (with_stream st (stream_at client st.stage) outcome)

-- a call has no rows of its own
abbrev pub no_rows : Option Stream → List (Row Hr)
no_rows stream = []

-- the endpoint isn't there, or isn't ACTIVE
abbrev pub is_inactive : Option Endpoint → Bool
is_inactive None = true
is_inactive (Some e) = not (e.state == STATE_ACTIVE)

-- the client's stream was disconnected, or its endpoint isn't there or isn't ACTIVE
abbrev pub is_invalidated : State → Option Client → Option Stream → Bool
is_invalidated st None stream = false
is_invalidated st (Some client) stream =
    if_stream (λ s. not (is_open s)) stream || is_inactive (endpoint_at client.endpoint.0 st)

abbrev pub invalidated_rows : State → Option Client → Option Stream → List (Row Hr)
invalidated_rows st client stream = (is_invalidated st client stream, hr.DEVICE_INVALIDATED) ∷ []

-- the endpoint that a client was activated on
abbrev pub endpoint_of : State → Option Client → Option Endpoint
endpoint_of st None = None
endpoint_of st (Some client) = endpoint_at client.endpoint.0 st

-- what a call does with the client's endpoint; if there is none, a row has refused it
abbrev pub with_endpoint : State → Option Endpoint → (Endpoint → Outcome) → Outcome
with_endpoint st None outcome = refused st hr.DEVICE_INVALIDATED
with_endpoint st (Some e) outcome = outcome e
