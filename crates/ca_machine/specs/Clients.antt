-- Connections and clients: Open, Hangup, Activate, Release (IMMDevice::Activate; the rest is this project's own).
use Rattle.std.specs.Prelude.{ℕ, ◌+◌, ◌==◌, ◌&&◌, ◌||◌, not, nat_lt, nat_le, List, [], ◌∷◌, ◌++◌, length, map}
use Rattle.std.specs.Prelude.{Bool, false, is_none}
use Rattle.std.specs.List.{filter, list_all, list_any}
use Rattle.std.specs.Int.{w64, to_le_bytes}
use Rattle.ca_base.specs.declared.codes.Hr.{Hr}
use Rattle.ca_base.specs.declared.codes.TheConstants.Hr as hr
use Rattle.ca_base.specs.declared.ids.Reason.TheVariants.{Released}
use Rattle.ca_base.specs.declared.limits.TheConstants.{CLIENTS, CONNECTIONS, MAX_CONNECTION_NAME, MAX_COUNT, MAX_LEVEL}
use Rattle.ca_base.specs.declared.values.TheConstants.{ROLE_COMMUNICATIONS, ROLE_NONE}
use Rattle.ca_base.specs.Rows.{Row}
use Rattle.ca_stage.specs.Stage.{Stream}
use Rattle.ca_stage.specs.Moves.{Move, of_client, closed}
use Rattle.ca_stage.specs.Present.{present}
use Rattle.session_manager.specs.declared.session.Session.{Session}
use Rattle.event_notices.specs.Notices.{no_notices}
use Rattle.ca_machine.specs.declared.state.Client.{Client}
use Rattle.ca_machine.specs.declared.state.Connection.{Connection}
use Rattle.ca_machine.specs.State.{State, is_connection, is_connected, is_client_of, endpoint_at, live_clients}
use Rattle.ca_machine.specs.State.{with_notices_of}
use Rattle.ca_machine.specs.Plan.{Outcome, Plan, plain, granted, moved}
use Rattle.ca_machine.specs.SharedRows.{connection_rows, control_rows, client_rows, is_inactive, shut_rows}

-- a byte of a connection's name: an ASCII letter, a digit, a dot, an underscore or a dash
abbrev pub is_name_byte : ℕ → Bool
is_name_byte b =
    nat_le 48 b && nat_le b 57
    || (nat_le 65 b && nat_le b 90 || (nat_le 97 b && nat_le b 122 || (b == 45 || (b == 46 || b == 95))))

-- a name that a connection may give
abbrev pub is_name : List ℕ → Bool
is_name bytes =
    nat_lt 0 (length bytes) && (nat_le (length bytes) MAX_CONNECTION_NAME && list_all is_name_byte bytes)

abbrev pub open_rows : State → ℕ → ℕ → List ℕ → List (Row Hr)
open_rows st conn process name = shut_rows st ++ (
  not (nat_le 1 conn && nat_le conn CONNECTIONS) || (is_connected conn st || (process == 0 || not (is_name name))),
  hr.E_INVALIDARG,
)
    ∷ []

-- a connection as it is opened
abbrev pub new_connection : ℕ → ℕ → List ℕ → Connection
new_connection conn process name = record { conn = record { 0 = conn }; process = process; name = name }

abbrev pub open_plan : State → ℕ → ℕ → List ℕ → Plan
open_plan st conn process name = plain (open_rows st conn process name)
    (granted [] [] (record st { connections = st.connections ++ new_connection conn process name ∷ [] }))

-- ---- clients that leave

-- a session that one of these streams belongs to
abbrev pub is_used : List Stream → Session → Bool
is_used streams session = list_any (λ s. s.session == session.no.0) streams

-- these clients alone are left: the streams of the others are gone, and so are the sessions without a stream
abbrev pub with_clients : List Client → State → State
with_clients left st = record st {
  stage = present (live_clients left) st.stage;
  clients = left;
  sessions = filter (is_used (present (live_clients left) st.stage).streams) st.sessions;
}

-- the streams of these clients are closed
abbrev pub closes : List Client → List Move
closes clients = map (λ c. of_client c.client.0 (closed Released)) clients

-- clients go, and others are left
abbrev pub leaving : List Client → List Client → State → Outcome
leaving gone left st = record {
  result = hr.S_OK;
  payload = [];
  moves = closes gone;
  output = [];
  after = with_clients left (moved (closes gone) st);
}

abbrev pub release_rows : State → ℕ → ℕ → List (Row Hr)
release_rows st conn client = connection_rows conn st ++ client_rows conn client st

abbrev pub release_plan : State → ℕ → ℕ → Plan
release_plan st conn client = plain (release_rows st conn client)
    (leaving
    (filter (is_client_of conn client) st.clients)
    (filter (λ c. not (is_client_of conn client c)) st.clients)
    st)

-- a client of this connection
abbrev pub is_client_on : ℕ → Client → Bool
is_client_on conn c = c.conn.0 == conn

-- the connection isn't open any more, and nothing is kept for it
abbrev pub without_connection : ℕ → State → State
without_connection conn st =
    with_notices_of conn no_notices
    (record st { connections = filter (λ c. not (is_connection conn c)) st.connections })

-- a hang-up
abbrev pub hangup_plan : State → ℕ → Plan
hangup_plan st conn = plain ((not (is_connected conn st), hr.E_HANDLE) ∷ [])
    (leaving
    (filter (is_client_on conn) st.clients)
    (filter (λ c. not (is_client_on conn c)) st.clients)
    (without_connection conn st))

-- ---- Activate

-- a role (ERole), or none
abbrev pub is_role : ℕ → Bool
is_role role = nat_le role ROLE_COMMUNICATIONS || role == ROLE_NONE

abbrev pub activate_rows : State → ℕ → ℕ → ℕ → List (Row Hr)
activate_rows st conn endpoint role =
    control_rows conn st
    ++ (is_none (endpoint_at endpoint st), hr.E_NOTFOUND)
    ∷ (not (is_role role), hr.E_INVALIDARG)
    ∷ (is_inactive (endpoint_at endpoint st), hr.DEVICE_INVALIDATED)
    ∷ (nat_le CLIENTS (length st.clients), hr.CLIENTS_FULL)
    ∷ (nat_le MAX_COUNT st.clients_made, hr.WORN)
    ∷ []

-- a client as it is activated, with the highest level for each channel
abbrev pub new_client : ℕ → ℕ → ℕ → ℕ → Client
new_client client conn endpoint role = record {
  client = record { 0 = client };
  conn = record { 0 = conn };
  endpoint = record { 0 = endpoint };
  role = role;
  levels = MAX_LEVEL ∷ MAX_LEVEL ∷ MAX_LEVEL ∷ MAX_LEVEL ∷ [];
  handle = 0;
  flagged = false;
}

abbrev pub activate_plan : State → ℕ → ℕ → ℕ → Plan
activate_plan st conn endpoint role = plain (activate_rows st conn endpoint role)
    (granted (to_le_bytes w64 (st.clients_made + 1)) [] (record st {
      clients = st.clients ++ new_client (st.clients_made + 1) conn endpoint role ∷ [];
      clients_made = st.clients_made + 1;
    }))
