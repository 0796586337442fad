-- The state of the one-thread machine (this project's own).
use Rattle.std.specs.Prelude.{ℕ, ◌-◌, ◌==◌, ◌&&◌, List, [], map, replicate, slice_get, slice_set, Bool, false}
use Rattle.std.specs.Prelude.{Option}
use Rattle.std.specs.List.{find, list_any}
use Rattle.std.specs.Option.{unwrap_or}
use Rattle.ca_base.specs.declared.limits.TheConstants.{CONNECTIONS}
use Rattle.device_registry.specs.declared.endpoint.Endpoint.{Endpoint}
use Rattle.device_registry.specs.Endpoints.{endpoint_at as endpoint_of_list}
use Rattle.role_defaults.specs.declared.choices.Choices.{Choices}
use Rattle.role_defaults.specs.Defaults.{no_choices}
use Rattle.event_notices.specs.Notices.{Notices, no_notices}
use Rattle.session_manager.specs.declared.session.Session.{Session}
use Rattle.session_manager.specs.Sessions.{SessionList}
use Rattle.ca_machine.specs.declared.state.Connection.{Connection}
use Rattle.ca_machine.specs.declared.state.Client.{Client}
use Rattle.ca_stage.specs.Stage.{Stage, empty_stage}
use Rattle.ca_stage.specs.Tally.{Tally, no_tally}

-- the stage has the playheads of the endpoints that are there, and the streams of live clients; the tally counts the
-- frames of all streams that there ever were
pub record State : Type 0 where
  pub stage : Stage
  pub tally : Tally
  pub connections : List Connection
  pub clients : List Client
  pub endpoints : List Endpoint
  pub sessions : List Session
  -- which endpoint was chosen as the default of a flow and a role
  pub choices : Choices
  -- by the number of a connection, from 1: what it registered for, and the notices that it keeps
  pub notices : List Notices
  -- the service was shut down
  pub is_shut : Bool
  -- the greatest endpoint number ever added, and how many clients and sessions were ever made
  pub last_endpoint : ℕ
  pub clients_made : ℕ
  pub sessions_made : ℕ

-- nothing is there
abbrev pub empty_state : State
empty_state = record {
  stage = empty_stage;
  tally = no_tally;
  connections = [];
  clients = [];
  endpoints = [];
  sessions = [];
  choices = no_choices;
  notices = replicate CONNECTIONS no_notices;
  is_shut = false;
  last_endpoint = 0;
  clients_made = 0;
  sessions_made = 0;
}

-- a connection has this number
abbrev pub is_connection : ℕ → Connection → Bool
is_connection number c = c.conn.0 == number

-- the connection of a number, if it is open
abbrev pub connection_at : ℕ → State → Option Connection
connection_at number st = find (is_connection number) st.connections

-- a connection of this number is open
abbrev pub is_connected : ℕ → State → Bool
is_connected number st = list_any (is_connection number) st.connections

-- a client is of this connection, and has this number
abbrev pub is_client_of : ℕ → ℕ → Client → Bool
is_client_of conn number c = c.client.0 == number && c.conn.0 == conn

-- the live client of a connection that has this number
abbrev pub client_of : ℕ → ℕ → State → Option Client
client_of conn number st = find (is_client_of conn number) st.clients

-- the endpoint of a number, if it is there
abbrev pub endpoint_at : ℕ → State → Option Endpoint
endpoint_at number st = endpoint_of_list number st.endpoints

-- the numbers of the endpoints that are there
abbrev pub endpoint_numbers : List Endpoint → List ℕ
endpoint_numbers endpoints = map (λ e. e.no.0) endpoints

-- what a connection registered for, and the notices that it keeps
abbrev pub notices_of : ℕ → State → Notices
notices_of conn st = unwrap_or (slice_get st.notices (conn - 1)) no_notices

-- a connection registered for others, and keeps other notices
abbrev pub with_notices_of : ℕ → Notices → State → State
with_notices_of conn q st = record st { notices = slice_set st.notices (conn - 1) q }

-- the sessions, and how many were ever made
abbrev pub session_list : State → SessionList
session_list st = record { list = st.sessions; made = st.sessions_made }

-- the sessions are others, and so is the count of those made
abbrev pub with_sessions : SessionList → State → State
with_sessions sessions st = record st { sessions = sessions.list; sessions_made = sessions.made }

-- the numbers of live clients
abbrev pub live_clients : List Client → List ℕ
live_clients clients = map (λ c. c.client.0) clients
