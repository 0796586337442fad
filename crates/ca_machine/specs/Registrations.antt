-- What a connection registers for, and the notices that it takes
-- (IMMDeviceEnumerator::RegisterEndpointNotificationCallback and the like; numbers, order and bytes are this project's
-- own).
use Rattle.std.specs.Prelude.{ℕ, ◌+◌, ◌&&◌, List, [], ◌++◌, length, map, Bool, false, if◌then◌else◌}
use Rattle.std.specs.List.{filter, flat_map}
use Rattle.std.specs.Int.{w32, w64, to_le_bytes}
use Rattle.event_notices.specs.declared.notice.Notice.{Notice}
use Rattle.event_notices.specs.Notices.{first_notices, registered, taken, unregistered}
use Rattle.event_notices.specs.Rows.{register_rows, unregister_rows}
use Rattle.event_notices.specs.Bytes.{notice_bytes}
use Rattle.ca_machine.specs.declared.state.Client.{Client}
use Rattle.ca_machine.specs.Clients.{is_client_on}
use Rattle.ca_machine.specs.State.{State, notices_of, with_notices_of}
use Rattle.ca_machine.specs.Plan.{Plan, plain, with_memory, granted}
use Rattle.ca_machine.specs.SharedRows.{connection_rows, control_rows}

abbrev pub register_plan : State → ℕ → ℕ → ℕ → Plan
register_plan st conn class subject =
    with_memory st (control_rows conn st ++ register_rows class (notices_of conn st))
    (granted (to_le_bytes w64 ((notices_of conn st).made + 1)) []
    (with_notices_of conn (registered class subject (notices_of conn st)) st))

abbrev pub unregister_plan : State → ℕ → ℕ → Plan
unregister_plan st conn number =
    plain (control_rows conn st ++ unregister_rows number (notices_of conn st))
    (granted [] [] (with_notices_of conn (unregistered number (notices_of conn st)) st))

-- a client of a connection whose event was set and not taken yet
abbrev pub is_flagged_on : ℕ → Client → Bool
is_flagged_on conn c = is_client_on conn c && c.flagged

-- such clients, and all clients once these events were taken
abbrev pub flagged_on : ℕ → List Client → List Client
flagged_on conn clients = filter (is_flagged_on conn) clients

abbrev pub unflagged : ℕ → Client → Client
unflagged conn c = if is_client_on conn c then record c { flagged = false } else c

abbrev pub without_events : ℕ → State → State
without_events conn st = record st { clients = map (unflagged conn) st.clients }

-- a client's event as bytes: the client, and its handle
abbrev pub event_bytes : Client → List ℕ
event_bytes c = to_le_bytes w64 c.client.0 ++ to_le_bytes w64 c.handle

-- what is taken, as a payload: the events, how many notices were lost, and the notices, each list behind four bytes
-- that say how many it has
abbrev pub notices_payload : List Client → ℕ → List Notice → List ℕ
notices_payload flagged lost notices =
    to_le_bytes w32 (length flagged) ++ flat_map event_bytes flagged ++ to_le_bytes w64 lost
    ++ to_le_bytes w32 (length notices) ++ flat_map notice_bytes notices

-- this call waits for nothing: it takes the events that were set, and the notices that are there
abbrev pub take_notices_plan : State → ℕ → ℕ → Plan
take_notices_plan st conn max = plain (connection_rows conn st)
    (granted
    (notices_payload (flagged_on conn st.clients) (notices_of conn st).lost (first_notices max (notices_of conn st))) []
    (with_notices_of conn (taken max (notices_of conn st)) (without_events conn st)))
