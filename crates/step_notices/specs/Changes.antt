-- The notices of a step, by what was noted before it and after it (IMMNotificationClient, IAudioSessionNotification,
-- IAudioSessionEvents; which notices a step makes, and their order, is this project's own).
use Rattle.std.specs.Prelude.{ℕ, ◌==◌, ◌&&◌, not, List, [], ◌++◌, map, filter, slice_get, slice_index}
use Rattle.std.specs.Prelude.{Bool, true, false, Option, Some, None, is_none, if◌then◌else◌}
use Rattle.std.specs.List.{filter_map, find, list_any, range_with_len}
use Rattle.std.specs.Option.{option_map, option_map_or}
use Rattle.ca_base.specs.declared.ids.Gate.{Gate}
use Rattle.ca_base.specs.declared.ids.Gate.TheVariants as gate
use Rattle.ca_base.specs.declared.ids.Reason.{Reason}
use Rattle.ca_base.specs.declared.ids.Reason.TheVariants as reason
use Rattle.ca_base.specs.declared.values.TheConstants.{SESSION_ACTIVE, SESSION_EXPIRED, SESSION_INACTIVE}
use Rattle.event_notices.specs.declared.kinds.TheConstants as kinds
use Rattle.event_notices.specs.declared.notice.Notice.{Notice}
use Rattle.step_notices.specs.declared.records.TheConstants.{DEFAULTS}
use Rattle.step_notices.specs.declared.records.NotedEndpoint.{NotedEndpoint}
use Rattle.step_notices.specs.declared.records.NotedSession.{NotedSession}
use Rattle.step_notices.specs.declared.records.NotedStream.{NotedStream}
use Rattle.step_notices.specs.Notes.{Notes}

-- a notice of a kind, of what it happened to, with a number: no call caused it, and it has no text
abbrev pub note : ℕ → ℕ → ℕ → Notice
note kind subject value =
    record { kind = kind; subject = subject; context = record { 0 = 0 }; value = value; text = [] }

-- ---- what is noted of a number

-- the endpoint of a number, if it is noted
abbrev pub endpoint_in : ℕ → List NotedEndpoint → Option NotedEndpoint
endpoint_in number list = find (λ e. e.no.0 == number) list

-- the session of a number
abbrev pub session_in : ℕ → List NotedSession → Option NotedSession
session_in number list = find (λ s. s.no.0 == number) list

-- the stream of a client's number
abbrev pub stream_in : ℕ → List NotedStream → Option NotedStream
stream_in number list = find (λ s. s.client.0 == number) list

-- ---- devices

-- IMMNotificationClient::OnDeviceAdded: each endpoint that wasn't there
abbrev pub added_notices : Notes → Notes → List Notice
added_notices a b =
    map (λ e. note kinds.DEVICE_ADDED e.no.0 0)
    (filter (λ e. is_none (endpoint_in e.no.0 a.endpoints)) b.endpoints)

-- IMMNotificationClient::OnDeviceRemoved: each endpoint that isn't there any more
abbrev pub removed_notices : Notes → Notes → List Notice
removed_notices a b =
    map (λ e. note kinds.DEVICE_REMOVED e.no.0 0)
    (filter (λ e. is_none (endpoint_in e.no.0 b.endpoints)) a.endpoints)

-- an endpoint was noted with another state
abbrev pub had_another_state : List NotedEndpoint → NotedEndpoint → Bool
had_another_state before e = option_map_or (λ old. not (old.state == e.state)) (endpoint_in e.no.0 before) false

-- IMMNotificationClient::OnDeviceStateChanged: each endpoint that was there in another state, and its new state
abbrev pub state_notices : Notes → Notes → List Notice
state_notices a b =
    map (λ e. note kinds.DEVICE_STATE e.no.0 e.state) (filter (had_another_state a.endpoints) b.endpoints)

-- the default of a place is another one
abbrev pub is_another_default : Notes → Notes → ℕ → Bool
is_another_default a b place = not (slice_index a.defaults place == slice_index b.defaults place)

-- IMMNotificationClient::OnDefaultDeviceChanged: each place whose default is another one, and that one, 0 for none
abbrev pub default_notices : Notes → Notes → List Notice
default_notices a b =
    map (λ place. note kinds.DEFAULT_CHANGED place (slice_index b.defaults place))
    (filter (is_another_default a b) (range_with_len 0 DEFAULTS))

-- all of devices, in this order
abbrev pub device_notices : Notes → Notes → List Notice
device_notices a b = added_notices a b ++ removed_notices a b ++ state_notices a b ++ default_notices a b

-- ---- sessions

-- IAudioSessionNotification::OnSessionCreated: each session that wasn't there, by its endpoint
abbrev pub created_notices : Notes → Notes → List Notice
created_notices a b =
    map (λ s. note kinds.SESSION_CREATED s.endpoint.0 s.no.0)
    (filter (λ s. is_none (session_in s.no.0 a.sessions)) b.sessions)

-- AudioSessionState: active while a stream of it runs, inactive while it has streams and none runs, and else expired
abbrev pub state_of : ℕ → List NotedStream → ℕ
state_of number streams =
    if list_any (λ s. s.session.0 == number && s.running) streams
    then SESSION_ACTIVE
    else if list_any (λ s. s.session.0 == number) streams then SESSION_INACTIVE else SESSION_EXPIRED

-- AudioSessionDisconnectReason, and this project's own for a client that is gone
abbrev pub reason_number : Reason → ℕ
reason_number reason.Removal = 0
reason_number reason.Shutdown = 1
reason_number reason.Format = 2
reason_number reason.Override = 5
reason_number reason.Released = 6

-- the number of the reason for which a gate is closed, if it is
abbrev pub closed_for : Gate → Option ℕ
closed_for gate.Open = None
closed_for (gate.Closed reason) = Some (reason_number reason)

-- a gate lets frames pass
abbrev pub is_open : Gate → Bool
is_open gate.Open = true
is_open (gate.Closed reason) = false

-- the stream of this client was noted, with an open gate
abbrev pub was_open : List NotedStream → NotedStream → Bool
was_open before s = option_map_or (λ old. is_open old.gate) (stream_in s.client.0 before) false

-- why streams of a session closed: the numbers of the reasons of those that were open and are closed now
abbrev pub reasons : List NotedStream → List NotedStream → ℕ → List ℕ
reasons a b number =
    filter_map (λ s. closed_for s.gate) (filter (λ s. s.session.0 == number && was_open a s) b)

-- the first of them
abbrev pub first_reason : List NotedStream → List NotedStream → ℕ → Option ℕ
first_reason a b number = slice_get (reasons a b number) 0

-- IAudioSessionEvents::OnSessionDisconnected: each session that was there and of which a stream closed, and why the
-- first of them did
abbrev pub disconnected_notices : Notes → Notes → List Notice
disconnected_notices a b =
    filter_map (λ s. option_map (note kinds.DISCONNECTED s.no.0) (first_reason a.streams b.streams s.no.0)) a.sessions

-- IAudioSessionEvents::OnStateChanged: each session that was there and is in another state, and that state
abbrev pub session_state_notices : Notes → Notes → List Notice
session_state_notices a b =
    map (λ s. note kinds.SESSION_STATE s.no.0 (state_of s.no.0 b.streams))
    (filter (λ s. not (state_of s.no.0 a.streams == state_of s.no.0 b.streams)) a.sessions)

-- all of sessions, in this order
abbrev pub session_notices : Notes → Notes → List Notice
session_notices a b = created_notices a b ++ disconnected_notices a b ++ session_state_notices a b
