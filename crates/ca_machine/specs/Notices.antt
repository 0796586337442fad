-- The notices that an event makes, and who gets them (IMMNotificationClient, IAudioSessionEvents; which event makes
-- which, and their order, are this project's own).
use Rattle.std.specs.Prelude.{ℕ, ◌+◌, ◌*◌, ◌^◌, ◌/◌, ◌%◌, ◌==◌, List, [], ◌∷◌, ◌++◌, map, Bool, true, false}
use Rattle.std.specs.Prelude.{if◌then◌else◌}
use Rattle.std.specs.Option.{option_map_or, unwrap_or}
use Rattle.ca_base.specs.declared.codes.TheConstants.Hr as hr
use Rattle.ca_base.specs.declared.ids.Guid.{Guid}
use Rattle.ca_model.specs.declared.event.Event.{Event}
use Rattle.ca_model.specs.declared.event.Event.TheVariants as event
use Rattle.ca_model.specs.declared.event.Call.{Call}
use Rattle.ca_model.specs.declared.event.Call.TheVariants as call
use Rattle.ca_model.specs.declared.event.DeviceEvent.TheVariants as device
use Rattle.session_manager.specs.declared.session.Session.{Session}
use Rattle.session_manager.specs.Names.{guid_text}
use Rattle.session_manager.specs.Sessions.{session_at}
use Rattle.ca_stage.specs.Stage.{Stream}
use Rattle.device_registry.specs.declared.endpoint.Endpoint.{Endpoint}
use Rattle.event_notices.specs.declared.notice.Notice.{Notice}
use Rattle.event_notices.specs.declared.kinds.TheConstants.{
  CHANNEL_VOLUME,
  DEVICE_PROPERTY,
  DISPLAY_NAME,
  GROUPING,
  ICON_PATH,
  PROPERTY_EXCLUSIVE,
  PROPERTY_FORMAT,
  PROPERTY_NAME,
  SIMPLE_VOLUME,
}
use Rattle.event_notices.specs.Notices.{pushed_all}
use Rattle.step_notices.specs.declared.records.NotedEndpoint.{NotedEndpoint}
use Rattle.step_notices.specs.declared.records.NotedSession.{NotedSession}
use Rattle.step_notices.specs.declared.records.NotedStream.{NotedStream}
use Rattle.step_notices.specs.Notes.{Notes}
use Rattle.step_notices.specs.Changes.{device_notices, note, session_notices}
use Rattle.ca_machine.specs.State.{State}
use Rattle.ca_machine.specs.Plan.{Outcome}
use Rattle.ca_machine.specs.Endpoints.{default_at}

-- ---- what is compared of the states before and after an event

-- an endpoint, and its state
abbrev pub noted_endpoint : Endpoint → NotedEndpoint
noted_endpoint e = record { no = e.no; state = e.state }

-- a session, and its endpoint
abbrev pub noted_session : Session → NotedSession
noted_session s = record { no = s.no; endpoint = s.key.endpoint }

-- a stream, its session, whether it runs, and its gate
abbrev pub noted_stream : Stream → NotedStream
noted_stream s = record {
  client = record { 0 = s.client };
  session = record { 0 = s.session };
  running = s.running;
  gate = s.gate;
}

-- the default of a place, which is flow * 3 + role; 0 if there is none
abbrev pub default_number : State → ℕ → ℕ
default_number st place = unwrap_or (default_at (place / 3) (place % 3) st) 0

-- all that is compared
abbrev pub noted : State → Notes
noted st = record {
  endpoints = map noted_endpoint st.endpoints;
  defaults = map (default_number st) (0 ∷ 1 ∷ 2 ∷ 3 ∷ 4 ∷ 5 ∷ []);
  sessions = map noted_session st.sessions;
  streams = map noted_stream st.stage.streams;
}

-- ---- what the event itself tells

-- a device event that changed a property of an endpoint: its name, its format, or what is said of exclusive use
abbrev pub property_notices : Event → List Notice
property_notices (event.Device (device.SetFormat e format)) = note DEVICE_PROPERTY e.0 PROPERTY_FORMAT ∷ []
property_notices (event.Device (device.SetExclusive e allow priority)) =
    note DEVICE_PROPERTY e.0 PROPERTY_EXCLUSIVE ∷ []
property_notices (event.Device (device.SetName e name)) = note DEVICE_PROPERTY e.0 PROPERTY_NAME ∷ []
property_notices _ = []

-- a notice of a session, in the context of the call that made it
abbrev pub session_note : ℕ → ℕ → Guid → ℕ → List ℕ → Notice
session_note kind number context value text =
    record { kind = kind; subject = number; context = context; value = value; text = text }

-- a session's level and mute in one number
abbrev pub volume_of : Session → ℕ
volume_of s = s.level * 2 + (if s.mute then 1 else 0)

-- that of the session of a number, 0 if it isn't there
abbrev pub volume_at : ℕ → State → ℕ
volume_at number st = option_map_or volume_of (session_at number st.sessions) 0

-- the level or the mute is another
abbrev pub volume_notices : ℕ → Guid → State → State → List Notice
volume_notices number context before after =
    if volume_at number before == volume_at number after
    then []
    else session_note SIMPLE_VOLUME number context (volume_at number after) [] ∷ []

-- a call that changed a session
abbrev pub setting_notices : Call → State → State → List Notice
setting_notices (call.SetMaster s level context) before after = volume_notices s.0 context before after
setting_notices (call.SetMute s mute context) before after = volume_notices s.0 context before after
setting_notices (call.SetChannel s channel level context) before after =
    session_note CHANNEL_VOLUME s.0 context (channel * 2 ^ 32 + level) [] ∷ []
setting_notices (call.SetDisplayName s context text) before after =
    session_note DISPLAY_NAME s.0 context 0 text ∷ []
setting_notices (call.SetIconPath s context text) before after = session_note ICON_PATH s.0 context 0 text ∷ []
setting_notices (call.SetGrouping s grouping context) before after =
    session_note GROUPING s.0 context 0 (guid_text grouping.0) ∷ []
setting_notices _ before after = []

-- an event that is such a call
abbrev pub event_notices : Event → State → State → List Notice
event_notices (event.Call c tag x) before after = setting_notices x before after
event_notices _ before after = []

-- ---- all of them

-- the notices of an event, by the states before and after it: in rising kind, and then in rising subject
abbrev pub made : State → Event → State → List Notice
made before e after =
    device_notices (noted before) (noted after) ++ property_notices e
    ++ session_notices (noted before) (noted after) ++ event_notices e before after

-- every connection keeps those that it registered for
abbrev pub with_notices : List Notice → State → State
with_notices ns st = record st { notices = map (pushed_all ns) st.notices }

-- an event that was granted, and may have changed what notices tell of, tells it
abbrev pub told : State → Event → Bool → Outcome → Outcome
told st e false outcome = outcome
told st e true outcome =
    if outcome.result.0 == hr.S_OK.0
    then record outcome { after = with_notices (made st e outcome.after) outcome.after }
    else outcome
