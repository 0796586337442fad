-- The step of the machine, and its runs (this project's own).
use Rattle.std.specs.Prelude.{◌≡◌, ℕ, not, List, [], ◌∷◌, ◌++◌, Bool, true, false}
use Rattle.std.specs.List.{flat_map}
use Rattle.ca_base.specs.declared.codes.Hr.{Hr}
use Rattle.ca_base.specs.declared.codes.TheConstants.Hr as hr
use Rattle.ca_base.specs.declared.values.TheConstants.{KIND_OPEN, KIND_HANGUP, KIND_CALL, KIND_PERIOD, KIND_DEVICE}
use Rattle.ca_base.specs.declared.values.TheConstants.{KIND_SHUTDOWN}
use Rattle.ca_base.specs.Faults.{Rose}
use Rattle.ca_model.specs.declared.event.Event.{Event}
use Rattle.ca_model.specs.declared.event.Event.TheVariants as event
use Rattle.ca_model.specs.declared.event.Call.{Call}
use Rattle.ca_model.specs.declared.event.Call.TheVariants as call
use Rattle.ca_model.specs.declared.event.DeviceEvent.{DeviceEvent}
use Rattle.ca_model.specs.declared.event.DeviceEvent.TheVariants as device
use Rattle.ca_model.specs.declared.reply.Reply.{Reply}
use Rattle.session_manager.specs.declared.changes.Change.TheVariants as change
use Rattle.ca_stage.specs.Moves.{Move}
use Rattle.ca_machine.specs.State.{State}
use Rattle.ca_machine.specs.Plan.{Outcome, Plan, Answer, Asked, AreAnswers, plain, refused, asked_of, is_whole}
use Rattle.ca_machine.specs.Plan.{outcome_of}
use Rattle.ca_machine.specs.Plan.Answer.{failed}
use Rattle.ca_machine.specs.SharedRows.{control_rows, shut_rows}
use Rattle.ca_machine.specs.Clients.{open_plan, hangup_plan, activate_plan, release_plan}
use Rattle.ca_machine.specs.Streams.{get_buffer_size_plan, get_stream_latency_plan, is_format_supported_plan, get_mix_format_plan, get_device_period_plan, start_plan, stop_plan, reset_plan, set_event_handle_plan, get_service_plan, get_position_plan, get_stream_level_plan, set_stream_level_plan}
use Rattle.ca_machine.specs.Openings.{initialize_plan}
use Rattle.ca_machine.specs.Sessions.{
  enum_sessions_plan,
  get_session_plan,
  set_session_plan,
}
use Rattle.ca_machine.specs.Data.{
  capture_get_buffer_plan,
  capture_release_buffer_plan,
  get_buffer_plan,
  get_current_padding_plan,
  get_next_packet_size_plan,
  release_buffer_plan,
}
use Rattle.ca_machine.specs.Endpoints.{device_info_plan, enum_endpoints_plan, get_default_plan, get_device_plan}
use Rattle.ca_machine.specs.Registrations.{register_plan, take_notices_plan, unregister_plan}
use Rattle.ca_machine.specs.Devices.{
  add_plan,
  remove_plan,
  set_default_plan,
  set_exclusive_plan,
  set_format_plan,
  set_name_plan,
  set_state_plan,
  shutdown_plan,
}
use Rattle.ca_machine.specs.Notices.{told}
use Rattle.ca_machine.specs.Periods.{period_plan}

-- a code that isn't listed
abbrev pub unlisted_call_plan : State → ℕ → Plan
unlisted_call_plan st conn = plain (control_rows conn st ++ (true, hr.E_NOTIMPL) ∷ []) (refused st hr.E_NOTIMPL)

abbrev pub unlisted_device_plan : State → Plan
unlisted_device_plan st = plain (shut_rows st ++ (true, hr.E_NOTIMPL) ∷ []) (refused st hr.E_NOTIMPL)

abbrev pub call_plan : State → ℕ → Call → Plan
call_plan st conn (call.EnumEndpoints flow mask) = enum_endpoints_plan st conn flow mask
call_plan st conn (call.GetDefault flow role) = get_default_plan st conn flow role
call_plan st conn (call.GetDevice id) = get_device_plan st conn id
call_plan st conn (call.DeviceInfo e) = device_info_plan st conn e.0
call_plan st conn (call.Activate e role) = activate_plan st conn e.0 role
call_plan st conn (call.Release c) = release_plan st conn c.0
call_plan st conn (call.Register class subject) = register_plan st conn class subject
call_plan st conn (call.Unregister number) = unregister_plan st conn number
call_plan st conn (call.TakeNotices max) = take_notices_plan st conn max
call_plan st conn (call.AwaitNotices max) = take_notices_plan st conn max
call_plan st conn (call.Initialize c share flags duration period format session) =
    initialize_plan st conn c.0 (record {
      share = share;
      flags = flags;
      duration = duration;
      period = period;
      format = format.list;
      session = session.0;
    })
call_plan st conn (call.GetBufferSize c) = get_buffer_size_plan st conn c.0
call_plan st conn (call.GetStreamLatency c) = get_stream_latency_plan st conn c.0
call_plan st conn (call.GetCurrentPadding c) = get_current_padding_plan st conn c.0
call_plan st conn (call.IsFormatSupported c share format) = is_format_supported_plan st conn c.0 share format.list
call_plan st conn (call.GetMixFormat c) = get_mix_format_plan st conn c.0
call_plan st conn (call.GetDevicePeriod c) = get_device_period_plan st conn c.0
call_plan st conn (call.Start c) = start_plan st conn c.0
call_plan st conn (call.Stop c) = stop_plan st conn c.0
call_plan st conn (call.Reset c) = reset_plan st conn c.0
call_plan st conn (call.SetEventHandle c handle) = set_event_handle_plan st conn c.0 handle
call_plan st conn (call.GetService c service) = get_service_plan st conn c.0 service
call_plan st conn (call.GetPosition c) = get_position_plan st conn c.0
call_plan st conn (call.GetStreamLevel c channel) = get_stream_level_plan st conn c.0 channel
call_plan st conn (call.SetStreamLevel c channel level) = set_stream_level_plan st conn c.0 channel level
call_plan st conn (call.GetBuffer c frames) = get_buffer_plan st conn c.0 frames
call_plan st conn (call.ReleaseBuffer c frames flags bytes) = release_buffer_plan st conn c.0 frames flags bytes.list
call_plan st conn (call.GetNextPacketSize c) = get_next_packet_size_plan st conn c.0
call_plan st conn (call.CaptureGetBuffer c) = capture_get_buffer_plan st conn c.0
call_plan st conn (call.CaptureReleaseBuffer c frames) = capture_release_buffer_plan st conn c.0 frames
call_plan st conn (call.EnumSessions e) = enum_sessions_plan st conn e.0
call_plan st conn (call.GetSession s) = get_session_plan st conn s.0
call_plan st conn (call.SetMaster s level context) = set_session_plan st conn s.0 (change.Level level)
call_plan st conn (call.SetMute s mute context) = set_session_plan st conn s.0 (change.Mute mute)
call_plan st conn (call.SetChannel s channel level context) =
    set_session_plan st conn s.0 (change.Channel channel level)
call_plan st conn (call.SetDisplayName s context text) = set_session_plan st conn s.0 (change.Display text)
call_plan st conn (call.SetIconPath s context text) = set_session_plan st conn s.0 (change.Icon text)
call_plan st conn (call.SetGrouping s grouping context) = set_session_plan st conn s.0 (change.Grouping grouping)
call_plan st conn (call.Other code rest) = unlisted_call_plan st conn

abbrev pub device_plan : State → DeviceEvent → Plan
device_plan st (device.Add e flow format name) = add_plan st e.0 flow format.list name
device_plan st (device.SetState e state) = set_state_plan st e.0 state
device_plan st (device.Remove e) = remove_plan st e.0
device_plan st (device.SetFormat e format) = set_format_plan st e.0 format.list
device_plan st (device.SetDefault flow role e) = set_default_plan st flow role e.0
device_plan st (device.SetExclusive e allow priority) = set_exclusive_plan st e.0 allow priority
device_plan st (device.SetName e name) = set_name_plan st e.0 name
device_plan st (device.Other code rest) = unlisted_device_plan st

-- the table of an event
abbrev pub plan : State → Event → Plan
plan st (event.Open c process name) = open_plan st c.0 process name
plan st (event.Hangup c) = hangup_plan st c.0
plan st (event.Call c tag x) = call_plan st c.0 x
plan st (event.Period e) = period_plan st e.0
plan st (event.Device x) = device_plan st x
plan st event.Shutdown = shutdown_plan st

-- calls that may change what notices tell of
abbrev pub call_tells : Call → Bool
call_tells (call.Release c) = true
call_tells (call.Initialize c share flags duration period format session) = true
call_tells (call.Start c) = true
call_tells (call.Stop c) = true
call_tells (call.SetMaster s level context) = true
call_tells (call.SetMute s mute context) = true
call_tells (call.SetChannel s channel level context) = true
call_tells (call.SetDisplayName s context text) = true
call_tells (call.SetIconPath s context text) = true
call_tells (call.SetGrouping s grouping context) = true
call_tells _ = false

-- events that may: of the periods those whose device failed
abbrev pub tells : Event → List Answer → Bool
tells (event.Open c process name) given = false
tells (event.Hangup c) given = true
tells (event.Call c tag x) given = call_tells x
tells (event.Period e) given = not (is_whole given)
tells (event.Device x) given = true
tells event.Shutdown given = true

-- what an event gets, for the environment's answers to it: what its plan says, and its notices go to the connections
-- that registered for them
abbrev pub step : State → Event → List Answer → Outcome
step st e given = told st e (tells e given) (outcome_of st (plan st e) given)

-- what an event asks of the environment
abbrev pub asks : State → Event → Asked
asks st e = asked_of (plan st e)

-- one event of a run: the environment's answers to it, its result and payload, its moves, and what devices took
pub record Entry : Type 0 where
  pub event : Event
  pub answers : List Answer
  pub result : Hr
  pub payload : List ℕ
  pub moves : List Move
  pub output : List (ℕ × List ℕ)

-- the entry is the machine's step: it uses each of its answers once
pub record Steps (st : State) (entry : Entry) (new : State) : Type 0 where
  pub answers : AreAnswers (asks st entry.event) entry.answers
  pub result : entry.result ≡ (step st entry.event entry.answers).result
  pub payload : entry.payload ≡ (step st entry.event entry.answers).payload
  pub moves : entry.moves ≡ (step st entry.event entry.answers).moves
  pub output : entry.output ≡ (step st entry.event entry.answers).output
  pub after : new ≡ (step st entry.event entry.answers).after

-- a run of the machine: its entries, one step after another
abbrev pub IsRun : State → List Entry → State → Type 0
IsRun st [] new = new ≡ st
IsRun st (entry ∷ entries) new = (mid : State) × Steps st entry mid × IsRun mid entries new

-- the environment's answers of a run
abbrev pub answers_of : List Entry → List Answer
answers_of entries = flat_map (λ entry. entry.answers) entries

-- the moves of the stage in it
abbrev pub moves_of : List Entry → List Move
moves_of entries = flat_map (λ entry. entry.moves) entries

-- the kind of an event, which is its reply's
abbrev pub event_kind : Event → ℕ
event_kind (event.Open c process name) = KIND_OPEN
event_kind (event.Hangup c) = KIND_HANGUP
event_kind (event.Call c tag x) = KIND_CALL
event_kind (event.Period e) = KIND_PERIOD
event_kind (event.Device x) = KIND_DEVICE
event_kind event.Shutdown = KIND_SHUTDOWN

-- its connection, 0 if it has none
abbrev pub event_connection : Event → ℕ
event_connection (event.Open c process name) = c.0
event_connection (event.Hangup c) = c.0
event_connection (event.Call c tag x) = c.0
event_connection (event.Period e) = 0
event_connection (event.Device x) = 0
event_connection event.Shutdown = 0

-- its tag, 0 if it has none
abbrev pub event_tag : Event → ℕ
event_tag (event.Call c tag x) = tag
event_tag _ = 0

-- the reply of an entry
pub record Replies (entry : Entry) (r : Reply) : Type 0 where
  pub kind : r.kind ≡ event_kind entry.event
  pub connection : r.conn ≡ event_connection entry.event
  pub tag : r.tag ≡ event_tag entry.event
  pub result : r.result ≡ entry.result
  pub payload : r.payload.list ≡ entry.payload

-- a count of faults along answers: it rises at each call that failed, and stays at each other
abbrev pub FaultsAlong : ℕ → List Answer → ℕ → Type 0
FaultsAlong before [] after = after ≡ before
FaultsAlong before (failed ∷ given) after = (mid : ℕ) × Rose before mid × FaultsAlong mid given after
FaultsAlong before (_ ∷ given) after = FaultsAlong before given after
