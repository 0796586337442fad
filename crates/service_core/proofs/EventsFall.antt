-- Each event but a data call leaves streams as they were opened, with no more frames pending.
use Rattle.std.proofs.Common.{ℕ, ◌||◌, ◌==◌, not, List, [], ◌∷◌, ◌++◌, filter, map, Bool, true, false, Option, Some}
use Rattle.std.proofs.Common.{None}
use Rattle.std.proofs.Common.{if◌then◌else◌, option_map}
use Rattle.std.specs.List.{AllByRecursion}
use Rattle.std.specs.Int.{w32, w64, to_le_bytes}
use Rattle.ca_base.specs.declared.codes.TheConstants.Hr as hr
use Rattle.ca_base.specs.declared.ids.Flow.{Flow}
use Rattle.ca_base.specs.declared.ids.Flow.TheVariants as flow
use Rattle.ca_base.specs.declared.ids.Reason.TheVariants.{Override, Removal}
use Rattle.ca_base.specs.Rows.{first}
use Rattle.ca_model.specs.declared.event.Event.{Event}
use Rattle.ca_model.specs.declared.event.Event.TheVariants as event
use Rattle.ca_model.specs.declared.event.Call.{Call}
use Rattle.ca_model.specs.declared.event.Call.TheVariants as call
use Rattle.wave_format.specs.Format.{spelled}
use Rattle.device_registry.specs.declared.endpoint.Endpoint.{Endpoint}
use Rattle.ca_stage.specs.Stage.{Frame, Stage, Stream, frames_waiting}
use Rattle.ca_stage.specs.Moves.{started, stopped, reset, closed, opened, of_client, Mixing, after_moves, stream_at}
use Rattle.ca_stage.proofs.Lists.{all-append}
use Rattle.ca_stage.specs.Given.{frames_given, whole_frames}
use Rattle.ca_stage.specs.Periods.{captures, open_streams_on, sub_steps}
use Rattle.session_manager.specs.Sessions.{joined, number_joined, session_at}
use Rattle.session_manager.specs.declared.session.SessionKey.{SessionKey}
use Rattle.ca_machine.specs.declared.state.Client.{Client}
use Rattle.ca_machine.specs.State.{State, live_clients, client_of, endpoint_at, is_client_of, session_list}
use Rattle.ca_machine.specs.State.{with_sessions}
use Rattle.ca_machine.specs.Plan.{Answer, answered, bytes_given, moved, is_whole}
use Rattle.ca_machine.specs.SharedRows.{endpoint_of, with_endpoint}
use Rattle.ca_machine.specs.Clients.{closes, leaving, hangup_plan, is_client_on, without_connection}
use Rattle.ca_machine.specs.Endpoints.{default_at, endpoint_named, endpoint_told, number_told}
use Rattle.ca_machine.specs.Openings.{Opening, endpoint_channels, flow_of, initialized, is_kept, joined_by, new_stream}
use Rattle.ca_machine.specs.Openings.{takes_over}
use Rattle.ca_machine.specs.Streams.{position_of, stream_level, supported}
use Rattle.ca_machine.specs.Openings.{session_key}
use Rattle.ca_machine.specs.Devices.{disconnects_if}
use Rattle.ca_machine.specs.Formats.{admits, is_faulty}
use Rattle.ca_machine.specs.Streams.{with_handle, with_stream_level}
use Rattle.ca_machine.specs.Formats.{format_payload}
use Rattle.ca_machine.specs.Data.{next_packet_size}
use Rattle.ca_machine.specs.Sessions.{session_payload, state_of_session, with_session}
use Rattle.ca_machine.specs.Periods.{after_period, after_recording, mixing_of, period_by, period_frames, period_of}
use Rattle.ca_machine.specs.Periods.{period_rows, recording, recording_moves, sounding}
use Rattle.ca_machine.specs.Step.{call_plan, plan}
use Rattle.ca_machine.proofs.PeriodMoves.{OfSubSteps, captures_all, sub_steps_all}
use Rattle.service_core.proofs.DevicesFall.{if_control, keeps_device, keeps_shutdown}
use Rattle.service_core.proofs.PlansFall.{Keeps, Leaves, keeps_memory, keeps_moves, keeps_plain, keeps_still}
use Rattle.service_core.proofs.PlansFall.{keeps_tells, leaves_unless, of_endpoint, of_number, of_session, of_told}
use Rattle.service_core.proofs.StreamsFall.{IsControl, AllFell, all_still, all_moved, all_present}

-- clients that go
closes_control : (clients : List Client) → AllByRecursion IsControl (closes clients)
closes_control [] = tt
closes_control (c ∷ clients) = (tt, closes_control clients)

of_leaving : (st : State) (gone left : List Client) → Leaves st (leaving gone left st)
of_leaving st gone left =
    all_present st.stage (after_moves st.stage (closes gone)) (live_clients left)
    (all_moved st.stage (closes gone) (closes_control gone))

-- a stream that is opened
of_joined : (st : State) (client : Client) (x : Opening) (key : SessionKey) →
    Leaves st (joined_by st client x key)
of_joined st client x key =
    let after = with_sessions (joined key None (is_kept x.flags) (endpoint_channels st client) (session_list st)) st in
    let taken = disconnects_if (takes_over after client x) Override (Some client.endpoint.0) st.stage in
    let new = opened (new_stream (flow_of after client) client x (number_joined key (session_list st))) ∷ [] in
    all_moved st.stage (taken ++ new)
    (all-append IsControl taken new
    (if_control (takes_over after client x) Override (Some client.endpoint.0) st.stage) (tt, tt))

of_opening : (st : State) (conn : ℕ) (client : Option Client) (x : Opening) → Leaves st (initialized st conn client x)
of_opening st conn None x = all_still st.stage
of_opening st conn (Some client) x = of_joined st client x (session_key st conn client x)

-- a period
of_failed : (number : ℕ) (whole : Bool) (st after : State) → AllFell st.stage after.stage →
    AllFell st.stage (after_period number whole after).stage
of_failed number true st after h = h
of_failed number false st after h = h

period_control : OfSubSteps IsControl
period_control = record {
  picks = λ n k. tt;
  retires = λ n. tt;
  feeds = λ n frames. tt;
  closes = λ n. tt;
  finish = λ m b. tt;
}

of_sound : (st : State) (m : Mixing) (given : List Answer) → Leaves st (sounding st m given)
of_sound st m given =
    of_failed m.endpoint (is_whole given) st (moved (sub_steps m (is_whole given) st.stage) st)
    (all_moved st.stage (sub_steps m (is_whole given) st.stage)
    (sub_steps_all IsControl period_control m (is_whole given) tt st.stage))

-- a period of an endpoint that captures
fed_control : (number : ℕ) (frames : List Frame) (st : Stage) (none : Bool) →
    AllByRecursion IsControl (if none then [] else captures number frames st)
fed_control number frames st true = tt
fed_control number frames st false = captures_all IsControl period_control number frames tt st

lost_control : (left : List Stream) → AllByRecursion IsControl (map (λ s. of_client s.client (closed Removal)) left)
lost_control [] = tt
lost_control (s ∷ left) = (tt, lost_control left)

of_recorded : (e : Endpoint) (bytes : List ℕ) (whole : Bool) (st after : State) → AllFell st.stage after.stage →
    AllFell st.stage (after_recording e bytes whole after).stage
of_recorded e bytes true st after h = by (whole_frames e.format.channels bytes == 0)
  where
    by : (b : Bool) → AllFell st.stage (if b then after else after_period e.no.0 true after).stage
    by true = h
    by false = h
of_recorded e bytes false st after h = h

recording_control : (e : Endpoint) (frames : ℕ) (bytes : List ℕ) (whole : Bool) (st : Stage) →
    AllByRecursion IsControl (recording_moves e frames bytes whole st)
recording_control e frames bytes true st =
    fed_control e.no.0 (frames_given frames e.format.channels bytes) st (whole_frames e.format.channels bytes == 0)
recording_control e frames bytes false st = lost_control (open_streams_on e.no.0 st)

of_record : (st : State) (e : Endpoint) (frames : ℕ) (given : List Answer) → Leaves st (recording st e frames given)
of_record st e frames given =
    of_recorded e (bytes_given given) (is_whole given) st
    (moved (recording_moves e frames (bytes_given given) (is_whole given) st.stage) st)
    (all_moved st.stage (recording_moves e frames (bytes_given given) (is_whole given) st.stage)
    (recording_control e frames (bytes_given given) (is_whole given) st.stage))

of_flow : (st : State) (e : Endpoint) (f : Flow) → Keeps st (period_by st e f)
of_flow st e flow.Render = record {
  leaves = λ given. leaves_unless st (first (period_rows st e (period_frames e st.stage.streams)))
      (sounding st (mixing_of st e) given) (of_sound st (mixing_of st e) given);
}
of_flow st e flow.Capture = record {
  leaves = λ given. leaves_unless st (first (period_rows st e (period_frames e st.stage.streams)))
      (recording st e (period_frames e st.stage.streams) given)
      (of_record st e (period_frames e st.stage.streams) given);
}

of_period : (st : State) (e : Option Endpoint) → Keeps st (period_of st e)
of_period st None = keeps_plain st _ _ (all_still st.stage)
of_period st (Some e) = of_flow st e e.flow

supported_either : (st : State) (payload : List ℕ) (b : Bool) → Leaves st
    (if b then record (answered st payload) { result = hr.S_FALSE } else answered st [])
supported_either st payload true = all_still st.stage
supported_either st payload false = all_still st.stage

-- a call, and an event, that neither leases nor releases frames or packets
abbrev pub IsControlCall : Call → Type 0
IsControlCall (call.GetBuffer c frames) = ⊥
IsControlCall (call.ReleaseBuffer c frames flags bytes) = ⊥
IsControlCall (call.CaptureGetBuffer c) = ⊥
IsControlCall (call.CaptureReleaseBuffer c frames) = ⊥
IsControlCall _ = Unit {0}

abbrev pub IsControlEvent : Event → Type 0
IsControlEvent (event.Call c tag x) = IsControlCall x
IsControlEvent _ = Unit {0}

of_call : (st : State) (conn : ℕ) (x : Call) → IsControlCall x → Keeps st (call_plan st conn x)
of_call st conn (call.EnumEndpoints flow mask) control = keeps_plain st _ _ (all_still st.stage)
of_call st conn (call.GetDefault flow role) control =
    keeps_plain st _ (number_told st (default_at flow role st)) (of_number st (default_at flow role st))
of_call st conn (call.GetDevice id) control =
    keeps_plain st _ (number_told st (option_map (λ e. e.no.0) (endpoint_named id st)))
    (of_number st (option_map (λ e. e.no.0) (endpoint_named id st)))
of_call st conn (call.DeviceInfo e) control =
    keeps_plain st _ (endpoint_told st (endpoint_at e.0 st)) (of_told st (endpoint_at e.0 st))
of_call st conn (call.Register class subject) control = keeps_memory st _ _ (all_still st.stage)
of_call st conn (call.Unregister number) control = keeps_plain st _ _ (all_still st.stage)
of_call st conn (call.TakeNotices max) control = keeps_plain st _ _ (all_still st.stage)
of_call st conn (call.AwaitNotices max) control = keeps_plain st _ _ (all_still st.stage)
of_call st conn (call.Activate e role) control = keeps_plain st _ _ (all_still st.stage)
of_call st conn (call.Release c) control = keeps_plain st _ _ (of_leaving st
    (filter (is_client_of conn c.0) st.clients) (filter (λ k. not (is_client_of conn c.0 k)) st.clients))
of_call st conn (call.Initialize c share flags duration period format session) control =
    keeps_memory st _ _ (of_opening st conn (client_of conn c.0 st) (record {
      share = share;
      flags = flags;
      duration = duration;
      period = period;
      format = format.list;
      session = session.0;
    }))
of_call st conn (call.GetBufferSize c) control = keeps_tells st _ (stream_at c.0 st.stage)
    (λ s. to_le_bytes w32 s.buffer)
of_call st conn (call.GetStreamLatency c) control = keeps_tells st _ (stream_at c.0 st.stage)
    (λ s. to_le_bytes w64 s.latency)
of_call st conn (call.GetCurrentPadding c) control = keeps_tells st _ (stream_at c.0 st.stage)
    (λ s. to_le_bytes w32 (frames_waiting s))
of_call st conn (call.IsFormatSupported c share format) control =
    keeps_plain st _ (with_endpoint st (endpoint_of st (client_of conn c.0 st)) (supported st share format.list))
    (of_endpoint st (endpoint_of st (client_of conn c.0 st)) (supported st share format.list)
    (λ e. supported_either st (format_payload e.format)
    (is_faulty format.list || not (admits share e.format (spelled format.list)))))
of_call st conn (call.GetMixFormat c) control =
    keeps_plain st _
    (with_endpoint st (endpoint_of st (client_of conn c.0 st)) (λ e. answered st (format_payload e.format)))
    (of_endpoint st (endpoint_of st (client_of conn c.0 st)) (λ e. answered st (format_payload e.format))
    (λ e. all_still st.stage))
of_call st conn (call.GetDevicePeriod c) control = keeps_plain st _ _ (all_still st.stage)
of_call st conn (call.Start c) control = keeps_moves st _ (stream_at c.0 st.stage) c.0 started tt
of_call st conn (call.Stop c) control = keeps_moves st _ (stream_at c.0 st.stage) c.0 stopped tt
of_call st conn (call.Reset c) control = keeps_moves st _ (stream_at c.0 st.stage) c.0 reset tt
of_call st conn (call.SetEventHandle c handle) control = keeps_still st _ (stream_at c.0 st.stage)
    (record st { clients = with_handle conn c.0 handle st.clients }) (all_still st.stage)
of_call st conn (call.GetService c service) control = keeps_tells st _ (stream_at c.0 st.stage) (λ s. [])
of_call st conn (call.GetPosition c) control = keeps_tells st _ (stream_at c.0 st.stage)
    (λ s. to_le_bytes w64 (position_of s) ++ to_le_bytes w64 s.rate)
of_call st conn (call.GetStreamLevel c channel) control = keeps_tells st _ (stream_at c.0 st.stage)
    (λ s. to_le_bytes w32 (stream_level conn c.0 channel st))
of_call st conn (call.SetStreamLevel c channel level) control = keeps_still st _ (stream_at c.0 st.stage)
    (record st { clients = with_stream_level conn c.0 channel level st.clients }) (all_still st.stage)
of_call st conn (call.GetBuffer c frames) control = absurd control
of_call st conn (call.ReleaseBuffer c frames flags bytes) control = absurd control
of_call st conn (call.GetNextPacketSize c) control = keeps_tells st _ (stream_at c.0 st.stage)
    (λ s. to_le_bytes w32 (next_packet_size s))
of_call st conn (call.CaptureGetBuffer c) control = absurd control
of_call st conn (call.CaptureReleaseBuffer c frames) control = absurd control
of_call st conn (call.EnumSessions e) control = keeps_plain st _ _ (all_still st.stage)
of_call st conn (call.GetSession s) control =
    keeps_plain st _ (with_session st (session_at s.0 st.sessions)
    (λ k. answered st (session_payload (state_of_session s.0 st.stage.streams) k)))
    (of_session st (session_at s.0 st.sessions)
    (λ k. answered st (session_payload (state_of_session s.0 st.stage.streams) k)) (λ k. all_still st.stage))
of_call st conn (call.SetMaster s level context) control = keeps_plain st _ _ (all_still st.stage)
of_call st conn (call.SetMute s mute context) control = keeps_plain st _ _ (all_still st.stage)
of_call st conn (call.SetChannel s channel level context) control = keeps_plain st _ _ (all_still st.stage)
of_call st conn (call.SetDisplayName s context text) control = keeps_plain st _ _ (all_still st.stage)
of_call st conn (call.SetIconPath s context text) control = keeps_plain st _ _ (all_still st.stage)
of_call st conn (call.SetGrouping s grouping context) control = keeps_plain st _ _ (all_still st.stage)
of_call st conn (call.Other code rest) control = keeps_plain st _ _ (all_still st.stage)

keeps_hangup : (st : State) (conn : ℕ) → Keeps st (hangup_plan st conn)
keeps_hangup st conn = keeps_plain st _ _ (of_leaving (without_connection conn st)
    (filter (is_client_on conn) st.clients) (filter (λ c. not (is_client_on conn c)) st.clients))

pub keeps_event : (st : State) (e : Event) → IsControlEvent e → Keeps st (plan st e)
keeps_event st (event.Open c process name) control = keeps_plain st _ _ (all_still st.stage)
keeps_event st (event.Hangup c) control = keeps_hangup st c.0
keeps_event st (event.Call c tag x) control = of_call st c.0 x control
keeps_event st (event.Period e) control = of_period st (endpoint_at e.0 st)
keeps_event st (event.Device x) control = keeps_device st x
keeps_event st event.Shutdown control = keeps_shutdown st
