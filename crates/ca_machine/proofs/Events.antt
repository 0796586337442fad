-- Every event upholds the headline: a line for each call, by the lemma of its kind.
use Rattle.std.proofs.Common.{◌≡◌, ℕ, option_map, List, [], true}
use Rattle.std.proofs.Common.{Option, Some, None, refl, ap, ◌∙◌, subst, eqb-true, false, if◌then◌else◌, slice_set}
use Rattle.std.specs.Int.{w32, w64, to_le_bytes}
use Rattle.ca_base.specs.declared.codes.TheConstants.Hr as hr
use Rattle.ca_base.specs.declared.ids.Flow.{Flow}
use Rattle.ca_base.specs.declared.ids.Flow.TheVariants as flow
use Rattle.ca_base.specs.Rows.{first}
use Rattle.ca_model.specs.declared.event.Event.{Event}
use Rattle.ca_model.specs.declared.event.Event.TheVariants as event
use Rattle.ca_model.specs.declared.event.Call.{Call}
use Rattle.ca_model.specs.declared.event.Call.TheVariants as call
use Rattle.client_state.specs.declared.check.DataCall.TheVariants as data_call
use Rattle.ca_stage.specs.Stage.{frames_waiting}
use Rattle.ca_stage.specs.Moves.{Move, of_client, leased, read, started, stopped, reset}
use Rattle.ca_stage.specs.Order.{is_among}
use Rattle.ca_stage.proofs.Lists.{chosen, all_found, found_passes}
use Rattle.session_manager.specs.declared.changes.Change.{Change}
use Rattle.session_manager.specs.declared.changes.Change.TheVariants as change
use Rattle.session_manager.specs.declared.session.Session.{Session}
use Rattle.session_manager.specs.declared.session.SessionKey.{SessionKey}
use Rattle.session_manager.specs.Sessions.{SessionList, joined, number_joined, session_at}
use Rattle.ca_base.specs.declared.ids.Reason.TheVariants.{Override}
use Rattle.ca_machine.specs.declared.state.Client.{Client}
use Rattle.device_registry.specs.declared.endpoint.Endpoint.{Endpoint}
use Rattle.device_registry.specs.Endpoints.{is_endpoint}
use Rattle.ca_machine.specs.State.{State, live_clients, is_client_of, client_of, endpoint_at}
use Rattle.ca_machine.specs.State.{session_list, with_sessions}
use Rattle.ca_machine.specs.Plan.{Answer, AreAnswers, answered, Plan, outcome_of, unless_row, asked_of}
use Rattle.ca_machine.specs.SharedRows.{no_rows, endpoint_of}
use Rattle.ca_machine.specs.Clients.{open_plan, is_client_on, without_connection, hangup_plan, activate_plan}
use Rattle.ca_machine.specs.Clients.{release_plan}
use Rattle.ca_machine.specs.Streams.{get_device_period_plan, get_mix_format_plan, get_service_rows}
use Rattle.ca_machine.specs.Streams.{get_stream_level_rows, is_format_supported_plan, reset_rows, set_event_handle_plan}
use Rattle.ca_machine.specs.Streams.{set_event_handle_rows, set_stream_level_plan, set_stream_level_rows, start_rows}
use Rattle.ca_machine.specs.Streams.{stop_rows, supported}
use Rattle.ca_machine.specs.Openings.{Opening, endpoint_channels, flow_of, initialize_plan, initialized, is_kept}
use Rattle.ca_machine.specs.Openings.{joined_by, new_stream, opened_in, session_key, takes_over}
use Rattle.ca_machine.specs.Formats.{format_payload}
use Rattle.ca_machine.specs.Sessions.{enum_sessions_plan, get_session_plan, set_session_plan, with_session}
use Rattle.ca_machine.specs.Data.{next_packet_size, packets_read}
use Rattle.ca_machine.specs.Endpoints.{
  default_at,
  device_info_plan,
  endpoint_named,
  endpoint_payload,
  endpoint_told,
  enum_endpoints_plan,
  get_default_plan,
  get_device_plan,
  number_told,
}
use Rattle.ca_machine.specs.Registrations.{register_plan, take_notices_plan, unflagged, unregister_plan}
use Rattle.ca_machine.specs.Periods.{mixing_of, period_by, period_of}
use Rattle.ca_machine.specs.Step.{unlisted_call_plan, call_plan, plan, step, asks, tells}
use Rattle.ca_machine.specs.Headline.{handed, handed_by}
use Rattle.ca_machine.proofs.LiveClients.{found_is_live}
use Rattle.ca_machine.proofs.PresentStage.{PresentLaws, stage_of}
use Rattle.ca_machine.proofs.Playheads.{HasHead}
use Rattle.ca_machine.proofs.StateInOrder.{IsInOrder, in_order_clients, in_order_made, keeps_if}
use Rattle.ca_machine.proofs.FramesHanded.{HandsNone, none_by}
use Rattle.ca_machine.proofs.Outcomes.{Upholds, upholds_answered, upholds_data, upholds_leaving, upholds_memory}
use Rattle.ca_machine.proofs.Outcomes.{upholds_move, upholds_noticed, upholds_plan, upholds_refused, upholds_sounding}
use Rattle.ca_machine.proofs.Outcomes.{upholds_still, upholds_stream, upholds_with_endpoint}
use Rattle.ca_machine.proofs.Recordings.{upholds_recording}
use Rattle.ca_machine.proofs.BufferReleases.{upholds_release_buffer}
use Rattle.ca_machine.proofs.Disconnects.{upholds_opening}
use Rattle.ca_machine.proofs.DeviceEvents.{upholds_changed, upholds_device, upholds_shutdown}

-- what is asked if no row refuses
pub asked_where : (p : Plan) (given : List Answer) → first p.rows ≡ None → AreAnswers (asked_of p) given →
    AreAnswers p.asks given
asked_where p given n a = subst (λ o. AreAnswers (unless_row o p.asks) given) n a

module _ (laws : PresentLaws) (ms : List Move) (st : State) (h : IsInOrder ms st) (e : Event)
    (given : List Answer)
  where
    -- ---- Open, Hangup, Activate, and Release

    upholds_open : (conn process : ℕ) (name : List ℕ) → HandsNone e →
        Upholds ms st e given (outcome_of st (open_plan st conn process name) given)
    upholds_open conn process name n =
        upholds_plan laws ms st h e given (open_plan st conn process name) n
        (λ r. upholds_changed laws ms st h e given _ n h)

    upholds_hangup : (conn : ℕ) → HandsNone e →
        Upholds ms st e given (outcome_of st (hangup_plan st conn) given)
    upholds_hangup conn n =
        upholds_plan laws ms st h e given (hangup_plan st conn) n
        (λ r. upholds_leaving laws ms st h e given (without_connection conn st) (is_client_on conn) n h)

    upholds_activate : (conn endpoint role : ℕ) → HandsNone e →
        Upholds ms st e given (outcome_of st (activate_plan st conn endpoint role) given)
    upholds_activate conn endpoint role n =
        upholds_plan laws ms st h e given (activate_plan st conn endpoint role) n
        (λ r. upholds_still laws ms st h e given hr.S_OK _ _ (none_by (stage_of ms) e hr.S_OK n)
        (in_order_made ms st conn endpoint role h))

    upholds_release : (conn client : ℕ) → HandsNone e →
        Upholds ms st e given (outcome_of st (release_plan st conn client) given)
    upholds_release conn client n =
        upholds_plan laws ms st h e given (release_plan st conn client) n
        (λ r. upholds_leaving laws ms st h e given st (is_client_of conn client) n h)

    -- ---- what a connection registers for

    upholds_register : (conn class subject : ℕ) → HandsNone e →
        Upholds ms st e given (outcome_of st (register_plan st conn class subject) given)
    upholds_register conn class subject n =
        upholds_plan laws ms st h e given (register_plan st conn class subject) n
        (λ r. upholds_memory laws ms st h e given _ n
        (upholds_still laws ms st h e given hr.S_OK _ _ (none_by (stage_of ms) e hr.S_OK n) h))

    upholds_unregister : (conn number : ℕ) → HandsNone e →
        Upholds ms st e given (outcome_of st (unregister_plan st conn number) given)
    upholds_unregister conn number n =
        upholds_plan laws ms st h e given (unregister_plan st conn number) n
        (λ r. upholds_changed laws ms st h e given _ n h)

    upholds_take : (conn max : ℕ) → HandsNone e →
        Upholds ms st e given (outcome_of st (take_notices_plan st conn max) given)
    upholds_take conn max n =
        upholds_plan laws ms st h e given (take_notices_plan st conn max) n
        (λ r. upholds_still laws ms st h e given hr.S_OK _ _ (none_by (stage_of ms) e hr.S_OK n)
        (in_order_clients ms st (unflagged conn)
        (λ c. keeps_if (is_client_on conn c) c (record c { flagged = false }) refl) h))

    -- ---- calls that tell of endpoints

    upholds_number : (o : Option ℕ) → HandsNone e → Upholds ms st e given (number_told st o)
    upholds_number None n = upholds_refused laws ms st h e given hr.E_NOTFOUND (none_by (stage_of ms) e hr.E_NOTFOUND n)
    upholds_number (Some number) n = upholds_answered laws ms st h e given (to_le_bytes w32 number) n

    upholds_endpoint : (o : Option Endpoint) → HandsNone e → Upholds ms st e given (endpoint_told st o)
    upholds_endpoint None n =
        upholds_refused laws ms st h e given hr.E_NOTFOUND (none_by (stage_of ms) e hr.E_NOTFOUND n)
    upholds_endpoint (Some d) n = upholds_answered laws ms st h e given (endpoint_payload d) n

    -- ---- Initialize

    upholds_opened : (new : State) (c : Client) (x : Opening) (session : ℕ) → HandsNone e → IsInOrder ms new →
        is_among c.client.0 (live_clients new.clients) ≡ true → Upholds ms st e given (opened_in new c x session)
    upholds_opened new c x session n k a =
        upholds_opening laws ms st h e given new (takes_over new c x) Override (Some c.endpoint.0)
        (to_le_bytes w64 session) (new_stream (flow_of new c) c x session) n k a

    upholds_joined : (c : Client) (x : Opening) (key : SessionKey) → HandsNone e →
        is_among c.client.0 (live_clients st.clients) ≡ true → Upholds ms st e given (joined_by st c x key)
    upholds_joined c x key n a =
        let l : SessionList =
        joined key None (is_kept x.flags) (endpoint_channels st c) (session_list st) in
        upholds_opened (with_sessions l st) c x (number_joined key (session_list st)) n h a

    upholds_initialized : (conn client : ℕ) (o : Option Client) (x : Opening) → HandsNone e →
        client_of conn client st ≡ o → Upholds ms st e given (initialized st conn o x)
    upholds_initialized conn client None x n k =
        upholds_refused laws ms st h e given hr.E_HANDLE (none_by (stage_of ms) e hr.E_HANDLE n)
    upholds_initialized conn client (Some c) x n k =
        upholds_joined c x (session_key st conn c x) n (found_is_live (is_client_of conn client) st.clients c k)

    upholds_initialize : (conn client : ℕ) (x : Opening) → HandsNone e →
        Upholds ms st e given (outcome_of st (initialize_plan st conn client x) given)
    upholds_initialize conn client x n =
        upholds_plan laws ms st h e given (initialize_plan st conn client x) n
        (λ r. upholds_memory laws ms st h e given _ n
        (upholds_initialized conn client (client_of conn client st) x n refl))

    -- ---- sessions, and levels

    upholds_set : (conn number : ℕ) (by : Change) → HandsNone e →
        Upholds ms st e given (outcome_of st (set_session_plan st conn number by) given)
    upholds_set conn number by n =
        upholds_plan laws ms st h e given (set_session_plan st conn number by) n
        (λ r. upholds_changed laws ms st h e given _ n h)

    upholds_told : (o : Option Session) (payload : Session → List ℕ) → HandsNone e →
        Upholds ms st e given (with_session st o (λ s. answered st (payload s)))
    upholds_told None payload n =
        upholds_refused laws ms st h e given hr.E_NOTFOUND (none_by (stage_of ms) e hr.E_NOTFOUND n)
    upholds_told (Some s) payload n = upholds_answered laws ms st h e given (payload s) n

    upholds_stream_level : (conn client channel level : ℕ) → HandsNone e →
        Upholds ms st e given (outcome_of st (set_stream_level_plan st conn client channel level) given)
    upholds_stream_level conn client channel level n =
        upholds_stream laws ms st h e given conn client (set_stream_level_rows channel level) _ n
        (λ s. upholds_still laws ms st h e given hr.S_OK [] _ (none_by (stage_of ms) e hr.S_OK n)
        (in_order_clients ms st
        (λ c. if is_client_of conn client c then record c { levels = slice_set c.levels channel level } else c)
        (λ c. keeps_if (is_client_of conn client c) c (record c { levels = slice_set c.levels channel level }) refl) h))

    upholds_event_handle : (conn client handle : ℕ) → HandsNone e →
        Upholds ms st e given (outcome_of st (set_event_handle_plan st conn client handle) given)
    upholds_event_handle conn client handle n =
        upholds_stream laws ms st h e given conn client (set_event_handle_rows handle) _ n
        (λ s. upholds_still laws ms st h e given hr.S_OK [] _ (none_by (stage_of ms) e hr.S_OK n)
        (in_order_clients ms st (λ c. if is_client_of conn client c then record c { handle = handle } else c)
        (λ c. keeps_if (is_client_of conn client c) c (record c { handle = handle }) refl) h))

    -- ---- IsFormatSupported

    upholds_supported : (share : ℕ) (bytes : List ℕ) (d : Endpoint) → HandsNone e →
        Upholds ms st e given (supported st share bytes d)
    upholds_supported share bytes d n =
        chosen (Upholds ms st e given) _ _ _
        (upholds_still laws ms st h e given hr.S_FALSE (format_payload d.format) st
        (none_by (stage_of ms) e hr.S_FALSE n) h)
        (upholds_answered laws ms st h e given [] n)

    -- ---- Period

    found_again : (number : ℕ) (d : Endpoint) → endpoint_at number st ≡ Some d → endpoint_at d.no.0 st ≡ Some d
    found_again number d k =
        ap (λ n. endpoint_at n st)
        (eqb-true d.no.0 number (found_passes (is_endpoint number) st.endpoints d k)) ∙ k

    upholds_by_flow : (d : Endpoint) (f : Flow) → HandsNone e → endpoint_at d.no.0 st ≡ Some d →
        HasHead d.no.0 (stage_of ms) → AreAnswers (asked_of (period_by st d f)) given →
        Upholds ms st e given (outcome_of st (period_by st d f) given)
    upholds_by_flow d flow.Render n k head a =
        upholds_plan laws ms st h e given (period_by st d flow.Render) n
        (λ r. upholds_sounding laws ms st h e given (mixing_of st d) n (d, k, refl) head
        (asked_where (period_by st d flow.Render) given r a))
    upholds_by_flow d flow.Capture n k head a =
        upholds_plan laws ms st h e given (period_by st d flow.Capture) n
        (λ r. upholds_recording laws ms st h e given d n k)

    upholds_period : (number : ℕ) (o : Option Endpoint) → HandsNone e → endpoint_at number st ≡ o →
        AreAnswers (asked_of (period_of st o)) given → Upholds ms st e given (outcome_of st (period_of st o) given)
    upholds_period number None n k a =
        upholds_plan laws ms st h e given (period_of st None) n
        (λ r. upholds_refused laws ms st h e given hr.E_NOTFOUND (none_by (stage_of ms) e hr.E_NOTFOUND n))
    upholds_period number (Some d) n k a =
        upholds_by_flow d d.flow n (found_again number d k)
        (all_found (λ (d : Endpoint). HasHead d.no.0 (stage_of ms)) (is_endpoint number) st.endpoints d h.heads k) a

    -- ---- every event

    upholds_call : (conn : ℕ) (x : Call) →
        ((n channels : ℕ) → handed_by n channels e ≡ handed n channels x) →
        Upholds ms st e given (outcome_of st (call_plan st conn x) given)
    upholds_call conn (call.EnumEndpoints flow mask) n =
        upholds_plan laws ms st h e given (enum_endpoints_plan st conn flow mask) n
        (λ r. upholds_answered laws ms st h e given _ n)
    upholds_call conn (call.GetDefault flow role) n =
        upholds_plan laws ms st h e given (get_default_plan st conn flow role) n
        (λ r. upholds_number (default_at flow role st) n)
    upholds_call conn (call.GetDevice id) n =
        upholds_plan laws ms st h e given (get_device_plan st conn id) n
        (λ r. upholds_number (option_map (λ d. d.no.0) (endpoint_named id st)) n)
    upholds_call conn (call.DeviceInfo d) n =
        upholds_plan laws ms st h e given (device_info_plan st conn d.0) n
        (λ r. upholds_endpoint (endpoint_at d.0 st) n)
    upholds_call conn (call.Register class subject) n = upholds_register conn class subject n
    upholds_call conn (call.Unregister number) n = upholds_unregister conn number n
    upholds_call conn (call.TakeNotices max) n = upholds_take conn max n
    upholds_call conn (call.AwaitNotices max) n = upholds_take conn max n
    upholds_call conn (call.Activate d role) n = upholds_activate conn d.0 role n
    upholds_call conn (call.Release c) n = upholds_release conn c.0 n
    upholds_call conn (call.Initialize c share flags duration period format session) n =
        upholds_initialize conn c.0
        (record {
          share = share;
          flags = flags;
          duration = duration;
          period = period;
          format = format.list;
          session = session.0;
        }) n
    upholds_call conn (call.GetBufferSize c) n =
        upholds_stream laws ms st h e given conn c.0 no_rows _ n
        (λ s. upholds_answered laws ms st h e given (to_le_bytes w32 s.buffer) n)
    upholds_call conn (call.GetStreamLatency c) n =
        upholds_stream laws ms st h e given conn c.0 no_rows _ n
        (λ s. upholds_answered laws ms st h e given (to_le_bytes w64 s.latency) n)
    upholds_call conn (call.GetCurrentPadding c) n =
        upholds_data laws ms st h e given conn c.0 data_call.Padding _ n
        (λ s. upholds_answered laws ms st h e given (to_le_bytes w32 (frames_waiting s)) n)
    upholds_call conn (call.IsFormatSupported c share format) n =
        upholds_plan laws ms st h e given (is_format_supported_plan st conn c.0 share format.list) n
        (λ r. upholds_with_endpoint laws ms st h e given (endpoint_of st (client_of conn c.0 st)) _ n
        (λ d. upholds_supported share format.list d n))
    upholds_call conn (call.GetMixFormat c) n =
        upholds_plan laws ms st h e given (get_mix_format_plan st conn c.0) n
        (λ r. upholds_with_endpoint laws ms st h e given (endpoint_of st (client_of conn c.0 st)) _ n
        (λ d. upholds_answered laws ms st h e given (format_payload d.format) n))
    upholds_call conn (call.GetDevicePeriod c) n =
        upholds_plan laws ms st h e given (get_device_period_plan st conn c.0) n
        (λ r. upholds_answered laws ms st h e given _ n)
    upholds_call conn (call.Start c) n =
        upholds_stream laws ms st h e given conn c.0 (start_rows (client_of conn c.0 st)) _ n
        (λ s. upholds_move laws ms st h e given [] (of_client c.0 started) n refl refl refl tt)
    upholds_call conn (call.Stop c) n =
        upholds_stream laws ms st h e given conn c.0 stop_rows _ n
        (λ s. upholds_move laws ms st h e given [] (of_client c.0 stopped) n refl refl refl tt)
    upholds_call conn (call.Reset c) n =
        upholds_stream laws ms st h e given conn c.0 reset_rows _ n
        (λ s. upholds_move laws ms st h e given [] (of_client c.0 reset) n refl refl refl tt)
    upholds_call conn (call.SetEventHandle c handle) n = upholds_event_handle conn c.0 handle n
    upholds_call conn (call.GetService c service) n =
        upholds_stream laws ms st h e given conn c.0 (get_service_rows service) _ n
        (λ s. upholds_answered laws ms st h e given [] n)
    upholds_call conn (call.GetPosition c) n =
        upholds_stream laws ms st h e given conn c.0 no_rows _ n (λ s. upholds_answered laws ms st h e given _ n)
    upholds_call conn (call.GetStreamLevel c channel) n =
        upholds_stream laws ms st h e given conn c.0 (get_stream_level_rows channel) _ n
        (λ s. upholds_answered laws ms st h e given _ n)
    upholds_call conn (call.SetStreamLevel c channel level) n =
        upholds_stream_level conn c.0 channel level n
    upholds_call conn (call.GetBuffer c frames) n =
        upholds_data laws ms st h e given conn c.0 (data_call.Get frames) _ n
        (λ s. upholds_move laws ms st h e given [] (of_client c.0 (leased frames)) n refl refl refl tt)
    upholds_call conn (call.ReleaseBuffer c frames flags bytes) n =
        upholds_release_buffer laws ms st h e given conn c.0 frames flags bytes.list n
    upholds_call conn (call.GetNextPacketSize c) n =
        upholds_data laws ms st h e given conn c.0 data_call.NextSize _ n
        (λ s. upholds_answered laws ms st h e given (to_le_bytes w32 (next_packet_size s)) n)
    upholds_call conn (call.CaptureGetBuffer c) n =
        upholds_data laws ms st h e given conn c.0 data_call.CaptureGet _ n
        (λ s. upholds_move laws ms st h e given _ (of_client c.0 (leased s.period)) n refl refl refl tt)
    upholds_call conn (call.CaptureReleaseBuffer c frames) n =
        upholds_data laws ms st h e given conn c.0 (data_call.CaptureRelease frames) _ n
        (λ s. upholds_move laws ms st h e given [] (of_client c.0 (read (packets_read frames))) n refl refl refl tt)
    upholds_call conn (call.EnumSessions d) n =
        upholds_plan laws ms st h e given (enum_sessions_plan st conn d.0) n
        (λ r. upholds_answered laws ms st h e given _ n)
    upholds_call conn (call.GetSession s) n =
        upholds_plan laws ms st h e given (get_session_plan st conn s.0) n
        (λ r. upholds_told (session_at s.0 st.sessions) _ n)
    upholds_call conn (call.SetMaster s level context) n =
        upholds_set conn s.0 (change.Level level) n
    upholds_call conn (call.SetMute s mute context) n =
        upholds_set conn s.0 (change.Mute mute) n
    upholds_call conn (call.SetChannel s channel level context) n =
        upholds_set conn s.0 (change.Channel channel level) n
    upholds_call conn (call.SetDisplayName s context text) n =
        upholds_set conn s.0 (change.Display text) n
    upholds_call conn (call.SetIconPath s context text) n =
        upholds_set conn s.0 (change.Icon text) n
    upholds_call conn (call.SetGrouping s grouping context) n =
        upholds_set conn s.0 (change.Grouping grouping) n
    upholds_call conn (call.Other code rest) n =
        upholds_plan laws ms st h e given (unlisted_call_plan st conn) n
        (λ r. upholds_refused laws ms st h e given hr.E_NOTIMPL (none_by (stage_of ms) e hr.E_NOTIMPL n))

upholds_planned : (laws : PresentLaws) (ms : List Move) (st : State) → IsInOrder ms st → (e : Event)
    (given : List Answer) → AreAnswers (asks st e) given → Upholds ms st e given (outcome_of st (plan st e) given)
upholds_planned laws ms st h (event.Open c process name) given a =
    upholds_open laws ms st h (event.Open c process name) given c.0 process name (λ n channels. refl)
upholds_planned laws ms st h (event.Hangup c) given a =
    upholds_hangup laws ms st h (event.Hangup c) given c.0 (λ n channels. refl)
upholds_planned laws ms st h (event.Call c tag x) given a =
    upholds_call laws ms st h (event.Call c tag x) given c.0 x (λ n channels. refl)
upholds_planned laws ms st h (event.Period d) given a =
    upholds_period laws ms st h (event.Period d) given d.0 (endpoint_at d.0 st) (λ n channels. refl) refl a
upholds_planned laws ms st h (event.Device x) given a =
    upholds_device laws ms st h (event.Device x) given x (λ n channels. refl)
upholds_planned laws ms st h event.Shutdown given a =
    upholds_shutdown laws ms st h event.Shutdown given (λ n channels. refl)

pub upholds_event : (laws : PresentLaws) (ms : List Move) (st : State) → IsInOrder ms st → (e : Event)
    (given : List Answer) → AreAnswers (asks st e) given → Upholds ms st e given (step st e given)
upholds_event laws ms st h e given a =
    upholds_noticed laws ms st h e given (tells e given) (outcome_of st (plan st e) given)
    (upholds_planned laws ms st h e given a)
