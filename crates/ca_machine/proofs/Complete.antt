-- If no row refuses an event it is granted, unless memory ran out: a line for each call, by the lemma of its kind.
use Rattle.std.proofs.Common.{◌≡◌, ℕ, List, [], ◌∷◌, ◌++◌, length, Bool, true, false, Option, Some, None, refl, sym, ap}
use Rattle.std.proofs.Common.{◌∙◌, subst, inl, inr, is_none, nat_lt, not, option_map, ◌||◌}
use Rattle.std.proofs.lemmas.Bool.{true≢false, or_right}
use Rattle.ca_base.specs.declared.codes.Hr.{Hr}
use Rattle.ca_base.specs.declared.codes.TheConstants.Hr as hr
use Rattle.ca_base.specs.declared.ids.Flow.{Flow}
use Rattle.ca_base.specs.declared.ids.Flow.TheVariants as flow
use Rattle.ca_base.specs.declared.values.TheConstants.{FLOW_CAPTURE, ROLE_COMMUNICATIONS}
use Rattle.ca_base.specs.Rows.{Row, first}
use Rattle.ca_model.specs.declared.event.Event.TheVariants as event
use Rattle.ca_model.specs.declared.event.Call.{Call}
use Rattle.ca_model.specs.declared.event.Call.TheVariants as call
use Rattle.ca_model.specs.declared.event.DeviceEvent.{DeviceEvent}
use Rattle.ca_model.specs.declared.event.DeviceEvent.TheVariants as device
use Rattle.client_state.specs.declared.check.DataCall.{DataCall}
use Rattle.client_state.specs.declared.check.DataCall.TheVariants as data_call
use Rattle.client_state.specs.Rows.{gate_rows, call_rows}
use Rattle.ca_stage.specs.Stage.{Stream}
use Rattle.ca_stage.specs.Moves.{stream_at}
use Rattle.ca_stage.proofs.Lists.{chosen}
use Rattle.session_manager.specs.declared.changes.Change.{Change}
use Rattle.session_manager.specs.declared.changes.Change.TheVariants as change
use Rattle.session_manager.specs.declared.session.Session.{Session}
use Rattle.session_manager.specs.Sessions.{session_at}
use Rattle.session_manager.specs.Rows.{found_rows}
use Rattle.ca_machine.specs.declared.state.Client.{Client}
use Rattle.device_registry.specs.declared.endpoint.Endpoint.{Endpoint}
use Rattle.ca_machine.specs.State.{State, client_of, endpoint_at}
use Rattle.ca_machine.specs.Plan.{Answer, AreAnswers, Outcome, Plan, plain, with_memory, answered, if_found}
use Rattle.ca_machine.specs.Plan.{unless_refused}
use Rattle.ca_machine.specs.Plan.Asked.{nothing, memory}
use Rattle.ca_machine.specs.Plan.Answer.{found, out_of_memory}
use Rattle.ca_machine.specs.SharedRows.{control_rows, data_call_rows, client_rows, stream_rows, gate_of, with_stream}
use Rattle.ca_machine.specs.SharedRows.{stream_plan, no_rows, is_inactive, is_invalidated, invalidated_rows}
use Rattle.ca_machine.specs.SharedRows.{endpoint_of, shut_rows, with_endpoint}
use Rattle.ca_machine.specs.Clients.{open_plan, release_plan, hangup_plan, activate_plan}
use Rattle.ca_machine.specs.Openings.{Opening, opening_rows, initialized, initialize_plan}
use Rattle.ca_machine.specs.Streams.{get_stream_level_rows, set_stream_level_rows}
use Rattle.ca_machine.specs.Sessions.{enum_sessions_plan, get_session_plan, session_payload, set_session_plan}
use Rattle.ca_machine.specs.Sessions.{state_of_session, with_session}
use Rattle.ca_machine.specs.Streams.{supported, supported_rows, get_mix_format_plan}
use Rattle.ca_machine.specs.Formats.{format_payload}
use Rattle.ca_machine.specs.Streams.{is_format_supported_plan, get_device_period_plan}
use Rattle.ca_machine.specs.Formats.{is_faulty}
use Rattle.ca_machine.specs.Streams.{start_rows, stop_rows, reset_rows, get_service_rows, set_event_handle_rows}
use Rattle.ca_machine.specs.Data.{side_of, seen_of, data_rows, data_plan}
use Rattle.device_registry.specs.Endpoints.{is_state}
use Rattle.ca_machine.specs.Devices.{
  add_plan,
  remove_plan,
  set_default_plan,
  set_exclusive_plan,
  set_format_plan,
  set_name_plan,
  set_state_plan,
  shutdown_plan,
  with_endpoint_format,
  with_endpoint_state,
  with_named,
}
use Rattle.ca_machine.specs.Endpoints.{
  default_at,
  device_info_plan,
  endpoint_named,
  endpoint_told,
  enum_endpoints_plan,
  get_default_plan,
  get_device_plan,
  number_told,
}
use Rattle.ca_machine.specs.Registrations.{register_plan, take_notices_plan, unregister_plan}
use Rattle.ca_machine.specs.Periods.{period_by, period_of}
use Rattle.ca_machine.specs.Step.{unlisted_call_plan, unlisted_device_plan, call_plan, device_plan}
use Rattle.ca_machine.specs.Complete.{IsGranted, GrantsUnlessShort, IsComplete, UnrefusedIsGranted}
use Rattle.ca_machine.proofs.Outcomes.{row_fails}
use Rattle.ca_machine.proofs.Events.{asked_where}

-- ---- rows

-- a row that holds isn't among rows of which none does
row_holds : (front : List (Row Hr)) (b : Bool) (code : Hr) (rest : List (Row Hr)) → b ≡ true →
    first (front ++ (b, code) ∷ rest) ≡ None → ⊥
row_holds front b code rest h n = true≢false (sym h ∙ row_fails front (b, code) rest n)

-- ---- plans

-- what a plan grants, if no row of it holds
complete_by : (st : State) (p : Plan) →
    ((given : List Answer) → AreAnswers p.asks given → first p.rows ≡ None →
    GrantsUnlessShort p.asks given (p.grants given).result) → IsComplete st p
complete_by st p f given a n =
    subst (λ o. GrantsUnlessShort p.asks given (unless_refused st o (p.grants given)).result) (sym n)
    (f given (asked_where p given n a) n)

-- a call that asks nothing
plain_complete : (st : State) (p : Plan) → (first p.rows ≡ None → IsGranted (p.grants []).result) →
    IsComplete st (plain p.rows (p.grants []))
plain_complete st p f = complete_by st (plain p.rows (p.grants [])) (λ given a n. f n)

-- a call that takes memory
short : (st : State) (o : Outcome) → IsGranted o.result → (given : List Answer) → AreAnswers (memory nothing) given →
    GrantsUnlessShort (memory nothing) given (if_found st o given).result
short st o g (found ∷ given) a = g
short st o g (out_of_memory ∷ given) a = refl
short st o g _ a = absurd a

memory_complete : (st : State) (p : Plan) → (first p.rows ≡ None → IsGranted (p.grants (found ∷ [])).result) →
    IsComplete st (with_memory st p.rows (p.grants (found ∷ [])))
memory_complete st p f =
    complete_by st (with_memory st p.rows (p.grants (found ∷ [])))
    (λ given a n. short st (p.grants (found ∷ [])) (f n) given a)

-- a call of a client's stream: if there is none, a row has refused it
streamed : (st : State) (rows : Option Stream → List (Row Hr)) (outcome : Stream → Outcome) →
    (first (rows None) ≡ None → ⊥) → ((s : Stream) → IsGranted (outcome s).result) → (o : Option Stream) →
    first (rows o) ≡ None → IsGranted (with_stream st o outcome).result
streamed st rows outcome refuses f None n = absurd (refuses n)
streamed st rows outcome refuses f (Some s) n = f s

stream_complete : (st : State) (conn client : ℕ) (rows : Option Stream → List (Row Hr)) (outcome : Stream → Outcome) →
    ((s : Stream) → IsGranted (outcome s).result) → IsComplete st (stream_plan st conn client rows outcome)
stream_complete st conn client rows outcome f =
    let all : Option Stream → List (Row Hr) =
    λ o. control_rows conn st ++ client_rows conn client st ++ (stream_rows o ++ rows o) in
    plain_complete st (stream_plan st conn client rows outcome)
    (streamed st all outcome
    (row_holds (control_rows conn st ++ client_rows conn client st) true hr.NOT_INITIALIZED
    (gate_rows (gate_of None) ++ rows None) refl) f (stream_at client st.stage))

data_complete : (st : State) (conn client : ℕ) (x : DataCall) (outcome : Stream → Outcome) →
    ((s : Stream) → IsGranted (outcome s).result) → IsComplete st (data_plan st conn client x outcome)
data_complete st conn client x outcome f =
    let all : Option Stream → List (Row Hr) =
    λ o. data_call_rows conn st ++ client_rows conn client st ++ data_rows x o in
    plain_complete st (data_plan st conn client x outcome)
    (streamed st all outcome
    (row_holds (data_call_rows conn st ++ client_rows conn client st) true hr.NOT_INITIALIZED
    (gate_rows (seen_of None).gate ++ call_rows (side_of None) x (seen_of None).words) refl) f
    (stream_at client st.stage))

-- a call of a client's endpoint: if there is no client, or no endpoint of it, a row has refused it
placed : (st : State) (stream : Option Stream) (outcome : Endpoint → Outcome) →
    ((e : Endpoint) → IsGranted (outcome e).result) → (c : Option Client) → is_none c ≡ false →
    is_invalidated st c stream ≡ false → IsGranted (with_endpoint st (endpoint_of st c) outcome).result
placed st stream outcome f None there valid = absurd (true≢false there)
placed st stream outcome f (Some c) there valid = at (endpoint_at c.endpoint.0 st) refl
  where
    at : (o : Option Endpoint) → endpoint_at c.endpoint.0 st ≡ o → IsGranted (with_endpoint st o outcome).result
    at None k = absurd (true≢false (sym (or_right _ _ (ap is_inactive k)) ∙ valid))
    at (Some e) k = f e

-- ---- single calls

release_complete : (st : State) (conn client : ℕ) → IsComplete st (release_plan st conn client)
release_complete st conn client = plain_complete st (release_plan st conn client) (λ n. inl refl)

pub hangup_complete : (st : State) (conn : ℕ) → IsComplete st (hangup_plan st conn)
hangup_complete st conn = plain_complete st (hangup_plan st conn) (λ n. inl refl)

get_mix_format_complete : (st : State) (conn client : ℕ) → IsComplete st (get_mix_format_plan st conn client)
get_mix_format_complete st conn client =
    let c : Option Client = client_of conn client st in
    let stream : Option Stream = stream_at client st.stage in
    plain_complete st (get_mix_format_plan st conn client) (λ n.
    placed st stream (λ e. answered st (format_payload e.format)) (λ e. inl refl) c
    (row_fails (control_rows conn st) (is_none c, hr.E_HANDLE) (invalidated_rows st c stream) n)
    (row_fails (control_rows conn st ++ client_rows conn client st)
    (is_invalidated st c stream, hr.DEVICE_INVALIDATED) [] n))

is_format_supported_complete : (st : State) (conn client share : ℕ) (bytes : List ℕ) →
    IsComplete st (is_format_supported_plan st conn client share bytes)
is_format_supported_complete st conn client share bytes =
    let c : Option Client = client_of conn client st in
    let stream : Option Stream = stream_at client st.stage in
    let last : List (Row Hr) = supported_rows share (endpoint_of st c) bytes in
    plain_complete st (is_format_supported_plan st conn client share bytes) (λ n.
    placed st stream (supported st share bytes)
    (λ e. chosen (λ (o : Outcome). IsGranted o.result) _ _ _ (inr refl) (inl refl)) c
    (row_fails (control_rows conn st) (is_none c, hr.E_HANDLE) (invalidated_rows st c stream ++ last) n)
    (row_fails (control_rows conn st ++ client_rows conn client st)
    (is_invalidated st c stream, hr.DEVICE_INVALIDATED) last n))

initializes : (st : State) (conn : ℕ) (c : Option Client) (x : Opening) → is_none c ≡ false →
    IsGranted (initialized st conn c x).result
initializes st conn None x there = absurd (true≢false there)
initializes st conn (Some client) x there = inl refl

initialize_complete : (st : State) (conn client : ℕ) (x : Opening) → IsComplete st (initialize_plan st conn client x)
initialize_complete st conn client x =
    let c : Option Client = client_of conn client st in
    memory_complete st (initialize_plan st conn client x) (λ n.
    initializes st conn c x
    (row_fails (control_rows conn st) (is_none c, hr.E_HANDLE)
    (opening_rows st conn c (stream_at client st.stage) x) n))

-- a call of a session: if there is none, a row has refused it
told : (st : State) (front : List (Row Hr)) (payload : Session → List ℕ) (o : Option Session) →
    first (front ++ found_rows o) ≡ None → IsGranted (with_session st o (λ s. answered st (payload s))).result
told st front payload None n = absurd (row_holds front true hr.E_NOTFOUND [] refl n)
told st front payload (Some s) n = inl refl

get_session_complete : (st : State) (conn number : ℕ) → IsComplete st (get_session_plan st conn number)
get_session_complete st conn number =
    plain_complete st (get_session_plan st conn number)
    (told st (control_rows conn st) (session_payload (state_of_session number st.stage.streams))
    (session_at number st.sessions))

set_complete : (st : State) (conn number : ℕ) (by : Change) → IsComplete st (set_session_plan st conn number by)
set_complete st conn number by = plain_complete st (set_session_plan st conn number by) (λ n. inl refl)

period_complete : (st : State) (o : Option Endpoint) → IsComplete st (period_of st o)
period_complete st None =
    plain_complete st (period_of st None) (λ n. absurd (row_holds (shut_rows st) true hr.E_NOTFOUND [] refl n))
period_complete st (Some e) = by_flow e.flow
  where
    by_flow : (f : Flow) → IsComplete st (period_by st e f)
    by_flow flow.Render = complete_by st (period_by st e flow.Render) (λ given a n. inl refl)
    by_flow flow.Capture = complete_by st (period_by st e flow.Capture) (λ given a n. inl refl)

-- calls and events of an endpoint: if there is none, a row has refused it
get_default_complete : (st : State) (conn flow role : ℕ) → IsComplete st (get_default_plan st conn flow role)
get_default_complete st conn flow role =
    let wrong : Row Hr = (nat_lt FLOW_CAPTURE flow || nat_lt ROLE_COMMUNICATIONS role, hr.E_INVALIDARG) in
    plain_complete st (get_default_plan st conn flow role) (λ n.
    numbered (default_at flow role st)
    (row_fails (control_rows conn st ++ wrong ∷ []) (is_none (default_at flow role st), hr.E_NOTFOUND) [] n))
  where
    numbered : (o : Option ℕ) → is_none o ≡ false → IsGranted (number_told st o).result
    numbered None there = absurd (true≢false there)
    numbered (Some number) there = inl refl

get_device_complete : (st : State) (conn : ℕ) (id : List ℕ) → IsComplete st (get_device_plan st conn id)
get_device_complete st conn id =
    plain_complete st (get_device_plan st conn id) (λ n.
    named (endpoint_named id st)
    (row_fails (control_rows conn st) (is_none (endpoint_named id st), hr.E_NOTFOUND) [] n))
  where
    named : (o : Option Endpoint) → is_none o ≡ false →
        IsGranted (number_told st (option_map (λ e. e.no.0) o)).result
    named None there = absurd (true≢false there)
    named (Some e) there = inl refl

device_info_complete : (st : State) (conn number : ℕ) → IsComplete st (device_info_plan st conn number)
device_info_complete st conn number =
    plain_complete st (device_info_plan st conn number) (λ n.
    shown (endpoint_at number st)
    (row_fails (control_rows conn st) (is_none (endpoint_at number st), hr.E_NOTFOUND) [] n))
  where
    shown : (o : Option Endpoint) → is_none o ≡ false → IsGranted (endpoint_told st o).result
    shown None there = absurd (true≢false there)
    shown (Some e) there = inl refl

named_granted : (st : State) (outcome : Endpoint → Outcome) → ((e : Endpoint) → IsGranted (outcome e).result) →
    (o : Option Endpoint) → is_none o ≡ false → IsGranted (with_named st o outcome).result
named_granted st outcome f None there = absurd (true≢false there)
named_granted st outcome f (Some e) there = f e

set_state_complete : (st : State) (number state : ℕ) → IsComplete st (set_state_plan st number state)
set_state_complete st number state =
    plain_complete st (set_state_plan st number state) (λ n.
    named_granted st (with_endpoint_state st number state) (λ e. inl refl) (endpoint_at number st)
    (row_fails (shut_rows st) (is_none (endpoint_at number st), hr.E_NOTFOUND)
    ((not (is_state state), hr.E_INVALIDARG) ∷ []) n))

set_format_complete : (st : State) (number : ℕ) (bytes : List ℕ) → IsComplete st (set_format_plan st number bytes)
set_format_complete st number bytes =
    memory_complete st (set_format_plan st number bytes) (λ n.
    named_granted st (with_endpoint_format st number bytes) (λ e. inl refl) (endpoint_at number st)
    (row_fails (shut_rows st) (is_none (endpoint_at number st), hr.E_NOTFOUND)
    ((is_faulty bytes, hr.E_INVALIDARG) ∷ []) n))

-- ---- every event

call_complete : (st : State) (conn : ℕ) (x : Call) → IsComplete st (call_plan st conn x)
call_complete st conn (call.EnumEndpoints flow mask) =
    plain_complete st (enum_endpoints_plan st conn flow mask) (λ n. inl refl)
call_complete st conn (call.GetDefault flow role) = get_default_complete st conn flow role
call_complete st conn (call.GetDevice id) = get_device_complete st conn id
call_complete st conn (call.DeviceInfo e) = device_info_complete st conn e.0
call_complete st conn (call.Register class subject) =
    memory_complete st (register_plan st conn class subject) (λ n. inl refl)
call_complete st conn (call.Unregister number) = plain_complete st (unregister_plan st conn number) (λ n. inl refl)
call_complete st conn (call.TakeNotices max) = plain_complete st (take_notices_plan st conn max) (λ n. inl refl)
call_complete st conn (call.AwaitNotices max) = plain_complete st (take_notices_plan st conn max) (λ n. inl refl)
call_complete st conn (call.Activate e role) = plain_complete st (activate_plan st conn e.0 role) (λ n. inl refl)
call_complete st conn (call.Release c) = release_complete st conn c.0
call_complete st conn (call.Initialize c share flags duration period format session) =
    initialize_complete st conn c.0 (record {
      share = share;
      flags = flags;
      duration = duration;
      period = period;
      format = format.list;
      session = session.0;
    })
call_complete st conn (call.GetBufferSize c) = stream_complete st conn c.0 no_rows _ (λ s. inl refl)
call_complete st conn (call.GetStreamLatency c) = stream_complete st conn c.0 no_rows _ (λ s. inl refl)
call_complete st conn (call.GetCurrentPadding c) = data_complete st conn c.0 data_call.Padding _ (λ s. inl refl)
call_complete st conn (call.IsFormatSupported c share format) =
    is_format_supported_complete st conn c.0 share format.list
call_complete st conn (call.GetMixFormat c) = get_mix_format_complete st conn c.0
call_complete st conn (call.GetDevicePeriod c) = plain_complete st (get_device_period_plan st conn c.0) (λ n. inl refl)
call_complete st conn (call.Start c) =
    stream_complete st conn c.0 (start_rows (client_of conn c.0 st)) _ (λ s. inl refl)
call_complete st conn (call.Stop c) = stream_complete st conn c.0 stop_rows _ (λ s. inl refl)
call_complete st conn (call.Reset c) = stream_complete st conn c.0 reset_rows _ (λ s. inl refl)
call_complete st conn (call.SetEventHandle c handle) =
    stream_complete st conn c.0 (set_event_handle_rows handle) _ (λ s. inl refl)
call_complete st conn (call.GetService c service) =
    stream_complete st conn c.0 (get_service_rows service) _ (λ s. inl refl)
call_complete st conn (call.GetPosition c) = stream_complete st conn c.0 no_rows _ (λ s. inl refl)
call_complete st conn (call.GetStreamLevel c channel) =
    stream_complete st conn c.0 (get_stream_level_rows channel) _ (λ s. inl refl)
call_complete st conn (call.SetStreamLevel c channel level) =
    stream_complete st conn c.0 (set_stream_level_rows channel level) _ (λ s. inl refl)
call_complete st conn (call.GetBuffer c frames) = data_complete st conn c.0 (data_call.Get frames) _ (λ s. inl refl)
call_complete st conn (call.ReleaseBuffer c frames flags bytes) =
    data_complete st conn c.0 (data_call.Release frames flags (length bytes.list)) _ (λ s. inl refl)
call_complete st conn (call.GetNextPacketSize c) = data_complete st conn c.0 data_call.NextSize _ (λ s. inl refl)
call_complete st conn (call.CaptureGetBuffer c) = data_complete st conn c.0 data_call.CaptureGet _ (λ s. inl refl)
call_complete st conn (call.CaptureReleaseBuffer c frames) =
    data_complete st conn c.0 (data_call.CaptureRelease frames) _ (λ s. inl refl)
call_complete st conn (call.EnumSessions e) = plain_complete st (enum_sessions_plan st conn e.0) (λ n. inl refl)
call_complete st conn (call.GetSession s) = get_session_complete st conn s.0
call_complete st conn (call.SetMaster s level context) = set_complete st conn s.0 (change.Level level)
call_complete st conn (call.SetMute s mute context) = set_complete st conn s.0 (change.Mute mute)
call_complete st conn (call.SetChannel s channel level context) =
    set_complete st conn s.0 (change.Channel channel level)
call_complete st conn (call.SetDisplayName s context text) = set_complete st conn s.0 (change.Display text)
call_complete st conn (call.SetIconPath s context text) = set_complete st conn s.0 (change.Icon text)
call_complete st conn (call.SetGrouping s grouping context) = set_complete st conn s.0 (change.Grouping grouping)
call_complete st conn (call.Other code rest) =
    plain_complete st (unlisted_call_plan st conn)
    (λ n. absurd (row_holds (control_rows conn st) true hr.E_NOTIMPL [] refl n))

device_complete : (st : State) (x : DeviceEvent) → IsComplete st (device_plan st x)
device_complete st (device.Add e flow format name) =
    memory_complete st (add_plan st e.0 flow format.list name) (λ n. inl refl)
device_complete st (device.SetState e state) = set_state_complete st e.0 state
device_complete st (device.Remove e) = plain_complete st (remove_plan st e.0) (λ n. inl refl)
device_complete st (device.SetFormat e format) = set_format_complete st e.0 format.list
device_complete st (device.SetDefault flow role e) =
    plain_complete st (set_default_plan st flow role e.0) (λ n. inl refl)
device_complete st (device.SetExclusive e allow priority) =
    plain_complete st (set_exclusive_plan st e.0 allow priority) (λ n. inl refl)
device_complete st (device.SetName e name) = plain_complete st (set_name_plan st e.0 name) (λ n. inl refl)
device_complete st (device.Other code rest) =
    plain_complete st (unlisted_device_plan st) (λ n. absurd (row_holds (shut_rows st) true hr.E_NOTIMPL [] refl n))

pub unrefused_is_granted : UnrefusedIsGranted
unrefused_is_granted st (event.Open c process name) = plain_complete st (open_plan st c.0 process name) (λ n. inl refl)
unrefused_is_granted st (event.Hangup c) = hangup_complete st c.0
unrefused_is_granted st (event.Call c tag x) = call_complete st c.0 x
unrefused_is_granted st (event.Period e) = period_complete st (endpoint_at e.0 st)
unrefused_is_granted st (event.Device x) = device_complete st x
unrefused_is_granted st event.Shutdown = plain_complete st (shutdown_plan st) (λ n. inl refl)
