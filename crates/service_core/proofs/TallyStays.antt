-- Events that give no frame a fate leave the tally.
use Rattle.std.proofs.Common.{◌≡◌, ℕ, ◌||◌, not, List, [], ◌∷◌, Bool, true, false, Option, Some, None, refl}
use Rattle.std.proofs.Common.{if◌then◌else◌, option_map}
use Rattle.ca_base.specs.declared.codes.Hr.{Hr}
use Rattle.ca_base.specs.declared.codes.TheConstants.Hr as hr
use Rattle.ca_base.specs.Rows.{Row, first}
use Rattle.ca_model.specs.declared.event.Call.{Call}
use Rattle.ca_model.specs.declared.event.Call.TheVariants as call
use Rattle.wave_format.specs.Format.{spelled}
use Rattle.ca_stage.specs.Stage.{Stream}
use Rattle.ca_stage.specs.Moves.{StreamMove, leased, released, read, started, stopped, of_client, is_open_of, stream_at}
use Rattle.ca_stage.specs.Tally.{Tally, tally_of_found, tally_of_stream}
use Rattle.device_registry.specs.declared.endpoint.Endpoint.{Endpoint}
use Rattle.session_manager.specs.declared.session.Session.{Session}
use Rattle.session_manager.specs.Sessions.{session_at}
use Rattle.ca_machine.specs.State.{State, client_of, endpoint_at}
use Rattle.ca_machine.specs.Plan.{Outcome, Plan, Answer, answered, granted, if_found, outcome_of, plain, unless_refused}
use Rattle.ca_machine.specs.Plan.{with_memory}
use Rattle.ca_machine.specs.Plan.Answer.{out_of_memory}
use Rattle.ca_machine.specs.SharedRows.{endpoint_of, with_endpoint, with_stream}
use Rattle.ca_machine.specs.Clients.{open_plan}
use Rattle.ca_machine.specs.Endpoints.{default_at, device_info_plan, endpoint_named, endpoint_told, enum_endpoints_plan}
use Rattle.ca_machine.specs.Endpoints.{number_told}
use Rattle.ca_machine.specs.Registrations.{take_notices_plan}
use Rattle.ca_machine.specs.Streams.{supported}
use Rattle.ca_machine.specs.Formats.{admits, is_faulty}
use Rattle.ca_machine.specs.Streams.{with_handle, with_stream_level}
use Rattle.ca_machine.specs.Formats.{format_payload}
use Rattle.ca_machine.specs.Sessions.{enum_sessions_plan, get_session_plan, session_payload, state_of_session}
use Rattle.ca_machine.specs.Sessions.{with_session}
use Rattle.ca_machine.specs.Data.{capture_get_buffer_plan, capture_release_buffer_plan, first_packet, frames_released}
use Rattle.ca_machine.specs.Data.{get_buffer_plan, get_next_packet_size_plan, packets_read, release_buffer_plan}
use Rattle.ca_machine.specs.Step.{call_plan}
use Rattle.service_board.specs.Calls.{IsPlainCall}
use Rattle.service_core.proofs.EventsFall.{IsControlCall}

-- an outcome leaves the tally, and so does a plan, whatever it is answered
abbrev pub Leaves : State → Outcome → Type 0
Leaves st o = o.after.tally ≡ st.tally

pub record LeavesTally (st : State) (p : Plan) : Type 0 where
  pub leaves : (given : List Answer) → Leaves st (outcome_of st p given)

by_verdict : (st : State) (verdict : Option Hr) (o : Outcome) → Leaves st o → Leaves st (unless_refused st verdict o)
by_verdict st None o h = h
by_verdict st (Some code) o h = refl

of_plain : (st : State) (rows : List (Row Hr)) (o : Outcome) → Leaves st o → LeavesTally st (plain rows o)
of_plain st rows o h = record { leaves = λ given. by_verdict st (first rows) o h }

by_memory : (st : State) (o : Outcome) (given : List Answer) → Leaves st o → Leaves st (if_found st o given)
by_memory st o (out_of_memory ∷ given) h = refl
by_memory st o _ h = h

of_memory : (st : State) (rows : List (Row Hr)) (o : Outcome) → Leaves st o → LeavesTally st (with_memory st rows o)
of_memory st rows o h =
    record { leaves = λ given. by_verdict st (first rows) (if_found st o given) (by_memory st o given h) }

of_stream : (st : State) (s : Option Stream) (f : Stream → Outcome) → ((s : Stream) → Leaves st (f s)) →
    Leaves st (with_stream st s f)
of_stream st None f h = refl
of_stream st (Some s) f h = h s

of_endpoint : (st : State) (e : Option Endpoint) (f : Endpoint → Outcome) → ((e : Endpoint) → Leaves st (f e)) →
    Leaves st (with_endpoint st e f)
of_endpoint st None f h = refl
of_endpoint st (Some e) f h = h e

tells : (st : State) (rows : List (Row Hr)) (s : Option Stream) (payload : Stream → List ℕ) →
    LeavesTally st (plain rows (with_stream st s (λ s. answered st (payload s))))
tells st rows s payload =
    of_plain st rows (with_stream st s (λ s. answered st (payload s)))
    (of_stream st s (λ s. answered st (payload s)) (λ s. refl))

-- a move that gives no frame a fate
abbrev IsMute : StreamMove → Type 0
IsMute m = (s : Stream) (t : Tally) → tally_of_stream m s t ≡ t

mute_found : (client : ℕ) (m : StreamMove) → IsMute m → (o : Option Stream) (t : Tally) →
    tally_of_found client m o t ≡ t
mute_found client m mute None t = refl
mute_found client m mute (Some s) t = by (is_open_of client s)
  where
    by : (b : Bool) → (if b then tally_of_stream m s t else t) ≡ t
    by true = mute s t
    by false = refl

moves : (st : State) (rows : List (Row Hr)) (s : Option Stream) (client : ℕ) (payload : Stream → List ℕ)
    (m : Stream → StreamMove) → ((s : Stream) → IsMute (m s)) →
    LeavesTally st (plain rows (with_stream st s (λ s. granted (payload s) (of_client client (m s) ∷ []) st)))
moves st rows s client payload m mute =
    of_plain st rows (with_stream st s (λ s. granted (payload s) (of_client client (m s) ∷ []) st))
    (of_stream st s (λ s. granted (payload s) (of_client client (m s) ∷ []) st)
    (λ s. mute_found client (m s) (mute s) (stream_at client st.stage) st.tally))

of_session : (st : State) (s : Option Session) (f : Session → Outcome) → ((s : Session) → Leaves st (f s)) →
    Leaves st (with_session st s f)
of_session st None f h = refl
of_session st (Some s) f h = h s

still : (st : State) (rows : List (Row Hr)) (s : Option Stream) (after : State) → after.tally ≡ st.tally →
    LeavesTally st (plain rows (with_stream st s (λ s. granted [] [] after)))
still st rows s after h =
    of_plain st rows (with_stream st s (λ s. granted [] [] after))
    (of_stream st s (λ s. granted [] [] after) (λ s. h))

of_supported : (st : State) (payload : List ℕ) (b : Bool) → Leaves st
    (if b then record (answered st payload) { result = hr.S_FALSE } else answered st [])
of_supported st payload true = refl
of_supported st payload false = refl

-- what calls tell of endpoints
of_number : (st : State) (number : Option ℕ) → Leaves st (number_told st number)
of_number st None = refl
of_number st (Some number) = refl

of_told : (st : State) (e : Option Endpoint) → Leaves st (endpoint_told st e)
of_told st None = refl
of_told st (Some e) = refl

-- each call but Release, Reset, Initialize and the data calls
pub tally_of_call : (st : State) (conn : ℕ) (x : Call) → IsPlainCall x → LeavesTally st (call_plan st conn x)
tally_of_call st conn (call.EnumEndpoints flow mask) h = absurd h
tally_of_call st conn (call.GetDefault flow role) h =
    of_plain st _ (number_told st (default_at flow role st)) (of_number st (default_at flow role st))
tally_of_call st conn (call.GetDevice id) h =
    of_plain st _ (number_told st (option_map (λ e. e.no.0) (endpoint_named id st)))
    (of_number st (option_map (λ e. e.no.0) (endpoint_named id st)))
tally_of_call st conn (call.DeviceInfo e) h = absurd h
tally_of_call st conn (call.Register class subject) h = of_memory st _ _ refl
tally_of_call st conn (call.Unregister number) h = of_plain st _ _ refl
tally_of_call st conn (call.TakeNotices max) h = absurd h
tally_of_call st conn (call.AwaitNotices max) h = absurd h
tally_of_call st conn (call.Activate e role) h = of_plain st _ _ refl
tally_of_call st conn (call.Release c) h = absurd h
tally_of_call st conn (call.Initialize c share flags duration period format session) h = absurd h
tally_of_call st conn (call.GetBufferSize c) h = tells st _ (stream_at c.0 st.stage) _
tally_of_call st conn (call.GetStreamLatency c) h = tells st _ (stream_at c.0 st.stage) _
tally_of_call st conn (call.GetCurrentPadding c) h = absurd h
tally_of_call st conn (call.IsFormatSupported c share format) h =
    of_plain st _ (with_endpoint st (endpoint_of st (client_of conn c.0 st)) (supported st share format.list))
    (of_endpoint st (endpoint_of st (client_of conn c.0 st)) (supported st share format.list)
    (λ e. of_supported st (format_payload e.format)
    (is_faulty format.list || not (admits share e.format (spelled format.list)))))
tally_of_call st conn (call.GetMixFormat c) h =
    of_plain st _ (with_endpoint st (endpoint_of st (client_of conn c.0 st))
    (λ e. answered st (format_payload e.format)))
    (of_endpoint st (endpoint_of st (client_of conn c.0 st)) (λ e. answered st (format_payload e.format)) (λ e. refl))
tally_of_call st conn (call.GetDevicePeriod c) h = of_plain st _ _ refl
tally_of_call st conn (call.Start c) h =
    moves st _ (stream_at c.0 st.stage) c.0 (λ s. []) (λ s. started) (λ s r t. refl)
tally_of_call st conn (call.Stop c) h =
    moves st _ (stream_at c.0 st.stage) c.0 (λ s. []) (λ s. stopped) (λ s r t. refl)
tally_of_call st conn (call.Reset c) h = absurd h
tally_of_call st conn (call.SetEventHandle c handle) h = still st _ (stream_at c.0 st.stage)
    (record st { clients = with_handle conn c.0 handle st.clients }) refl
tally_of_call st conn (call.GetService c service) h = tells st _ (stream_at c.0 st.stage) _
tally_of_call st conn (call.GetPosition c) h = tells st _ (stream_at c.0 st.stage) _
tally_of_call st conn (call.GetStreamLevel c channel) h = tells st _ (stream_at c.0 st.stage) _
tally_of_call st conn (call.SetStreamLevel c channel level) h = still st _ (stream_at c.0 st.stage)
    (record st { clients = with_stream_level conn c.0 channel level st.clients }) refl
tally_of_call st conn (call.GetBuffer c frames) h = absurd h
tally_of_call st conn (call.ReleaseBuffer c frames flags bytes) h = absurd h
tally_of_call st conn (call.GetNextPacketSize c) h = absurd h
tally_of_call st conn (call.CaptureGetBuffer c) h = absurd h
tally_of_call st conn (call.CaptureReleaseBuffer c frames) h = absurd h
tally_of_call st conn (call.EnumSessions e) h = absurd h
tally_of_call st conn (call.GetSession s) h = absurd h
tally_of_call st conn (call.SetMaster s level context) h = of_plain st _ _ refl
tally_of_call st conn (call.SetMute s mute context) h = of_plain st _ _ refl
tally_of_call st conn (call.SetChannel s channel level context) h = of_plain st _ _ refl
tally_of_call st conn (call.SetDisplayName s context text) h = of_plain st _ _ refl
tally_of_call st conn (call.SetIconPath s context text) h = of_plain st _ _ refl
tally_of_call st conn (call.SetGrouping s grouping context) h = of_plain st _ _ refl
tally_of_call st conn (call.Other code rest) h = of_plain st _ _ refl

-- the others, but those that give frames a fate
pub tally_of_padding : (st : State) (conn client : ℕ) → LeavesTally st
    (call_plan st conn (call.GetCurrentPadding (record { 0 = client })))
tally_of_padding st conn client = tells st _ (stream_at client st.stage) _

pub tally_of_lease : (st : State) (conn client frames : ℕ) → LeavesTally st (get_buffer_plan st conn client frames)
tally_of_lease st conn client frames =
    moves st _ (stream_at client st.stage) client (λ s. []) (λ s. leased frames) (λ s r t. refl)

pub tally_of_release : (st : State) (conn client frames flags : ℕ) (bytes : List ℕ) →
    LeavesTally st (release_buffer_plan st conn client frames flags bytes)
tally_of_release st conn client frames flags bytes =
    moves st _ (stream_at client st.stage) client (λ s. [])
    (λ s. released (frames_released frames flags bytes s.channels)) (λ s r t. refl)

pub tally_of_next : (st : State) (conn client : ℕ) → LeavesTally st (get_next_packet_size_plan st conn client)
tally_of_next st conn client = tells st _ (stream_at client st.stage) _

pub tally_of_packet : (st : State) (conn client : ℕ) → LeavesTally st (capture_get_buffer_plan st conn client)
tally_of_packet st conn client =
    moves st _ (stream_at client st.stage) client (λ s. first_packet s.buffer_data.packets) (λ s. leased s.period)
    (λ s r t. refl)

pub tally_of_read : (st : State) (conn client frames : ℕ) →
    LeavesTally st (capture_release_buffer_plan st conn client frames)
tally_of_read st conn client frames =
    moves st _ (stream_at client st.stage) client (λ s. []) (λ s. read (packets_read frames)) (λ s r t. refl)

pub tally_of_open : (st : State) (conn process : ℕ) (name : List ℕ) → LeavesTally st (open_plan st conn process name)
tally_of_open st conn process name = of_plain st _ _ refl

-- calls that tell of endpoints, sessions and notices
pub tally_of_endpoints : (st : State) (conn flow mask : ℕ) → LeavesTally st (enum_endpoints_plan st conn flow mask)
tally_of_endpoints st conn flow mask = of_plain st _ _ refl

pub tally_of_info : (st : State) (conn number : ℕ) → LeavesTally st (device_info_plan st conn number)
tally_of_info st conn number =
    of_plain st _ (endpoint_told st (endpoint_at number st)) (of_told st (endpoint_at number st))

pub tally_of_notices : (st : State) (conn max : ℕ) → LeavesTally st (take_notices_plan st conn max)
tally_of_notices st conn max = of_plain st _ _ refl

pub tally_of_enum : (st : State) (conn endpoint : ℕ) → LeavesTally st (enum_sessions_plan st conn endpoint)
tally_of_enum st conn endpoint = of_plain st _ _ refl

pub tally_of_get : (st : State) (conn number : ℕ) → LeavesTally st (get_session_plan st conn number)
tally_of_get st conn number =
    of_plain st _ (with_session st (session_at number st.sessions)
    (λ k. answered st (session_payload (state_of_session number st.stage.streams) k)))
    (of_session st (session_at number st.sessions)
    (λ k. answered st (session_payload (state_of_session number st.stage.streams) k)) (λ k. refl))

-- such a call is no data call
pub plain_control : (x : Call) → IsPlainCall x → IsControlCall x
plain_control (call.GetBuffer c frames) h = h
plain_control (call.ReleaseBuffer c frames flags bytes) h = h
plain_control (call.CaptureGetBuffer c) h = h
plain_control (call.CaptureReleaseBuffer c frames) h = h
plain_control _ h = tt
