-- Control calls of a client's stream that is there or may be opened (IAudioClient, IAudioClock, IAudioStreamVolume; the
-- order of the rows is this project's own).
use Rattle.std.specs.Prelude.{ℕ, ◌+◌, ◌==◌, ◌&&◌, ◌||◌, not, nat_lt, nat_le}
use Rattle.std.specs.Prelude.{List, [], ◌∷◌, ◌++◌, map, slice_index, slice_set, Bool, true, Option}
use Rattle.std.specs.Prelude.{is_some}
use Rattle.std.specs.Prelude.{if◌then◌else◌}
use Rattle.std.specs.Option.{option_map_or}
use Rattle.std.specs.Int.{w32, w64, to_le_bytes}
use Rattle.ca_base.specs.declared.codes.Hr.{Hr}
use Rattle.ca_base.specs.declared.codes.TheConstants.Hr as hr
use Rattle.ca_base.specs.declared.ids.StreamKind.TheVariants as kind
use Rattle.ca_base.specs.declared.limits.TheConstants.{MAX_LEVEL, MIN_EXCLUSIVE_PERIOD, SHARED_PERIOD}
use Rattle.ca_base.specs.declared.values.TheConstants.{SHARE_EXCLUSIVE}
use Rattle.ca_base.specs.Rows.{Row}
use Rattle.wave_format.specs.Format.{spelled}
use Rattle.ca_stage.specs.Stage.{Stream, frames_waiting, is_render}
use Rattle.ca_stage.specs.Moves.{of_client, started, stopped, reset, stream_at}
use Rattle.ca_machine.specs.declared.state.Client.{Client}
use Rattle.device_registry.specs.declared.endpoint.Endpoint.{Endpoint}
use Rattle.ca_machine.specs.Formats.{is_malformed, is_faulty, is_exclusive, admits, lacks_format, format_payload}
use Rattle.ca_machine.specs.State.{State, client_of, is_client_of}
use Rattle.ca_machine.specs.Plan.{Outcome, Plan, plain, answered, granted}
use Rattle.ca_machine.specs.SharedRows.{
  control_rows,
  client_rows,
  if_stream,
  stream_plan,
  no_rows,
  invalidated_rows,
  endpoint_of,
  with_endpoint,
}

-- ---- calls that tell

abbrev pub get_buffer_size_plan : State → ℕ → ℕ → Plan
get_buffer_size_plan st conn client =
    stream_plan st conn client no_rows (λ s. answered st (to_le_bytes w32 s.buffer))

abbrev pub get_stream_latency_plan : State → ℕ → ℕ → Plan
get_stream_latency_plan st conn client =
    stream_plan st conn client no_rows (λ s. answered st (to_le_bytes w64 s.latency))

-- the position of a stream (IAudioClock::GetPosition): the frames rendered since the last Reset, or those offered since
-- then to a stream that records
abbrev pub position_of : Stream → ℕ
position_of s = if is_render s.kind then s.position else s.offered

abbrev pub get_position_plan : State → ℕ → ℕ → Plan
get_position_plan st conn client =
    stream_plan st conn client no_rows (λ s. answered st (to_le_bytes w64 (position_of s) ++ to_le_bytes w64 s.rate))

-- the rows of calls on what a client may open: its stream may be open or not
abbrev pub endpoint_rows : State → ℕ → ℕ → List (Row Hr)
endpoint_rows st conn client =
    client_rows conn client st ++ invalidated_rows st (client_of conn client st) (stream_at client st.stage)

abbrev pub get_mix_format_plan : State → ℕ → ℕ → Plan
get_mix_format_plan st conn client = plain (control_rows conn st ++ endpoint_rows st conn client)
    (with_endpoint st (endpoint_of st (client_of conn client st)) (λ e. answered st (format_payload e.format)))

abbrev pub get_device_period_plan : State → ℕ → ℕ → Plan
get_device_period_plan st conn client = plain (control_rows conn st ++ endpoint_rows st conn client)
    (answered st (to_le_bytes w64 SHARED_PERIOD ++ to_le_bytes w64 MIN_EXCLUSIVE_PERIOD))

-- the bytes are no format, or exclusive use of the endpoint in it can't be had
abbrev pub supported_rows : ℕ → Option Endpoint → List ℕ → List (Row Hr)
supported_rows share endpoint bytes =
    (nat_lt SHARE_EXCLUSIVE share || is_malformed bytes, hr.E_INVALIDARG)
    ∷ (
      is_exclusive share && (is_faulty bytes || lacks_format share endpoint bytes),
      hr.UNSUPPORTED_FORMAT,
    )
    ∷ []

-- IAudioClient::IsFormatSupported: yes, or for a shared stream S_FALSE with the closest format, which is the endpoint's
abbrev pub supported : State → ℕ → List ℕ → Endpoint → Outcome
supported st share bytes e =
    if is_faulty bytes || not (admits share e.format (spelled bytes))
    then record (answered st (format_payload e.format)) { result = hr.S_FALSE }
    else answered st []

abbrev pub is_format_supported_plan : State → ℕ → ℕ → ℕ → List ℕ → Plan
is_format_supported_plan st conn client share bytes = plain
    (control_rows conn st ++ endpoint_rows st conn client
    ++ supported_rows share (endpoint_of st (client_of conn client st)) bytes)
    (with_endpoint st (endpoint_of st (client_of conn client st)) (supported st share bytes))

-- services by number (own): 1 renders, 2 captures; 3 to 7 are there for every stream
abbrev pub is_service : ℕ → Bool
is_service service = nat_le 1 service && nat_le service 7

-- the service renders and the stream doesn't, or it captures and the stream renders
abbrev pub is_of_other_kind : ℕ → Stream → Bool
is_of_other_kind service s = service == 1 && not (is_render s.kind) || service == 2 && is_render s.kind

abbrev pub get_service_rows : ℕ → Option Stream → List (Row Hr)
get_service_rows service stream =
    (not (is_service service), hr.E_NOINTERFACE)
    ∷ (if_stream (is_of_other_kind service) stream, hr.WRONG_ENDPOINT_TYPE)
    ∷ []

abbrev pub get_service_plan : State → ℕ → ℕ → ℕ → Plan
get_service_plan st conn client service =
    stream_plan st conn client (get_service_rows service) (λ s. answered st [])

-- ---- Start, Stop and Reset

-- the stream is driven by events, and its client has set no handle
abbrev pub lacks_handle : Option Client → Stream → Bool
lacks_handle client s = s.event_driven && option_map_or (λ c. c.handle == 0) client true

abbrev pub start_rows : Option Client → Option Stream → List (Row Hr)
start_rows client stream =
    (if_stream (λ s. s.running) stream, hr.NOT_STOPPED)
    ∷ (if_stream (lacks_handle client) stream, hr.EVENTHANDLE_NOT_SET)
    ∷ []

abbrev pub start_plan : State → ℕ → ℕ → Plan
start_plan st conn client =
    stream_plan st conn client (start_rows (client_of conn client st))
    (λ s. granted [] (of_client client started ∷ []) st)

abbrev pub stop_rows : Option Stream → List (Row Hr)
stop_rows stream = (if_stream (λ s. not s.running) stream, hr.S_FALSE) ∷ []

abbrev pub stop_plan : State → ℕ → ℕ → Plan
stop_plan st conn client =
    stream_plan st conn client stop_rows (λ s. granted [] (of_client client stopped ∷ []) st)

-- there is nothing to throw away
abbrev pub is_at_start : Stream → Bool
is_at_start s = frames_waiting s == 0 && position_of s == 0

abbrev pub reset_rows : Option Stream → List (Row Hr)
reset_rows stream =
    (if_stream (λ s. s.running) stream, hr.NOT_STOPPED)
    ∷ (if_stream (λ s. is_some s.buffer_data.lease) stream, hr.BUFFER_OPERATION_PENDING)
    ∷ (if_stream is_at_start stream, hr.S_FALSE)
    ∷ []

abbrev pub reset_plan : State → ℕ → ℕ → Plan
reset_plan st conn client =
    stream_plan st conn client reset_rows (λ s. granted [] (of_client client reset ∷ []) st)

-- ---- SetEventHandle

abbrev pub set_event_handle_rows : ℕ → Option Stream → List (Row Hr)
set_event_handle_rows handle stream =
    (if_stream (λ s. not s.event_driven) stream, hr.EVENTHANDLE_NOT_EXPECTED) ∷ (handle == 0, hr.E_INVALIDARG) ∷ []

-- clients after this one's handle was set
abbrev pub with_handle : ℕ → ℕ → ℕ → List Client → List Client
with_handle conn client handle clients =
    map (λ c. if is_client_of conn client c then record c { handle = handle } else c) clients

abbrev pub set_event_handle_plan : State → ℕ → ℕ → ℕ → Plan
set_event_handle_plan st conn client handle =
    stream_plan st conn client (set_event_handle_rows handle)
    (λ s. granted [] [] (record st { clients = with_handle conn client handle st.clients }))

-- ---- levels of a stream's channels

-- a stream has no channel of this number
abbrev pub lacks_channel : ℕ → Option Stream → Bool
lacks_channel channel stream = if_stream (λ s. nat_le s.channels channel) stream

abbrev pub get_stream_level_rows : ℕ → Option Stream → List (Row Hr)
get_stream_level_rows channel stream = (lacks_channel channel stream, hr.E_INVALIDARG) ∷ []

-- the level of a channel of a client's stream
abbrev pub stream_level : ℕ → ℕ → ℕ → State → ℕ
stream_level conn client channel st = option_map_or (λ c. slice_index c.levels channel) (client_of conn client st) 0

abbrev pub get_stream_level_plan : State → ℕ → ℕ → ℕ → Plan
get_stream_level_plan st conn client channel =
    stream_plan st conn client (get_stream_level_rows channel)
    (λ s. answered st (to_le_bytes w32 (stream_level conn client channel st)))

abbrev pub set_stream_level_rows : ℕ → ℕ → Option Stream → List (Row Hr)
set_stream_level_rows channel level stream =
    (lacks_channel channel stream || nat_lt MAX_LEVEL level, hr.E_INVALIDARG) ∷ []

-- clients after the level of a channel of this one was set
abbrev pub with_stream_level : ℕ → ℕ → ℕ → ℕ → List Client → List Client
with_stream_level conn client channel level clients = map
    (λ c. if is_client_of conn client c then record c { levels = slice_set c.levels channel level } else c)
    clients

abbrev pub set_stream_level_plan : State → ℕ → ℕ → ℕ → ℕ → Plan
set_stream_level_plan st conn client channel level =
    stream_plan st conn client (set_stream_level_rows channel level)
    (λ s. granted [] [] (record st { clients = with_stream_level conn client channel level st.clients }))
