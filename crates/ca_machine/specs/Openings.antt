-- IAudioClient::Initialize: the stream that it opens, its rows, and what it does (the order of the rows and the sizes
-- of buffers are this project's own).
use Rattle.std.specs.Prelude.{ℕ, ◌+◌, ◌*◌, ◌/◌, ◌%◌, ◌==◌, ◌&&◌, ◌||◌, not, nat_lt, min, max}
use Rattle.std.specs.Prelude.{List, [], ◌∷◌, ◌++◌, map, Bool, false, Option}
use Rattle.std.specs.Prelude.{Some, None, is_some}
use Rattle.std.specs.Prelude.{if◌then◌else◌}
use Rattle.std.specs.Option.{option_map_or}
use Rattle.std.specs.Int.{w64, to_le_bytes}
use Rattle.ca_base.specs.declared.codes.Hr.{Hr}
use Rattle.ca_base.specs.declared.codes.TheConstants.Hr as hr
use Rattle.ca_base.specs.declared.ids.Flow.{Flow}
use Rattle.ca_base.specs.declared.ids.Flow.TheVariants as flow
use Rattle.ca_base.specs.declared.ids.Gate.TheVariants as gate
use Rattle.ca_base.specs.declared.ids.Reason.TheVariants.{Override}
use Rattle.ca_base.specs.declared.ids.StreamKind.{StreamKind}
use Rattle.ca_base.specs.declared.ids.StreamKind.TheVariants as kind
use Rattle.ca_base.specs.declared.limits.TheConstants.{MAX_EXCLUSIVE_BUFFER, MAX_EXCLUSIVE_PERIOD}
use Rattle.ca_base.specs.declared.limits.TheConstants.{MAX_SHARED_BUFFER_SECONDS, MAX_TIME, MIN_EXCLUSIVE_PERIOD}
use Rattle.ca_base.specs.declared.limits.TheConstants.{SHARED_PERIOD}
use Rattle.ca_base.specs.declared.values.TheConstants.{
  FLOW_CAPTURE,
  SHARE_EXCLUSIVE,
  STREAM_CROSSPROCESS,
  STREAM_EVENTCALLBACK,
  STREAM_LOOPBACK,
  STREAM_NOPERSIST,
}
use Rattle.ca_base.specs.Rows.{Row}
use Rattle.wave_format.specs.Format.{spelled, frames_of_time}
use Rattle.exclusive_mode.specs.declared.claims.Held.{Held}
use Rattle.exclusive_mode.specs.declared.claims.Claim.{Claim}
use Rattle.exclusive_mode.specs.declared.claims.Claim.TheVariants as claim
use Rattle.exclusive_mode.specs.Claims.{claim, claim_rows, is_takeover}
use Rattle.ca_stage.specs.Stage.{Stage, Stream, no_data, is_render}
use Rattle.ca_stage.specs.Periods.{open_streams_on}
use Rattle.ca_stage.specs.Moves.{opened, stream_at}
use Rattle.session_manager.specs.declared.session.SessionKey.{SessionKey}
use Rattle.session_manager.specs.Sessions.{joined, number_joined}
use Rattle.session_manager.specs.Rows.{join_rows}
use Rattle.ca_machine.specs.declared.state.Client.{Client}
use Rattle.device_registry.specs.declared.endpoint.Endpoint.{Endpoint}
use Rattle.device_registry.specs.Endpoints.{flow_number}
use Rattle.ca_machine.specs.Formats.{is_malformed, is_faulty, is_exclusive, lacks_format}
use Rattle.ca_machine.specs.Devices.{disconnects_if}
use Rattle.ca_machine.specs.State.{State, client_of, connection_at, endpoint_at, session_list, with_sessions}
use Rattle.ca_machine.specs.Plan.{Outcome, Plan, with_memory, granted, refused}
use Rattle.ca_machine.specs.SharedRows.{control_rows, client_rows, invalidated_rows, endpoint_of}

-- the session is shared by processes (AUDCLNT_STREAMFLAGS: CROSSPROCESS, LOOPBACK, EVENTCALLBACK and NOPERSIST are the
-- bits 16 to 19)
abbrev pub is_cross_process : ℕ → Bool
is_cross_process flags = not (flags / STREAM_CROSSPROCESS % 2 == 0)

-- the stream records what its endpoint plays
abbrev pub has_loopback : ℕ → Bool
has_loopback flags = not (flags / STREAM_LOOPBACK % 2 == 0)

-- the periods of the stream set an event
abbrev pub has_event : ℕ → Bool
has_event flags = not (flags / STREAM_EVENTCALLBACK % 2 == 0)

-- the level of a session that is made is kept: NOPERSIST isn't set
abbrev pub is_kept : ℕ → Bool
is_kept flags = flags / STREAM_NOPERSIST % 2 == 0

-- flags other than those four: below the lowest of them, or above the highest
abbrev pub has_other_flag : ℕ → Bool
has_other_flag flags = not (flags % STREAM_CROSSPROCESS == 0) || not (flags / (2 * STREAM_NOPERSIST) == 0)

-- a time that REFERENCE_TIME doesn't have
abbrev pub is_too_long : ℕ → Bool
is_too_long time = nat_lt MAX_TIME time

-- the arguments of an Initialize
pub record Opening : Type 0 where
  pub share : ℕ
  pub flags : ℕ
  pub duration : ℕ
  pub period : ℕ
  pub format : List ℕ
  pub session : ℕ

-- which kind of stream is opened, on an endpoint of this flow with these flags
abbrev pub kind_opened : Flow → ℕ → StreamKind
kind_opened flow.Capture flags = kind.Capture
kind_opened flow.Render flags = if has_loopback flags then kind.Loopback else kind.Render

-- the frames of a shared stream's buffer for a duration: at least two periods, and at most two seconds unless these are
-- more
abbrev pub shared_buffer : ℕ → ℕ → ℕ
shared_buffer rate duration =
    max (2 * frames_of_time rate SHARED_PERIOD) (min (frames_of_time rate duration) (MAX_SHARED_BUFFER_SECONDS * rate))

-- the period of the stream, in units of 100 ns: a shared one has its endpoint's, an exclusive one what it asked for
abbrev pub period_of : Opening → ℕ
period_of x = if is_exclusive x.share && not (x.period == 0) then x.period else SHARED_PERIOD

-- its frames
abbrev pub frames_of_period : Opening → ℕ
frames_of_period x = frames_of_time (spelled x.format).rate (period_of x)

-- the frames of the stream's buffer: an exclusive one has at least a period
abbrev pub buffer_of : Opening → ℕ
buffer_of x =
    if is_exclusive x.share
    then max (frames_of_time (spelled x.format).rate x.duration) (frames_of_period x)
    else shared_buffer (spelled x.format).rate x.duration

-- how many such buffers its store holds: an exclusive stream that is driven by events has two, in turn
abbrev pub buffers_of : Opening → ℕ
buffers_of x = if is_exclusive x.share && has_event x.flags then 2 else 1

-- the words of a store for so many frames, in periods of that many: one for each frame that is to be played, or as many
-- packets as there are periods, each with a word ahead of its frames
abbrev pub words_stored : StreamKind → ℕ → ℕ → ℕ
words_stored kind frames period = if is_render kind then frames else frames / period * (period + 1)

-- the stream that a client opens, on an endpoint of this flow
abbrev pub new_stream : Flow → Client → Opening → ℕ → Stream
new_stream flow client x session = record {
  client = client.client.0;
  endpoint = client.endpoint.0;
  kind = kind_opened flow x.flags;
  exclusive = is_exclusive x.share;
  event_driven = has_event x.flags;
  channels = (spelled x.format).channels;
  rate = (spelled x.format).rate;
  buffer = buffer_of x;
  period = frames_of_period x;
  capacity = words_stored (kind_opened flow x.flags) (buffers_of x * buffer_of x) (frames_of_period x);
  latency = period_of x;
  session = session;
  running = false;
  gate = gate.Open;
  picked = 0;
  position = 0;
  offered = 0;
  ever = 0;
  after_gap = false;
  buffer_data = no_data;
}

-- the process of a connection, 0 if it isn't open
abbrev pub process_of : ℕ → State → ℕ
process_of conn st = option_map_or (λ c. c.process) (connection_at conn st) 0

-- its name, empty if it isn't open
abbrev pub name_of : ℕ → State → List ℕ
name_of conn st = option_map_or (λ c. c.name) (connection_at conn st) []

-- what names the session that a client's stream joins: with CROSSPROCESS it has process 0 and the name `*`
abbrev pub session_key : State → ℕ → Client → Opening → SessionKey
session_key st conn client x =
    if is_cross_process x.flags
    then record { endpoint = client.endpoint; process = 0; guid = record { 0 = x.session }; name = 42 ∷ [] }
    else record {
      endpoint = client.endpoint;
      process = process_of conn st;
      guid = record { 0 = x.session };
      name = name_of conn st;
    }

-- the rows of a session that would be new
abbrev pub joining_rows : State → ℕ → Option Client → Opening → List (Row Hr)
joining_rows st conn None x = []
joining_rows st conn (Some client) x = join_rows (session_key st conn client x) (session_list st)

-- an endpoint that is there captures
abbrev pub is_capturing : Option Endpoint → Bool
is_capturing endpoint = option_map_or (λ e. flow_number e.flow == FLOW_CAPTURE) endpoint false

-- an endpoint that is there doesn't allow exclusive use
abbrev pub forbids_exclusive : Option Endpoint → Bool
forbids_exclusive endpoint = option_map_or (λ e. not e.allow) endpoint false

-- what is asked of the endpoint can't be had with these flags
abbrev pub use_rows : Option Endpoint → Opening → List (Row Hr)
use_rows endpoint x = (
  nat_lt SHARE_EXCLUSIVE x.share
      || (has_other_flag x.flags || (is_too_long x.duration || is_too_long x.period)),
  hr.E_INVALIDARG,
)
    ∷ (has_loopback x.flags && is_capturing endpoint, hr.WRONG_ENDPOINT_TYPE)
    ∷ (is_exclusive x.share && (has_loopback x.flags || is_cross_process x.flags), hr.E_INVALIDARG)
    ∷ (is_exclusive x.share && forbids_exclusive endpoint, hr.EXCLUSIVE_MODE_NOT_ALLOWED)
    ∷ []

-- the format isn't one, or the endpoint doesn't admit it
abbrev pub format_rows : Option Endpoint → Opening → List (Row Hr)
format_rows endpoint x =
    (is_malformed x.format, hr.E_INVALIDARG)
    ∷ (is_faulty x.format || lacks_format x.share endpoint x.format, hr.UNSUPPORTED_FORMAT)
    ∷ []

-- a period that no exclusive stream has; 0 asks for that of shared streams
abbrev pub is_no_period : ℕ → Bool
is_no_period period = nat_lt MAX_EXCLUSIVE_PERIOD period || nat_lt period MIN_EXCLUSIVE_PERIOD && not (period == 0)

-- an exclusive stream's period or buffer can't be had; one that is driven by events has a buffer of one period
abbrev pub size_rows : Opening → List (Row Hr)
size_rows x =
    (is_exclusive x.share && is_no_period x.period, hr.INVALID_DEVICE_PERIOD)
    ∷ (
      is_exclusive x.share && (has_event x.flags && not (x.duration == x.period)),
      hr.BUFDURATION_PERIOD_NOT_EQUAL,
    )
    ∷ (is_exclusive x.share && nat_lt MAX_EXCLUSIVE_BUFFER x.duration, hr.BUFFER_SIZE_ERROR)
    ∷ []

-- the rows over the arguments
abbrev pub argument_rows : Option Endpoint → Opening → List (Row Hr)
argument_rows endpoint x = use_rows endpoint x ++ (format_rows endpoint x ++ size_rows x)

-- the open streams on an endpoint
abbrev pub held_on : ℕ → Stage → List Held
held_on number st = map
    (λ s. record { client = record { 0 = s.client }; exclusive = s.exclusive })
    (open_streams_on number st)

-- the claim of an endpoint by a stream that is to be opened on it
abbrev pub claim_of : State → Option Endpoint → Opening → Claim
claim_of st None x = claim.Granted
claim_of st (Some e) x = claim (is_exclusive x.share) (held_on e.no.0 st.stage) e.priority

-- the rows over the client that was found, and its stream
abbrev pub opening_rows : State → ℕ → Option Client → Option Stream → Opening → List (Row Hr)
opening_rows st conn client stream x =
    invalidated_rows st client stream
    ++ (is_some stream, hr.ALREADY_INITIALIZED)
    ∷ argument_rows (endpoint_of st client) x
    ++ (claim_rows (claim_of st (endpoint_of st client) x) ++ joining_rows st conn client x)

abbrev pub initialize_rows : State → ℕ → ℕ → Opening → List (Row Hr)
initialize_rows st conn client x =
    control_rows conn st ++ client_rows conn client st
    ++ opening_rows st conn (client_of conn client st) (stream_at client st.stage) x

-- the stream takes its endpoint from shared ones
abbrev pub takes_over : State → Client → Opening → Bool
takes_over st client x = is_takeover (claim_of st (endpoint_at client.endpoint.0 st) x)

-- the flow of a client's endpoint
abbrev pub flow_of : State → Client → Flow
flow_of st client = option_map_or (λ e. e.flow) (endpoint_at client.endpoint.0 st) flow.Render

-- a stream is opened in a session, which is answered; before it, the streams that it takes the endpoint from are closed
abbrev pub opened_in : State → Client → Opening → ℕ → Outcome
opened_in st client x session = granted (to_le_bytes w64 session)
    (disconnects_if (takes_over st client x) Override (Some client.endpoint.0) st.stage
    ++ opened (new_stream (flow_of st client) client x session) ∷ [])
    st

-- the channels of a client's endpoint
abbrev pub endpoint_channels : State → Client → ℕ
endpoint_channels st client = option_map_or (λ e. e.format.channels) (endpoint_at client.endpoint.0 st) 0

-- the stream joins its session, which is a new one if there is none
abbrev pub joined_by : State → Client → Opening → SessionKey → Outcome
joined_by st client x key =
    opened_in
    (with_sessions (joined key None (is_kept x.flags) (endpoint_channels st client) (session_list st)) st)
    client x (number_joined key (session_list st))

-- what an Initialize does for the client that it names; if there is none, a row has refused it
abbrev pub initialized : State → ℕ → Option Client → Opening → Outcome
initialized st conn None x = refused st hr.E_HANDLE
initialized st conn (Some client) x = joined_by st client x (session_key st conn client x)

abbrev pub initialize_plan : State → ℕ → ℕ → Opening → Plan
initialize_plan st conn client x =
    with_memory st (initialize_rows st conn client x) (initialized st conn (client_of conn client st) x)
