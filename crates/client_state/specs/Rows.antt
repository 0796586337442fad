-- The rows of data calls, over a client's side of a stream and what one look at its store finds (IAudioClient,
-- IAudioRenderClient, IAudioCaptureClient; the order of the rows is this project's own).
use Rattle.std.specs.Prelude.{ℕ, ◌+◌, ◌-◌, ◌*◌, ◌/◌, ◌==◌, ◌&&◌, ◌||◌, not, nat_lt, List, [], ◌∷◌, ◌++◌, Bool}
use Rattle.std.specs.Prelude.{true, false, Option, is_some, is_none, if◌then◌else◌}
use Rattle.std.specs.Option.{option_map_or}
use Rattle.ca_base.specs.declared.codes.Hr.{Hr}
use Rattle.ca_base.specs.declared.codes.TheConstants.Hr as hr
use Rattle.ca_base.specs.declared.ids.Dir.{Dir}
use Rattle.ca_base.specs.declared.ids.Dir.TheVariants as dir
use Rattle.ca_base.specs.declared.ids.Gate.{Gate}
use Rattle.ca_base.specs.declared.ids.Gate.TheVariants as gate
use Rattle.ca_base.specs.declared.ids.Reason.TheVariants as reason
use Rattle.ca_base.specs.declared.ids.Seen.{Seen}
use Rattle.ca_base.specs.declared.limits.TheConstants.{MAX_COUNT}
use Rattle.ca_base.specs.declared.values.TheConstants.{BUFFER_SILENT}
use Rattle.ca_base.specs.Rows.{Row}
use Rattle.client_state.specs.declared.check.DataCall.{DataCall}
use Rattle.client_state.specs.declared.check.DataCall.TheVariants as call
use Rattle.client_state.specs.declared.side.ClientSide.{ClientSide}

-- a stream was disconnected by a shutdown; it was disconnected at all
abbrev pub is_shut_down : Gate → Bool
is_shut_down (gate.Closed reason.Shutdown) = true
is_shut_down _ = false

abbrev pub is_closed : Gate → Bool
is_closed gate.Open = false
is_closed (gate.Closed reason) = true

-- the rows of every call of a stream: it was disconnected by a shutdown, or for another reason
abbrev pub gate_rows : Gate → List (Row Hr)
gate_rows seen = (is_shut_down seen, hr.SERVICE_NOT_RUNNING) ∷ (is_closed seen, hr.DEVICE_INVALIDATED) ∷ []

-- the stream doesn't render; it does
abbrev pub is_render : Dir → Bool
is_render dir.Render = true
is_render dir.Capture = false

-- the frames of this many words of a store: a render store has a word for each frame, a capture store packets of a
-- header word and a period of frames
abbrev pub padding_of : ClientSide → ℕ → ℕ
padding_of side words =
    if is_render side.dir then words else words / (side.period + 1) * side.period

-- a lease is of fewer frames than these
abbrev pub is_lease_below : ℕ → Option ℕ → Bool
is_lease_below frames lease = option_map_or (λ n. nat_lt n frames) lease false

-- the size of data is neither that of the frames nor, if they are silent, 0
abbrev pub has_wrong_size : ClientSide → ℕ → ℕ → ℕ → Bool
has_wrong_size side frames flags size =
    not (flags == 0 || flags == BUFFER_SILENT)
    || not (size == frames * side.block || flags == BUFFER_SILENT && size == 0)

-- the rows of a data call's own
abbrev pub call_rows : ClientSide → DataCall → ℕ → List (Row Hr)
call_rows side call.Padding words = []
call_rows side (call.Get n) words =
    (not (is_render side.dir), hr.WRONG_ENDPOINT_TYPE)
    ∷ (is_some side.lease, hr.OUT_OF_ORDER)
    ∷ (side.exclusive && side.event && not (n == side.buffer), hr.BUFFER_SIZE_ERROR)
    ∷ (nat_lt (side.store_frames - padding_of side words) n, hr.BUFFER_TOO_LARGE)
    ∷ []
call_rows side (call.Release m flags size) words =
    (not (is_render side.dir), hr.WRONG_ENDPOINT_TYPE)
    ∷ (is_none side.lease, hr.OUT_OF_ORDER)
    ∷ (is_lease_below m side.lease, hr.INVALID_SIZE)
    ∷ (has_wrong_size side m flags size, hr.E_INVALIDARG)
    ∷ (nat_lt (MAX_COUNT - m) side.released, hr.WORN)
    ∷ []
call_rows side call.NextSize words = (is_render side.dir, hr.WRONG_ENDPOINT_TYPE) ∷ []
call_rows side call.CaptureGet words =
    (is_render side.dir, hr.WRONG_ENDPOINT_TYPE)
    ∷ (is_some side.lease, hr.OUT_OF_ORDER)
    ∷ (padding_of side words == 0, hr.S_BUFFER_EMPTY)
    ∷ []
call_rows side (call.CaptureRelease m) words =
    (is_render side.dir, hr.WRONG_ENDPOINT_TYPE)
    ∷ (is_none side.lease, hr.OUT_OF_ORDER)
    ∷ (not (m == 0 || m == side.period), hr.INVALID_SIZE)
    ∷ []

-- the rows of a data call, over what was seen: the client isn't initialised, its stream was disconnected, and the
-- call's own
abbrev pub side_rows : ClientSide → DataCall → Seen → List (Row Hr)
side_rows side call seen =
    (side.buffer == 0, hr.NOT_INITIALIZED) ∷ gate_rows seen.gate ++ call_rows side call seen.words
