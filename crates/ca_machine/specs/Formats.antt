-- Formats that a call names: their faults, and whether they may be opened on an endpoint (WAVEFORMATEX; the order of
-- the faults is this project's own).
use Rattle.std.specs.Prelude.{ℕ, ◌+◌, ◌==◌, ◌&&◌, not, nat_le}
use Rattle.std.specs.Prelude.{List, ◌++◌, length, Bool, true, false, Option}
use Rattle.std.specs.Prelude.{Some, None, is_some}
use Rattle.std.specs.Prelude.{if◌then◌else◌}
use Rattle.std.specs.Option.{option_map_or}
use Rattle.std.specs.Int.{w16, to_le_bytes}
use Rattle.ca_base.specs.declared.values.TheConstants.{SHARE_EXCLUSIVE}
use Rattle.ca_base.specs.Rows.{first}
use Rattle.wave_format.specs.declared.format.Format.{Format}
use Rattle.wave_format.specs.Format.{fault_rows, spelled, spelling}
use Rattle.device_registry.specs.declared.endpoint.Endpoint.{Endpoint}

-- the first fault of a format's bytes
abbrev pub fault_of : List ℕ → Option ℕ
fault_of bytes = first (fault_rows bytes)

-- the bytes are no format at all
abbrev pub is_malformed : List ℕ → Bool
is_malformed bytes = option_map_or (λ fault. nat_le fault 2) (fault_of bytes) false

-- they are none, or one that the service doesn't take
abbrev pub is_faulty : List ℕ → Bool
is_faulty bytes = is_some (fault_of bytes)

-- two formats match if channels and rate are equal
abbrev pub matches : Format → Format → Bool
matches a b = a.channels == b.channels && a.rate == b.rate

-- exclusive use of an endpoint is asked (AUDCLNT_SHAREMODE_EXCLUSIVE)
abbrev pub is_exclusive : ℕ → Bool
is_exclusive share = share == SHARE_EXCLUSIVE

-- a stream of this format may be opened where an endpoint mixes in that one: it matches if the use is shared, and has
-- as many channels if it is exclusive
abbrev pub admits : ℕ → Format → Format → Bool
admits share mix format = if is_exclusive share then mix.channels == format.channels else matches mix format

-- an endpoint doesn't admit the format that these bytes spell, or there is no endpoint
abbrev pub lacks_format : ℕ → Option Endpoint → List ℕ → Bool
lacks_format share None bytes = true
lacks_format share (Some e) bytes = not (admits share e.format (spelled bytes))

-- a format in a payload: two bytes of length, and its bytes
abbrev pub format_payload : Format → List ℕ
format_payload format = to_le_bytes w16 (length (spelling format)) ++ spelling format
