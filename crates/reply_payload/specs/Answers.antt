-- What a handler answers: a payload, or the code of a row (this project's own).
use Rattle.std.specs.Prelude.{ℕ, List, [], ◌∷◌, ◌++◌, Bool, false, Result, Ok, Err, if◌then◌else◌}
use Rattle.std.specs.Int.{w32, w64, to_le_bytes}
use Rattle.ca_base.specs.declared.codes.Hr.{Hr}
use Rattle.ca_base.specs.declared.codes.TheConstants.Hr as hr
use Rattle.ca_machine.specs.Formats.{format_payload}
use Rattle.reply_payload.specs.declared.payload.Payload.{Payload}
use Rattle.reply_payload.specs.declared.payload.Payload.TheVariants as payload

-- the bytes of a payload
abbrev pub payload_bytes : Payload → List ℕ
payload_bytes payload.Nothing = []
payload_bytes (payload.Number n) = to_le_bytes w32 n
payload_bytes (payload.Long n) = to_le_bytes w64 n
payload_bytes (payload.Longs a b) = to_le_bytes w64 a ++ to_le_bytes w64 b
payload_bytes (payload.Format f) = format_payload f
payload_bytes (payload.Closest f) = format_payload f
payload_bytes (payload.Period frames failed) = to_le_bytes w32 frames ++ (if failed then 1 else 0) ∷ []

-- its code: S_FALSE with the closest format
abbrev pub payload_code : Payload → Hr
payload_code (payload.Closest f) = hr.S_FALSE
payload_code _ = hr.S_OK

-- the code and the payload that a call is answered with
abbrev pub code_of : Result Payload Hr → Hr
code_of (Ok p) = payload_code p
code_of (Err code) = code

abbrev pub payload_of : Result Payload Hr → List ℕ
payload_of (Ok p) = payload_bytes p
payload_of (Err code) = []

-- the code of a call that puts its payload itself
abbrev pub told_code : Result (Unit {0}) Hr → Hr
told_code (Ok u) = hr.S_OK
told_code (Err code) = code

-- a period's answer
abbrev pub IsPeriod : Payload → Type 0
IsPeriod (payload.Period frames failed) = Unit {0}
IsPeriod _ = ⊥

-- an answer that says that a device failed
abbrev pub is_failure : Payload → Bool
is_failure (payload.Period frames failed) = failed
is_failure _ = false
