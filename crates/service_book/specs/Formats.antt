-- What a format's bytes are to an endpoint (this project's own).
use Rattle.std.specs.Prelude.{◌≡◌, ℕ, ◌||◌, not, List, true, false, Option, Some, None, Result, Ok, Err, Bool}
use Rattle.std.specs.Prelude.{if◌then◌else◌}
use Rattle.ca_base.specs.declared.codes.Hr.{Hr}
use Rattle.ca_base.specs.declared.codes.TheConstants.Hr as hr
use Rattle.ca_base.specs.Rows.{first}
use Rattle.wave_format.specs.declared.format.Format.{Format}
use Rattle.wave_format.specs.Format.{IsValid, spelled}
use Rattle.device_registry.specs.declared.endpoint.Endpoint.{Endpoint}
use Rattle.ca_machine.specs.Formats.{admits, is_faulty, is_malformed}
use Rattle.ca_machine.specs.Streams.{supported_rows}
use Rattle.reply_payload.specs.declared.payload.Payload.{Payload}
use Rattle.reply_payload.specs.declared.payload.Payload.TheVariants as payload

-- an endpoint that mixes in this format doesn't take that of these bytes
abbrev pub is_unsupported : ℕ → Format → List ℕ → Bool
is_unsupported share mix bytes = is_faulty bytes || not (admits share mix (spelled bytes))

-- the format that these bytes spell, and an endpoint that mixes in `mix` takes
pub record IsAdmitted (share : ℕ) (mix : Format) (bytes : List ℕ) (format : Format) : Type 0 where
  pub spells : format ≡ spelled bytes
  pub valid : IsValid format
  pub admits : admits share mix format ≡ true

-- what was read: no format at all, one that the endpoint doesn't take, or one that it takes
abbrev pub Admitted : Result (Option Format) Hr → ℕ → Format → List ℕ → Type 0
Admitted (Err code) share mix bytes = (is_malformed bytes ≡ true) × (code ≡ hr.E_INVALIDARG)
Admitted (Ok None) share mix bytes = (is_malformed bytes ≡ false) × (is_unsupported share mix bytes ≡ true)
Admitted (Ok (Some format)) share mix bytes =
    (is_malformed bytes ≡ false) × (is_unsupported share mix bytes ≡ false) × IsAdmitted share mix bytes format

-- what IAudioClient::IsFormatSupported tells: nothing more if the endpoint takes the format, or the endpoint's own
abbrev pub support_payload : ℕ → Format → List ℕ → Payload
support_payload share mix bytes = if is_unsupported share mix bytes then payload.Closest mix else payload.Nothing

-- unless a row refuses it
abbrev pub TellsSupport : Result Payload Hr → ℕ → Endpoint → List ℕ → Type 0
TellsSupport (Err code) share e bytes = first (supported_rows share (Some e) bytes) ≡ Some code
TellsSupport (Ok answer) share e bytes =
    (first (supported_rows share (Some e) bytes) ≡ None) × (answer ≡ support_payload share e.format bytes)
