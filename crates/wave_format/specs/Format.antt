-- Formats of sound as bytes: WAVEFORMATEX and WAVEFORMATEXTENSIBLE (mmreg.h).
use Rattle.std.specs.Prelude.{◌≡◌, ℕ, ◌+◌, ◌-◌, ◌*◌, ◌/◌, ◌≤◌, Bool, true, false, not, ◌==◌, ◌&&◌, ◌||◌, nat_lt}
use Rattle.std.specs.Prelude.{nat_le, if◌then◌else◌, List, [], ◌∷◌, ◌++◌, length, Option, Some, None, Result, Ok, Err}
use Rattle.std.specs.List.{list_any}
use Rattle.std.specs.Str.{bytes_eq}
use Rattle.ca_base.specs.Rows.{Row, first}
use Rattle.wave_format.specs.declared.fields.Fields.{Fields}
use Rattle.wave_format.specs.declared.format.Format.{Format}
use Rattle.wave_format.specs.declared.format.FormatFault.{FormatFault}
use Rattle.wave_format.specs.declared.layout.TheConstants.{PLAIN_TAG, EXTENSIBLE_TAG, PLAIN_LENGTH, EXTRA_SIZE}
use Rattle.wave_format.specs.declared.layout.TheConstants.{SAMPLE_BITS, SAMPLE_SIZE, MAX_CHANNELS, RATES, SUB_FORMAT}
use Rattle.wave_format.specs.declared.layout.TheConstants.{UNITS_A_SECOND, TAG_AT}
use Rattle.wave_format.specs.Fields.{Extension, field, fields_of, field_bytes, extension_of, extension_bytes}

-- the tag, if the bytes have one
abbrev pub tag_of : List ℕ → Option ℕ
tag_of bytes = if nat_lt (length bytes) 2 then None else Some (field TAG_AT 2 bytes)

-- the fields are those of a WAVEFORMATEXTENSIBLE
abbrev pub is_extensible : Fields → Bool
is_extensible f = f.tag == EXTENSIBLE_TAG

-- WAVEFORMATEX: cbSize bytes follow the first 18; with WAVE_FORMAT_PCM it is ignored
abbrev pub whole_length : Fields → ℕ
whole_length f = if f.tag == PLAIN_TAG then PLAIN_LENGTH else PLAIN_LENGTH + f.extra

-- the tags that the service takes: WAVE_FORMAT_PCM, and WAVE_FORMAT_EXTENSIBLE with its own cbSize (this project's own)
abbrev pub is_known : Fields → Bool
is_known f = f.tag == PLAIN_TAG || (is_extensible f && f.extra == EXTRA_SIZE)

-- samples have 16 bits, all of them valid (this project's own)
abbrev pub has_sample_bits : Fields → Extension → Bool
has_sample_bits f e = f.bits == SAMPLE_BITS && (not (is_extensible f) || e.valid_bits == SAMPLE_BITS)

-- 1 to 4 channels (this project's own)
abbrev pub has_channels : ℕ → Bool
has_channels channels = nat_le 1 channels && nat_le channels MAX_CHANNELS

-- the sample rates that the service takes (this project's own)
abbrev pub is_listed : ℕ → Bool
is_listed rate = list_any (λ listed. listed == rate) RATES

-- samples are whole numbers (WAVEFORMATEXTENSIBLE: SubFormat)
abbrev pub has_sub_format : Fields → Extension → Bool
has_sub_format f e = not (is_extensible f) || bytes_eq e.sub_format SUB_FORMAT

-- the faults of a format of `size` bytes in their order, each with the test for it (this project's own)
abbrev pub field_rows : ℕ → Fields → Extension → List (Row ℕ)
field_rows size f e =
    (nat_lt size PLAIN_LENGTH, 1)
    ∷ (not (size == whole_length f), 2)
    ∷ (not (is_known f), 3)
    ∷ (not (has_sample_bits f e), 4)
    ∷ (not (has_channels f.channels), 5)
    ∷ (not (is_listed f.rate), 6)
    ∷ (not (f.block_align == f.channels * SAMPLE_SIZE), 7)
    ∷ (not (f.average == f.rate * f.block_align), 8)
    ∷ (not (has_sub_format f e), 9)
    ∷ []

-- the faults of a format's bytes
abbrev pub fault_rows : List ℕ → List (Row ℕ)
fault_rows bytes = field_rows (length bytes) (fields_of bytes) (extension_of bytes)

-- the format that fields without a fault spell: any mask is kept
abbrev pub format_of : Fields → Extension → Format
format_of f e = record {
  channels = f.channels;
  rate = f.rate;
  extensible = is_extensible f;
  mask = if is_extensible f then e.mask else 0;
}

-- the format that bytes without a fault spell
abbrev pub spelled : List ℕ → Format
spelled bytes = format_of (fields_of bytes) (extension_of bytes)

-- the first fault, or else the format
abbrev pub unless_fault : Option ℕ → Format → Result Format FormatFault
unless_fault None format = Ok format
unless_fault (Some number) format = Err (record { 0 = number })

-- what the bytes spell: a format, or the first fault
abbrev pub format_at : List ℕ → Result Format FormatFault
format_at bytes = unless_fault (first (fault_rows bytes)) (spelled bytes)

-- the fields of a format with a tag and a cbSize (WAVEFORMATEX: nBlockAlign and nAvgBytesPerSec follow from the others)
abbrev pub format_fields : ℕ → ℕ → Format → Fields
format_fields tag extra format = record {
  tag = tag;
  channels = format.channels;
  rate = format.rate;
  average = format.rate * (format.channels * SAMPLE_SIZE);
  block_align = format.channels * SAMPLE_SIZE;
  bits = SAMPLE_BITS;
  extra = extra;
}

-- what a WAVEFORMATEXTENSIBLE adds for a format
abbrev pub format_extension : Format → Extension
format_extension format = record { valid_bits = SAMPLE_BITS; mask = format.mask; sub_format = SUB_FORMAT }

-- a WAVEFORMATEX of a format with WAVE_FORMAT_PCM and a cbSize
abbrev pub plain_spelling : ℕ → Format → List ℕ
plain_spelling extra format = field_bytes (format_fields PLAIN_TAG extra format)

-- a WAVEFORMATEXTENSIBLE of a format
abbrev pub extensible_spelling : Format → List ℕ
extensible_spelling format =
    field_bytes (format_fields EXTENSIBLE_TAG EXTRA_SIZE format) ++ extension_bytes (format_extension format)

-- the bytes of a format: with WAVE_FORMAT_PCM cbSize is 0
abbrev pub spelling : Format → List ℕ
spelling format = if format.extensible then extensible_spelling format else plain_spelling 0 format

-- a format that bytes can spell: it has no mask unless it is extensible (this project's own)
pub record IsValid (format : Format) : Type 0 where
  pub some_channel : 1 ≤ format.channels
  pub few_channels : format.channels ≤ MAX_CHANNELS
  pub listed_rate : is_listed format.rate ≡ true
  pub no_mask : format.extensible ≡ false → format.mask ≡ 0

-- the frames of a time in units of 100 ns, rounded up (this project's own)
abbrev pub frames_of_time : ℕ → ℕ → ℕ
frames_of_time rate time = (rate * time + (UNITS_A_SECOND - 1)) / UNITS_A_SECOND
