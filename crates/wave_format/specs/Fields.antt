-- The fields of WAVEFORMATEX and WAVEFORMATEXTENSIBLE (mmreg.h), and their bytes. Numbers are little-endian.
use Rattle.std.specs.Prelude.{ℕ, zero, suc, ◌+◌, ◌*◌, List, ◌++◌, slice_index, drop}
use Rattle.std.specs.Int.{w16, w32, to_le_bytes}
use Rattle.wave_format.specs.declared.fields.Fields.{Fields}
use Rattle.wave_format.specs.declared.layout.TheConstants.{TAG_AT, CHANNELS_AT, RATE_AT, AVERAGE_AT, BLOCK_ALIGN_AT}
use Rattle.wave_format.specs.declared.layout.TheConstants.{BITS_AT, EXTRA_AT, VALID_BITS_AT, MASK_AT, SUB_FORMAT_AT}

-- the little-endian number of `size` bytes at a place
abbrev pub field : ℕ → ℕ → List ℕ → ℕ
field place zero bytes = 0
field place (suc size) bytes = slice_index bytes place + 256 * field (place + 1) size bytes

-- WAVEFORMATEX: wFormatTag, nChannels, nSamplesPerSec, nAvgBytesPerSec, nBlockAlign, wBitsPerSample and cbSize
abbrev pub fields_of : List ℕ → Fields
fields_of bytes = record {
  tag = field TAG_AT 2 bytes;
  channels = field CHANNELS_AT 2 bytes;
  rate = field RATE_AT 4 bytes;
  average = field AVERAGE_AT 4 bytes;
  block_align = field BLOCK_ALIGN_AT 2 bytes;
  bits = field BITS_AT 2 bytes;
  extra = field EXTRA_AT 2 bytes;
}

-- the fields one after another
abbrev pub field_bytes : Fields → List ℕ
field_bytes f =
    to_le_bytes w16 f.tag
    ++ to_le_bytes w16 f.channels
    ++ to_le_bytes w32 f.rate
    ++ to_le_bytes w32 f.average
    ++ to_le_bytes w16 f.block_align
    ++ to_le_bytes w16 f.bits
    ++ to_le_bytes w16 f.extra

-- what a WAVEFORMATEXTENSIBLE adds
pub record Extension : Type 0 where
  pub valid_bits : ℕ
  pub mask : ℕ
  pub sub_format : List ℕ

-- WAVEFORMATEXTENSIBLE: wValidBitsPerSample, dwChannelMask and SubFormat
abbrev pub extension_of : List ℕ → Extension
extension_of bytes = record {
  valid_bits = field VALID_BITS_AT 2 bytes;
  mask = field MASK_AT 4 bytes;
  sub_format = drop SUB_FORMAT_AT bytes;
}

-- its fields one after another
abbrev pub extension_bytes : Extension → List ℕ
extension_bytes e = to_le_bytes w16 e.valid_bits ++ to_le_bytes w32 e.mask ++ e.sub_format
