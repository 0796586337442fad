-- Frames: one sample a channel. In the model a frame is a list of numbers from -32768 to 32767; in a store it is one
-- word of 64 bits.
use Rattle.std.specs.Prelude.{◌≡◌, ◌<◌, length, slice_index, ℕ, zero, suc, ◌+◌, ◌*◌, ◌/◌, ◌%◌, ◌^◌, List, [], ◌∷◌}
use Rattle.std.specs.Prelude.{take, drop, map, ℤ, ◌⊎◌}
use Rattle.std.specs.List.{flat_map, range_with_len, AllByRecursion}
use Rattle.std.specs.Int.{w16, cast_unsigned, cast_signed, to_le_bytes, from_le_bytes}
use Rattle.std.specs.Int.RustNames.{FitsSigned}

-- a frame: a sample for each channel of the stream, from -32768 to 32767 (WAVEFORMATEX: nChannels, wBitsPerSample)
pub record IsFrame (channels : ℕ) (samples : List ℤ) : Type 0 where
  pub count : length samples ≡ channels
  pub within : AllByRecursion (FitsSigned w16) samples

-- each is a byte
abbrev pub AreBytes : List ℕ → Type 0
AreBytes bytes = (place : ℕ) → slice_index bytes place < 256

-- the frame word: channel c in bits 16c to 16c + 15, in two's complement (this project's own)
abbrev pub word_of : List ℤ → ℕ
word_of [] = 0
word_of (sample ∷ samples) = cast_unsigned w16 sample + 2 ^ 16 * word_of samples

-- the sample of a channel: bits 16c to 16c + 15 of the word, in two's complement (this project's own)
abbrev pub sample_at : ℕ → ℕ → ℤ
sample_at word channel = cast_signed w16 (word / 2 ^ (16 * channel) % 2 ^ 16)

-- the samples of the first channels of a word (this project's own)
abbrev pub frame_of : ℕ → ℕ → List ℤ
frame_of channels word = map (sample_at word) (range_with_len 0 channels)

-- a sample as bytes: 16 bits, little-endian (WAVEFORMATEX, WAVE_FORMAT_PCM)
abbrev pub sample_bytes : ℤ → List ℕ
sample_bytes sample = to_le_bytes w16 (cast_unsigned w16 sample)

-- a frame as bytes: its samples in the order of the channels (WAVEFORMATEX, WAVE_FORMAT_PCM)
abbrev pub frame_bytes : List ℤ → List ℕ
frame_bytes samples = flat_map sample_bytes samples

-- the samples that bytes hold, two bytes each; an odd byte at the end is none (WAVEFORMATEX, WAVE_FORMAT_PCM)
abbrev pub frame_from : List ℕ → List ℤ
frame_from [] = []
frame_from (low ∷ []) = []
frame_from (low ∷ high ∷ bytes) = cast_signed w16 (from_le_bytes w16 (low ∷ high ∷ [])) ∷ frame_from bytes

-- `count` frames, one after another, of two bytes a channel each (WAVEFORMATEX, nBlockAlign)
abbrev pub frames_from : ℕ → ℕ → List ℕ → List (List ℤ)
frames_from zero channels bytes = []
frames_from (suc count) channels bytes =
    frame_from (take (channels * 2) bytes) ∷ frames_from count channels (drop (channels * 2) bytes)

-- the bytes of a frame of 1 to 4 channels (WAVEFORMATEX, nBlockAlign)
abbrev pub IsBlock : ℕ → Type 0
IsBlock block = (block ≡ 2) ⊎ ((block ≡ 4) ⊎ ((block ≡ 6) ⊎ (block ≡ 8)))
