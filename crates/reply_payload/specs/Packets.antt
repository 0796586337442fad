-- A packet as the payload of a reply (IAudioCaptureClient::GetBuffer; its wire form is this project's own).
use Rattle.std.specs.Prelude.{ℕ, List, ◌++◌, map, Bool, if◌then◌else◌}
use Rattle.std.specs.List.{flat_map}
use Rattle.std.specs.Int.{w32, w64, to_le_bytes}
use Rattle.ca_base.specs.declared.values.TheConstants.{BUFFER_DATA_DISCONTINUITY}
use Rattle.wave_format.specs.Frame.{frame_of, frame_bytes}

-- what is ahead of a packet's frames: how many they are, its flags (AUDCLNT_BUFFERFLAGS) and its position
abbrev pub packet_head : ℕ → Bool → ℕ → List ℕ
packet_head frames follows_gap position =
    to_le_bytes w32 frames
    ++ to_le_bytes w32 (if follows_gap then BUFFER_DATA_DISCONTINUITY else 0)
    ++ to_le_bytes w64 position

-- the bytes of the frames in words of a store, one frame in each word
abbrev pub frames_bytes : ℕ → List ℕ → List ℕ
frames_bytes channels words = flat_map frame_bytes (map (frame_of channels) words)
