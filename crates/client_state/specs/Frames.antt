-- Words of a store as frames (this project's own).
use Rattle.std.specs.Prelude.{ℕ, ℤ, List, map}
use Rattle.wave_format.specs.Frame.{frame_of}

-- the frames in words of a render store, of this many channels: one in each word
abbrev pub frames_in : ℕ → List ℕ → List (List ℤ)
frames_in channels words = map (frame_of channels) words
