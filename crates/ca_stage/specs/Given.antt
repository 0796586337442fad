-- The frames of a period of an endpoint that captures, by what its device gave (this project's own).
use Rattle.std.specs.Prelude.{ℕ, ◌-◌, ◌*◌, ◌/◌, List, ◌++◌, length, replicate, pos}
use Rattle.wave_format.specs.Frame.{frames_from}
use Rattle.ca_stage.specs.Stage.{Frame}

-- how many whole frames bytes are
abbrev pub whole_frames : ℕ → List ℕ → ℕ
whole_frames channels bytes = length bytes / (channels * 2)

-- the frames of a period of which a device gave these bytes: the whole ones, and silence behind them. A part of a frame
-- is given up
abbrev pub frames_given : ℕ → ℕ → List ℕ → List Frame
frames_given frames channels bytes =
    frames_from (whole_frames channels bytes) channels bytes
    ++ replicate (frames - whole_frames channels bytes) (replicate channels (pos 0))
