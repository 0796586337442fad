-- What is set of an endpoint's topology (IAudioVolumeLevel, IAudioMute).
use Rattle.std.specs.Prelude.{◌≡◌, ℕ, ◌/◌, ◌^◌, ◌≤◌, List, [], ◌∷◌, length, All, Bool, false, slice_index, slice_set}
use Rattle.ca_base.specs.declared.ids.Flow.{Flow}
use Rattle.ca_base.specs.declared.limits.TheConstants.{MAX_LEVEL}
use Rattle.topology.specs.declared.parts.TheConstants.{CHANNELS, MAX_STEP}

-- which way the endpoint's sound goes, the step of each channel at the volume part (IAudioVolumeLevel), and whether the
-- mute part is muted (IAudioMute)
pub record Settings : Type 0 where
  pub flow : Flow
  pub steps : List ℕ
  pub mute : Bool

-- there is a step for each channel that a format may have, and none is above the greatest (this project's own)
pub record AreSettings (steps : List ℕ) : Type 0 where
  pub each : length steps ≡ CHANNELS
  pub within : All (λ step. step ≤ MAX_STEP) steps

-- of an endpoint that was just added: nothing is quieter than it was, and nothing is muted (this project's own)
abbrev pub settings_at_start : Flow → Settings
settings_at_start flow = record { flow = flow; steps = 0 ∷ 0 ∷ 0 ∷ 0 ∷ []; mute = false }

-- the step of a channel (IAudioVolumeLevel, IPerChannelDbLevel::GetLevel)
abbrev pub step_at : ℕ → Settings → ℕ
step_at channel s = slice_index s.steps channel

-- after a step of one channel was set (IAudioVolumeLevel, IPerChannelDbLevel::SetLevel)
abbrev pub with_step : ℕ → ℕ → Settings → Settings
with_step channel step s = record s { steps = slice_set s.steps channel step }

-- after the mute was set (IAudioMute::SetMute)
abbrev pub with_mute : Bool → Settings → Settings
with_mute mute s = record s { mute = mute }

-- the level that a step stands for: the whole level, halved once for each step (this project's own, in place of dB)
abbrev pub factor : ℕ → ℕ
factor step = MAX_LEVEL / 2 ^ step
