-- What refuses calls on parts (IPart, IAudioVolumeLevel, IAudioMute; the order of the rows is this project's own).
use Rattle.std.specs.Prelude.{◌≡◌, ℕ, not, nat_lt, nat_le, ◌||◌, ◌++◌, List, [], ◌∷◌, Bool, true, false}
use Rattle.std.specs.Prelude.{Result, Ok, Err, is_none, is_ok, if◌then◌else◌}
use Rattle.std.specs.Option.{option_map_or}
use Rattle.std.specs.Result.{result_err}
use Rattle.ca_base.specs.declared.codes.Hr.{Hr}
use Rattle.ca_base.specs.declared.codes.TheConstants.Hr as hr
use Rattle.ca_base.specs.declared.ids.Flow.{Flow}
use Rattle.ca_base.specs.Rows.{Row, first}
use Rattle.topology.specs.declared.parts.PartKind.{PartKind}
use Rattle.topology.specs.declared.parts.PartKind.TheVariants as kind
use Rattle.topology.specs.declared.parts.TheConstants.{CHANNELS, MAX_STEP, OUTGOING}
use Rattle.topology.specs.Parts.{next_part, part_at}
use Rattle.topology.specs.Settings.{Settings, with_mute, with_step}

-- the part isn't there
abbrev pub part_rows : Flow → ℕ → List (Row Hr)
part_rows flow number = (is_none (part_at flow number), hr.E_NOTFOUND) ∷ []

-- the next part in a direction: there is none of this number, no such direction, or none that way
-- (IPart::EnumPartsIncoming, IPart::EnumPartsOutgoing)
abbrev pub next_rows : Flow → ℕ → ℕ → List (Row Hr)
next_rows flow number direction =
    part_rows flow number
    ++ (nat_lt OUTGOING direction, hr.E_INVALIDARG)
    ∷ (is_none (next_part number direction), hr.E_NOTFOUND)
    ∷ []

-- it is of this kind
abbrev pub is_kind : PartKind → PartKind → Bool
is_kind kind.Connector kind.Connector = true
is_kind kind.Volume kind.Volume = true
is_kind kind.Mute kind.Mute = true
is_kind _ _ = false

-- the part is there and of another kind
abbrev pub lacks_control : PartKind → Flow → ℕ → Bool
lacks_control kind flow number = option_map_or (λ p. not (is_kind p.kind kind)) (part_at flow number) false

-- a control of a part: the part isn't there, or it has no such control (IPart::Activate)
abbrev pub control_rows : PartKind → Flow → ℕ → List (Row Hr)
control_rows kind flow number = part_rows flow number ++ (lacks_control kind flow number, hr.E_NOINTERFACE) ∷ []

-- the step of a channel is read (IPerChannelDbLevel::GetLevel)
abbrev pub level_rows : Flow → ℕ → ℕ → List (Row Hr)
level_rows flow number channel =
    control_rows kind.Volume flow number ++ (nat_le CHANNELS channel, hr.E_INVALIDARG) ∷ []

-- the step of a channel is set (IPerChannelDbLevel::SetLevel)
abbrev pub set_level_rows : Flow → ℕ → ℕ → ℕ → List (Row Hr)
set_level_rows flow number channel step =
    control_rows kind.Volume flow number
    ++ (nat_le CHANNELS channel || nat_lt MAX_STEP step, hr.E_INVALIDARG)
    ∷ []

-- the mute is read or set (IAudioMute::GetMute, IAudioMute::SetMute)
abbrev pub mute_rows : Flow → ℕ → List (Row Hr)
mute_rows flow number = control_rows kind.Mute flow number

-- what a call that reads answers: the first row that holds, or else what it reads
abbrev pub answered : {A : Type 0} → List (Row Hr) → A → Result A Hr
answered rows value = option_map_or (λ code. Err code) (first rows) (Ok value)

-- a call that sets answers the first row that holds, and changes nothing then
pub record Sets (rows : List (Row Hr)) (f : Settings → Settings) (result : Result (Unit {0}) Hr)
    (old new : Settings) : Type 0 where
  pub says : result_err result ≡ first rows
  pub now : new ≡ (if is_ok result then f old else old)

-- a call that sets the step of a channel at a volume part (IPerChannelDbLevel::SetLevel)
abbrev pub SetsLevel : ℕ → ℕ → ℕ → Result (Unit {0}) Hr → Settings → Settings → Type 0
SetsLevel part channel step result old new =
    Sets (set_level_rows old.flow part channel step) (with_step channel step) result old new

-- a call that sets the mute of a mute part (IAudioMute::SetMute)
abbrev pub SetsMute : ℕ → Bool → Result (Unit {0}) Hr → Settings → Settings → Type 0
SetsMute part mute result old new = Sets (mute_rows old.flow part) (with_mute mute) result old new
