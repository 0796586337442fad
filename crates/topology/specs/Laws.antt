-- What holds of the parts of an endpoint and of what is set there (this project's own, over DeviceTopology). Public
-- contracts cite it.
use Rattle.std.specs.Prelude.{◌≡◌, ◌≢◌, ℕ, zero, suc, ◌+◌, ◌/◌, ◌<◌, ◌≤◌, List, Bool, true, false, is_none, is_ok}
use Rattle.std.specs.Prelude.{Option, Some, None, Result, Ok, Err}
use Rattle.std.specs.Option.{option_map_or}
use Rattle.ca_base.specs.declared.codes.Hr.{Hr}
use Rattle.ca_base.specs.declared.ids.Flow.{Flow}
use Rattle.ca_base.specs.declared.limits.TheConstants.{MAX_LEVEL}
use Rattle.ca_base.specs.Rows.{Row, first}
use Rattle.topology.specs.declared.parts.TheConstants.{FIRST_PART, INCOMING, LAST_PART, MAX_STEP, OUTGOING}
use Rattle.topology.specs.Parts.{next_part, part_after, part_at, part_before}
use Rattle.topology.specs.Rows.{Sets, SetsLevel, SetsMute, answered, level_rows, mute_rows}
use Rattle.topology.specs.Settings.{AreSettings, Settings, factor, step_at}

-- a step that was set is what is read next of this channel
abbrev pub StepIsRead : Type 0
StepIsRead =
    (part channel step : ℕ) (result : Result (Unit {0}) Hr) (old new : Settings) → AreSettings new.steps →
    SetsLevel part channel step result old new → is_ok result ≡ true →
    answered (level_rows new.flow part channel) (step_at channel new) ≡ Ok step

-- a mute that was set is what is read next
abbrev pub MuteIsRead : Type 0
MuteIsRead =
    (part : ℕ) (mute : Bool) (result : Result (Unit {0}) Hr) (old new : Settings) →
    SetsMute part mute result old new → is_ok result ≡ true → answered (mute_rows new.flow part) new.mute ≡ Ok mute

-- who sets the step of one channel leaves that of each other
abbrev pub OthersStay : Type 0
OthersStay =
    (part channel step other : ℕ) (result : Result (Unit {0}) Hr) (old new : Settings) → other ≢ channel →
    SetsLevel part channel step result old new → step_at other new ≡ step_at other old

-- steps and the mute are two values: who sets a step leaves the mute, and who sets the mute leaves all steps
abbrev pub TwoValues : Type 0
TwoValues =
    (part channel step : ℕ) (mute : Bool) (result : Result (Unit {0}) Hr) (old new : Settings) →
    (SetsLevel part channel step result old new → new.mute ≡ old.mute)
    × (SetsMute part mute result old new → new.steps ≡ old.steps)

-- a call that a row refuses answers that row, and changes nothing
abbrev pub RefusedChangesNothing : Type 0
RefusedChangesNothing =
    (rows : List (Row Hr)) (f : Settings → Settings) (code : Hr) (result : Result (Unit {0}) Hr) (old new : Settings) →
    Sets rows f result old new → first rows ≡ Some code → (result ≡ Err code) × (new ≡ old)

-- a link that is walked one way is walked back the other
abbrev pub LinksAreWalkedBack : Type 0
LinksAreWalkedBack =
    (here there : ℕ) →
    (part_after here ≡ Some there → part_before there ≡ Some here)
    × (part_before there ≡ Some here → part_after here ≡ Some there)

-- the next part is one of the endpoint's
abbrev pub NextIsThere : Type 0
NextIsThere =
    (flow : Flow) (part direction next : ℕ) → next_part part direction ≡ Some next →
    is_none (part_at flow next) ≡ false

-- the part that is so many links away in a direction, if there is one
abbrev pub walk : ℕ → ℕ → ℕ → Option ℕ
walk zero direction part = Some part
walk (suc links) direction part =
    option_map_or (λ next. walk links direction next) (next_part part direction) None

-- the chain has three links, from the first part to the last and back, and ends there
pub record ChainOfFour : Type 0 where
  pub out : walk 3 OUTGOING FIRST_PART ≡ Some LAST_PART
  pub back : walk 3 INCOMING LAST_PART ≡ Some FIRST_PART
  pub last : part_after LAST_PART ≡ None
  pub first : part_before FIRST_PART ≡ None

-- step 0 changes nothing, each step halves the level, and the greatest one doesn't silence
pub record StepsHalve : Type 0 where
  pub none : factor 0 ≡ MAX_LEVEL
  pub half : (step : ℕ) → factor (step + 1) ≡ factor step / 2
  pub some : (step : ℕ) → step ≤ MAX_STEP → 0 < factor step
