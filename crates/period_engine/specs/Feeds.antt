-- What an endpoint's device gave, and what a period of the endpoint makes of entries by it (this project's own).
use Rattle.std.specs.Prelude.{◌≡◌, ℕ, ◌+◌, ◌-◌, ◌*◌, ◌<◌, ◌≤◌, ◌==◌, List, [], ◌∷◌, length, take, flat_map}
use Rattle.std.specs.Prelude.{Bool, true, false, Option, IfSome, if◌then◌else◌, Result, IfOk, is_ok}
use Rattle.std.specs.List.{AllZip}
use Rattle.std.specs.Option.{option_map}
use Rattle.ca_base.specs.declared.environment.Failed.{Failed}
use Rattle.wave_format.specs.Frame.{frames_from}
use Rattle.device_io.specs.DeviceLog.{DeviceLog, left_at, take_left}
use Rattle.ca_base.specs.declared.ids.Gate.TheVariants as gate
use Rattle.ca_base.specs.declared.ids.StreamKind.{StreamKind}
use Rattle.ca_base.specs.declared.ids.StreamKind.TheVariants as kind
use Rattle.buffer_ring.specs.declared.step.Deed.TheVariants as deed
use Rattle.buffer_ring.specs.declared.step.StoreStep.{StoreStep}
use Rattle.buffer_ring.specs.declared.step.StoreStep.TheVariants as step
use Rattle.ca_stage.specs.Given.{frames_given, whole_frames}
use Rattle.ca_stage.specs.Periods.{fed_if, is_hearing, is_recording}
use Rattle.ca_stage.specs.Stage.{Stream}
use Rattle.client_state.specs.Frames.{frames_in}
use Rattle.period_engine.specs.declared.entry.StreamEntry.{StreamEntry}
use Rattle.period_engine.specs.Offers.{RoseUnless}
use Rattle.period_engine.specs.SubSteps.{Turned}

-- words were put into a store of so much room that was found open, if there was room for all of them
abbrev pub PutsIfRoom : {E : Type 0} → (E → List StoreStep → E → Type 0) → ℕ → List ℕ → Bool → E → E → Type 0
PutsIfRoom moves room words true a b = (held found : ℕ) × (held + length words ≤ room)
    × moves a (step.Acts held gate.Open deed.Looks ∷ step.Acts found gate.Open (deed.Puts words) ∷ []) b
PutsIfRoom moves room words false a b = (held : ℕ) × (room < held + length words)
    × moves a (step.Acts held gate.Open deed.Looks ∷ []) b

-- whether a period of an endpoint offers packets to a stream, if it is of this kind
abbrev pub is_fed : StreamKind → ℕ → Stream → Bool
is_fed kind.Render number s = false
is_fed kind.Capture number s = is_recording number s
is_fed kind.Loopback number s = is_hearing number s

-- an entry whose stream was offered the packet of these words, if it is one of a test
abbrev pub TurnedBy : {E : Type 0} → (E → List StoreStep → E → Type 0) → (Stream → Bool) → List ℕ → StreamEntry E
    → StreamEntry E → Type 0
TurnedBy moves test words a b = Turned moves (fed_if test (frames_in a.channels words)) a b

-- read by read a device gave pieces of the bytes that were asked for: in the end all of them, or a read gave none,
-- which is the end of what it has; or it failed with some missing
abbrev pub AreGiven : ℕ → List (List ℕ) → Bool → Type 0
AreGiven size [] true = size ≡ 0
AreGiven size [] false = 0 < size
AreGiven size ([] ∷ pieces) whole = (0 < size) × (pieces ≡ []) × (whole ≡ true)
AreGiven size ((byte ∷ piece) ∷ pieces) whole =
    (length (byte ∷ piece) ≤ size) × AreGiven (size - length (byte ∷ piece)) pieces whole

-- if a device tells what it has, it gave the front of that, read by read
abbrev pub GivesFrom : ℕ → Option (List DeviceLog) → List (List ℕ) → Option (List DeviceLog) → Type 0
GivesFrom number told [] told' = told' ≡ told
GivesFrom number told (piece ∷ pieces) told' =
    IfSome told (λ logs. piece ≡ take (length piece) (left_at number logs))
    × IfSome told (λ logs. piece ≡ [] → left_at number logs ≡ [])
    × GivesFrom number (option_map (take_left number (length piece)) told) pieces told'

-- the frames that a period offers, if its device gave these bytes and didn't fail: none if no whole frame came
abbrev pub feeds_given : ℕ → ℕ → ℕ → List ℕ → Bool → Stream → Stream
feeds_given number p channels bytes false s = s
feeds_given number p channels bytes true s =
    if whole_frames channels bytes == 0 then s else fed_if (is_recording number) (frames_given p channels bytes) s

-- how many frames it tells
abbrev pub frames_told : ℕ → ℕ → List ℕ → ℕ
frames_told p channels bytes = if whole_frames channels bytes == 0 then 0 else p

-- an endpoint's device was read for as many bytes as there are, and in the end they begin with what it gave
pub record GivesBytes (number : ℕ) (result : Result ℕ Failed) (bytes : List ℕ) (faults : ℕ)
    (told : Option (List DeviceLog)) (faults' : ℕ) (told' : Option (List DeviceLog)) : Type 0 where
  pub pieces : List (List ℕ)
  pub given : AreGiven (length bytes) pieces (is_ok result)
  pub tells : GivesFrom number told pieces told'
  pub rises : RoseUnless (is_ok result) faults faults'
  pub within : IfOk result (λ n. n ≤ length bytes)
  pub front : IfOk result (λ n. take n bytes ≡ flat_map (λ piece. piece) pieces)

-- it was read for `p` frames, and in the end the bytes are those frames, with silence for what didn't come
pub record GivesFrames (number p channels : ℕ) (result : Result ℕ Failed) (bytes : List ℕ) (faults : ℕ)
    (told : Option (List DeviceLog)) (faults' : ℕ) (told' : Option (List DeviceLog)) : Type 0 where
  pub pieces : List (List ℕ)
  pub given : AreGiven (p * channels * 2) pieces (is_ok result)
  pub tells : GivesFrom number told pieces told'
  pub rises : RoseUnless (is_ok result) faults faults'
  pub whole : IfOk result (λ n. n ≡ whole_frames channels (flat_map (λ piece. piece) pieces))
  pub frames_are : IfOk result
      (λ n. frames_from p channels bytes ≡ frames_given p channels (flat_map (λ piece. piece) pieces))

-- A period of an endpoint that captures: its device was read, and each entry that records it was offered what it gave.
pub record Captures {E : Type 0} (moves : E → List StoreStep → E → Type 0) (number p channels : ℕ)
    (result : Result ℕ Failed) (old new : List (StreamEntry E)) (faults : ℕ) (told : Option (List DeviceLog))
    (faults' : ℕ) (told' : Option (List DeviceLog)) : Type 0 where
  pub pieces : List (List ℕ)
  pub given : AreGiven (p * channels * 2) pieces (is_ok result)
  pub tells : GivesFrom number told pieces told'
  pub rises : RoseUnless (is_ok result) faults faults'
  pub turned : AllZip (Turned moves (feeds_given number p channels (flat_map (λ piece. piece) pieces) (is_ok result)))
      old new
  pub frames_are : IfOk result (λ n. n ≡ frames_told p channels (flat_map (λ piece. piece) pieces))
