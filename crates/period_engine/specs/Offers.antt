-- What an endpoint's device did with bytes that it was offered (this project's own).
use Rattle.std.specs.Prelude.{◌≡◌, ℕ, ◌-◌, ◌<◌, ◌≤◌, List, [], ◌∷◌, length, take, drop, Bool, true, false, Option}
use Rattle.std.specs.Option.{option_map}
use Rattle.ca_base.specs.Faults.{Rose}
use Rattle.device_io.specs.DeviceLog.{DeviceLog, add_all}

-- call by call the device took some of the rest: in the end all of it, or it failed with some left
abbrev pub AreTaken : ℕ → List ℕ → Bool → Type 0
AreTaken size [] true = size ≡ 0
AreTaken size [] false = 0 < size
AreTaken size (n ∷ counts) whole = (0 < n) × (n ≤ size) × AreTaken (size - n) counts whole

-- the pieces that it took
abbrev pub pieces_taken : ℕ → List ℕ → List ℕ → List (ℕ × List ℕ)
pieces_taken e bytes [] = []
pieces_taken e bytes (n ∷ counts) = (e, take n bytes) ∷ pieces_taken e (drop n bytes) counts

-- the count of faults rose exactly if the device failed
abbrev pub RoseUnless : Bool → ℕ → ℕ → Type 0
RoseUnless true before after = after ≡ before
RoseUnless false before after = Rose before after

-- the bytes were offered to an endpoint's device, which took all of them or failed
pub record Offers (e : ℕ) (bytes : List ℕ) (whole : Bool) (faults : ℕ) (told : Option (List DeviceLog)) (faults' : ℕ)
    (told' : Option (List DeviceLog)) : Type 0 where
  pub counts : List ℕ
  pub taken : AreTaken (length bytes) counts whole
  pub tells : told' ≡ option_map (add_all (pieces_taken e bytes counts)) told
  pub rises : RoseUnless whole faults faults'
