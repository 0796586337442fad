-- What a device gave as it was read, as answers to the machine.
use Rattle.std.proofs.Common.{◌≡◌, ℕ, ◌-◌, ◌++◌, List, [], ◌∷◌, length, take, flat_map, Bool, true, false, Option, Some}
use Rattle.std.proofs.Common.{None, refl, ap, ap₂, IfSome}
use Rattle.std.specs.Option.{option_map}
use Rattle.device_io.specs.DeviceLog.{DeviceLog, left_at, take_left}
use Rattle.ca_machine.specs.Plan.{Answer, IsReading, bytes_given, is_whole}
use Rattle.ca_machine.specs.Plan.Answer.{failed, gave}
use Rattle.ca_machine.specs.Step.{FaultsAlong}
use Rattle.ca_machine.specs.View.{GaveAlong, IsFront}
use Rattle.period_engine.specs.Feeds.{AreGiven, GivesFrom}
use Rattle.period_engine.specs.Offers.{RoseUnless}

-- the answers: each piece that was given, and a failure if the device failed
abbrev pub answers_given : ℕ → List (List ℕ) → Bool → List Answer
answers_given e [] true = []
answers_given e [] false = failed ∷ []
answers_given e (piece ∷ pieces) whole = gave e piece ∷ answers_given e pieces whole

pub answers_read : (e : ℕ) (pieces : List (List ℕ)) (whole : Bool) (size : ℕ) → AreGiven size pieces whole →
    IsReading e size (answers_given e pieces whole)
answers_read e [] true size given = given
answers_read e [] false size given = given
answers_read e ([] ∷ pieces) whole size given = (refl, given.0, ap₂ (answers_given e) given.1 given.2)
answers_read e ((byte ∷ piece) ∷ pieces) whole size given =
    (refl, given.0, answers_read e pieces whole (size - length (byte ∷ piece)) given.1)

pub whole_given : (e : ℕ) (pieces : List (List ℕ)) (whole : Bool) → is_whole (answers_given e pieces whole) ≡ whole
whole_given e [] true = refl
whole_given e [] false = refl
whole_given e (piece ∷ pieces) whole = whole_given e pieces whole

pub joined_given : (e : ℕ) (pieces : List (List ℕ)) (whole : Bool) →
    bytes_given (answers_given e pieces whole) ≡ flat_map (λ piece. piece) pieces
joined_given e [] true = refl
joined_given e [] false = refl
joined_given e (piece ∷ pieces) whole = ap (λ bytes. piece ++ bytes) (joined_given e pieces whole)

pub fronts_given : (e : ℕ) (pieces : List (List ℕ)) (whole : Bool) (told told' : Option (List DeviceLog)) →
    GivesFrom e told pieces told' → GaveAlong told (answers_given e pieces whole) told'
fronts_given e [] true told told' gives = gives
fronts_given e [] false told told' gives = gives
fronts_given e (piece ∷ pieces) whole told told' gives = (
  front told gives.0 gives.1,
  fronts_given e pieces whole (option_map (take_left e (length piece)) told) told' gives.2,
)
  where
    front : (told : Option (List DeviceLog)) → IfSome told (λ logs. piece ≡ take (length piece) (left_at e logs)) →
        IfSome told (λ logs. piece ≡ [] → left_at e logs ≡ []) → IfSome told (λ logs. IsFront piece (left_at e logs))
    front None h k = tt
    front (Some logs) h k = (h, k)

pub faults_given : (e : ℕ) (pieces : List (List ℕ)) (whole : Bool) (before after : ℕ) → RoseUnless whole before after →
    FaultsAlong before (answers_given e pieces whole) after
faults_given e [] true before after rose = rose
faults_given e [] false before after rose = (after, rose, refl)
faults_given e (piece ∷ pieces) whole before after rose = faults_given e pieces whole before after rose
