-- Counts of faults of the objects of the environment. This project's own.
use Rattle.std.specs.Prelude.{◌≡◌, ℕ, ◌-◌, ◌^◌, ◌<◌, ◌≤◌, Result, Ok, Err}

-- the count rose, or saturates at its last value, 2^64 - 1
pub record Rose (before after : ℕ) : Type 0 where
  pub grows : before ≤ after
  pub moves : before < 2 ^ 64 - 1 → before < after

-- a call answers Failed only if the count rose in it, and leaves the count as it is if it answers Ok
abbrev pub Counts : {A F : Type 0} → Result A F → ℕ → ℕ → Type 0
Counts (Ok x) before after = after ≡ before
Counts (Err f) before after = Rose before after
