-- Lists in the order of numbers (this project's own).
use Rattle.std.specs.Prelude.{ℕ, ◌<◌, ◌≤◌, ◌==◌, List, [], ◌∷◌, map, if◌then◌else◌}

-- each one's number is above that of the one before it, and none is above the last one
abbrev pub Rise : {A : Type 0} → (A → ℕ) → ℕ → ℕ → List A → Type 0
Rise number low last [] = low ≤ last
Rise number low last (x ∷ list) = (low < number x) × Rise number (number x) last list

-- the list after a change of the one of this number, if it is there
abbrev pub changed_numbered : {A : Type 0} → (A → ℕ) → ℕ → (A → A) → List A → List A
changed_numbered number n f list = map (λ x. if number x == n then f x else x) list
