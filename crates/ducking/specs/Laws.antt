-- What holds after every list of steps, by what was said last of each session (this project's own, over
-- IAudioSessionControl2::SetDuckingPreference). Public contracts cite it.
use Rattle.std.specs.Prelude.{◌≡◌, ◌≢◌, ℕ, ◌==◌, List, [], ◌∷◌, length, Bool, true, false, Some}
use Rattle.std.specs.List.{list_any}
use Rattle.std.specs.Option.{option_map_or}
use Rattle.ca_base.specs.declared.limits.TheConstants.{MAX_LEVEL}
use Rattle.ducking.specs.declared.rows.DuckRow.{DuckRow}
use Rattle.ducking.specs.Ducking.{count_of, is_active_comms, level_of, reduced, row_at}
use Rattle.ducking.specs.Steps.{Step, after, last_row, last_rule}

-- the book has of each session the row that was set last
abbrev pub LastRowStands : Type 0
LastRowStands = (steps : List Step) (session : ℕ) → row_at session (after steps).rows ≡ last_row session steps

-- and the rule that was set last
abbrev pub LastRuleStands : Type 0
LastRuleStands = (steps : List Step) → (after steps).rule ≡ last_rule steps

-- by its last row a session is an active communications session
abbrev pub is_active : ℕ → List Step → Bool
is_active session steps = option_map_or is_active_comms (last_row session steps) false

-- by the last rows a session is ducked: it is no communications session and has not opted out, and another one is an
-- active communications session
pub record IsDucked (session : ℕ) (steps : List Step) : Type 0 where
  pub row : DuckRow
  pub last : last_row session steps ≡ Some row
  pub plain : row.comms ≡ false
  pub stays : row.optout ≡ false
  pub other : ℕ
  pub apart : other ≢ session
  pub active : is_active other steps ≡ true

-- the level is that of the last rule if the session is ducked, or else the highest
abbrev pub LevelIsOfLastRows : Type 0
LevelIsOfLastRows =
    (steps : List Step) (session : ℕ) →
    (IsDucked session steps → level_of session (after steps) ≡ reduced (last_rule steps))
    × (¬ (IsDucked session steps) → level_of session (after steps) ≡ MAX_LEVEL)

-- a number is one of these
abbrev pub is_among : ℕ → List ℕ → Bool
is_among session sessions = list_any (λ s. s == session) sessions

-- none of the numbers is there twice
abbrev pub AreOnce : List ℕ → Type 0
AreOnce [] = Unit {0}
AreOnce (s ∷ sessions) = (is_among s sessions ≡ false) × AreOnce sessions

-- these are the active communications sessions by the last rows, each once
pub record AreActive (steps : List Step) (sessions : List ℕ) : Type 0 where
  pub once : AreOnce sessions
  pub those : (session : ℕ) → is_among session sessions ≡ is_active session steps

-- the count is how many active communications sessions there are
abbrev pub CountIsOfLastRows : Type 0
CountIsOfLastRows =
    (steps : List Step) → (sessions : List ℕ) × AreActive steps sessions
    × (count_of (after steps).rows ≡ length sessions)
