-- Lists of steps of a book, the newest first (this project's own).
use Rattle.std.specs.Prelude.{ℕ, ◌==◌, List, [], ◌∷◌, Bool, true, false, Option, Some, None}
use Rattle.std.specs.List.{find}
use Rattle.ducking.specs.declared.rows.DuckRow.{DuckRow}
use Rattle.ducking.specs.declared.rules.TheConstants.{RULE_80}
use Rattle.ducking.specs.Ducking.{DuckState, is_row, new_book, with_row, with_rule, without}

-- what calls do to a book: `set`, `remove` and `set_rule`
pub data Step : Type 0 where
  Set : DuckRow → Step
  Remove : ℕ → Step
  SetRule : ℕ → Step

-- the book after a step
abbrev pub after_step : Step → DuckState → DuckState
after_step (Set row) book = with_row row book
after_step (Remove session) book = without session book
after_step (SetRule rule) book = with_rule rule book

-- the book after all of them: the head is the step that came last
abbrev pub after : List Step → DuckState
after [] = new_book
after (step ∷ earlier) = after_step step (after earlier)

-- ---- what was said last

-- a step is about a session
abbrev pub names : ℕ → Step → Bool
names session (Set row) = is_row session row
names session (Remove other) = other == session
names session (SetRule rule) = false

-- a step sets the rule
abbrev pub is_of_rule : Step → Bool
is_of_rule (SetRule rule) = true
is_of_rule _ = false

-- the row that a step sets
abbrev pub row_of : Option Step → Option DuckRow
row_of (Some (Set row)) = Some row
row_of _ = None

-- the rule that a step sets, or that of the start
abbrev pub rule_of : Option Step → ℕ
rule_of (Some (SetRule rule)) = rule
rule_of _ = RULE_80

-- the row that was set last of a session, unless it was removed since or never set
abbrev pub last_row : ℕ → List Step → Option DuckRow
last_row session steps = row_of (find (names session) steps)

-- the rule that was set last
abbrev pub last_rule : List Step → ℕ
last_rule steps = rule_of (find is_of_rule steps)
