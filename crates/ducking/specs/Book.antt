-- What holds of the book at any time (this project's own).
use Rattle.std.specs.Prelude.{◌≡◌, ◌≤◌, List, [], ◌∷◌, length, None}
use Rattle.std.specs.Vec.{vec_capacity}
use Rattle.ca_base.specs.declared.limits.TheConstants.{SESSIONS}
use Rattle.ducking.specs.declared.book.DuckBook.TheInside.{Inside}
use Rattle.ducking.specs.declared.rows.DuckRow.{DuckRow}
use Rattle.ducking.specs.declared.rules.TheConstants.{RULE_NOTHING}
use Rattle.ducking.specs.Ducking.{count_of, row_at}

-- no two rows are of one session
abbrev pub Distinct : List DuckRow → Type 0
Distinct [] = Unit {0}
Distinct (row ∷ rows) = (row_at row.session.0 rows ≡ None) × Distinct rows

-- each session has one row, there are at most as many as there is memory for, and the active communications sessions
-- are counted
pub record IsBook (b : Inside) : Type 0 where
  pub distinct : Distinct b.rows.items
  pub few : length b.rows.items ≤ SESSIONS
  pub counted : b.count ≡ count_of b.rows.items
  pub rule : b.rule ≤ RULE_NOTHING
  pub room : SESSIONS ≤ vec_capacity b.rows
