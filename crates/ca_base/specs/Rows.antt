-- Tables of refusals: the answer is that of the first row that holds (this project's own).
use Rattle.std.specs.Prelude.{List, [], ◌∷◌, Bool, Option, Some, None, if◌then◌else◌}

-- a row: whether it holds, and what it answers
abbrev pub Row : Type 0 → Type 0
Row A = Bool × A

-- the answer of the first row that holds
abbrev pub first : {A : Type 0} → List (Row A) → Option A
first [] = None
first (row ∷ rows) = if row.0 then Some row.1 else first rows
