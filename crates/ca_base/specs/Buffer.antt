-- A list of bytes with the memory that it has taken. This project's own.
use Rattle.std.specs.Prelude.{ℕ, List}

-- the bytes, and how many fit without asking for memory, those of the list among them
pub record Buffer : Type 0 where
  pub list : List ℕ
  pub capacity : ℕ
