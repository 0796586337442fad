-- A source and a sink over a reader and a writer of the system. This project's own.
use Rattle.std.specs.Prelude.{ℕ, List, Option}

-- what the reader has left, if that is known, and how many calls failed
pub record ReaderState : Type 0 where
  pub bytes : Option (List ℕ)
  pub faults : ℕ

-- what the writer and the buffer before it hold together, if that is known, what waits in the buffer, and how many
-- calls failed
pub record WriterState : Type 0 where
  pub bytes : Option (List ℕ)
  pub waiting : List ℕ
  pub faults : ℕ
