-- Where the pending bytes are in their buffer: no promise cites it, and only the proofs need it. This project's own.
use Rattle.std.specs.Prelude.{ℕ, ◌+◌, ◌≤◌, List}
use Rattle.ca_base.specs.declared.limits.TheConstants.{LENGTH_SIZE, LONGEST_BODY, READ_SIZE}

-- from start to end, in a buffer that has at most a frame and a piece
pub record IsWindow (start end size : ℕ) : Type 0 where
  pub ordered : start ≤ end
  pub within : end ≤ size
  pub bounded : size ≤ LENGTH_SIZE + LONGEST_BODY + READ_SIZE

-- pending bytes, the capacity of their buffer from their front on, and its whole size
pub record PendingBytes : Type 0 where
  pub list : List ℕ
  pub capacity : ℕ
  pub size : ℕ
