-- A buffer that holds at most `capacity` bytes, and has taken the memory for them. This project's own.
use Rattle.std.specs.Prelude.{ℕ, ◌≤◌, length}
use Rattle.ca_base.specs.Buffer.{Buffer}

-- the buffer holds at most `capacity` bytes, and can take them without asking for memory
pub record WithinCapacity (bytes : Buffer) (capacity : ℕ) : Type 0 where
  pub holds : length bytes.list ≤ capacity
  pub taken : capacity ≤ bytes.capacity
