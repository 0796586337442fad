-- Frames that go into a store (this project's own).
use Rattle.std.specs.Prelude.{◌≡◌, ℕ, ◌+◌, length}
use Rattle.buffer_ring.specs.Kept.{Kept}

-- a store took `count` words more, and is the same otherwise
pub record TookMore (count : ℕ) (old new : Kept) : Type 0 where
  pub size : new.cap ≡ old.cap
  pub way : new.dir ≡ old.dir
  pub opens : new.gate ≡ old.gate
  pub more : length new.words ≡ length old.words + count
