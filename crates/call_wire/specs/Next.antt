-- What is at the front of the bytes of a file (this project's own). Public contracts cite it.
use Rattle.std.specs.Prelude.{◌≡◌, ℕ, ◌+◌, ◌<◌, ◌≤◌, List, length, take, drop, true, is_some}
use Rattle.call_wire.specs.declared.reading.Step.{Step}
use Rattle.call_wire.specs.declared.reading.Step.TheVariants as step
use Rattle.ca_base.specs.declared.limits.TheConstants.{LENGTH_SIZE, LONGEST_BODY}
use Rattle.ca_model.specs.Spelling.{IsEvent, IsIncomplete, IsMalformed, frame, stated_length}
use Rattle.call_wire.specs.Reading.{read_body, takes_memory}

-- the step says what is at the front: an event and the length of its frame, an incomplete prefix, or neither
abbrev pub IsNext : Step → List ℕ → Type 0
IsNext (step.Event e used) bs = IsEvent e × (used ≤ length bs) × (take used bs ≡ frame e)
IsNext step.NeedMore bs = IsIncomplete bs
IsNext step.Malformed bs = IsMalformed bs

-- a whole frame of valid length is at the front
abbrev pub IsWhole : List ℕ → Type 0
IsWhole bs =
    (0 < stated_length bs) × (stated_length bs ≤ LONGEST_BODY) × (LENGTH_SIZE + stated_length bs ≤ length bs)

-- the body of the frame at the front
abbrev pub stated_body : List ℕ → List ℕ
stated_body bs = take (stated_length bs) (drop LENGTH_SIZE bs)

-- memory may run out: a whole frame of valid length is at the front, its body is one that can be read, and its event
-- takes memory
pub record IsOutOfMemory (bs : List ℕ) : Type 0 where
  pub whole : IsWhole bs
  pub readable : is_some (read_body (stated_body bs)) ≡ true
  pub takes : takes_memory (stated_body bs) ≡ true
