-- How the loop ends if its input is whole events and nothing failed: what `whole_input_completes` says (this project's
-- own).
use Rattle.std.specs.Prelude.{◌≡◌, ℕ, ◌<◌, List, [], length, map, Option, Some}
use Rattle.std.specs.List.{AllByRecursion}
use Rattle.ca_base.specs.Faults.{Rose}
use Rattle.ca_base.specs.declared.limits.TheConstants.{LONGEST_INPUT}
use Rattle.ca_model.specs.declared.event.Event.{Event}
use Rattle.ca_model.specs.declared.reply.Reply.{Reply}
use Rattle.ca_model.specs.Spelling.{IsEvent, fields, frames}
use Rattle.event_loop.specs.Ends.{Moment, Course, Answered, Ends, RoseIf, WroteEach, is_read_fault, is_write_fault}
use Rattle.event_loop.specs.declared.ends.LoopEnd.{LoopEnd}
use Rattle.event_loop.specs.declared.ends.LoopEnd.TheVariants as ends

-- a source has these events' bytes and no more, and fewer than are read at most
pub record HasEvents (left : Option (List ℕ)) (events : List Event) : Type 0 where
  pub input : left ≡ Some (frames events)
  pub each : AllByRecursion IsEvent events
  pub size : length (frames events) < LONGEST_INPUT

-- a count of faults didn't rise
abbrev pub DidNotRise : ℕ → ℕ → Type 0
DidNotRise before after = Rose before after → ⊥

-- each of these events was answered, in order, and each reply was written whole. Events are compared by their fields,
-- since their bytes don't say how much memory they have taken
pub record AnswersAll {M : Type 0} (did : Course M) (old new : Moment M) (events : List Event) : Type 0 where
  pub answered : List Event
  pub replies : List Reply
  pub same : map fields answered ≡ map fields events
  pub whole : Answered did WroteEach old new answered replies []

-- each event was answered, or memory ran out
abbrev pub EndsComplete : {M : Type 0} → Course M → Moment M → Moment M → List Event → LoopEnd → Type 0
EndsComplete did old new events ends.Done = AnswersAll did old new events
EndsComplete did old new events ends.NoMemory = Unit {0}
EndsComplete did old new events _ = ⊥

-- By the loop's promise of how it ended, and of the counts of faults of its source and its sink: if the input was whole
-- events and neither count rose, each event was answered or memory ran out
abbrev pub WholeInputCompletes : {M : Type 0} → Course M → Type 0
WholeInputCompletes {M} did =
    (old new : Moment M) (end : LoopEnd) (source source' sink sink' : ℕ) (events : List Event) → Ends did old new end →
    RoseIf (is_read_fault end) source source' → RoseIf (is_write_fault end) sink sink' → HasEvents old.left events →
    DidNotRise source source' → DidNotRise sink sink' → EndsComplete did old new events end
