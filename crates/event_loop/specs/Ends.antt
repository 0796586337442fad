-- What the promise of `answer_events` cites: what each end says of the bytes that were read, the events that were
-- answered and the replies that were written (the whole file is this project's own). What the parts of the loop promise
-- to one another is in Parts.antt, and only the proofs need it.
use Rattle.std.specs.Prelude.{
  ◌≡◌,
  ℕ,
  ◌<◌,
  ◌≤◌,
  ◌⊎◌,
  Bool,
  true,
  false,
  List,
  [],
  ◌∷◌,
  ◌++◌,
  length,
  Option,
  Some,
  None,
  ⊤,
}
use Rattle.std.specs.List.{AllByRecursion}
use Rattle.std.specs.Io.KnownBytes.{Appends, Consumes}
use Rattle.ca_base.specs.Faults.{Rose}
use Rattle.ca_base.specs.declared.limits.TheConstants.{LONGEST_INPUT}
use Rattle.ca_model.specs.declared.event.Event.{Event}
use Rattle.ca_model.specs.declared.reply.Reply.{Reply}
use Rattle.ca_model.specs.Spelling.{IsEvent, IsIncomplete, IsMalformed, frames}
use Rattle.ca_model.specs.Replies.{reply_frame, reply_frames}
use Rattle.call_wire.specs.Next.{IsOutOfMemory}
use Rattle.event_loop.specs.declared.ends.LoopEnd.{LoopEnd}
use Rattle.event_loop.specs.declared.ends.LoopEnd.TheVariants as ends

-- what a source has left, what a sink has taken, and the state of a desk
pub record Moment (M : Type 0) : Type 0 where
  pub left : Option (List ℕ)
  pub written : Option (List ℕ)
  pub desk : M

-- a moment of its parts
abbrev pub moment : {M : Type 0} → Option (List ℕ) → Option (List ℕ) → M → Moment M
moment left written desk = record { left = left; written = written; desk = desk }

-- what may become of a desk by events and their replies
abbrev pub Course : Type 0 → Type 1
Course M = M → List Event → List Reply → M → Type 0

-- what a sink got of some replies
abbrev pub Writing : Type 1
Writing = Option (List ℕ) → Option (List ℕ) → List Reply → Type 0

-- these events and then the rest were read, the events were answered in order, and the sink got this of their replies
pub record Answered {M : Type 0} (did : Course M) (wrote : Writing) (old new : Moment M)
    (events : List Event) (replies : List Reply) (rest : List ℕ) : Type 0 where
  pub read : Consumes old.left new.left (frames events ++ rest)
  pub each : AllByRecursion IsEvent events
  pub runs : did old.desk events replies new.desk
  pub written : wrote old.written new.written replies

-- some events were answered, and this holds of their bytes and of the rest
pub record Reached {M : Type 0} (did : Course M) (wrote : Writing) (holds : List ℕ → List ℕ → Type 0)
    (old new : Moment M) : Type 0 where
  pub events : List Event
  pub replies : List Reply
  pub rest : List ℕ
  pub answered : Answered did wrote old new events replies rest
  pub here : holds (frames events) rest

-- each reply was written whole
abbrev pub WroteEach : Writing
WroteEach before after replies = Appends before after (reply_frames replies)

-- each reply was written whole, but for the last, of which some bytes at its end are missing
pub record CutsLast (before after : Option (List ℕ)) (replies : List Reply) : Type 0 where
  pub front : List Reply
  pub last : Reply
  pub part : List ℕ
  pub missing : List ℕ
  pub replies_are : replies ≡ front ++ last ∷ []
  pub wrote : Appends before after (reply_frames front ++ part)
  pub cut : part ++ missing ≡ reply_frame last
  pub some_missing : 0 < length missing

-- if what the source had is specified, it was these bytes and no more
abbrev pub HadOnly : Option (List ℕ) → List ℕ → Type 0
HadOnly None bytes = ⊤
HadOnly (Some had) bytes = had ≡ bytes

-- the source had the bytes of the events and no more
pub record IsDone (left : Option (List ℕ)) (front rest : List ℕ) : Type 0 where
  pub no_rest : rest ≡ []
  pub had_only : HadOnly left front
  pub size : length front < LONGEST_INPUT

-- behind the events, at this place, no event begins, or the source had no more than the beginning of one, and fewer
-- bytes than are read at most
pub record EndsInside (left : Option (List ℕ)) (place : ℕ) (front rest : List ℕ) : Type 0 where
  pub place_is : place ≡ length front
  pub why : IsMalformed rest ⊎ ((0 < length rest) × IsIncomplete rest × HadOnly left (front ++ rest))
  pub below : place < LONGEST_INPUT
  pub size : length (front ++ rest) ≤ LONGEST_INPUT
  pub cut_below : IsIncomplete rest → length (front ++ rest) < LONGEST_INPUT

-- no whole event is left among the bytes that were read, and more could be read
pub record WantsMore (front rest : List ℕ) : Type 0 where
  pub incomplete : IsIncomplete rest
  pub size : length (front ++ rest) < LONGEST_INPUT

-- as many bytes were read as are read at most, and no whole event is left among them
pub record ReadAll (front rest : List ℕ) : Type 0 where
  pub incomplete : IsIncomplete rest
  pub size : length (front ++ rest) ≡ LONGEST_INPUT

-- no more was read than is read at most
abbrev pub WithinLimit : List ℕ → List ℕ → Type 0
WithinLimit front rest = length (front ++ rest) ≤ LONGEST_INPUT

-- memory was wanted to read more: before anything was read, or behind the beginning of an event. Else there is room
pub record WantsRoom (front rest : List ℕ) : Type 0 where
  pub more : WantsMore front rest
  pub behind : 0 < length front → 0 < length rest

-- memory was wanted for more bytes, or for the event at the front of the rest
abbrev pub WantsMemory : List ℕ → List ℕ → Type 0
WantsMemory front rest = WantsRoom front rest ⊎ (IsOutOfMemory rest × WithinLimit front rest)

-- what each end says
abbrev pub Ends : {M : Type 0} → Course M → Moment M → Moment M → LoopEnd → Type 0
Ends did old new ends.Done = Reached did WroteEach (IsDone old.left) old new
Ends did old new (ends.Malformed place) = Reached did WroteEach (EndsInside old.left place) old new
Ends did old new ends.ReadFault = Reached did WroteEach WantsMore old new
Ends did old new ends.WriteFault = Reached did CutsLast WithinLimit old new
Ends did old new ends.NoMemory = Reached did WroteEach WantsMemory old new
Ends did old new ends.TooLong = Reached did WroteEach ReadAll old new

-- a count of faults rose if this is so, and stays otherwise
abbrev pub RoseIf : Bool → ℕ → ℕ → Type 0
RoseIf true before after = Rose before after
RoseIf false before after = after ≡ before

-- whether the source is why the loop ended
abbrev pub is_read_fault : LoopEnd → Bool
is_read_fault ends.ReadFault = true
is_read_fault _ = false

-- whether the sink is why the loop ended
abbrev pub is_write_fault : LoopEnd → Bool
is_write_fault ends.WriteFault = true
is_write_fault _ = false
