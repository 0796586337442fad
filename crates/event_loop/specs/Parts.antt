-- What the parts of the loop promise to one another (the whole file is this project's own): only the proofs need it.
-- What `answer_events` promises is in Ends.antt.
use Rattle.std.specs.Prelude.{◌≡◌, ℕ, ◌+◌, ◌<◌, ◌≤◌, List, ◌++◌, length, Option}
use Rattle.std.specs.Io.KnownBytes.{Appends, Consumes, IsAtEnd}
use Rattle.ca_base.specs.declared.limits.TheConstants.{READ_SIZE}
use Rattle.ca_model.specs.declared.event.Event.{Event}
use Rattle.ca_model.specs.declared.reply.Reply.{Reply}
use Rattle.ca_model.specs.Spelling.{IsIncomplete, IsMalformed}
use Rattle.ca_model.specs.Replies.{reply_frame}
use Rattle.call_wire.specs.declared.reading.Step.TheVariants as step
use Rattle.call_wire.specs.Next.{IsNext, IsOutOfMemory}
use Rattle.event_loop.specs.declared.ends.LoopEnd.{LoopEnd}
use Rattle.event_loop.specs.declared.ends.LoopEnd.TheVariants as ends
use Rattle.event_loop.specs.declared.ends.Stop.{Stop}
use Rattle.event_loop.specs.declared.ends.Stop.TheVariants as stop
use Rattle.event_loop.specs.declared.front.Front.{Front}
use Rattle.event_loop.specs.declared.front.Front.TheVariants as front

-- which reply an event may get from a desk, and what may become of the desk
abbrev pub Answer : Type 0 → Type 1
Answer M = M → Event → Reply → M → Type 0

-- the front of these bytes was written, and some at the end are missing
pub record CutsOff (before after : Option (List ℕ)) (bytes : List ℕ) : Type 0 where
  pub part : List ℕ
  pub missing : List ℕ
  pub wrote : Appends before after part
  pub cut : part ++ missing ≡ bytes
  pub some_missing : 0 < length missing

-- one event was answered, and the sink got this of its reply's bytes
pub record AnswersOne {M : Type 0} (answers : Answer M) (wrote : Option (List ℕ) → Option (List ℕ) → List ℕ → Type 0)
    (event : Event) (old new : M) (before after : Option (List ℕ)) : Type 0 where
  pub reply : Reply
  pub answered : answers old event reply new
  pub written : wrote before after (reply_frame reply)

-- the event at the front of the bytes, which has this length, was answered so
pub record AnswersFront {M : Type 0} (answers : Answer M) (wrote : Option (List ℕ) → Option (List ℕ) → List ℕ → Type 0)
    (bytes : List ℕ) (used : ℕ) (old new : M) (before after : Option (List ℕ)) : Type 0 where
  pub event : Event
  pub next : IsNext (step.Event event used) bytes
  pub one : AnswersOne answers wrote event old new before after

-- the desk wasn't asked, and nothing was written
pub record IsUntouched {M : Type 0} (old new : M) (before after : Option (List ℕ)) : Type 0 where
  pub desk : new ≡ old
  pub written : after ≡ before

-- what was at the front of the bytes, and what was done
abbrev pub FrontIs : {M : Type 0} → Answer M → List ℕ → M → M → Option (List ℕ) → Option (List ℕ) → Front → Type 0
FrontIs answers bytes old new before after (front.Answered used) =
    AnswersFront answers Appends bytes used old new before after
FrontIs answers bytes old new before after front.NeedMore = IsIncomplete bytes × IsUntouched old new before after
FrontIs answers bytes old new before after front.Malformed = IsMalformed bytes × IsUntouched old new before after

-- why the event at the front of the bytes wasn't answered whole, and what was done
abbrev pub StopsFront : {M : Type 0} → Answer M → List ℕ → M → M → Option (List ℕ) → Option (List ℕ) → Stop → Type 0
StopsFront answers bytes old new before after stop.WriteFault =
    (used : ℕ) × AnswersFront answers CutsOff bytes used old new before after
StopsFront answers bytes old new before after stop.NoMemory = IsOutOfMemory bytes × IsUntouched old new before after
StopsFront answers bytes old new before after stop.ReadFault = ⊥

-- a piece of `count` bytes, at most the limit, was read behind the old ones; none only if the source has no more
pub record ReadsPiece (old new : List ℕ) (left left' : Option (List ℕ)) (limit count : ℕ) : Type 0 where
  pub piece : List ℕ
  pub behind : new ≡ old ++ piece
  pub size : length piece ≡ count
  pub within : count ≤ limit
  pub read : Consumes left left' piece
  pub ends : count ≡ 0 → IsAtEnd left

-- behind the pending bytes a buffer of this size has no room for a piece, even if they move to its front
abbrev pub LacksRoom : ℕ → List ℕ → Type 0
LacksRoom size list = size < length list + READ_SIZE

-- a read stops by the source, or, if the buffer lacks room, by memory
abbrev pub StopsRead : ℕ → List ℕ → Stop → Type 0
StopsRead size list stop.WriteFault = ⊥
StopsRead size list stop.ReadFault = Unit {0}
StopsRead size list stop.NoMemory = LacksRoom size list

-- why the loop stopped, as an end
abbrev pub end_of : Stop → LoopEnd
end_of stop.ReadFault = ends.ReadFault
end_of stop.WriteFault = ends.WriteFault
end_of stop.NoMemory = ends.NoMemory
