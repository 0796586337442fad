-- What a run of the program came to (the words and the statuses are this project's own).
use Rattle.std.specs.Prelude.{◌≡◌, ℕ, ◌==◌, ◌&&◌, not, List, [], ◌∷◌, map, codes, Bool, true, false, Option}
use Rattle.std.specs.Str.{bytes_eq}
use Rattle.device_io.specs.DeviceLog.{DeviceLog}
use Rattle.ca_model.specs.declared.event.Event.{Event}
use Rattle.ca_model.specs.declared.reply.Reply.{Reply}
use Rattle.ca_machine.specs.State.{State, empty_state}
use Rattle.ca_machine.specs.Step.{Entry, IsRun, Replies, FaultsAlong, answers_of}
use Rattle.ca_machine.specs.View.{ToldAlong}
use Rattle.ca_machine.specs.Headline.{Headline}
use Rattle.event_loop.specs.Ends.{Moment, Ends}
use Rattle.event_loop.specs.declared.ends.LoopEnd.{LoopEnd}
use Rattle.event_loop.specs.declared.ends.LoopEnd.TheVariants as ends
use Rattle.audio_daemon.specs.declared.run.Status.{Status}
use Rattle.audio_daemon.specs.declared.run.Status.TheVariants as status

-- a folder may not be empty, nor begin with a dash
abbrev pub is_folder : List ℕ → Bool
is_folder [] = false
is_folder (b ∷ bs) = not (b == 45)

-- two words: replay, and a folder
abbrev pub is_replay : List (List ℕ) → Bool
is_replay [] = false
is_replay (command ∷ []) = false
is_replay (command ∷ folder ∷ []) = bytes_eq command (codes "replay") && is_folder folder
is_replay (command ∷ folder ∷ more ∷ words) = false

-- reply by reply, each is that of its entry
abbrev pub EachReplies : List Entry → List Reply → Type 0
EachReplies [] [] = Unit {0}
EachReplies (entry ∷ entries) (r ∷ rs) = Replies entry r × EachReplies entries rs
EachReplies [] (r ∷ rs) = ⊥
EachReplies (entry ∷ entries) [] = ⊥

-- The events were answered by a run of the one-thread machine from its empty state: each reply is its entry's, the
-- devices gave what the machine's answers say and took its output, entry by entry, their count of faults rose as the
-- machine's answers say, and the headline holds.
pub record Replayed {D : Type 0} (faults : D → ℕ) (told : D → Option (List DeviceLog)) (old : D)
    (events : List Event) (replies : List Reply) (new : D) : Type 0 where
  pub entries : List Entry
  pub state : State
  pub events_are : map (λ entry. entry.event) entries ≡ events
  pub run : IsRun empty_state entries state
  pub replied : EachReplies entries replies
  pub tells : ToldAlong (told old) entries (told new)
  pub counts : FaultsAlong (faults old) (answers_of entries) (faults new)
  pub headline : Headline entries state

-- a status as the program's exit status
abbrev pub exit_status : Status → ℕ
exit_status status.Done = 0
exit_status status.Usage = 2
exit_status (status.Malformed place) = 3
exit_status status.ReadFault = 4
exit_status status.WriteFault = 5
exit_status status.NoMemory = 6
exit_status status.TooLong = 7

-- the end of the event loop as a status
abbrev pub status_of : LoopEnd → Status
status_of ends.Done = status.Done
status_of (ends.Malformed place) = status.Malformed place
status_of ends.ReadFault = status.ReadFault
status_of ends.WriteFault = status.WriteFault
status_of ends.NoMemory = status.NoMemory
status_of ends.TooLong = status.TooLong

-- the words are others, and nothing was done
pub record IsUsage {D : Type 0} (words : List (List ℕ)) (old new : Moment D) : Type 0 where
  pub words_are : is_replay words ≡ false
  pub untouched : new ≡ old

-- the words are replay words, and the event loop over the machine ended so
pub record Ran {D : Type 0} (faults : D → ℕ) (told : D → Option (List DeviceLog)) (words : List (List ℕ))
    (old new : Moment D) (end : LoopEnd) : Type 0 where
  pub words_are : is_replay words ≡ true
  pub ends : Ends (Replayed faults told) old new end

-- what each status says
abbrev pub RunEnds : {D : Type 0} → (D → ℕ) → (D → Option (List DeviceLog)) → List (List ℕ) → Moment D → Moment D →
    Status → Type 0
RunEnds faults told words old new status.Usage = IsUsage words old new
RunEnds faults told words old new status.Done = Ran faults told words old new ends.Done
RunEnds faults told words old new (status.Malformed place) = Ran faults told words old new (ends.Malformed place)
RunEnds faults told words old new status.ReadFault = Ran faults told words old new ends.ReadFault
RunEnds faults told words old new status.WriteFault = Ran faults told words old new ends.WriteFault
RunEnds faults told words old new status.NoMemory = Ran faults told words old new ends.NoMemory
RunEnds faults told words old new status.TooLong = Ran faults told words old new ends.TooLong

-- whether the source is why the run ended
abbrev pub read_failed : Status → Bool
read_failed status.ReadFault = true
read_failed _ = false

-- whether the sink is why the run ended
abbrev pub write_failed : Status → Bool
write_failed status.WriteFault = true
write_failed _ = false
