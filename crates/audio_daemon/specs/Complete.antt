-- What a run comes to if its input is whole events and nothing failed (this project's own).
use Rattle.std.specs.Prelude.{◌≡◌, ℕ, List, true, Option}
use Rattle.device_io.specs.DeviceLog.{DeviceLog}
use Rattle.ca_model.specs.declared.event.Event.{Event}
use Rattle.event_loop.specs.Ends.{Moment}
use Rattle.event_loop.specs.Complete.{HasEvents, AnswersAll}
use Rattle.audio_daemon.specs.declared.run.Status.{Status}
use Rattle.audio_daemon.specs.declared.run.Status.TheVariants as status
use Rattle.audio_daemon.specs.Run.{Replayed, is_replay}

-- each of these events was answered by a run of the machine, or memory ran out
abbrev pub DoneOrNoMemory : {D : Type 0} → (D → ℕ) → (D → Option (List DeviceLog)) → Moment D → Moment D → List Event →
    Status → Type 0
DoneOrNoMemory faults told old new events status.Done = AnswersAll (Replayed faults told) old new events
DoneOrNoMemory faults told old new events status.NoMemory = Unit {0}
DoneOrNoMemory faults told old new events _ = ⊥

-- with replay words and whole events as its input, fewer than 2^40 bytes in all, the run answered each event or memory
-- ran out
abbrev pub Completes : {D : Type 0} → (D → ℕ) → (D → Option (List DeviceLog)) → List (List ℕ) → Moment D → Moment D →
    Status → Type 0
Completes faults told words old new status =
    (events : List Event) → is_replay words ≡ true → HasEvents old.left events →
    DoneOrNoMemory faults told old new events status
