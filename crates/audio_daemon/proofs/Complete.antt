-- A run whose input is whole events completes, as the event loop does.
use Rattle.std.proofs.Common.{◌≡◌, ℕ, List, Option, sym, subst}
use Rattle.device_io.specs.DeviceLog.{DeviceLog}
use Rattle.event_loop.specs.Ends.{Moment, RoseIf, is_read_fault, is_write_fault}
use Rattle.event_loop.specs.Complete.{DidNotRise}
use Rattle.event_loop.specs.declared.ends.LoopEnd.{LoopEnd}
use Rattle.event_loop.specs.declared.ends.LoopEnd.TheVariants as ends
use Rattle.event_loop.proofs.Complete.{whole_input_completes}
use Rattle.audio_daemon.specs.declared.run.Status.{Status}
use Rattle.audio_daemon.specs.Run.{RunEnds, Replayed, status_of}
use Rattle.audio_daemon.specs.Complete.{Completes}

module _ {D : Type 0} (faults : D → ℕ) (told : D → Option (List DeviceLog)) (words : List (List ℕ))
    (old new : Moment D) (source source' sink sink' : ℕ) where
  -- by the end of the loop, which says of the counts of faults why they rose
  by_end : (end : LoopEnd) → RunEnds faults told words old new (status_of end) →
      RoseIf (is_read_fault end) source source' → RoseIf (is_write_fault end) sink sink' → DidNotRise source source' →
      DidNotRise sink sink' → Completes faults told words old new (status_of end)
  by_end ends.Done h read write reads writes events replay has =
      whole_input_completes (Replayed faults told) old new ends.Done source source' sink sink' events h.ends read write
      has reads writes
  by_end (ends.Malformed place) h read write reads writes events replay has =
      whole_input_completes (Replayed faults told) old new (ends.Malformed place) source source' sink sink' events
      h.ends read write has reads writes
  by_end ends.ReadFault h read write reads writes events replay has = absurd (reads read)
  by_end ends.WriteFault h read write reads writes events replay has = absurd (writes write)
  by_end ends.NoMemory h read write reads writes events replay has = tt
  by_end ends.TooLong h read write reads writes events replay has =
      whole_input_completes (Replayed faults told) old new ends.TooLong source source' sink sink' events h.ends read
      write has reads writes

  -- what a status says of the run, if it is the status of the loop's end
  pub run_completes : (end : LoopEnd) (status : Status) → status ≡ status_of end →
      RunEnds faults told words old new status → RoseIf (is_read_fault end) source source' →
      RoseIf (is_write_fault end) sink sink' → DidNotRise source source' → DidNotRise sink sink' →
      Completes faults told words old new status
  run_completes end status is h read write reads writes =
      subst (λ (s : Status). Completes faults told words old new s) (sym is)
      (by_end end (subst (λ (s : Status). RunEnds faults told words old new s) is h) read write reads writes)
