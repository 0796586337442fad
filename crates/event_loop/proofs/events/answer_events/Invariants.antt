use Rattle.std.proofs.Common.{◌≡◌, ◌+◌, ◌-◌, ◌*◌, ◌≤◌, length}
use Rattle.ca_base.specs.declared.limits.TheConstants.{LONGEST_INPUT}
use Rattle.event_loop.specs.Ends.{moment}
use Rattle.event_loop.proofs.Turns.{SoFar, HasReadRoom}
use Rattle.event_loop.proofs.events.answer_events.Given as goal

-- each event before the pending bytes was answered, and no call failed
abbrev pub invariant-events : goal.invariant-events
invariant-events g l = record {
  so_far : SoFar g.M.Desk.answers
      (moment (g.S.Source.left l.fn.input) (g.K.Sink.written l.fn.output) l.fn.desk)
      (moment (g.S.Source.left l.input) (g.K.Sink.written l.output) l.desk) l.pending.list l.taken;
  source : g.S.Source.faults l.input ≡ g.S.Source.faults l.fn.input;
  sink : g.K.Sink.faults l.output ≡ g.K.Sink.faults l.fn.output;
  within : l.taken ≤ LONGEST_INPUT;
  room : l.buffers ≡ l.fn.room;
  size : HasReadRoom l.taken l.pending.size;
}

-- a read takes more than it adds to the pending bytes, and an event takes some of these
abbrev pub decreases-events : goal.decreases-events
decreases-events g l = 2 * (LONGEST_INPUT - l.taken) + length l.pending.list
