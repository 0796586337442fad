use Rattle.std.proofs.Common.{◌*◌, ◌≤◌}
use Rattle.period_engine.proofs.Passes.{Passed}
use Rattle.service_core.specs.Core.{words_in}
use Rattle.service_core.proofs.PendingWords.{Adds}
use Rattle.service_core.proofs.pending.words_in_all.Given as goal

-- the entries so far were added
abbrev pub invariant-loop-entry : goal.invariant-loop-entry
invariant-loop-entry g l = record {
  adds : Passed (Adds g.F.FrameStore.kept (words_in g.F.FrameStore.kept l.streams)) l.initial.all l.all l.entry-index 0
      l.sum;
  fits : l.sum ≤ 4294967296 * l.entry-index;
}
