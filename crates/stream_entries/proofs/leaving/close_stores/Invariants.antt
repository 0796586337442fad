use Rattle.period_engine.proofs.Passes.{Passed, Alone}
use Rattle.stream_entries.specs.Leaving.{Parts}
use Rattle.stream_entries.proofs.leaving.close_stores.Given as goal

-- the entries so far were left, or their stores go
abbrev pub invariant-loop-entry : goal.invariant-loop-entry
invariant-loop-entry g l =
    Passed (Alone (Parts g.E.EngineSide.moves l.clients)) l.initial.entries l.entries l.entry-index 0 0
