use Rattle.period_engine.proofs.Passes.{Passed, Alone}
use Rattle.stream_entries.specs.Gains.{Regains}
use Rattle.stream_entries.proofs.gains.regain.Given as goal

-- the gains of the entries so far were computed anew
abbrev pub invariant-loop-entry : goal.invariant-loop-entry
invariant-loop-entry g l = Passed (Alone (Regains l.book)) l.initial.entries l.entries l.entry-index 0 0
