use Rattle.std.proofs.Common.{ℕ, List}
use Rattle.buffer_ring.specs.declared.step.EndState.{EndState}
use Rattle.buffer_ring.specs.declared.step.StoreStep.{StoreStep}
use Rattle.period_engine.specs.declared.entry.StreamEntry.{StreamEntry}
use Rattle.period_engine.specs.Entries.{IsRested}
use Rattle.period_engine.specs.SubSteps.{Turned, retires_on}
use Rattle.period_engine.proofs.Passes.{Passed, Alone}
use Rattle.period_engine.proofs.picked.retire.Given as goal

-- the frames that were picked of one entry are retired
abbrev pub Retires : {E : Type 0} → (E → List StoreStep → E → Type 0) → (E → EndState) → ℕ → StreamEntry E
    → StreamEntry E → Type 0
Retires moves state number a b = Turned moves (retires_on number) a b × IsRested state b

-- those of the entries so far are
abbrev pub invariant-loop-entry : goal.invariant-loop-entry
invariant-loop-entry g l =
    Passed (Alone (Retires g.E.EngineSide.moves g.E.EngineSide.state l.e.0)) l.initial.all l.all l.entry-index 0 0
