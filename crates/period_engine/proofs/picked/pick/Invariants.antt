use Rattle.std.proofs.Common.{ℕ, List}
use Rattle.buffer_ring.specs.declared.step.EndState.{EndState}
use Rattle.buffer_ring.specs.declared.step.StoreStep.{StoreStep}
use Rattle.period_engine.specs.declared.entry.StreamEntry.{StreamEntry}
use Rattle.period_engine.specs.Entries.{IsPicked}
use Rattle.period_engine.specs.SubSteps.{Turned, picks_on}
use Rattle.period_engine.proofs.Passes.{Passed, Alone}
use Rattle.period_engine.proofs.picked.pick.Given as goal

-- one entry was picked
abbrev pub Picks : {E : Type 0} → (E → List StoreStep → E → Type 0) → (E → EndState) → ℕ → ℕ → StreamEntry E
    → StreamEntry E → Type 0
Picks moves state number p a b = Turned moves (picks_on number p) a b × IsPicked state number p b

-- the entries so far were picked
abbrev pub invariant-loop-entry : goal.invariant-loop-entry
invariant-loop-entry g l =
    Passed (Alone (Picks g.E.EngineSide.moves g.E.EngineSide.state l.e.0 l.p)) l.initial.all l.all l.entry-index 0 0
