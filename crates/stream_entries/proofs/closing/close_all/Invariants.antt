use Rattle.std.proofs.Common.{ℕ, List, Option}
use Rattle.ca_base.specs.declared.ids.Reason.{Reason}
use Rattle.buffer_ring.specs.declared.step.EndState.{EndState}
use Rattle.buffer_ring.specs.declared.step.StoreStep.{StoreStep}
use Rattle.period_engine.specs.declared.entry.StreamEntry.{StreamEntry}
use Rattle.period_engine.specs.Entries.{IsRested}
use Rattle.period_engine.specs.SubSteps.{Turned}
use Rattle.period_engine.proofs.Passes.{Passed, Alone}
use Rattle.stream_entries.specs.Closing.{closes_within, scope_of}
use Rattle.stream_entries.proofs.closing.close_all.Given as goal

-- one entry was closed, if it was open within the scope
abbrev pub Closes : {E : Type 0} → (E → List StoreStep → E → Type 0) → (E → EndState) → Reason → Option ℕ →
    StreamEntry E → StreamEntry E → Type 0
Closes moves state reason scope a b = Turned moves (closes_within reason scope) a b × IsRested state b

-- the entries so far were closed
abbrev pub invariant-loop-entry : goal.invariant-loop-entry
invariant-loop-entry g l =
    Passed (Alone (Closes g.E.EngineSide.moves g.E.EngineSide.state l.reason (scope_of l.scope))) l.initial.all l.all
    l.entry-index 0 0
