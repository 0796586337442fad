-- Both ends of a stream in one hand: the engine's end moves the store, never the client's side (this project's own).
use Rattle.std.specs.Prelude.{◌≡◌, List, ◌++◌}
use Rattle.std.proofs.Common.{◌∙◌}
use Rattle.buffer_ring.specs.declared.step.StoreStep.{StoreStep}
use Rattle.service_core.specs.declared.both_ends.BothEnds.{BothEnds}

-- the store was moved by these steps, and the client's side is as it was
abbrev pub MovesStore : {F : Type 0} → (F → List StoreStep → F → Type 0) → BothEnds F → List StoreStep → BothEnds F →
    Type 0
MovesStore moves a steps b = (b.side ≡ a.side) × moves a.store steps b.store

-- steps after steps are steps
abbrev pub joined : {F : Type 0} (moves : F → List StoreStep → F → Type 0) →
    ((a b c : F) (xs ys : List StoreStep) → moves a xs b → moves b ys c → moves a (xs ++ ys) c) →
    (a b c : BothEnds F) (xs ys : List StoreStep) → MovesStore moves a xs b → MovesStore moves b ys c →
    MovesStore moves a (xs ++ ys) c
joined moves joins a b c xs ys first then =
    (then.0 ∙ first.0, joins a.store b.store c.store xs ys first.1 then.1)
