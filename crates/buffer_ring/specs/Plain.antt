-- A store in memory: its ring's room, and the laws of its steps (this project's own).
use Rattle.std.specs.Prelude.{◌≡◌, ℕ, ◌≤◌, List, [], ◌∷◌, ◌++◌, length, refl}
use Rattle.std.proofs.Common.{arith, subst, length-append, length-drop}
use Rattle.circular_buffer.specs.Buffer.{Buffer}
use Rattle.buffer_ring.specs.declared.step.Deed.{Deed}
use Rattle.buffer_ring.specs.declared.step.Deed.TheVariants as deed
use Rattle.buffer_ring.specs.declared.step.StoreStep.{StoreStep}
use Rattle.buffer_ring.specs.declared.step.StoreStep.TheVariants as step
use Rattle.buffer_ring.specs.Steps.{state_after}
use Rattle.buffer_ring.specs.Kept.{Kept, RunsSteps, kept_after, state_of}

-- a ring has room for `cap` words, and holds at most as many
pub record IsRoomFor (ring : Buffer ℕ) (cap : ℕ) : Type 0 where
  pub room : ring.capacity ≡ cap
  pub within : length ring.items ≤ cap

-- steps after steps are steps
pub RunsSteps-append : (a b c : Kept) (xs ys : List StoreStep) → RunsSteps a xs b → RunsSteps b ys c
    → RunsSteps a (xs ++ ys) c
RunsSteps-append a b c [] ys h k = subst (λ x. RunsSteps x ys c) h k
RunsSteps-append a b c (s ∷ ss) ys h k = (h.0, h.1, RunsSteps-append h.0 b c ss ys h.2 k)

-- what the engine's end knows of the store after a deed
pub state_of-deed : (k : Kept) (found : ℕ) (d : Deed) → found ≡ length k.words
    → state_of (kept_after d k) ≡ state_after (state_of k) (step.Acts found k.gate d)
state_of-deed k found deed.Looks e = grind (arith, length-drop)
state_of-deed k found (deed.Retires n) e = grind (arith, length-drop)
state_of-deed k found (deed.Puts words) e = grind (arith, length-append)
state_of-deed k found (deed.Closes reason) e = refl

-- what the engine's end knows after a step
pub state_of-after : (a b : Kept) (s : StoreStep) → RunsSteps a (s ∷ []) b → state_of b ≡ state_after (state_of a) s
state_of-after a b (step.Acts found seen d) h = cc (state_of-deed a found d h.1.0, h.1.2, h.2)
state_of-after a b (step.Reads place word) h = cc (h.1.1, h.2)
