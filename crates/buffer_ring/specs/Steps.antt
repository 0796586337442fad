-- Steps of the two ends of a store, and what the engine's end knows of it (this project's own).
use Rattle.std.specs.Prelude.{ℕ, suc, ◌+◌, ◌-◌, ◌≡◌, List, [], ◌∷◌, length}
use Rattle.ca_base.specs.declared.ids.Gate.{Gate}
use Rattle.ca_base.specs.declared.ids.Gate.TheVariants as gate
use Rattle.buffer_ring.specs.declared.step.Deed.{Deed}
use Rattle.buffer_ring.specs.declared.step.Deed.TheVariants as deed
use Rattle.buffer_ring.specs.declared.step.StoreStep.{StoreStep}
use Rattle.buffer_ring.specs.declared.step.StoreStep.TheVariants as step
use Rattle.buffer_ring.specs.declared.step.EndState.{EndState}

-- how many words are there after a deed that found `found` of them
abbrev pub words_after : ℕ → Deed → ℕ
words_after found deed.Looks = found
words_after found (deed.Retires n) = found - n
words_after found (deed.Puts words) = found + length words
words_after found (deed.Closes reason) = 0

-- the gate after a deed
abbrev pub gate_after : Gate → Deed → Gate
gate_after seen (deed.Closes reason) = gate.Closed reason
gate_after seen _ = seen

-- what the engine's end knows after a step of its own
abbrev pub state_after : EndState → StoreStep → EndState
state_after st (step.Acts found seen deed) =
    record st { gate = gate_after st.gate deed; seen = words_after found deed }
state_after st (step.Reads place word) = st

-- reads of these words, from a place on
abbrev pub reads_from : ℕ → List ℕ → List StoreStep
reads_from place [] = []
reads_from place (word ∷ words) = step.Reads place word ∷ reads_from (suc place) words

-- the gate is open
abbrev pub IsOpenGate : Gate → Type 0
IsOpenGate seen = seen ≡ gate.Open

-- one step of the engine's end, between two states of the store: by a relation of lists of steps
abbrev pub TakesStep : {E : Type 0} → (E → List StoreStep → E → Type 0) → E → StoreStep → E → Type 0
TakesStep moves old one new = moves old (one ∷ []) new
