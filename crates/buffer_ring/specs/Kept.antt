-- A store as a list of words and a gate (this project's own).
use Rattle.std.specs.Prelude.{◌≡◌, ℕ, List, [], ◌∷◌, ◌++◌, length, drop, slice_get, Some}
use Rattle.ca_base.specs.declared.ids.Dir.{Dir}
use Rattle.ca_base.specs.declared.ids.Gate.{Gate}
use Rattle.ca_base.specs.declared.ids.Gate.TheVariants as gate
use Rattle.buffer_ring.specs.declared.step.Deed.{Deed}
use Rattle.buffer_ring.specs.declared.step.Deed.TheVariants as deed
use Rattle.buffer_ring.specs.declared.step.StoreStep.{StoreStep}
use Rattle.buffer_ring.specs.declared.step.StoreStep.TheVariants as step
use Rattle.buffer_ring.specs.declared.step.EndState.{EndState}
use Rattle.buffer_ring.specs.declared.stores.Put.{Put}
use Rattle.buffer_ring.specs.declared.stores.Put.TheVariants as put
use Rattle.buffer_ring.specs.declared.stores.Retired.{Retired}
use Rattle.buffer_ring.specs.declared.stores.Retired.TheVariants as retired

-- how many words a store holds at most, which way they go, its gate, and its words from the oldest on: none once the
-- gate is closed
pub record Kept : Type 0 where
  pub cap : ℕ
  pub dir : Dir
  pub gate : Gate
  pub words : List ℕ

-- an empty store with an open gate
abbrev pub new_store : ℕ → Dir → Kept
new_store cap dir = record { cap = cap; dir = dir; gate = gate.Open; words = [] }

-- what the engine's end knows of a store that it alone uses
abbrev pub state_of : Kept → EndState
state_of k = record { cap = k.cap; dir = k.dir; gate = k.gate; seen = length k.words }

-- a store after a deed at an open gate
abbrev pub kept_after : Deed → Kept → Kept
kept_after deed.Looks k = k
kept_after (deed.Retires n) k = record k { words = drop n k.words }
kept_after (deed.Puts words) k = record k { words = k.words ++ words }
kept_after (deed.Closes reason) k = record k { gate = gate.Closed reason; words = [] }

-- a step finds the store's words and gate, and moves it
abbrev pub RunsStep : Kept → StoreStep → Kept → Type 0
RunsStep k (step.Acts found seen deed) new = (found ≡ length k.words) × (seen ≡ k.gate) × (new ≡ kept_after deed k)
RunsStep k (step.Reads place word) new = (slice_get k.words place ≡ Some word) × (new ≡ k)

-- and so does each of a list of steps
abbrev pub RunsSteps : Kept → List StoreStep → Kept → Type 0
RunsSteps k [] new = new ≡ k
RunsSteps k (s ∷ ss) new = (mid : Kept) × RunsStep k s mid × RunsSteps mid ss new

-- words were put at the client's end: a closed gate lets none through, and tells its reason
abbrev pub PutsWords : Put → List ℕ → Kept → Kept → Type 0
PutsWords put.Done words old new = (old.gate ≡ gate.Open) × (new ≡ record old { words = old.words ++ words })
PutsWords (put.Closed reason) words old new = (old.gate ≡ gate.Closed reason) × (new ≡ old)

-- words were retired at the client's end, or a closed gate told its reason
abbrev pub RetiresWords : Retired → ℕ → Kept → Kept → Type 0
RetiresWords retired.Done n old new = (old.gate ≡ gate.Open) × (new ≡ record old { words = drop n old.words })
RetiresWords (retired.Closed reason) n old new = (old.gate ≡ gate.Closed reason) × (new ≡ old)
