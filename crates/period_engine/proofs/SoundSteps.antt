-- The steps of a Sound by client: each client has one entry, which was read.
use Rattle.std.proofs.Common.{
  ◌≡◌,
  ℕ,
  suc,
  ◌≤◌,
  ℤ,
  List,
  [],
  ◌∷◌,
  map,
  Bool,
  true,
  false,
  refl,
  sym,
  subst,
  ◌∙◌,
  arith,
  eq-eqb,
}
use Rattle.std.specs.Prelude.{◌==◌, if◌then◌else◌}
use Rattle.std.proofs.lemmas.Bool.Decides.{nat_tests}
use Rattle.ca_stage.specs.Stage.{BufferData}
use Rattle.ca_stage.specs.Order.{RisesFrom}
use Rattle.buffer_ring.specs.declared.step.EndState.{EndState}
use Rattle.buffer_ring.specs.declared.step.StoreStep.{StoreStep}
use Rattle.buffer_ring.specs.Steps.{reads_from}
use Rattle.period_engine.specs.declared.entry.StreamEntry.{StreamEntry}
use Rattle.period_engine.specs.Agreement.{ArePacked, Layout, data_after}
use Rattle.period_engine.specs.Sounds.{TakesSteps, AllTakeSteps}
use Rattle.period_engine.specs.Added.{Threads, AddsEntry}

-- reads leave the data as they are, and put and retire nothing
pub reads_leave : (l : Layout) (start : ℕ) (words : List ℕ) (d : BufferData)
    → data_after l (reads_from start words) d ≡ d
reads_leave l start [] d = refl
reads_leave l start (word ∷ words) d = reads_leave l (suc start) words d

pub reads_packed : (l : Layout) (start : ℕ) (words : List ℕ) → ArePacked l (reads_from start words)
reads_packed l start [] = tt
reads_packed l start (word ∷ words) = reads_packed l (suc start) words

above : (m n : ℕ) → suc m ≤ n → (n == m) ≡ false
above m n le = grind (arith, nat_tests)

-- and so do those of a client
by_client : (is : Bool) (words : List ℕ) (ss : List StoreStep) (l : Layout) (d : BufferData) → data_after l ss d ≡ d
    → data_after l (if is then reads_from 0 words else ss) d ≡ d
by_client true words ss l d same = reads_leave l 0 words d
by_client false words ss l d same = same

module _ {E : Type 0} (moves : E → List StoreStep → E → Type 0) (state : E → EndState) (channels : ℕ) where
  -- the reads of the entry of a client
  abbrev pub steps_of : (xs ys : List (StreamEntry E)) (old new : List ℤ)
      → Threads (AddsEntry moves state channels) xs ys old new → ℕ → List StoreStep
  steps_of [] [] old new h n = []
  steps_of (x ∷ xs) (y ∷ ys) old new h n =
      if n == x.client.0 then reads_from 0 h.1.words else steps_of xs ys h.0 new h.2 n
  steps_of [] (y ∷ ys) old new h n = []
  steps_of (x ∷ xs) [] old new h n = []

  -- steps by client are the reads of each entry
  abbrev pub Follows : (ℕ → List StoreStep) → (xs ys : List (StreamEntry E)) (old new : List ℤ)
      → Threads (AddsEntry moves state channels) xs ys old new → Type 0
  Follows steps [] [] old new h = Unit {0}
  Follows steps (x ∷ xs) (y ∷ ys) old new h =
      (steps x.client.0 ≡ reads_from 0 h.1.words) × Follows steps xs ys h.0 new h.2
  Follows steps [] (y ∷ ys) old new h = Unit {0}
  Follows steps (x ∷ xs) [] old new h = Unit {0}

  follows_alike : (f g : ℕ → List StoreStep) (low : ℕ) → ((n : ℕ) → low ≤ n → g n ≡ f n)
      → (xs ys : List (StreamEntry E)) (old new : List ℤ) (h : Threads (AddsEntry moves state channels) xs ys old new)
      → RisesFrom low (map (λ e. e.client.0) xs) → Follows f xs ys old new h → Follows g xs ys old new h
  follows_alike f g low alike [] [] old new h rises follows = tt
  follows_alike f g low alike (x ∷ xs) (y ∷ ys) old new h rises follows = (
    alike x.client.0 rises.0 ∙ follows.0,
    follows_alike f g (suc x.client.0) (λ n le. alike n (omega (arith, rises.0))) xs ys h.0 new h.2 rises.1 follows.1,
  )
  follows_alike f g low alike [] (y ∷ ys) old new h rises follows = tt
  follows_alike f g low alike (x ∷ xs) [] old new h rises follows = tt

  pub steps_follow : (low : ℕ) (xs ys : List (StreamEntry E)) (old new : List ℤ)
      (h : Threads (AddsEntry moves state channels) xs ys old new) → RisesFrom low (map (λ e. e.client.0) xs)
      → Follows (steps_of xs ys old new h) xs ys old new h
  steps_follow low [] [] old new h rises = tt
  steps_follow low (x ∷ xs) (y ∷ ys) old new h rises =
      let itself = eq-eqb x.client.0 x.client.0 refl in
      let tail : (n : ℕ) → suc x.client.0 ≤ n → steps_of (x ∷ xs) (y ∷ ys) old new h n ≡ steps_of xs ys h.0 new h.2 n =
      λ n le. let other = above x.client.0 n le in rw other refl in (
        rw itself refl,
        follows_alike (steps_of xs ys h.0 new h.2) (steps_of (x ∷ xs) (y ∷ ys) old new h) (suc x.client.0) tail xs ys
            h.0 new h.2 rises.1 (steps_follow (suc x.client.0) xs ys h.0 new h.2 rises.1),
      )
  steps_follow low [] (y ∷ ys) old new h rises = tt
  steps_follow low (x ∷ xs) [] old new h rises = tt

  -- each entry took its steps
  pub all_take : (steps : ℕ → List StoreStep) (xs ys : List (StreamEntry E)) (old new : List ℤ)
      (h : Threads (AddsEntry moves state channels) xs ys old new) → Follows steps xs ys old new h
      → AllTakeSteps moves steps xs ys
  all_take steps [] [] old new h follows = tt
  all_take steps (x ∷ xs) (y ∷ ys) old new h follows =
      (subst (λ ss. TakesSteps moves ss x y) (sym follows.0) h.1.takes, all_take steps xs ys h.0 new h.2 follows.1)
  all_take steps [] (y ∷ ys) old new h follows = absurd h
  all_take steps (x ∷ xs) [] old new h follows = absurd h

  pub steps_leave : (xs ys : List (StreamEntry E)) (old new : List ℤ)
      (h : Threads (AddsEntry moves state channels) xs ys old new) (d : BufferData) (client : ℕ) (l : Layout)
      → data_after l (steps_of xs ys old new h client) d ≡ d
  steps_leave [] [] old new h d client l = refl
  steps_leave (x ∷ xs) (y ∷ ys) old new h d client l =
      by_client (client == x.client.0) h.1.words (steps_of xs ys h.0 new h.2 client) l d
      (steps_leave xs ys h.0 new h.2 d client l)
  steps_leave [] (y ∷ ys) old new h d client l = refl
  steps_leave (x ∷ xs) [] old new h d client l = refl
