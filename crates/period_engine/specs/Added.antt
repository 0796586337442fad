-- What the frames of streams add to the sums of a period, which go frame by frame, with a sum for each channel (this
-- project's own).
use Rattle.std.specs.Prelude.{
  ◌≡◌,
  ℕ,
  ◌+◌,
  ◌*◌,
  ◌^◌,
  ◌<◌,
  ◌≤◌,
  ℤ,
  pos,
  ◌+ℤ◌,
  unsigned_abs,
  List,
  [],
  ◌∷◌,
  length,
  slice_index,
  slice_index_or,
}
use Rattle.std.specs.List.{All}
use Rattle.wave_format.specs.Frame.{sample_at}
use Rattle.volume_stack.specs.Scaling.{unit_gain, scaled}
use Rattle.volume_stack.specs.Sums.{sample_limit}
use Rattle.buffer_ring.specs.declared.step.EndState.{EndState}
use Rattle.buffer_ring.specs.declared.step.StoreStep.{StoreStep}
use Rattle.buffer_ring.specs.Steps.{reads_from}
use Rattle.period_engine.specs.declared.entry.StreamEntry.{StreamEntry}
use Rattle.period_engine.specs.Sounds.{TakesSteps}

-- how far from 0 a sum may be, so that it fits 32 bits with a sample more
abbrev pub most_sum : ℕ
most_sum = 2 ^ 30

-- the sum at a place
abbrev pub sum_at : List ℤ → ℕ → ℤ
sum_at sums k = slice_index_or sums k (pos 0)

-- what a word's sample adds to a channel, by the gains of the channels
abbrev pub share : List ℕ → ℕ → ℕ → ℤ
share gains word channel = scaled (sample_at word channel) (slice_index gains channel)

-- each sum changes by one sample at most
pub record StayNear (old new : List ℤ) : Type 0 where
  pub size : length new ≡ length old
  pub near : (k : ℕ) → unsigned_abs (sum_at new k) ≤ unsigned_abs (sum_at old k) + sample_limit

-- a word's samples were added, from a place on, and the other sums are as they were
pub record AddsWord (gains : List ℕ) (channels word at : ℕ) (old new : List ℤ) : Type 0 where
  pub here : (channel : ℕ) → channel < channels →
      sum_at new (at + channel) ≡ sum_at old (at + channel) +ℤ share gains word channel
  pub before : (k : ℕ) → k < at → sum_at new k ≡ sum_at old k
  pub after : (k : ℕ) → at + channels ≤ k → sum_at new k ≡ sum_at old k
  pub stay : StayNear old new

-- the samples of words were added, frame by frame, and the sums behind them are as they were
pub record AddsWords (gains : List ℕ) (channels : ℕ) (words : List ℕ) (old new : List ℤ) : Type 0 where
  pub here : (place channel : ℕ) → place < length words → channel < channels →
      sum_at new (channels * place + channel)
      ≡ sum_at old (channels * place + channel) +ℤ share gains (slice_index words place) channel
  pub after : (k : ℕ) → channels * length words ≤ k → sum_at new k ≡ sum_at old k
  pub stay : StayNear old new

-- this many words of a store were read and added
pub record AddsStore {E : Type 0} (moves : E → List StoreStep → E → Type 0) (state : E → EndState) (gains : List ℕ)
    (channels count : ℕ) (a b : E) (old new : List ℤ) : Type 0 where
  pub words : List ℕ
  pub count_is : length words ≡ count
  pub made : moves a (reads_from 0 words) b
  pub knows : state b ≡ state a
  pub adds : AddsWords gains channels words old new

-- what was picked of an entry was read and added, and the entry is the same otherwise
pub record AddsEntry {E : Type 0} (moves : E → List StoreStep → E → Type 0) (state : E → EndState) (channels : ℕ)
    (a b : StreamEntry E) (old new : List ℤ) : Type 0 where
  pub words : List ℕ
  pub count_is : length words ≡ a.picked
  pub takes : TakesSteps moves (reads_from 0 words) a b
  pub knows : state b.store ≡ state a.store
  pub adds : AddsWords a.gains channels words old new

-- element by element a relation leads from one list to another, and from one state to another
abbrev pub Threads : {X S : Type 0} → (X → X → S → S → Type 0) → List X → List X → S → S → Type 0
Threads R [] [] old new = new ≡ old
Threads {X} {S} R (x ∷ xs) (y ∷ ys) old new = (mid : S) × R x y old mid × Threads R xs ys mid new
Threads R [] (y ∷ ys) old new = ⊥
Threads R (x ∷ xs) [] old new = ⊥

-- what was picked of an entry was seen, has room in sums of this many, and is mixed by gains in range
pub record IsAddable {E : Type 0} (state : E → EndState) (channels size : ℕ) (e : StreamEntry E) : Type 0 where
  pub seen : e.picked ≤ (state e.store).seen
  pub room : channels * e.picked ≤ size
  pub gains : All (λ gain. gain ≤ unit_gain) e.gains
