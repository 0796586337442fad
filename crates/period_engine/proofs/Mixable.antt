-- What a Sound needs of entries, and what it leaves of them.
use Rattle.std.proofs.Common.{◌≡◌, ℕ, ◌*◌, ◌≤◌, ℤ, List, [], ◌∷◌, ◌++◌, length, take, sym, ap, ◌∙◌, arith}
use Rattle.std.specs.List.{All}
use Rattle.std.proofs.lemmas.List.{take-take, take-append-le}
use Rattle.std.proofs.lemmas.List.Elements.{All-nil, All-cons, All-head, All-tail}
use Rattle.std.proofs.Math.Nat.{mul-le-mul_left, mul_comm}
use Rattle.buffer_ring.specs.declared.step.EndState.{EndState}
use Rattle.buffer_ring.specs.declared.step.StoreStep.{StoreStep}
use Rattle.period_engine.specs.declared.entry.StreamEntry.{StreamEntry}
use Rattle.period_engine.specs.Entries.{IsPicked, is_played}
use Rattle.period_engine.specs.Sounds.{IsMixable}
use Rattle.period_engine.specs.Added.{Threads, AddsEntry, IsAddable}

-- the front of a list that is longer
pub front_of : (n len : ℕ) (xs ys : List ℕ) → n ≤ len → n ≤ length xs → take n (take len (xs ++ ys)) ≡ take n xs
front_of n len xs ys within there = take-take n len (xs ++ ys) within ∙ take-append-le n xs ys there

pub addable : {E : Type 0} (state : E → EndState) (number p channels : ℕ) (e : StreamEntry E)
    → IsPicked state number p e
    → IsMixable channels e → IsAddable state channels (p * channels) e
addable state number p channels e picked mixable = record {
  seen = picked.seen;
  room = omega (arith, mul-le-mul_left channels picked.within, mul_comm channels p);
  gains = mixable.gains;
}

module _ {E : Type 0} (moves : E → List StoreStep → E → Type 0) (state : E → EndState) (number p channels : ℕ) where
  -- an entry that was read is picked as before
  still_picked : (a b : StreamEntry E) (old new : List ℤ) → AddsEntry moves state channels a b old new
      → IsPicked state number p a → IsPicked state number p b
  still_picked a b old new adds picked =
      let takes = adds.takes in
      let same : is_played number b ≡ is_played number a = cc in
      record {
        fits = record {
          gate = ap (λ s. s.gate) adds.knows ∙ picked.fits.gate ∙ sym takes.gate;
          size = ap (λ s. s.cap) adds.knows ∙ picked.fits.size ∙ sym takes.same.room;
          position = omega (arith, picked.fits.position, takes.position);
          offered = omega (arith, picked.fits.offered, takes.offered, takes.ever);
          ever = omega (arith, picked.fits.ever, takes.ever);
          some_channel = omega (arith, picked.fits.some_channel, takes.same.channels);
          few_channels = omega (arith, picked.fits.few_channels, takes.same.channels);
        };
        plays = λ test. takes.picked ∙ picked.plays (sym same ∙ test);
        seen = omega (arith, picked.seen, takes.picked, ap (λ s. s.seen) adds.knows);
        within = omega (arith, picked.within, takes.picked);
        counts = omega (arith, picked.counts, takes.picked, takes.position);
      }

  pub all_picked : (xs ys : List (StreamEntry E)) (old new : List ℤ)
      → Threads (AddsEntry moves state channels) xs ys old new
      → All (IsPicked state number p) xs → All (IsPicked state number p) ys
  all_picked [] [] old new h picked = All-nil (IsPicked state number p)
  all_picked (x ∷ xs) (y ∷ ys) old new h picked =
      All-cons (IsPicked state number p) y ys
      (still_picked x y old h.0 h.1 (All-head (IsPicked state number p) x xs picked))
      (all_picked xs ys h.0 new h.2 (All-tail (IsPicked state number p) x xs picked))
  all_picked [] (y ∷ ys) old new h picked = absurd h
  all_picked (x ∷ xs) [] old new h picked = absurd h
