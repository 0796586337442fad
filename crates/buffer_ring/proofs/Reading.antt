-- Words that a store in memory is read of: a list in two pieces, and one word after another.
use Rattle.std.proofs.Common.{◌≡◌, ◌≢◌, ℕ, suc, ◌+◌, ◌-◌, ◌≤◌, ◌⊎◌, inl, inr, List, [], ◌∷◌, ◌++◌, length, take, drop}
use Rattle.std.proofs.Common.{Some, refl, sym, ap, ◌∙◌, arith, append-nil}
use Rattle.std.specs.List.{slice_get}
use Rattle.std.proofs.Math.Seq.{take-length, drop-length, take-append-add, drop-append-add}
use Rattle.std.proofs.lemmas.Bool.{cases_eq}
use Rattle.std.proofs.lemmas.List.{take-append-drop, take-append-le, drop-append-le, drop-drop}
use Rattle.circular_buffer.proofs.Places.{slice_get-drop}
use Rattle.buffer_ring.specs.Steps.{reads_from}
use Rattle.buffer_ring.specs.Kept.{Kept, RunsSteps}

-- a number is the other, or else this length
abbrev pub IsNearer : ℕ → ℕ → ℕ → Type 0
IsNearer count n size = (count ≤ n) × (count ≤ size) × (count ≢ n → count ≡ size)

module _ (front back : List ℕ) where
  take_at : (n count : ℕ) → IsNearer count n (length front) → (count ≡ n) ⊎ (count ≢ n)
      → take count front ++ take (n - count) back ≡ take n (front ++ back)
  take_at n count near (inl same) =
      let none : n - count ≡ 0 = omega (arith, same) in
      ap (λ k. take count front ++ take k back) none ∙ append-nil (take count front)
      ∙ ap (λ k. take k front) same ∙ sym (take-append-le n front back (omega (arith, same, near.1)))
  take_at n count near (inr less) =
      let all : count ≡ length front = near.2 less in
      let both : length front + (n - count) ≡ n = omega (arith, all, near.0) in
      ap (λ k. take k front ++ take (n - count) back) all ∙ ap (λ l. l ++ take (n - count) back) (take-length front)
      ∙ sym (take-append-add front back (n - count)) ∙ ap (λ k. take k (front ++ back)) both

  drop_at : (i skipped : ℕ) → IsNearer skipped i (length front) → (skipped ≡ i) ⊎ (skipped ≢ i)
      → drop skipped front ++ drop (i - skipped) back ≡ drop i (front ++ back)
  drop_at i skipped near (inl same) =
      let none : i - skipped ≡ 0 = omega (arith, same) in
      ap (λ k. drop skipped front ++ drop k back) none ∙ ap (λ k. drop k front ++ back) same
      ∙ sym (drop-append-le i front back (omega (arith, same, near.1)))
  drop_at i skipped near (inr less) =
      let all : skipped ≡ length front = near.2 less in
      let both : length front + (i - skipped) ≡ i = omega (arith, all, near.0) in
      ap (λ k. drop k front ++ drop (i - skipped) back) all
      ∙ ap (λ l. l ++ drop (i - skipped) back) (drop-length front) ∙ sym (drop-append-add front back (i - skipped))
      ∙ ap (λ k. drop k (front ++ back)) both

-- n words from a place on, out of both pieces
pub two_pieces : (front back : List ℕ) (i n skipped count : ℕ) → IsNearer skipped i (length front)
    → IsNearer count n (length (drop skipped front))
    → take count (drop skipped front) ++ take (n - count) (drop (i - skipped) back) ≡ take n (drop i (front ++ back))
two_pieces front back i n skipped count past near =
    take_at (drop skipped front) (drop (i - skipped) back) n count near (cases_eq count n)
    ∙ ap (take n) (drop_at front back i skipped past (cases_eq skipped i))

-- words that are at a place are read there
reads_front : (k : Kept) (i : ℕ) (words rest : List ℕ) → drop i k.words ≡ words ++ rest
    → RunsSteps k (reads_from i words) k
reads_front k i [] rest e = refl
reads_front k i (word ∷ words) rest e =
    let here : slice_get k.words i ≡ Some word =
    sym (slice_get-drop i k.words 0 i (omega arith)) ∙ ap (λ l. slice_get l 0) e in
    let more : suc i ≡ i + 1 = omega arith in
    let next : drop (suc i) k.words ≡ words ++ rest =
    ap (λ n. drop n k.words) more ∙ sym (drop-drop 1 i k.words) ∙ ap (drop 1) e in
    (k, (here, refl), reads_front k (suc i) words rest next)

-- n words from a place on are read
pub reads_taken : (k : Kept) (i n : ℕ) (words : List ℕ) → words ≡ take n (drop i k.words)
    → RunsSteps k (reads_from i words) k
reads_taken k i n words e =
    reads_front k i words (drop n (drop i k.words))
    (sym (take-append-drop n (drop i k.words)) ∙ ap (λ l. l ++ drop n (drop i k.words)) (sym e))
