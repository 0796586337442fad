-- A list in two pieces.
use Rattle.std.proofs.Common.{◌≡◌, ℕ, ◌+◌, ◌-◌, ◌<◌, ◌≤◌, min, List, ◌++◌, length, take, sym, ap, ap₂, ◌∙◌, arith}
use Rattle.std.proofs.Common.{◌⊎◌, inl, inr, append-nil}
use Rattle.std.proofs.Math.Seq.{take-append-add, take-length}
use Rattle.std.proofs.lemmas.List.{take-append-le}
use Rattle.std.proofs.lemmas.Bool.{cases_lt}

-- the first `count` out of both pieces
pub two_pieces : {X : Type 0} (front back : List X) (count : ℕ) →
    take (min count (length front)) front ++ take (count - min count (length front)) back
    ≡ take count (front ++ back)
two_pieces {X} front back count = by (cases_lt count (length front))
  where
    by : (count < length front) ⊎ (length front ≤ count) →
        take (min count (length front)) front ++ take (count - min count (length front)) back
        ≡ take count (front ++ back)
    by (inl less) =
        let same : min count (length front) ≡ count = omega arith in
        let none : count - min count (length front) ≡ 0 = omega arith in
        ap₂ (λ m k. take m front ++ take k back) same none
        ∙ append-nil (take count front)
        ∙ sym (take-append-le count front back (omega arith))
    by (inr more) =
        let all : min count (length front) ≡ length front = omega arith in
        let both : length front + (count - length front) ≡ count = omega arith in
        ap (λ m. take m front ++ take (count - m) back) all
        ∙ ap (λ ns. ns ++ take (count - length front) back) (take-length front)
        ∙ sym (take-append-add front back (count - length front))
        ∙ ap (λ k. take k (front ++ back)) both
