-- One step of the loop that adds samples to sums.
use Rattle.std.proofs.Common.{◌≡◌, ℕ, ◌+◌, ◌<◌, ◌≤◌, ℤ, pos, ◌+ℤ◌, List, ◌++◌, length, get_or, set, take, drop}
use Rattle.std.proofs.Common.{ap, arith, unsigned_abs, drop-drop, to_z, of_z}
use Rattle.std.specs.Int.{w64}
use Rattle.std.proofs.lemmas.Int.{to_z-of_z, fits_signed_from_abs}
use Rattle.std.proofs.lemmas.List.{drop-set-lt, get_or-drop}
use Rattle.std.proofs.lemmas.List.Elements.{All-set}
use Rattle.std.proofs.lemmas.Grind.{common_steps}
use Rattle.volume_stack.specs.Scaling.{scaled}
use Rattle.volume_stack.specs.Sums.{sum_limit, sample_limit, sums_with, AreWithin}

-- what is done and what is left are the whole, after one more
pub one_more : (gain : ℕ) (samples sums : List ℤ) (i : ℕ) (v : ℤ) (whole : List ℤ)
    → i < length samples → i < length sums
    → v ≡ get_or sums i (pos 0) +ℤ scaled (get_or samples i (pos 0)) gain
    → take i sums ++ sums_with gain (drop i samples) (drop i sums) ≡ whole
    → take (i + 1) (set sums i v) ++ sums_with gain (drop (i + 1) samples) (drop (i + 1) (set sums i v)) ≡ whole
one_more gain samples sums i v whole p q e h = grind (arith, common_steps)

-- what is left is as it was
pub at_rest : (sums old : List ℤ) (i : ℕ) (d : ℤ) → drop i sums ≡ drop i old → get_or sums i d ≡ get_or old i d
at_rest sums old i d e =
    grind (arith, common_steps, get_or-drop i sums 0 d, get_or-drop i old 0 d, ap (λ xs. get_or xs 0 d) e)

-- a sum that is left is within the bound
pub within_at : (sums old : List ℤ) (i : ℕ) → drop i sums ≡ drop i old → AreWithin sum_limit old → i < length old
    → unsigned_abs (get_or sums i (pos 0)) ≤ sum_limit
within_at sums old i e h p = rw (at_rest sums old i (pos 0) e) (h i (pos 0) p)

-- the program reads such a number as it is
pub as_it_is : (z : ℤ) → unsigned_abs z ≤ sum_limit → to_z w64 (of_z w64 z) ≡ z
as_it_is z near = to_z-of_z w64 z (fits_signed_from_abs w64 z (omega arith))

-- after one more, what is left is as it was
pub one_less_left : (sums old : List ℤ) (i : ℕ) (v : ℤ) → i < length sums → i < length old → drop i sums ≡ drop i old
    → drop (i + 1) (set sums i v) ≡ drop (i + 1) old
one_less_left sums old i v p q e =
    rw (drop-set-lt (i + 1) sums i v (omega arith))
    (grind (arith, ap (drop 1) e, drop-drop 1 i sums, drop-drop 1 i old))

-- after one more, the sums are as near to 0 as they were, and a sample's breadth
pub near_more : (sums old : List ℤ) (i : ℕ) (v : ℤ) → i < length old → length sums ≡ length old
    → drop i sums ≡ drop i old
    → unsigned_abs v ≤ unsigned_abs (get_or sums i (pos 0)) + sample_limit
    → ((bound : ℕ) → AreWithin bound old → AreWithin (bound + sample_limit) sums)
    → (bound : ℕ) → AreWithin bound old → AreWithin (bound + sample_limit) (set sums i v)
near_more sums old i v p q e near all bound h =
    let there : unsigned_abs (get_or sums i (pos 0)) ≤ bound = rw (at_rest sums old i (pos 0) e) (h i (pos 0) p) in
    All-set (λ sum. unsigned_abs sum ≤ bound + sample_limit) sums i v (omega arith) (all bound h)
