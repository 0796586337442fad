-- What a search by halves finds in a list whose numbers rise.
use Rattle.std.proofs.Common.{◌≡◌, ℕ, zero, suc, ◌<◌, ◌≤◌, ◌==◌, nat_lt, List, [], ◌∷◌, length, map, Bool, true, false}
use Rattle.std.proofs.Common.{Some, None, refl, sym, ap, ◌∙◌, cond, arith, get_or, eqb, ltb, not}
use denote.Param.Members.{Mut}
use denote.Ref.{Bor}
use Rattle.std.proofs.lemmas.Bool.{false≢true}
use Rattle.std.proofs.lemmas.Bool.Decides.{nat_tests}
use Rattle.std.proofs.lemmas.List.Sums.{position_or_len_is}
use Rattle.std.proofs.lemmas.List.Sorted.{IsPartitionedBy-ltb, IsPartitionPoint-from_clause}
use Rattle.std.specs.Fn.{Called, ComputesKey}
use Rattle.std.specs.List.{position}
use Rattle.std.specs.List.Sorted.{IsNonDecreasingBy, IsPartitionPoint, IsPartitionedBy}
use Rattle.ca_stage.specs.Order.{RisesFrom}

module _ {X : Type 0} (n : X → ℕ) where
  -- each number is at least the lowest
  above : (low : ℕ) (xs : List X) → RisesFrom low (map n xs) → (j : ℕ) (d : X) → j < length xs → low ≤ n (get_or xs j d)
  above low [] h j d lt = absurd (omega arith)
  above low (x ∷ xs) h zero d lt = h.0
  above low (x ∷ xs) h (suc j) d lt =
      let k = above (suc (n x)) xs h.1 j d (omega arith) in
      let l = h.0 in
      omega arith

  -- and greater than the one before it
  pub rising : (low : ℕ) (xs : List X) → RisesFrom low (map n xs) → (i j : ℕ) (d : X) → i < j → j < length xs →
      n (get_or xs i d) < n (get_or xs j d)
  rising low [] h i j d l lt = absurd (omega arith)
  rising low (x ∷ xs) h i zero d l lt = absurd (omega arith)
  rising low (x ∷ xs) h zero (suc j) d l lt = let k = above (suc (n x)) xs h.1 j d (omega arith) in omega arith
  rising low (x ∷ xs) h (suc i) (suc j) d l lt = rising (suc (n x)) xs h.1 i j d (omega arith) (omega arith)

  pub non_decreasing : (low : ℕ) (xs : List X) → RisesFrom low (map n xs) → IsNonDecreasingBy n xs
  non_decreasing low xs h i j d le lt = by (eqb i j) refl
    where
      by : (b : Bool) → eqb i j ≡ b → n (get_or xs i d) ≤ n (get_or xs j d)
      by true e = let same : i ≡ j = grind (arith, nat_tests) in rw same (omega arith)
      by false e =
          let apart : i < j = grind (arith, nat_tests) in
          let k = rising low xs h i j d apart lt in
          omega arith

  module _ (low t : ℕ) (xs : List X) (at : ℕ) (rises : RisesFrom low (map n xs)) where
    -- the place that a search by halves answers parts the lower numbers from the others
    pub parts : {F : Type 0} {g : Mut F (Bor X × Unit {0}) Bool} {f : F} →
        ((q : X → Bool) → ComputesKey g q f → IsPartitionedBy q xs →
        IsPartitionPoint (λ y. q y ≡ true) (λ y. q y ≡ false) xs at) →
        ((a : Bor X × Unit {0}) (r : Bool) (f' : F) → Called g f a r f' → (r ≡ ltb (n a.0.now) t) × (f' ≡ f)) →
        IsPartitionPoint (λ y. ltb (n y) t ≡ true) (λ y. ltb (n y) t ≡ false) xs at
    parts clause computes =
        IsPartitionPoint-from_clause (λ y. ltb (n y) t) xs at clause
        (IsPartitionedBy-ltb n xs t (non_decreasing low xs rises)) computes

  -- a test that nothing passes but the number t
  module _ (low t : ℕ) (xs : List X) (at : ℕ) (test : X → Bool) (names : (y : X) → (n y == t) ≡ false → test y ≡ false)
      (rises : RisesFrom low (map n xs)) (within : at ≤ length xs)
      (point : IsPartitionPoint (λ y. ltb (n y) t ≡ true) (λ y. ltb (n y) t ≡ false) xs at) where
    -- the members before the place have lower numbers
    below : (k : ℕ) (d : X) → k < at → test (get_or xs k d) ≡ false
    below k d lt =
        let less : ltb (n (get_or xs k d)) t ≡ true = point.0 k d (omega arith) lt in
        names (get_or xs k d) (grind (arith, nat_tests))

    -- those from the place on have no lower ones
    least : (k : ℕ) (d : X) → at ≤ k → k < length xs → t ≤ n (get_or xs k d)
    least k d le lt =
        let more : ltb (n (get_or xs k d)) t ≡ false = point.1 k d le lt in
        grind (arith, nat_tests)

    -- a place is the first that passes
    placed : (i : ℕ) (x : X) → i ≤ length xs → ((k : ℕ) → k < i → test (get_or xs k x) ≡ false) →
        (i < length xs → test (get_or xs i x) ≡ true) →
        cond (nat_lt i (length xs)) (Some i) None ≡ position test xs
    placed i x le fails passes =
        ap (λ j. cond (nat_lt j (length xs)) (Some j) None) (sym (position_or_len_is test xs i x le fails passes))

    -- the member at the place passes
    pub place_found : (x : X) → at < length xs → test (get_or xs at x) ≡ true → Some at ≡ position test xs
    place_found x lt same =
        let yes : nat_lt at (length xs) ≡ true = grind (arith, nat_tests) in
        sym (ap (λ b. cond b (Some at) None) yes)
        ∙ placed at x within (λ k l. below k x l) (λ l. same)

    -- no member passes
    none_has : (x : X) → ((k : ℕ) → k < length xs → test (get_or xs k x) ≡ false) → None ≡ position test xs
    none_has x fails =
        let no : nat_lt (length xs) (length xs) ≡ false = grind (arith, nat_tests) in
        sym (ap (λ b. cond b (Some (length xs)) None) no)
        ∙ placed (length xs) x (omega arith) fails (λ l. absurd (omega arith))

    pub place_past : length xs ≤ at → None ≡ position test xs
    place_past past = by xs refl
      where
        by : (ys : List X) → xs ≡ ys → None ≡ position test xs
        by [] e = ap (position test) (sym e)
        by (y ∷ ys) e = none_has y (λ k l. below k y (omega arith))

    pub place_other : (x : X) → at < length xs → test (get_or xs at x) ≡ false → None ≡ position test xs
    place_other x lt other = none_has x fails
      where
        fails : (k : ℕ) → k < length xs → test (get_or xs k x) ≡ false
        fails k l = by (ltb k at) refl (eqb k at) refl
          where
            by : (b : Bool) → ltb k at ≡ b → (c : Bool) → eqb k at ≡ c → test (get_or xs k x) ≡ false
            by true e c f = below k x (grind (arith, nat_tests))
            by false e true f = let same : k ≡ at = grind (arith, nat_tests) in rw same other
            by false e false f =
                let after : at < k = grind (arith, nat_tests) in
                let up = rising low xs rises at k x after l in
                let low_at = least at x (omega arith) lt in
                names (get_or xs k x) (grind (arith, nat_tests))

-- a test that says no, and one that says yes
pub says_no : (b : Bool) → true ≡ not b → b ≡ false
says_no true e = absurd (false≢true (sym e))
says_no false e = refl

pub says_yes : (b : Bool) → false ≡ not b → b ≡ true
says_yes true e = refl
says_yes false e = absurd (false≢true e)
