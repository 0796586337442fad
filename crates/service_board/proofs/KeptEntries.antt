-- What a test leaves of a list: of one that is mapped, and of one whose members' numbers rise.
use Rattle.std.proofs.Common.{◌≡◌, ℕ, suc, ◌<◌, ◌≤◌, ◌==◌, ◌||◌, not, List, [], ◌∷◌, length, map, filter, Bool, true}
use Rattle.std.proofs.Common.{false, cond, Some, refl, sym, ap, ap₂, ◌∙◌, find, arith, eqb-true}
use Rattle.std.proofs.lemmas.Bool.{false≢true, or_from, or_parts}
use Rattle.std.proofs.lemmas.Bool.Decides.{nat_tests}
use Rattle.std.specs.List.{list_any}
use Rattle.ca_stage.specs.Order.{RisesFrom}

pub kept_mapped : {A B : Type 0} (f : A → B) (q : B → Bool) (p : A → Bool) → ((a : A) → q (f a) ≡ p a) →
    (xs : List A) → filter q (map f xs) ≡ map f (filter p xs)
kept_mapped f q p h [] = refl
kept_mapped f q p h (x ∷ xs) =
    ap₂ (λ v ys. cond v (f x ∷ ys) ys) (h x) (kept_mapped f q p h xs) ∙ one (p x)
  where
    one : (v : Bool) → cond v (f x ∷ map f (filter p xs)) (map f (filter p xs))
        ≡ map f (cond v (x ∷ filter p xs) (filter p xs))
    one true = refl
    one false = refl

pub kept_alike : {A B : Type 0} (f g : A → B) (p : A → Bool) → ((a : A) → p a ≡ true → f a ≡ g a) → (xs : List A) →
    map f (filter p xs) ≡ map g (filter p xs)
kept_alike f g p h [] = refl
kept_alike f g p h (x ∷ xs) = one (p x) (h x) (kept_alike f g p h xs)
  where
    one : (v : Bool) → (v ≡ true → f x ≡ g x) → map f (filter p xs) ≡ map g (filter p xs) →
        map f (cond v (x ∷ filter p xs) (filter p xs))
        ≡ map g (cond v (x ∷ filter p xs) (filter p xs))
    one true e rest = ap₂ (λ y ys. y ∷ ys) (e refl) rest
    one false e rest = rest

pub fewer_kept : {A : Type 0} (p : A → Bool) (xs : List A) → length (filter p xs) ≤ length xs
fewer_kept p [] = omega arith
fewer_kept p (x ∷ xs) = one (p x) (fewer_kept p xs)
  where
    one : (v : Bool) → length (filter p xs) ≤ length xs →
        length (cond v (x ∷ filter p xs) (filter p xs)) ≤ length (x ∷ xs)
    one true le = omega arith
    one false le = omega arith

any_kept : {A : Type 0} (p q : A → Bool) (xs : List A) → list_any p xs ≡ false → list_any p (filter q xs) ≡ false
any_kept p q [] h = refl
any_kept p q (x ∷ xs) h =
    let parts = or_parts (p x) (list_any p xs) h in
    one (q x) parts.0 (any_kept p q xs parts.1)
  where
    one : (v : Bool) → p x ≡ false → list_any p (filter q xs) ≡ false →
        list_any p (cond v (x ∷ filter q xs) (filter q xs)) ≡ false
    one true e rest = or_from (p x) (list_any p (filter q xs)) e rest
    one false e rest = rest

-- ---- numbers that rise

rises_lower : (low high : ℕ) (ns : List ℕ) → low ≤ high → RisesFrom high ns → RisesFrom low ns
rises_lower low high [] le h = tt
rises_lower low high (n ∷ ns) le h =
    let first = h.0 in
    (omega arith, h.1)

-- what is found stays so, if those that are left are all of which the test says yes
pub find_kept : {A : Type 0} (test p : A → Bool) → ((x : A) → test x ≡ true → p x ≡ true) → (xs : List A) →
    find test (filter p xs) ≡ find test xs
find_kept test p h [] = refl
find_kept test p h (x ∷ xs) = by (p x) (h x) (find_kept test p h xs)
  where
    out : (own : Bool) → (own ≡ true → false ≡ true) → own ≡ false
    out true own = absurd (false≢true (own refl))
    out false own = refl

    by : (stays : Bool) → (test x ≡ true → stays ≡ true) → find test (filter p xs) ≡ find test xs →
        find test (cond stays (x ∷ filter p xs) (filter p xs)) ≡ find test (x ∷ xs)
    by true own rest = ap (cond (test x) (Some x)) rest
    by false own rest = rest ∙ sym (ap (λ v. cond v (Some x) (find test xs)) (out (test x) own))

module _ {A : Type 0} (number : A → ℕ) where
  pub rises_kept : (p : A → Bool) (low : ℕ) (xs : List A) → RisesFrom low (map number xs) →
      RisesFrom low (map number (filter p xs))
  rises_kept p low [] h = tt
  rises_kept p low (x ∷ xs) h = one (p x) (rises_kept p (suc (number x)) xs h.1)
    where
      one : (v : Bool) → RisesFrom (suc (number x)) (map number (filter p xs)) →
          RisesFrom low (map number (cond v (x ∷ filter p xs) (filter p xs)))
      one true rest = (h.0, rest)
      one false rest =
          let first = h.0 in
          rises_lower low (suc (number x)) (map number (filter p xs)) (omega arith) rest

  none_lower : (n low : ℕ) (xs : List A) → n < low → RisesFrom low (map number xs) →
      list_any (λ x. number x == n) xs ≡ false
  none_lower n low [] lt h = refl
  none_lower n low (x ∷ xs) lt h =
      let first = h.0 in
      or_from (number x == n) (list_any (λ x. number x == n) xs) (grind (arith, nat_tests))
      (none_lower n (suc (number x)) xs (omega arith) h.1)

  -- no other one has the number of the first
  no_other : (n : ℕ) (x : A) (xs : List A) (q : A → Bool) → RisesFrom (suc (number x)) (map number xs) →
      (number x == n) ≡ true → list_any (λ x. number x == n) (filter q xs) ≡ false
  no_other n x xs q h e =
      let same = eqb-true (number x) n e in
      any_kept (λ x. number x == n) q xs (none_lower n (suc (number x)) xs (omega arith) h)

  -- who is among those that a test leaves isn't among the others
  pub apart : (p : A → Bool) (n low : ℕ) (xs : List A) → RisesFrom low (map number xs) →
      list_any (λ x. number x == n) (filter (λ x. not (p x)) xs) ≡ true →
      list_any (λ x. number x == n) (filter p xs) ≡ false
  apart p n low [] h left = refl
  apart p n low (x ∷ xs) h left =
      by (number x == n) refl (p x) (λ k. apart p n (suc (number x)) xs h.1 k) left
    where
      by : (own : Bool) → (number x == n) ≡ own → (v : Bool) →
          (list_any (λ x. number x == n) (filter (λ x. not (p x)) xs) ≡ true →
          list_any (λ x. number x == n) (filter p xs) ≡ false) →
          list_any (λ x. number x == n)
          (cond (not v) (x ∷ filter (λ x. not (p x)) xs) (filter (λ x. not (p x)) xs)) ≡ true →
          list_any (λ x. number x == n) (cond v (x ∷ filter p xs) (filter p xs)) ≡ false
      by true e true rest left = absurd (false≢true (sym (no_other n x xs (λ x. not (p x)) h.1 e) ∙ left))
      by false e true rest left =
          or_from (number x == n) (list_any (λ x. number x == n) (filter p xs)) e (rest left)
      by true e false rest left = no_other n x xs p h.1 e
      by false e false rest left =
          rest (sym (ap (λ v. v || list_any (λ x. number x == n) (filter (λ x. not (p x)) xs)) e) ∙ left)

  -- who is found, and is left, is found among those that are left
  pub found_kept : (q : A → Bool) (n low : ℕ) (xs : List A) (c : A) → RisesFrom low (map number xs) →
      find (λ x. number x == n) xs ≡ Some c → list_any (λ x. number x == n) (filter q xs) ≡ true →
      find (λ x. number x == n) (filter q xs) ≡ Some c
  found_kept q n low [] c h found left = found
  found_kept q n low (x ∷ xs) c h found left =
      by (number x == n) refl (q x) (λ f k. found_kept q n (suc (number x)) xs c h.1 f k) left
    where
      rest : (number x == n) ≡ false → find (λ x. number x == n) xs ≡ Some c
      rest e = sym (ap (λ v. cond v (Some x) (find (λ x. number x == n) xs)) e) ∙ found

      by : (own : Bool) → (number x == n) ≡ own → (v : Bool) →
          (find (λ x. number x == n) xs ≡ Some c → list_any (λ x. number x == n) (filter q xs) ≡ true →
          find (λ x. number x == n) (filter q xs) ≡ Some c) →
          list_any (λ x. number x == n) (cond v (x ∷ filter q xs) (filter q xs)) ≡ true →
          find (λ x. number x == n) (cond v (x ∷ filter q xs) (filter q xs)) ≡ Some c
      by true e true later left =
          ap (λ v. cond v (Some x) (find (λ x. number x == n) (filter q xs))) e
          ∙ sym (ap (λ v. cond v (Some x) (find (λ x. number x == n) xs)) e) ∙ found
      by true e false later left = absurd (false≢true (sym (no_other n x xs q h.1 e) ∙ left))
      by false e true later left =
          ap (λ v. cond v (Some x) (find (λ x. number x == n) (filter q xs))) e
          ∙ later (rest e)
          (sym (ap (λ v. v || list_any (λ x. number x == n) (filter q xs)) e) ∙ left)
      by false e false later left = later (rest e) left
