-- The place of the first one that passes a test.
use Rattle.std.proofs.Common.{◌≡◌, ℕ, ◌<◌, nat_lt, List, [], ◌∷◌, length, Bool, true, false, cond, refl, sym, ap, ◌∙◌}
use Rattle.std.proofs.Common.{Option, Some, None, subst, get_or}
use Rattle.std.specs.List.{find, position, position_or_len, slice_get}
use Rattle.std.proofs.lemmas.List.Folds.{find_at}
use Rattle.std.proofs.lemmas.Option.{none-some, same_Some, slice_get_past, slice_get_read}
use borrow.Author.Tests.{ltb-true, ltb-false}

abbrev pub FindsPlace : {A : Type 0} → (A → Bool) → List A → Option ℕ → Type 0
FindsPlace test list None = find test list ≡ None
FindsPlace test list (Some at) = (at < length list) × (find test list ≡ slice_get list at)

module _ {A : Type 0} (test : A → Bool) where
  pub finds_place : (list : List A) (place : Option ℕ) → place ≡ position test list → FindsPlace test list place
  finds_place list place e =
      subst (FindsPlace test list) (sym e) (by (nat_lt (position_or_len test list) (length list)) refl)
    where
      by : (b : Bool) → nat_lt (position_or_len test list) (length list) ≡ b →
          FindsPlace test list (cond b (Some (position_or_len test list)) None)
      by true t = (ltb-true (position_or_len test list) (length list) t, find_at test list)
      by false t =
          find_at test list
          ∙ slice_get_past list (position_or_len test list) (ltb-false (position_or_len test list) (length list) t)

  -- at no place nothing is found
  pub found_nowhere : (list searched : List A) → searched ≡ list → None ≡ position test searched →
      find test list ≡ None
  found_nowhere list searched e place = ap (find test) (sym e) ∙ finds_place searched None place

  -- what is read at the place is what is found
  pub found_there : (list searched : List A) (at : ℕ) (x : A) → searched ≡ list → Some at ≡ position test searched →
      x ≡ get_or list at x → (find test list ≡ Some x) × (slice_get list at ≡ Some x)
  found_there list searched at x e place read =
      let found = finds_place list (Some at) (place ∙ ap (position test) e) in
      let here = slice_get_read list (length list) at x refl found.0 read in
      (found.1 ∙ here, here)

  -- what is found passes the test
  pub found_passes : (list : List A) (x : A) → find test list ≡ Some x → test x ≡ true
  found_passes [] x e = absurd (none-some x e)
  found_passes (y ∷ list) x e = by (test y) (find test list) refl (found_passes list x) e
    where
      by : (b : Bool) (o : Option A) → test y ≡ b → (o ≡ Some x → test x ≡ true) →
          cond b (Some y) o ≡ Some x → test x ≡ true
      by true o t later e = subst (λ z. test z ≡ true) (same_Some y x e) t
      by false o t later e = later e
