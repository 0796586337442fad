-- Lists in the order of numbers, after changes of them.
use Rattle.std.proofs.Common.{◌≡◌, ℕ, ◌<◌, ◌≤◌, suc, zero, List, [], ◌∷◌, ◌++◌, Some, refl, sym, ap, ap₂, ◌∙◌, subst}
use Rattle.std.proofs.Common.{arith, set, if◌then◌else◌, eq-eqb, ne_eqb}
use Rattle.std.specs.List.{AllByRecursion, slice_get}
use Rattle.std.proofs.lemmas.Option.{none-some, same_Some}
use Rattle.ca_base.specs.Numbered.{Rise, changed_numbered}

-- ---- what holds of each one

pub each_set : {A : Type 0} (P : A → Type 0) (at : ℕ) (list : List A) (new : A) → AllByRecursion P list → P new →
    AllByRecursion P (set list at new)
each_set P at [] new h k = tt
each_set P zero (x ∷ list) new h k = (k, h.1)
each_set P (suc at) (x ∷ list) new h k = (h.0, each_set P at list new h.1 k)

pub each_push : {A : Type 0} (P : A → Type 0) (list : List A) (new : A) → AllByRecursion P list → P new →
    AllByRecursion P (list ++ new ∷ [])
each_push P [] new h k = (k, tt)
each_push P (x ∷ list) new h k = (h.0, each_push P list new h.1 k)

pub each_there : {A : Type 0} (P : A → Type 0) (at : ℕ) (list : List A) (x : A) → AllByRecursion P list →
    slice_get list at ≡ Some x → P x
each_there P at [] x h e = absurd (none-some x e)
each_there P zero (y ∷ list) x h e = subst P (same_Some y x e) h.0
each_there P (suc at) (y ∷ list) x h e = each_there P at list x h.1 e

module _ {A : Type 0} (number : A → ℕ) where
  -- ---- the numbers rise

  pub rise_lower : (low low' last : ℕ) (list : List A) → low' ≤ low → Rise number low last list →
      Rise number low' last list
  rise_lower low low' last [] l r = omega (arith, r)
  rise_lower low low' last (x ∷ list) l r = let k = r.0 in (omega arith, r.1)

  pub rise_last : (low last : ℕ) (list : List A) → Rise number low last list → low ≤ last
  rise_last low last [] r = r
  rise_last low last (x ∷ list) r = let k = r.0 in let l = rise_last (number x) last list r.1 in omega arith

  -- a new one above the last
  pub rise_push : (low last : ℕ) (list : List A) (new : A) → last < number new → Rise number low last list →
      Rise number low (number new) (list ++ new ∷ [])
  rise_push low last [] new l r = (omega (arith, r), omega arith)
  rise_push low last (x ∷ list) new l r = (r.0, rise_push (number x) last list new l r.1)

  -- one in the place of another that has its number
  pub rise_set : (low last at : ℕ) (list : List A) (x new : A) → Rise number low last list →
      slice_get list at ≡ Some x → number new ≡ number x → Rise number low last (set list at new)
  rise_set low last at [] x new r e n = r
  rise_set low last zero (y ∷ list) x new r e n =
      let same : number y ≡ number new = ap number (same_Some y x e) ∙ sym n in
      subst (λ m. (low < m) × Rise number m last list) same r
  rise_set low last (suc at) (y ∷ list) x new r e n = (r.0, rise_set (number y) last at list x new r.1 e n)

  -- ---- one of them changes

  -- one of a number above is none of those before it
  above : (n : ℕ) (f : A → A) (low last : ℕ) (list : List A) → n ≤ low → Rise number low last list →
      changed_numbered number n f list ≡ list
  above n f low last [] l r = refl
  above n f low last (x ∷ list) l r =
      let k = r.0 in
      ap₂ (λ b (rest : List A). (if b then f x else x) ∷ rest) (ne_eqb (number x) n (λ e. omega (arith, e)))
      (above n f (number x) last list (omega arith) r.1)

  -- a change at its place is a change of the one of its number
  pub changed_there : (f : A → A) (low last at : ℕ) (list : List A) (x : A) → Rise number low last list →
      slice_get list at ≡ Some x → set list at (f x) ≡ changed_numbered number (number x) f list
  changed_there f low last at [] x r e = refl
  changed_there f low last zero (y ∷ list) x r e =
      let same : y ≡ x = same_Some y x e in
      let own = ap (λ b. if b then f y else y) (eq-eqb (number y) (number x) (ap number same)) in
      let behind = above (number x) f (number y) last list (omega (arith, ap number same)) r.1 in
      ap₂ (λ z (rest : List A). z ∷ rest) (sym (ap f same) ∙ sym own) (sym behind)
  changed_there f low last (suc at) (y ∷ list) x r e =
      let later = there (number y) at list r.1 e in
      ap₂ (λ z (rest : List A). z ∷ rest)
      (sym (ap (λ b. if b then f y else y) (ne_eqb (number y) (number x) (λ h. omega (arith, later, h)))))
      (changed_there f (number y) last at list x r.1 e)
    where
      there : (low at : ℕ) (list : List A) → Rise number low last list → slice_get list at ≡ Some x → low < number x
      there low at [] r e = absurd (none-some x e)
      there low zero (z ∷ list) r e = let k = r.0 in omega (arith, ap number (same_Some z x e))
      there low (suc at) (z ∷ list) r e = let k = r.0 in let l = there (number z) at list r.1 e in omega arith
