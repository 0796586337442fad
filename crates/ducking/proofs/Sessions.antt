-- The row of a session, before a change of the rows and after it.
use Rattle.std.proofs.Common.{◌≡◌, ◌≢◌, ℕ, zero, suc, List, [], ◌∷◌, ◌++◌, not, Bool, true, false, cond}
use Rattle.std.proofs.Common.{Some, None, refl, sym, ap, ap₂, ◌∙◌, subst, if◌then◌else◌}
use Rattle.std.proofs.Common.{eqb-true, eq-eqb, ne_eqb}
use Rattle.std.specs.List.{slice_get}
use Rattle.std.proofs.lemmas.Bool.{true≢false}
use Rattle.std.proofs.lemmas.Option.{none-some, same_Some}
use Rattle.ducking.specs.declared.rows.DuckRow.{DuckRow}
use Rattle.ducking.specs.Ducking.{is_row, removed, replaced, row_at}

-- the number of a row's session
abbrev pub number_of : DuckRow → ℕ
number_of row = row.session.0

-- a row is the one of its own session
pub own : (row : DuckRow) (session : ℕ) → number_of row ≡ session → is_row session row ≡ true
own row session e = eq-eqb (number_of row) session e

-- and of no other one
pub not_own : (row : DuckRow) (session : ℕ) → number_of row ≢ session → is_row session row ≡ false
not_own row session n = ne_eqb (number_of row) session n

pub is_not_own : (row : DuckRow) (session : ℕ) → is_row session row ≡ false → number_of row ≢ session
is_not_own row session f e = true≢false (sym (own row session e) ∙ f)

module _ (session : ℕ) where
  -- a row that is found is of the session
  pub found_own : (rows : List DuckRow) (row : DuckRow) → row_at session rows ≡ Some row → number_of row ≡ session
  found_own [] row e = absurd (none-some row e)
  found_own (x ∷ rows) row e = by (is_row session x) refl e (found_own rows row)
    where
      by : (b : Bool) → is_row session x ≡ b → cond b (Some x) (row_at session rows) ≡ Some row →
          (row_at session rows ≡ Some row → number_of row ≡ session) → number_of row ≡ session
      by true t e later = subst (λ y. number_of y ≡ session) (same_Some x row e) (eqb-true (number_of x) session t)
      by false t e later = later e

  -- a session that isn't there is neither the first nor behind it
  pub lacks_parts : (row : DuckRow) (rows : List DuckRow) → row_at session (row ∷ rows) ≡ None →
      (is_row session row ≡ false) × (row_at session rows ≡ None)
  lacks_parts row rows e = by (is_row session row) refl e
    where
      by : (b : Bool) → is_row session row ≡ b → cond b (Some row) (row_at session rows) ≡ None →
          (is_row session row ≡ false) × (row_at session rows ≡ None)
      by true t e = absurd (none-some row (sym e))
      by false t e = (t, e)

  -- a row at a place is found
  pub is_somewhere : (at : ℕ) (rows : List DuckRow) (row : DuckRow) → slice_get rows at ≡ Some row →
      number_of row ≡ session → row_at session rows ≢ None
  is_somewhere at [] row e n h = none-some row e
  is_somewhere zero (x ∷ rows) row e n h =
      is_not_own x session (lacks_parts x rows h).0 (ap number_of (same_Some x row e) ∙ n)
  is_somewhere (suc at) (x ∷ rows) row e n h = is_somewhere at rows row e n (lacks_parts x rows h).1

  -- ---- one less

  -- nothing changes if it isn't there
  pub removed_lacks : (rows : List DuckRow) → row_at session rows ≡ None → removed session rows ≡ rows
  removed_lacks [] e = refl
  removed_lacks (row ∷ rows) e =
      let parts = lacks_parts row rows e in
      ap₂ (λ b (rest : List DuckRow). cond (not b) (row ∷ rest) rest) parts.0 (removed_lacks rows parts.1)

  pub removed_own : (rows : List DuckRow) → row_at session (removed session rows) ≡ None
  removed_own [] = refl
  removed_own (row ∷ rows) = by (is_row session row) refl (removed_own rows)
    where
      by : (b : Bool) → is_row session row ≡ b → row_at session (removed session rows) ≡ None →
          row_at session (cond (not b) (row ∷ removed session rows) (removed session rows)) ≡ None
      by true t later = later
      by false t later = ap (λ b. cond b (Some row) (row_at session (removed session rows))) t ∙ later

  pub removed_other : (other : ℕ) → session ≢ other → (rows : List DuckRow) →
      row_at other (removed session rows) ≡ row_at other rows
  removed_other other apart [] = refl
  removed_other other apart (row ∷ rows) = by (is_row session row) refl (removed_other other apart rows)
    where
      by : (b : Bool) → is_row session row ≡ b → row_at other (removed session rows) ≡ row_at other rows →
          row_at other (cond (not b) (row ∷ removed session rows) (removed session rows)) ≡ row_at other (row ∷ rows)
      by true t later =
          later
          ∙ sym (ap (λ b. cond b (Some row) (row_at other rows))
          (not_own row other (λ e. apart (sym (eqb-true (number_of row) session t) ∙ e))))
      by false t later = ap (λ o. cond (is_row other row) (Some row) o) later

  -- ---- one more

  pub pushed_lacks : (rows : List DuckRow) (new : DuckRow) → row_at session rows ≡ None →
      row_at session (rows ++ new ∷ []) ≡ (if is_row session new then Some new else None)
  pushed_lacks [] new e = refl
  pushed_lacks (row ∷ rows) new e =
      let parts = lacks_parts row rows e in
      ap (λ b. cond b (Some row) (row_at session (rows ++ new ∷ []))) parts.0 ∙ pushed_lacks rows new parts.1

  pub pushed_other : (rows : List DuckRow) (new : DuckRow) → number_of new ≢ session →
      row_at session (rows ++ new ∷ []) ≡ row_at session rows
  pushed_other [] new n = ap (λ b. cond b (Some new) None) (not_own new session n)
  pushed_other (row ∷ rows) new n = ap (λ o. cond (is_row session row) (Some row) o) (pushed_other rows new n)

-- ---- another row in the place of its session's

module _ (new : DuckRow) where
  -- what stands in the place of a row
  abbrev pub put : DuckRow → DuckRow
  put row = if is_row (number_of new) row then new else row

  pub put_number : (row : DuckRow) → number_of (put row) ≡ number_of row
  put_number row = by (is_row (number_of new) row) refl
    where
      by : (b : Bool) → is_row (number_of new) row ≡ b → number_of (if b then new else row) ≡ number_of row
      by true t = sym (eqb-true (number_of row) (number_of new) t)
      by false t = refl

  pub replaced_lacks : (rows : List DuckRow) → row_at (number_of new) rows ≡ None → replaced new rows ≡ rows
  replaced_lacks [] e = refl
  replaced_lacks (row ∷ rows) e =
      let parts = lacks_parts (number_of new) row rows e in
      ap₂ (λ b (rest : List DuckRow). (if b then new else row) ∷ rest) parts.0 (replaced_lacks rows parts.1)

  pub replaced_own : (rows : List DuckRow) (old : DuckRow) → row_at (number_of new) rows ≡ Some old →
      row_at (number_of new) (replaced new rows) ≡ Some new
  replaced_own [] old e = absurd (none-some old e)
  replaced_own (row ∷ rows) old e = by (is_row (number_of new) row) refl e (replaced_own rows old)
    where
      by : (b : Bool) → is_row (number_of new) row ≡ b →
          cond b (Some row) (row_at (number_of new) rows) ≡ Some old →
          (row_at (number_of new) rows ≡ Some old → row_at (number_of new) (replaced new rows) ≡ Some new) →
          row_at (number_of new) ((if b then new else row) ∷ replaced new rows) ≡ Some new
      by true t e later = ap (λ b. cond b (Some new) (row_at (number_of new) (replaced new rows)))
          (own new (number_of new) refl)
      by false t e later = ap (λ b. cond b (Some row) (row_at (number_of new) (replaced new rows))) t ∙ later e

  pub replaced_other : (session : ℕ) → number_of new ≢ session → (rows : List DuckRow) →
      row_at session (replaced new rows) ≡ row_at session rows
  replaced_other session apart [] = refl
  replaced_other session apart (row ∷ rows) =
      by (is_row (number_of new) row) refl (replaced_other session apart rows)
    where
      by : (b : Bool) → is_row (number_of new) row ≡ b →
          row_at session (replaced new rows) ≡ row_at session rows →
          row_at session ((if b then new else row) ∷ replaced new rows) ≡ row_at session (row ∷ rows)
      by true t later =
          ap (λ b. cond b (Some new) (row_at session (replaced new rows))) (not_own new session apart)
          ∙ later
          ∙ sym (ap (λ b. cond b (Some row) (row_at session rows))
          (not_own row session (λ e. apart (sym (eqb-true (number_of row) (number_of new) t) ∙ e))))
      by false t later = ap (λ o. cond (is_row session row) (Some row) o) later
