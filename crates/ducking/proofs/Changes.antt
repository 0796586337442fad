-- Each session has one row after each change of the rows.
use Rattle.std.proofs.Common.{◌≡◌, ◌≢◌, ℕ, zero, suc, List, [], ◌∷◌, ◌++◌, not, Bool, true, false, cond, set}
use Rattle.std.proofs.Common.{Some, None, refl, sym, ap, ap₂, ◌∙◌, subst, if◌then◌else◌}
use Rattle.std.specs.List.{slice_get}
use Rattle.std.proofs.lemmas.Option.{none-some, same_Some}
use Rattle.ducking.specs.declared.rows.DuckRow.{DuckRow}
use Rattle.ducking.specs.Book.{Distinct}
use Rattle.ducking.specs.Ducking.{is_row, removed, replaced, row_at}
use Rattle.ducking.proofs.Sessions.{
  is_not_own,
  is_somewhere,
  lacks_parts,
  not_own,
  number_of,
  own,
  pushed_other,
  put,
  put_number,
  removed_other,
  replaced_lacks,
}

pub distinct_push : (rows : List DuckRow) (new : DuckRow) → Distinct rows → row_at (number_of new) rows ≡ None →
    Distinct (rows ++ new ∷ [])
distinct_push [] new d e = (refl, tt)
distinct_push (row ∷ rows) new d e =
    let parts = lacks_parts (number_of new) row rows e in
    let apart = is_not_own row (number_of new) parts.0 in
    (pushed_other (number_of row) rows new (λ h. apart (sym h)) ∙ d.0, distinct_push rows new d.1 parts.1)

pub distinct_removed : (session : ℕ) (rows : List DuckRow) → Distinct rows → Distinct (removed session rows)
distinct_removed session [] d = tt
distinct_removed session (row ∷ rows) d = by (is_row session row) refl (distinct_removed session rows d.1)
  where
    by : (b : Bool) → is_row session row ≡ b → Distinct (removed session rows) →
        Distinct (cond (not b) (row ∷ removed session rows) (removed session rows))
    by true t later = later
    by false t later =
        let apart = is_not_own row session t in
        (removed_other session (number_of row) (λ e. apart (sym e)) rows ∙ d.0, later)

module _ (new : DuckRow) where
  -- a session that isn't there isn't there afterwards
  lacks_replaced : (session : ℕ) (rows : List DuckRow) → row_at session rows ≡ None →
      row_at session (replaced new rows) ≡ None
  lacks_replaced session [] e = refl
  lacks_replaced session (row ∷ rows) e =
      let parts = lacks_parts session row rows e in
      let apart = is_not_own row session parts.0 in
      ap (λ b. cond b (Some (put new row)) (row_at session (replaced new rows)))
      (not_own (put new row) session (λ h. apart (sym (put_number new row) ∙ h)))
      ∙ lacks_replaced session rows parts.1

  pub distinct_replaced : (rows : List DuckRow) → Distinct rows → Distinct (replaced new rows)
  distinct_replaced [] d = tt
  distinct_replaced (row ∷ rows) d = (
    subst (λ n. row_at n (replaced new rows) ≡ None) (sym (put_number new row))
        (lacks_replaced (number_of row) rows d.0),
    distinct_replaced rows d.1,
  )

  -- a row that is written at the place of its session's
  pub replaced_there : (at : ℕ) (rows : List DuckRow) (old : DuckRow) → Distinct rows →
      slice_get rows at ≡ Some old → number_of old ≡ number_of new → set rows at new ≡ replaced new rows
  replaced_there at [] old d e n = absurd (none-some old e)
  replaced_there zero (row ∷ rows) old d e n =
      let same = ap number_of (same_Some row old e) ∙ n in
      let lacks = subst (λ m. row_at m rows ≡ None) same d.0 in
      ap₂ (λ b (rest : List DuckRow). (if b then new else row) ∷ rest) (sym (own row (number_of new) same))
      (sym (replaced_lacks new rows lacks))
  replaced_there (suc at) (row ∷ rows) old d e n =
      let apart : number_of row ≢ number_of new =
      λ h. is_somewhere (number_of row) at rows old e (n ∙ sym h) d.0 in
      ap₂ (λ b (rest : List DuckRow). (if b then new else row) ∷ rest) (sym (not_own row (number_of new) apart))
      (replaced_there at rows old d.1 e n)
