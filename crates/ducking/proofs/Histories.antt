-- What a book holds after a list of steps is what was said last.
use Rattle.std.proofs.Common.{◌≡◌, ◌≢◌, ℕ, ◌==◌, List, [], ◌∷◌, ◌++◌, Bool, true, false, Option, Some, None, is_some}
use Rattle.std.proofs.Common.{cond}
use Rattle.std.proofs.Common.{refl, sym, ap, ◌∙◌, subst, if◌then◌else◌, eqb-true, eq-eqb}
use Rattle.std.specs.List.{find}
use Rattle.std.proofs.lemmas.Bool.{true≢false}
use Rattle.ducking.specs.declared.rows.DuckRow.{DuckRow}
use Rattle.ducking.specs.Book.{Distinct}
use Rattle.ducking.specs.Ducking.{is_row, removed, replaced, row_at}
use Rattle.ducking.specs.Steps.{Step, Set, Remove, SetRule, after, last_row, last_rule, names, row_of}
use Rattle.ducking.proofs.Changes.{distinct_push, distinct_removed, distinct_replaced}
use Rattle.ducking.proofs.Sessions.{
  is_not_own,
  number_of,
  own,
  pushed_lacks,
  pushed_other,
  removed_other,
  removed_own,
  replaced_other,
  replaced_own,
}

pub rule_stands : (steps : List Step) → (after steps).rule ≡ last_rule steps
rule_stands [] = refl
rule_stands (Set row ∷ earlier) = rule_stands earlier
rule_stands (Remove session ∷ earlier) = rule_stands earlier
rule_stands (SetRule rule ∷ earlier) = refl

-- ---- a row that is set

module _ (new : DuckRow) (rows : List DuckRow) where
  -- the rows with it, by the row that its session has
  abbrev chosen : Option DuckRow → List DuckRow
  chosen o = if is_some o then replaced new rows else rows ++ new ∷ []

  abbrev changed : List DuckRow
  changed = chosen (row_at (number_of new) rows)

  set_own : row_at (number_of new) changed ≡ Some new
  set_own = by (row_at (number_of new) rows) refl
    where
      by : (o : Option DuckRow) → row_at (number_of new) rows ≡ o → row_at (number_of new) (chosen o) ≡ Some new
      by None e =
          pushed_lacks (number_of new) rows new e
          ∙ ap (λ b. if b then Some new else None) (own new (number_of new) refl)
      by (Some old) e = replaced_own new rows old e

  set_other : (session : ℕ) → number_of new ≢ session → row_at session changed ≡ row_at session rows
  set_other session apart = by (row_at (number_of new) rows)
    where
      by : (o : Option DuckRow) → row_at session (chosen o) ≡ row_at session rows
      by None = pushed_other session rows new apart
      by (Some old) = replaced_other new session apart rows

  set_distinct : Distinct rows → Distinct changed
  set_distinct d = by (row_at (number_of new) rows) refl
    where
      by : (o : Option DuckRow) → row_at (number_of new) rows ≡ o → Distinct (chosen o)
      by None e = distinct_push rows new d e
      by (Some old) e = distinct_replaced new rows d

-- ---- after all steps

-- each session has one row
pub distinct_stands : (steps : List Step) → Distinct (after steps).rows
distinct_stands [] = tt
distinct_stands (Set row ∷ earlier) = set_distinct row (after earlier).rows (distinct_stands earlier)
distinct_stands (Remove session ∷ earlier) = distinct_removed session (after earlier).rows (distinct_stands earlier)
distinct_stands (SetRule rule ∷ earlier) = distinct_stands earlier

module _ (session : ℕ) where
  row_set : (new : DuckRow) (earlier : List Step) →
      row_at session (after earlier).rows ≡ last_row session earlier →
      row_at session (after (Set new ∷ earlier)).rows ≡ last_row session (Set new ∷ earlier)
  row_set new earlier later = by (is_row session new) refl
    where
      by : (b : Bool) → is_row session new ≡ b →
          row_at session (changed new (after earlier).rows)
          ≡ row_of (cond b (Some (Set new)) (find (names session) earlier))
      by true t = subst (λ s. row_at s (changed new (after earlier).rows) ≡ Some new)
          (eqb-true (number_of new) session t) (set_own new (after earlier).rows)
      by false t = set_other new (after earlier).rows session (is_not_own new session t) ∙ later

  row_removed : (other : ℕ) (earlier : List Step) →
      row_at session (after earlier).rows ≡ last_row session earlier →
      row_at session (after (Remove other ∷ earlier)).rows ≡ last_row session (Remove other ∷ earlier)
  row_removed other earlier later = by (other == session) refl
    where
      by : (b : Bool) → (other == session) ≡ b →
          row_at session (removed other (after earlier).rows)
          ≡ row_of (cond b (Some (Remove other)) (find (names session) earlier))
      by true t = subst (λ s. row_at s (removed other (after earlier).rows) ≡ None)
          (eqb-true other session t) (removed_own other (after earlier).rows)
      by false t =
          removed_other other session (λ e. true≢false (sym (eq-eqb other session e) ∙ t)) (after earlier).rows
          ∙ later

  pub row_stands : (steps : List Step) → row_at session (after steps).rows ≡ last_row session steps
  row_stands [] = refl
  row_stands (Set new ∷ earlier) = row_set new earlier (row_stands earlier)
  row_stands (Remove other ∷ earlier) = row_removed other earlier (row_stands earlier)
  row_stands (SetRule rule ∷ earlier) = row_stands earlier
