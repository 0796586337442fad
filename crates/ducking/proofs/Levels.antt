-- A session that may be ducked is ducked if the count of active communications sessions isn't 0.
use Rattle.std.proofs.Common.{◌≡◌, ℕ, suc, arith, ◌&&◌, ◌||◌, not, nat_lt, List, [], ◌∷◌, length, filter, Bool, true}
use Rattle.std.proofs.Common.{false, cond}
use Rattle.std.proofs.Common.{Option, Some, None, refl, sym, ap, ap₂, ◌∙◌, subst, if◌then◌else◌, eqb-true}
use Rattle.std.specs.Option.{option_map_or}
use Rattle.std.proofs.lemmas.Bool.{lt-ltb, true≢false}
use Rattle.std.proofs.lemmas.Option.{none-some, same_Some}
use Rattle.ca_base.specs.declared.limits.TheConstants.{MAX_LEVEL}
use Rattle.ducking.specs.declared.rows.DuckRow.{DuckRow}
use Rattle.ducking.specs.Book.{Distinct}
use Rattle.ducking.specs.Ducking.{
  count_of,
  is_active_comms,
  is_ducked,
  is_row,
  level_of,
  may_be_ducked,
  other_is_active,
  reduced,
  row_at,
}
use Rattle.ducking.proofs.Sessions.{lacks_parts}

-- one that isn't a communications session
plain : (comms optout : Bool) → (not comms && not optout) ≡ true → comms ≡ false
plain true optout e = absurd (true≢false (sym e))
plain false optout e = refl

module _ (session : ℕ) where
  -- the row of another session
  other_head : (row : DuckRow) (rows : List DuckRow) → is_row session row ≡ false →
      other_is_active session rows ≡ nat_lt 0 (count_of rows) →
      other_is_active session (row ∷ rows) ≡ nat_lt 0 (count_of (row ∷ rows))
  other_head row rows n later =
      ap₂ (λ a b. (not a && is_active_comms row) || b) n later ∙ by (is_active_comms row)
    where
      by : (b : Bool) →
          ((not false && b) || nat_lt 0 (count_of rows))
          ≡ nat_lt 0 (length (cond b (row ∷ filter is_active_comms rows) (filter is_active_comms rows)))
      by true = sym (lt-ltb 0 (suc (count_of rows)) (omega arith))
      by false = refl

  -- the session isn't there
  other_lacks : (rows : List DuckRow) → row_at session rows ≡ None →
      other_is_active session rows ≡ nat_lt 0 (count_of rows)
  other_lacks [] e = refl
  other_lacks (row ∷ rows) e =
      let parts = lacks_parts session row rows e in
      other_head row rows parts.0 (other_lacks rows parts.1)

  -- it is there, and is no communications session
  pub other_plain : (rows : List DuckRow) (found : DuckRow) → Distinct rows → row_at session rows ≡ Some found →
      found.comms ≡ false → other_is_active session rows ≡ nat_lt 0 (count_of rows)
  other_plain [] found d e p = absurd (none-some found e)
  other_plain (row ∷ rows) found d e p =
      by (is_row session row) refl e (λ e. other_plain rows found d.1 e p)
    where
      silent : is_row session row ≡ true → row.comms ≡ false → row_at session rows ≡ None →
          other_is_active session (row ∷ rows) ≡ nat_lt 0 (count_of (row ∷ rows))
      silent t q lacks =
          ap₂ (λ a b. (not a && is_active_comms row) || b) t (other_lacks rows lacks)
          ∙ sym (ap (λ b. nat_lt 0
          (length (cond (b && row.active) (row ∷ filter is_active_comms rows) (filter is_active_comms rows)))) q)

      by : (b : Bool) → is_row session row ≡ b → cond b (Some row) (row_at session rows) ≡ Some found →
          (row_at session rows ≡ Some found → other_is_active session rows ≡ nat_lt 0 (count_of rows)) →
          other_is_active session (row ∷ rows) ≡ nat_lt 0 (count_of (row ∷ rows))
      by true t e later = silent t (ap (λ r. r.comms) (same_Some row found e) ∙ p)
          (subst (λ n. row_at n rows ≡ None) (eqb-true row.session.0 session t) d.0)
      by false t e later = other_head row rows t (later e)

  -- the session isn't there: it isn't ducked
  pub level_lacks : (rows : List DuckRow) (rule : ℕ) → row_at session rows ≡ None →
      level_of session (record { rows = rows; rule = rule }) ≡ MAX_LEVEL
  level_lacks rows rule e =
      ap (λ o. if ducked o && other_is_active session rows then reduced rule else MAX_LEVEL) e
    where
      ducked : Option DuckRow → Bool
      ducked o = option_map_or may_be_ducked o false

  -- it is there: by its row and the count
  pub ducked_found : (rows : List DuckRow) (found : DuckRow) → Distinct rows → row_at session rows ≡ Some found →
      is_ducked session rows ≡ (nat_lt 0 (count_of rows) && may_be_ducked found)
  ducked_found rows found d e =
      ap (λ o. option_map_or may_be_ducked o false && other_is_active session rows) e
      ∙ by (may_be_ducked found) refl
    where
      never : (b : Bool) → false ≡ (b && false)
      never true = refl
      never false = refl

      ever : (b : Bool) → b ≡ (b && true)
      ever true = refl
      ever false = refl

      by : (b : Bool) → may_be_ducked found ≡ b →
          (b && other_is_active session rows) ≡ (nat_lt 0 (count_of rows) && b)
      by true t = other_plain rows found d e (plain found.comms found.optout t) ∙ ever (nat_lt 0 (count_of rows))
      by false t = never (nat_lt 0 (count_of rows))

  pub level_found : (rows : List DuckRow) (rule : ℕ) (found : DuckRow) → Distinct rows →
      row_at session rows ≡ Some found →
      level_of session (record { rows = rows; rule = rule })
      ≡ (if nat_lt 0 (count_of rows) && may_be_ducked found then reduced rule else MAX_LEVEL)
  level_found rows rule found d e =
      ap (λ b. if b then reduced rule else MAX_LEVEL) (ducked_found rows found d e)

  -- none is active: nothing is ducked
  pub level_silent : (rows : List DuckRow) (rule : ℕ) → Distinct rows → nat_lt 0 (count_of rows) ≡ false →
      MAX_LEVEL ≡ level_of session (record { rows = rows; rule = rule })
  level_silent rows rule d none = by (row_at session rows) refl
    where
      by : (o : Option DuckRow) → row_at session rows ≡ o →
          MAX_LEVEL ≡ level_of session (record { rows = rows; rule = rule })
      by None e = sym (level_lacks rows rule e)
      by (Some found) e = sym (level_found rows rule found d e
          ∙ ap (λ b. if b && may_be_ducked found then reduced rule else MAX_LEVEL) none)
