-- A row that is set.
use Rattle.std.proofs.Common.{◌≡◌, ℕ, ◌<◌, ◌||◌, nat_lt, List, [], ◌∷◌, ◌++◌, length, true, Option, Some, None, is_some}
use Rattle.std.proofs.Common.{sym, ap, ◌∙◌, if◌then◌else◌}
use Rattle.std.proofs.lemmas.Bool.{ltb-true}
use Rattle.ca_base.specs.declared.limits.TheConstants.{SESSIONS}
use Rattle.ducking.specs.declared.rows.DuckRow.{DuckRow}
use Rattle.ducking.specs.Ducking.{DuckState, may_set, replaced, row_at, with_row}

module _ (new : DuckRow) (rows : List DuckRow) (rule : ℕ) where
  abbrev pub state_with : List DuckRow → DuckState
  state_with rows = record { rows = rows; rule = rule }

  abbrev chosen : Option DuckRow → DuckState
  chosen o = state_with (if is_some o then replaced new rows else rows ++ new ∷ [])

  -- the session is there
  pub set_found : (old : DuckRow) (changed : List DuckRow) → row_at new.session.0 rows ≡ Some old →
      changed ≡ replaced new rows → state_with changed ≡ with_row new (state_with rows)
  set_found old changed e same = ap state_with same ∙ sym (ap chosen e)

  -- it isn't
  pub set_new : (changed : List DuckRow) → row_at new.session.0 rows ≡ None → changed ≡ rows ++ new ∷ [] →
      state_with changed ≡ with_row new (state_with rows)
  set_new changed e same = ap state_with same ∙ sym (ap chosen e)

  -- and there is room for it
  pub room_left : (viewed : DuckState) → state_with rows ≡ viewed → row_at new.session.0 rows ≡ None →
      may_set new.session.0 viewed ≡ true → length rows < SESSIONS
  room_left viewed same e may =
      ltb-true (length rows) SESSIONS
      (sym (ap (λ o. is_some o || nat_lt (length rows) SESSIONS) e)
      ∙ ap (may_set new.session.0) same ∙ may)
