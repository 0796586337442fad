-- The count and the level after a list of steps are those of the last rows.
use Rattle.std.proofs.Common.{◌≡◌, ◌≢◌, ℕ, suc, ◌<◌, arith, ◌&&◌, ◌||◌, not, List, [], ◌∷◌, length, map, filter, Bool}
use Rattle.std.proofs.Common.{true}
use Rattle.std.proofs.Common.{false, cond, Option, Some, None, refl, sym, ap, ap₂, ◌∙◌, subst, if◌then◌else◌, eqb-true}
use Rattle.std.specs.Option.{option_map_or}
use Rattle.std.proofs.lemmas.Bool.{lt-ltb, true≢false}
use Rattle.ca_base.specs.declared.limits.TheConstants.{MAX_LEVEL}
use Rattle.ducking.specs.declared.rows.DuckRow.{DuckRow}
use Rattle.ducking.specs.Book.{Distinct}
use Rattle.ducking.specs.Ducking.{count_of, is_active_comms, is_ducked, is_row, may_be_ducked, other_is_active}
use Rattle.ducking.specs.Ducking.{reduced, row_at}
use Rattle.ducking.specs.Laws.{AreOnce, CountIsOfLastRows, IsDucked, LevelIsOfLastRows, is_active, is_among}
use Rattle.ducking.specs.Steps.{Step, after}
use Rattle.ducking.proofs.Histories.{distinct_stands, row_stands, rule_stands}
use Rattle.ducking.proofs.Levels.{ducked_found}
use Rattle.ducking.proofs.Sessions.{is_not_own, number_of, own}

-- ---- the count

-- a row is there, and of an active communications session
abbrev is_one : Option DuckRow → Bool
is_one o = option_map_or is_active_comms o false

-- the numbers of the active communications sessions
abbrev numbers : List DuckRow → List ℕ
numbers rows = map number_of (filter is_active_comms rows)

numbers_long : (rows : List DuckRow) → length rows ≡ length (map number_of rows)
numbers_long [] = refl
numbers_long (row ∷ rows) = ap suc (numbers_long rows)

-- a session's number is among them if its row says so
among : (session : ℕ) (rows : List DuckRow) → Distinct rows →
    is_among session (numbers rows) ≡ is_one (row_at session rows)
among session [] d = refl
among session (row ∷ rows) d = by (is_active_comms row) (is_row session row) refl refl (among session rows d.1)
  where
    by : (a b : Bool) → is_active_comms row ≡ a → is_row session row ≡ b →
        is_among session (numbers rows) ≡ is_one (row_at session rows) →
        is_among session (map number_of (cond a (row ∷ filter is_active_comms rows) (filter is_active_comms rows)))
        ≡ is_one (cond b (Some row) (row_at session rows))
    by true true p q later = ap (λ c. c || is_among session (numbers rows)) q ∙ sym p
    by true false p q later = ap (λ c. c || is_among session (numbers rows)) q ∙ later
    by false true p q later =
        later
        ∙ ap is_one (subst (λ n. row_at n rows ≡ None) (eqb-true (number_of row) session q) d.0)
        ∙ sym p
    by false false p q later = later

-- none is there twice
once : (rows : List DuckRow) → Distinct rows → AreOnce (numbers rows)
once [] d = tt
once (row ∷ rows) d = by (is_active_comms row) (once rows d.1)
  where
    by : (a : Bool) → AreOnce (numbers rows) →
        AreOnce (map number_of (cond a (row ∷ filter is_active_comms rows) (filter is_active_comms rows)))
    by true later = (among (number_of row) rows d.1 ∙ ap is_one d.0, later)
    by false later = later

-- they are those of the last rows
among_last : (steps : List Step) (session : ℕ) →
    is_among session (numbers (after steps).rows) ≡ is_active session steps
among_last steps session =
    among session (after steps).rows (distinct_stands steps) ∙ ap is_one (row_stands session steps)

pub count_stands : CountIsOfLastRows
count_stands steps =
    let rows = (after steps).rows in (
      numbers rows,
      record { once = once rows (distinct_stands steps); those = among_last steps },
      numbers_long (filter is_active_comms rows),
    )

-- ---- the level

some_among : (session : ℕ) (sessions : List ℕ) → is_among session sessions ≡ true → 0 < length sessions
some_among session [] e = absurd (true≢false (sym e))
some_among session (s ∷ sessions) e = omega arith

ducked : (session : ℕ) (steps : List Step) → IsDucked session steps →
    is_ducked session (after steps).rows ≡ true
ducked session steps h =
    let rows = (after steps).rows in
    let some = some_among h.other (numbers rows) (among_last steps h.other ∙ h.active) in
    let long = numbers_long (filter is_active_comms rows) in
    ducked_found session rows h.row (distinct_stands steps) (row_stands session steps ∙ h.last)
    ∙ ap₂ (λ a b. a && b) (lt-ltb 0 (count_of rows) (omega (arith, some, long)))
    (ap₂ (λ a b. not a && not b) h.plain h.stays)

both : (a b : Bool) → (a && b) ≡ true → (a ≡ true) × (b ≡ true)
both true b e = (refl, e)
both false b e = absurd (true≢false (sym e))

is_off : (a : Bool) → not a ≡ true → a ≡ false
is_off true e = absurd (true≢false (sym e))
is_off false e = refl

module _ (session : ℕ) where
  -- another active communications session, by the rows
  abbrev Other : List DuckRow → Type 0
  Other rows = (other : ℕ) × (other ≢ session) × (is_one (row_at other rows) ≡ true)

  other_found : (rows : List DuckRow) → Distinct rows → other_is_active session rows ≡ true → Other rows
  other_found [] d e = absurd (true≢false (sym e))
  other_found (row ∷ rows) d e =
      by (not (is_row session row) && is_active_comms row) refl e (other_found rows d.1)
    where
      first : (not (is_row session row) && is_active_comms row) ≡ true → Other (row ∷ rows)
      first t =
          let parts = both (not (is_row session row)) (is_active_comms row) t in (
            number_of row,
            is_not_own row session (is_off (is_row session row) parts.0),
            ap (λ b. is_one (cond b (Some row) (row_at (number_of row) rows))) (own row (number_of row) refl) ∙ parts.1,
          )

      behind : Other rows → Other (row ∷ rows)
      behind o = (o.0, o.1, by (is_row o.0 row) refl)
        where
          by : (b : Bool) → is_row o.0 row ≡ b → is_one (cond b (Some row) (row_at o.0 rows)) ≡ true
          by true t = absurd (true≢false (sym o.2
              ∙ ap is_one (subst (λ n. row_at n rows ≡ None) (eqb-true (number_of row) o.0 t) d.0)))
          by false t = o.2

      by : (b : Bool) → (not (is_row session row) && is_active_comms row) ≡ b →
          (b || other_is_active session rows) ≡ true →
          (other_is_active session rows ≡ true → Other rows) → Other (row ∷ rows)
      by true t e later = first t
      by false t e later = behind (later e)

  is_ducked_by : (steps : List Step) → is_ducked session (after steps).rows ≡ true → IsDucked session steps
  is_ducked_by steps e = by (row_at session (after steps).rows) refl e
    where
      by : (o : Option DuckRow) → row_at session (after steps).rows ≡ o →
          (option_map_or may_be_ducked o false && other_is_active session (after steps).rows) ≡ true →
          IsDucked session steps
      by None t e = absurd (true≢false (sym e))
      by (Some found) t e =
          let parts = both (may_be_ducked found) (other_is_active session (after steps).rows) e in
          let may = both (not found.comms) (not found.optout) parts.0 in
          let o = other_found (after steps).rows (distinct_stands steps) parts.1 in
          record {
            row = found;
            last = sym (row_stands session steps) ∙ t;
            plain = is_off found.comms may.0;
            stays = is_off found.optout may.1;
            other = o.0;
            apart = o.1;
            active = ap is_one (sym (row_stands o.0 steps)) ∙ o.2;
          }

pub level_stands : LevelIsOfLastRows
level_stands steps session = (
  λ h. ap₂ (λ b r. if b then reduced r else MAX_LEVEL) (ducked session steps h) (rule_stands steps),
  λ h. by (is_ducked session (after steps).rows) refl h,
)
  where
    by : (b : Bool) → is_ducked session (after steps).rows ≡ b → ¬ (IsDucked session steps) →
        (if b then reduced (after steps).rule else MAX_LEVEL) ≡ MAX_LEVEL
    by true t h = absurd (h (is_ducked_by session steps t))
    by false t h = refl
