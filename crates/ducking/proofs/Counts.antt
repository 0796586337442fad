-- How many active communications sessions there are, after each change of the rows.
use Rattle.std.proofs.Common.{◌≡◌, ℕ, zero, suc, ◌+◌, ◌≤◌, List, [], ◌∷◌, ◌++◌, length, filter, not, Bool, true, false}
use Rattle.std.proofs.Common.{Some, None, refl, ap, set, cond, if◌then◌else◌, arith, eqb-true, subst}
use Rattle.std.specs.List.{slice_get}
use Rattle.std.proofs.lemmas.Option.{none-some, same_Some}
use Rattle.ducking.specs.declared.rows.DuckRow.{DuckRow}
use Rattle.ducking.specs.Book.{Distinct}
use Rattle.ducking.specs.Ducking.{count_of, is_active_comms, is_row, removed, row_at, share_of}
use Rattle.ducking.proofs.Sessions.{removed_lacks}

-- the first row, and the others
pub count_head : (row : DuckRow) (rows : List DuckRow) → count_of (row ∷ rows) ≡ share_of row + count_of rows
count_head row rows = by (is_active_comms row)
  where
    by : (b : Bool) →
        length (cond b (row ∷ filter is_active_comms rows) (filter is_active_comms rows))
        ≡ (if b then 1 else 0) + count_of rows
    by true = omega arith
    by false = omega arith

-- no more than there are rows
pub count_few : (rows : List DuckRow) → count_of rows ≤ length rows
count_few [] = omega arith
count_few (row ∷ rows) = by (is_active_comms row) (count_few rows)
  where
    by : (b : Bool) → count_of rows ≤ length rows →
        length (cond b (row ∷ filter is_active_comms rows) (filter is_active_comms rows)) ≤ length (row ∷ rows)
    by true few = omega arith
    by false few = omega arith

pub share_few : (row : DuckRow) → share_of row ≤ 1
share_few row = by (is_active_comms row)
  where
    by : (b : Bool) → (if b then 1 else 0) ≤ 1
    by true = omega arith
    by false = omega arith

-- one more row
pub count_push : (rows : List DuckRow) (new : DuckRow) →
    count_of (rows ++ new ∷ []) ≡ count_of rows + share_of new
count_push [] new = let e = count_head new [] in omega arith
count_push (row ∷ rows) new =
    let long = count_head row (rows ++ new ∷ []) in
    let short = count_head row rows in
    let later = count_push rows new in
    omega arith

-- another row in the place of one
pub count_set : (at : ℕ) (rows : List DuckRow) (old new : DuckRow) → slice_get rows at ≡ Some old →
    count_of (set rows at new) + share_of old ≡ count_of rows + share_of new
count_set at [] old new e = absurd (none-some old e)
count_set zero (row ∷ rows) old new e =
    let same = ap share_of (same_Some row old e) in
    let long = count_head new rows in
    let short = count_head row rows in
    omega arith
count_set (suc at) (row ∷ rows) old new e =
    let long = count_head row (set rows at new) in
    let short = count_head row rows in
    let later = count_set at rows old new e in
    omega arith

-- one row less
pub count_removed : (session : ℕ) (rows : List DuckRow) (old : DuckRow) → Distinct rows →
    row_at session rows ≡ Some old → count_of (removed session rows) + share_of old ≡ count_of rows
count_removed session [] old d e = absurd (none-some old e)
count_removed session (row ∷ rows) old d e =
    by (is_row session row) refl e (count_removed session rows old d.1)
  where
    by : (b : Bool) → is_row session row ≡ b → cond b (Some row) (row_at session rows) ≡ Some old →
        (row_at session rows ≡ Some old → count_of (removed session rows) + share_of old ≡ count_of rows) →
        count_of (cond (not b) (row ∷ removed session rows) (removed session rows)) + share_of old
        ≡ count_of (row ∷ rows)
    by true own e later =
        let lacks = subst (λ n. row_at n rows ≡ None) (eqb-true row.session.0 session own) d.0 in
        let others = ap count_of (removed_lacks session rows lacks) in
        let same = ap share_of (same_Some row old e) in
        let long = count_head row rows in
        omega arith
    by false own e later =
        let rest = later e in
        let long = count_head row rows in
        let short = count_head row (removed session rows) in
        omega arith

-- a row that is there is counted
pub share_there : (at : ℕ) (rows : List DuckRow) (row : DuckRow) → slice_get rows at ≡ Some row →
    share_of row ≤ count_of rows
share_there at [] row e = absurd (none-some row e)
share_there zero (first ∷ rows) row e =
    let same = ap share_of (same_Some first row e) in
    let head = count_head first rows in
    omega arith
share_there (suc at) (first ∷ rows) row e =
    let head = count_head first rows in
    let later = share_there at rows row e in
    omega arith
