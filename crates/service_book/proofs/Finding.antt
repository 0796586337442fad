-- What a place in a list finds, and which of rows in a row comes first.
use Rattle.std.proofs.Common.{◌≡◌, ℕ, ◌<◌, ◌≤◌, nat_lt, List, [], ◌∷◌, ◌++◌, length, map, Bool, true, false, cond}
use Rattle.std.proofs.Common.{Option, Some, None, refl, sym, ap, subst, ◌∙◌, ◌⊎◌, inl, inr, arith}
use Rattle.std.proofs.Common.{get_or, if◌then◌else◌}
use Rattle.std.specs.Option.{option_map}
use Rattle.std.specs.List.{find, position, position_or_len, slice_get}
use Rattle.std.proofs.lemmas.Option.{cond_some, get_or_from_slice_get, none-some, slice_get_cases, slice_get_past}
use Rattle.std.proofs.lemmas.List.Folds.{find_at}
use Rattle.ca_base.specs.Rows.{Row, first}
use Rattle.ca_stage.proofs.Lists.{found_passes}
use borrow.Author.Tests.{ltb-true, ltb-false}

-- a place finds the first member that passes
pub record FoundAt {X : Type 0} (test : X → Bool) (xs : List X) (at : ℕ) : Type 0 where
  pub member : X
  pub within : at < length xs
  pub here : slice_get xs at ≡ Some member
  pub found : find test xs ≡ Some member
  pub passes : test member ≡ true

pub found_at : {X : Type 0} (test : X → Bool) (xs : List X) (at : ℕ) → Some at ≡ position test xs → FoundAt test xs at
found_at {X} test xs at e =
    let parts = cond_some (nat_lt (position_or_len test xs) (length xs)) (position_or_len test xs) at (sym e) in
    let within : position_or_len test xs < length xs = ltb-true (position_or_len test xs) (length xs) parts.0 in
    by (slice_get_cases xs (position_or_len test xs)).1 within parts.1
  where
    by : ((x : X) × (position_or_len test xs < length xs) × (slice_get xs (position_or_len test xs) ≡ Some x)
        × (get_or xs (position_or_len test xs) x ≡ x))
        ⊎ ((length xs ≤ position_or_len test xs) × (slice_get xs (position_or_len test xs) ≡ None)) →
        position_or_len test xs < length xs → position_or_len test xs ≡ at → FoundAt test xs at
    by (inl there) within same = record {
      member = there.0;
      within = subst (λ i. i < length xs) same within;
      here = ap (slice_get xs) (sym same) ∙ there.2;
      found = find_at test xs ∙ there.2;
      passes = found_passes test xs there.0 (find_at test xs ∙ there.2);
    }
    by (inr past) within same = absurd (omega arith)

pub none_at : {X : Type 0} (test : X → Bool) (xs : List X) → None ≡ position test xs → find test xs ≡ None
none_at test xs e =
    find_at test xs ∙ slice_get_past xs (position_or_len test xs)
    (by (nat_lt (position_or_len test xs) (length xs)) refl e)
  where
    by : (b : Bool) → nat_lt (position_or_len test xs) (length xs) ≡ b →
        None ≡ cond b (Some (position_or_len test xs)) None → length xs ≤ position_or_len test xs
    by true t h = absurd (none-some (position_or_len test xs) h)
    by false t h = ltb-false (position_or_len test xs) (length xs) t

-- a member of a list that was mapped
pub find_mapped : {X Y : Type 0} (test : Y → Bool) (f : X → Y) (xs : List X) →
    find test (map f xs) ≡ option_map f (find (λ x. test (f x)) xs)
find_mapped test f [] = refl
find_mapped test f (x ∷ xs) =
    ap (cond (test (f x)) (Some (f x))) (find_mapped test f xs) ∙ pick (test (f x)) (find (λ x. test (f x)) xs)
  where
    pick : (b : Bool) (o : Option _) → cond b (Some (f x)) (option_map f o) ≡ option_map f (cond b (Some x) o)
    pick true o = refl
    pick false o = refl

-- rows that come first, and those behind them
pub first_later : {A : Type 0} (front rest : List (Row A)) → first front ≡ None → first (front ++ rest) ≡ first rest
first_later [] rest e = refl
first_later (row ∷ front) rest e = by row.0 row.1 (first front) e (first_later front rest)
  where
    by : (b : Bool) (code : _) (o : Option _) → (if b then Some code else o) ≡ None →
        (o ≡ None → first (front ++ rest) ≡ first rest) →
        (if b then Some code else first (front ++ rest)) ≡ first rest
    by true code o h later = absurd (none-some code (sym h))
    by false code o h later = later h

pub first_front : {A : Type 0} (front rest : List (Row A)) (code : A) → first front ≡ Some code →
    first (front ++ rest) ≡ Some code
first_front [] rest code e = absurd (none-some code e)
first_front (row ∷ front) rest code e = by row.0 row.1 (first front) e (first_front front rest code)
  where
    by : (b : Bool) (c : _) (o : Option _) → (if b then Some c else o) ≡ Some code →
        (o ≡ Some code → first (front ++ rest) ≡ Some code) →
        (if b then Some c else first (front ++ rest)) ≡ Some code
    by true c o h later = h
    by false c o h later = later h

-- what is read at the first place that passes is what is found
pub found_there : {X : Type 0} (test : X → Bool) (xs : List X) (at : ℕ) (x : X) →
    Some at ≡ position test xs → x ≡ get_or xs at x → find test xs ≡ Some x
found_there test xs at x there read =
    let f = found_at test xs at there in
    f.found ∙ ap (λ y. Some y) (sym (get_or_from_slice_get xs at f.member x f.here) ∙ sym read)
