-- Entries that went on as they were, and of which none opened, are alike still; and the scratch of seats.
use Rattle.std.proofs.Common.{◌≡◌, ℕ, ◌≤◌, ◌==◌, ◌&&◌, List, [], ◌∷◌, map, Bool, true, false, Option, Some, None}
use Rattle.std.proofs.Common.{refl, sym, ap, ap₂, ◌∙◌, subst, find, filter, slice_get, slice_set, zero, suc, cond}
use Rattle.std.proofs.Common.{arith}
use Rattle.std.specs.List.{All, AllByRecursion, AllZip, insert}
use Rattle.ca_stage.proofs.Lists.{all_both}
use Rattle.std.specs.Option.{option_map, option_map_or}
use Rattle.std.proofs.lemmas.Bool.{and_parts}
use Rattle.std.proofs.lemmas.List.Elements.{All-filter, All-from_recursion, All-weaker, recursion_from_All}
use Rattle.std.proofs.lemmas.Option.{same_Some}
use Rattle.ca_base.specs.declared.ids.Gate.TheVariants as gate
use Rattle.ca_stage.specs.Stage.{is_open_gate}
use Rattle.period_engine.specs.declared.entry.StreamEntry.{StreamEntry}
use Rattle.service_book.proofs.Finding.{find_mapped}
use Rattle.stream_entries.specs.Holding.{is_exclusive_entry, is_open_entry}
use Rattle.service_board.specs.InOrder.{AreAlike, IsAlike, is_seat, scratch_at}
use Rattle.service_board.specs.declared.board.Seat.{Seat}
use Rattle.service_board.proofs.Places.{all_insert}
use Rattle.service_board.proofs.WornEntries.{open_by}

-- ---- entries

-- an entry has its endpoint, its kind of use and its period still, and is open only if it was
pub record IsKept {E : Type 0} (a b : StreamEntry E) : Type 0 where
  pub endpoint : b.endpoint.0 ≡ a.endpoint.0
  pub exclusive : b.exclusive ≡ a.exclusive
  pub period : b.period ≡ a.period
  pub opens : b.gate ≡ gate.Open → a.gate ≡ gate.Open

module _ {E : Type 0} where
  open_before : (n : ℕ) (a b : StreamEntry E) → IsKept a b → is_open_entry n b ≡ true → is_open_entry n a ≡ true
  open_before n a b kept h =
      let p = and_parts (b.endpoint.0 == n) (is_open_gate b.gate) h in
      ap₂ (λ v w. v && w) (ap (λ k. k == n) (sym kept.endpoint) ∙ p.0)
      (ap is_open_gate (kept.opens (open_by b.gate p.1)))

  one_alike : (x x' y y' : StreamEntry E) → IsKept x x' → IsKept y y' → IsAlike x y → IsAlike x' y'
  one_alike x x' y y' kx ky alike exclusive opens =
      let p = and_parts (is_open_entry x'.endpoint.0 x') x'.exclusive exclusive in
      let here : is_open_entry x.endpoint.0 x ≡ true =
      subst (λ n. is_open_entry n x ≡ true) kx.endpoint (open_before x'.endpoint.0 x x' kx p.0) in
      let was : is_exclusive_entry x.endpoint.0 x ≡ true =
      ap₂ (λ v w. v && w) here (sym kx.exclusive ∙ p.1) in
      let there : is_open_entry x.endpoint.0 y ≡ true =
      subst (λ n. is_open_entry n y ≡ true) kx.endpoint (open_before x'.endpoint.0 y y' ky opens) in
      ky.period ∙ alike was there ∙ sym kx.period

  each_alike : (x x' : StreamEntry E) → IsKept x x' → (ys ys' : List (StreamEntry E)) → AllZip IsKept ys ys' →
      AllByRecursion (IsAlike x) ys → AllByRecursion (IsAlike x') ys'
  each_alike x x' kept [] [] h alike = tt
  each_alike x x' kept (y ∷ ys) (y' ∷ ys') h alike =
      (one_alike x x' y y' kept h.0 alike.0, each_alike x x' kept ys ys' h.1 alike.1)
  each_alike x x' kept [] (y' ∷ ys') h alike = absurd h
  each_alike x x' kept (y ∷ ys) [] h alike = absurd h

  pub kept_alike : (old new : List (StreamEntry E)) → AllZip IsKept old new → AreAlike old → AreAlike new
  kept_alike old new kept alike =
      All-from_recursion (λ x. All (IsAlike x) new) new
      (go old new kept (recursion_from_All (λ x. All (IsAlike x) old) old alike))
    where
      go : (xs xs' : List (StreamEntry E)) → AllZip IsKept xs xs' → AllByRecursion (λ x. All (IsAlike x) old) xs →
          AllByRecursion (λ x. All (IsAlike x) new) xs'
      go [] [] h each = tt
      go (x ∷ xs) (x' ∷ xs') h each = (
        All-from_recursion (IsAlike x') new
            (each_alike x x' h.0 old new kept (recursion_from_All (IsAlike x) old each.0)),
        go xs xs' h.1 each.1,
      )
      go [] (x' ∷ xs') h each = absurd h
      go (x ∷ xs) [] h each = absurd h

module _ {E : Type 0} where
  kept_self : (a : StreamEntry E) → IsKept a a
  kept_self a = record { endpoint = refl; exclusive = refl; period = refl; opens = λ opens. opens }

  kept_each : (xs : List (StreamEntry E)) → AllZip IsKept xs xs
  kept_each [] = tt
  kept_each (x ∷ xs) = (kept_self x, kept_each xs)

  -- one of them is another that has what it had
  pub kept_set : (xs : List (StreamEntry E)) (at : ℕ) (a b : StreamEntry E) → slice_get xs at ≡ Some a → IsKept a b →
      AllZip IsKept xs (slice_set xs at b)
  kept_set [] at a b here kept = tt
  kept_set (x ∷ xs) zero a b here kept =
      (subst (λ y. IsKept y b) (sym (same_Some x a here)) kept, kept_each xs)
  kept_set (x ∷ xs) (suc at) a b here kept = (kept_self x, kept_set xs at a b here kept)

  -- a new one among them is like them
  pub alike_inserted : (at : ℕ) (n : StreamEntry E) (xs : List (StreamEntry E)) → AreAlike xs → All (IsAlike n) xs →
      All (λ y. IsAlike y n) xs → IsAlike n n → AreAlike (insert xs at n)
  alike_inserted at n xs alike its theirs own =
      All-from_recursion (λ x. All (IsAlike x) (insert xs at n)) (insert xs at n)
      (all_insert (λ x. All (IsAlike x) (insert xs at n)) at n xs
      (all_both (λ x. All (IsAlike x) xs) (λ x. IsAlike x n) (λ x. All (IsAlike x) (insert xs at n))
      (λ x h k.
      All-from_recursion (IsAlike x) (insert xs at n)
      (all_insert (IsAlike x) at n xs (recursion_from_All (IsAlike x) xs h) k))
      xs (recursion_from_All (λ x. All (IsAlike x) xs) xs alike)
      (recursion_from_All (λ y. IsAlike y n) xs theirs))
      (All-from_recursion (IsAlike n) (insert xs at n)
      (all_insert (IsAlike n) at n xs (recursion_from_All (IsAlike n) xs its) own)))

  -- those that are left are alike
  pub alike_filtered : (test : StreamEntry E → Bool) (xs : List (StreamEntry E)) → AreAlike xs →
      AreAlike (filter test xs)
  alike_filtered test xs alike =
      All-filter test (λ x. All (IsAlike x) (filter test xs)) xs
      (All-weaker (λ x. All (IsAlike x) xs) (λ x. All (IsAlike x) (filter test xs))
      (λ x h. All-filter test (IsAlike x) xs h) xs alike)

-- ---- seats

-- the number of a seat, and the frames that fit in its scratch
abbrev pub scratch_of : Seat → ℕ × ℕ
scratch_of s = (s.endpoint.0, s.block.frames)

scratch_by : (n : ℕ) (seats : List Seat) →
    option_map_or (λ (p : ℕ × ℕ). p.1) (find (λ (p : ℕ × ℕ). p.0 == n) (map scratch_of seats)) 0 ≡ scratch_at n seats
scratch_by n seats =
    ap (λ o. option_map_or (λ (p : ℕ × ℕ). p.1) o 0) (find_mapped (λ (p : ℕ × ℕ). p.0 == n) scratch_of seats)
    ∙ by (find (is_seat n) seats)
  where
    by : (o : Option Seat) → option_map_or (λ (p : ℕ × ℕ). p.1) (option_map scratch_of o) 0
        ≡ option_map_or (λ (s : Seat). s.block.frames) o 0
    by None = refl
    by (Some s) = refl

-- seats of the same numbers and scratch have the same at each number
pub scratch_stays : (old new : List Seat) → map scratch_of new ≡ map scratch_of old → (n : ℕ) →
    scratch_at n new ≡ scratch_at n old
scratch_stays old new same n =
    sym (scratch_by n new)
    ∙ ap (λ ps. option_map_or (λ (p : ℕ × ℕ). p.1) (find (λ (p : ℕ × ℕ). p.0 == n) ps) 0) same
    ∙ scratch_by n old

-- one that gets no less scratch leaves none with less
pub scratch_grows : (seats : List Seat) (at : ℕ) (s new : Seat) → slice_get seats at ≡ Some s →
    new.endpoint.0 ≡ s.endpoint.0 → s.block.frames ≤ new.block.frames → (n : ℕ) →
    scratch_at n seats ≤ scratch_at n (slice_set seats at new)
scratch_grows [] at s new here number more n = omega arith
scratch_grows (x ∷ seats) zero s new here number more n =
    subst (λ v. scratch_at n (x ∷ seats)
    ≤ option_map_or (λ (t : Seat). t.block.frames) (cond v (Some new) (find (is_seat n) seats)) 0)
    (ap (λ k. k == n) (ap (λ (t : Seat). t.endpoint.0) (same_Some x s here) ∙ sym number))
    (by (x.endpoint.0 == n))
  where
    by : (v : Bool) →
        option_map_or (λ (t : Seat). t.block.frames) (cond v (Some x) (find (is_seat n) seats)) 0
        ≤ option_map_or (λ (t : Seat). t.block.frames) (cond v (Some new) (find (is_seat n) seats)) 0
    by true = let same = ap (λ (t : Seat). t.block.frames) (same_Some x s here) in omega arith
    by false = omega arith
scratch_grows (x ∷ seats) (suc at) s new here number more n =
    by (x.endpoint.0 == n) (scratch_grows seats at s new here number more n)
  where
    by : (v : Bool) → scratch_at n seats ≤ scratch_at n (slice_set seats at new) →
        option_map_or (λ (t : Seat). t.block.frames) (cond v (Some x) (find (is_seat n) seats)) 0
        ≤ option_map_or (λ (t : Seat). t.block.frames) (cond v (Some x) (find (is_seat n) (slice_set seats at new))) 0
    by true rest = omega arith
    by false rest = rest
