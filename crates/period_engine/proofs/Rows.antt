-- Lists in rows of one width: place by place, row by row.
use Rattle.std.proofs.Common.{
  ◌≡◌,
  ℕ,
  zero,
  suc,
  ◌+◌,
  ◌*◌,
  ◌<◌,
  List,
  [],
  ◌∷◌,
  ◌++◌,
  length,
  get_or,
  refl,
  sym,
  ap,
  ◌∙◌,
  arith,
}
use Rattle.std.specs.List.{flat_map, range_with_len}
use Rattle.std.proofs.lemmas.Grind.{flat_map-append}
use Rattle.std.proofs.lemmas.List.Concat.{flat_map_single}
use Rattle.std.proofs.lemmas.List.FromFn.{fill_by_all}

range_append : (a m n : ℕ) → range_with_len a (m + n) ≡ range_with_len a m ++ range_with_len (a + m) n
range_append a zero n =
    let none : 0 + n ≡ n = omega arith in
    let start : a + 0 ≡ a = omega arith in
    ap (range_with_len a) none ∙ sym (ap (λ b. range_with_len b n) start)
range_append a (suc m) n =
    let more : suc m + n ≡ suc (m + n) = omega arith in
    let start : a + 1 + m ≡ a + suc m = omega arith in
    ap (range_with_len a) more
    ∙ ap (λ ks. a ∷ ks) (range_append (a + 1) m n ∙ ap (λ b. range_with_len (a + 1) m ++ range_with_len b n) start)

module _ {A : Type 0} where
  -- numbers from a on, by how far they are from it
  shifted : (G : ℕ → List A) (a b n : ℕ)
      → flat_map G (range_with_len (a + b) n) ≡ flat_map (λ c. G (a + c)) (range_with_len b n)
  shifted G a b zero = refl
  shifted G a b (suc n) =
      let next : a + b + 1 ≡ a + (b + 1) = omega arith in
      ap (λ xs. G (a + b) ++ xs) (ap (λ k. flat_map G (range_with_len k n)) next ∙ shifted G a (b + 1) n)

  from_row : (G : ℕ → List A) (width i n : ℕ) → flat_map G (range_with_len (width * i) (width * n))
      ≡ flat_map (λ row. flat_map (λ c. G (width * row + c)) (range_with_len 0 width)) (range_with_len i n)
  from_row G width i zero =
      let none : width * 0 ≡ 0 = omega arith in
      ap (λ k. flat_map G (range_with_len (width * i) k)) none
  from_row G width i (suc n) =
      let more : width * suc n ≡ width + width * n = omega arith in
      let next : width * i + width ≡ width * (i + 1) = omega arith in
      let start : width * i ≡ width * i + 0 = omega arith in
      ap (λ k. flat_map G (range_with_len (width * i) k)) more
      ∙ ap (flat_map G) (range_append (width * i) width (width * n))
      ∙ flat_map-append G (range_with_len (width * i) width) (range_with_len (width * i + width) (width * n))
      ∙ ap (λ k. flat_map G (range_with_len k width) ++ flat_map G (range_with_len (width * i + width) (width * n)))
      start
      ∙ ap (λ xs. xs ++ flat_map G (range_with_len (width * i + width) (width * n))) (shifted G (width * i) 0 width)
      ∙ ap (λ k. flat_map (λ c. G (width * i + c)) (range_with_len 0 width)
      ++ flat_map G (range_with_len k (width * n)))
      next
      ∙ ap (λ xs. flat_map (λ c. G (width * i + c)) (range_with_len 0 width) ++ xs) (from_row G width (i + 1) n)

  -- all places are those of the rows, one row after another
  pub in_rows : (G : ℕ → List A) (width n : ℕ) → flat_map G (range_with_len 0 (width * n))
      ≡ flat_map (λ row. flat_map (λ c. G (width * row + c)) (range_with_len 0 width)) (range_with_len 0 n)
  in_rows G width n =
      let none : width * 0 ≡ 0 = omega arith in
      ap (λ k. flat_map G (range_with_len k (width * n))) (sym none) ∙ from_row G width 0 n

  -- rows that are alike
  alike_from : (F G : ℕ → List A) (a n : ℕ) → ((i : ℕ) → i < n → F (a + i) ≡ G (a + i))
      → flat_map F (range_with_len a n) ≡ flat_map G (range_with_len a n)
  alike_from F G a zero same = refl
  alike_from F G a (suc n) same =
      let start : a + 0 ≡ a = omega arith in
      let first : F a ≡ G a = rw start at (same 0 (omega arith)) in
      let rest : (i : ℕ) → i < n → F (a + 1 + i) ≡ G (a + 1 + i) =
      λ i lt. let k : a + 1 + i ≡ a + suc i = omega arith in rw k (same (suc i) (omega arith)) in
      ap (λ xs. xs ++ flat_map F (range_with_len (a + 1) n)) first
      ∙ ap (λ xs. G a ++ xs) (alike_from F G (a + 1) n rest)

  pub alike : (F G : ℕ → List A) (n : ℕ) → ((i : ℕ) → i < n → F i ≡ G i)
      → flat_map F (range_with_len 0 n) ≡ flat_map G (range_with_len 0 n)
  alike F G n same = alike_from F G 0 n (λ i lt. let k : 0 + i ≡ i = omega arith in rw k (same i lt))

  -- a list is these rows if it has their elements, place by place
  pub made_of_rows : (d : A) (F : ℕ → List A) (width n : ℕ) (xs : List A) → length xs ≡ width * n
      → ((i : ℕ) → i < n → length (F i) ≡ width)
      → ((i c : ℕ) → i < n → c < width → get_or xs (width * i + c) d ≡ get_or (F i) c d)
      → xs ≡ flat_map F (range_with_len 0 n)
  made_of_rows d F width n xs size widths places =
      let each : (k : ℕ) → A = λ k. get_or xs k d in
      let row : (i : ℕ) → i < n → flat_map (λ c. each (width * i + c) ∷ []) (range_with_len 0 width) ≡ F i = λ i lt.
      flat_map_single (λ c. each (width * i + c)) (range_with_len 0 width)
      ∙ sym (fill_by_all (λ c. each (width * i + c)) (F i) width d (widths i lt)
      (λ c below. sym (places i c lt below))) in
      fill_by_all each xs (width * n) d size (λ k lt. refl)
      ∙ sym (flat_map_single each (range_with_len 0 (width * n)))
      ∙ in_rows (λ k. each k ∷ []) width n
      ∙ alike (λ i. flat_map (λ c. each (width * i + c) ∷ []) (range_with_len 0 width)) F n row
