-- A window of a buffer: from start to end.
use Rattle.std.proofs.Common.{
  ◌≡◌,
  ℕ,
  ◌+◌,
  ◌-◌,
  ◌≤◌,
  List,
  [],
  ◌++◌,
  length,
  take,
  drop,
  refl,
  sym,
  ap,
  ◌∙◌,
  arith,
  append-nil,
}
use Rattle.std.proofs.Math.Seq.{take-append-add}
use Rattle.std.proofs.lemmas.List.{
  take-take,
  take-append-le,
  length-append,
  length-take,
  length-take-le,
  length-drop,
  drop-take,
  drop-drop,
}
use lib.Seq.{drop-append-le}

-- its bytes are those before its end without those before its start
window_is : (items : List ℕ) (start end : ℕ) → start ≤ end
    → drop start (take end items) ≡ take (end - start) (drop start items)
window_is items start end le =
    let sum : start + (end - start) ≡ end = omega arith in
    ap (λ (n : ℕ). drop start (take n items)) (sym sum) ∙ drop-take start (end - start) items

-- without its first bytes it is the window with a higher start
pub window_shrinks : (items : List ℕ) (start end used : ℕ) → used ≤ end - start
    → take (end - (start + used)) (drop (start + used) items) ≡ drop used (take (end - start) (drop start items))
window_shrinks items start end used fits =
    let left = end - (start + used) in
    let sum : used + left ≡ end - start = omega arith in
    ap (take left) (sym (drop-drop used start items))
    ∙ sym (drop-take used left (drop start items))
    ∙ ap (λ (n : ℕ). drop used (take n (drop start items))) sum

-- of the bytes written behind a front, the first are the next of the whole
behind : (front buf past tail : List ℕ) (n k most : ℕ) → length front ≡ n → k ≤ length buf → n + k ≤ most
    → take (n + k) (take most ((front ++ (buf ++ past)) ++ tail)) ≡ front ++ take k buf
behind front buf past tail n k most size fits within =
    take-take (n + k) most ((front ++ (buf ++ past)) ++ tail) within
    ∙ take-append-le (n + k) (front ++ (buf ++ past)) tail
    (rw (length-append, length-append) (omega (arith, size, fits)))
    ∙ ap (λ (m : ℕ). take (m + k) (front ++ (buf ++ past))) (sym size)
    ∙ take-append-add front (buf ++ past) k
    ∙ ap (λ (xs : List ℕ). front ++ xs) (take-append-le k buf past fits)

-- bytes that are written behind its end come into a window with a higher end
pub window_grows : (items before buf past tail : List ℕ) (start end k most size : ℕ)
    → before ≡ items → start ≤ end → end ≤ length items → k ≤ length buf → end + k ≤ most → size ≡ end + k - start
    → take size (drop start (take most ((take end before ++ (buf ++ past)) ++ tail)))
    ≡ take (end - start) (drop start items) ++ take k buf
window_grows items before buf past tail start end k most size same ordered within fits room is =
    let all = take most ((take end before ++ (buf ++ past)) ++ tail) in
    let here : end ≤ length before = rw same within in
    let front : length (take end before) ≡ end = length-take-le end before here in
    let sum : start + size ≡ end + k = omega (arith, is, ordered) in
    sym (drop-take start size all)
    ∙ ap (λ (n : ℕ). drop start (take n all)) sum
    ∙ ap (drop start) (behind (take end before) buf past tail end k most front fits room)
    ∙ drop-append-le start (take end before) (take k buf) (rw front ordered)
    ∙ ap (λ (xs : List ℕ). xs ++ take k buf)
    (ap (λ (xs : List ℕ). drop start (take end xs)) same ∙ window_is items start end ordered)

-- bytes that are written behind its end leave a window as it is
pub window_stays : (items before buf past tail : List ℕ) (start end most : ℕ)
    → before ≡ items → start ≤ end → end ≤ length items → end ≤ most
    → take (end - start) (drop start (take most ((take end before ++ (buf ++ past)) ++ tail)))
    ≡ take (end - start) (drop start items)
window_stays items before buf past tail start end most same ordered within room =
    window_grows items before buf past tail start end 0 most (end - start) same ordered within (omega arith)
    (omega (arith, room)) (omega arith)
    ∙ append-nil (take (end - start) (drop start items))

-- what a window has room for behind its bytes the buffer has behind the window's end
pub window_room : (items list : List ℕ) (start end capacity more : ℕ) → take (end - start) (drop start items) ≡ list
    → length items - start ≡ capacity
    → start ≤ end → end ≤ length items → length list + more ≤ capacity → end + more ≤ length items
window_room items list start end capacity more is room ordered within fits =
    omega (
      arith,
      ap length is,
      length-take (end - start)
          (drop start items),
      length-drop start items,
      room,
      ordered,
      within,
      fits,
    )
