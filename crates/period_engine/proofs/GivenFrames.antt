-- The frames of what a device gave, with silence behind them.
use Rattle.std.proofs.Common.{◌≡◌, ℕ, ◌+◌, ◌-◌, ◌*◌, ◌/◌, ◌≤◌, List, ◌++◌, length, take, drop, replicate, pos}
use Rattle.std.proofs.Common.{sym, ap, ◌∙◌, arith, length-append}
use Rattle.std.proofs.lemmas.List.{length-drop, length-replicate, length-take-le, take-append-le, take-take}
use Rattle.std.proofs.lemmas.Slice.{take-put_mid}
use borrow.Rule.Slice.PartMut.{put_mid}
use Rattle.std.proofs.Math.Nat.{div-mul-le_self, le_of_mul-le-mul_right}
use Rattle.std.proofs.Math.Seq.{take-append_seam, drop-append_seam}
use Rattle.ca_stage.specs.Given.{frames_given, whole_frames}
use Rattle.wave_format.specs.Frame.{frames_from}
use Rattle.wave_format.proofs.FrameCuts.{frames_front, frames_split, silent_frames}

-- frames are those of the front
pub frames_of_front : (p channels : ℕ) (bytes : List ℕ)
    → frames_from p channels (take (p * channels * 2) bytes) ≡ frames_from p channels bytes
frames_of_front p channels bytes =
    let rows : p * channels * 2 ≡ p * (channels * 2) = grind arith in
    ap (λ k. frames_from p channels (take k bytes)) rows ∙ frames_front p channels bytes

-- how many bytes are behind a place
pub length-behind : (k at : ℕ) (bytes tail : List ℕ) → k ≡ length bytes - at
    → length (take k (drop at (bytes ++ tail))) ≡ length bytes - at
length-behind k at bytes tail is =
    length-take-le k (drop at (bytes ++ tail))
    (omega (arith, length-drop at (bytes ++ tail), length-append bytes tail, is)) ∙ is

module _ (p channels n : ℕ) (bytes given : List ℕ) (some : 1 ≤ channels) (size : length bytes ≡ p * channels * 2)
    (within : n ≤ length bytes) (front : take n bytes ≡ given) where
  -- as many whole frames came
  pub whole_are : n / (channels * 2) ≡ whole_frames channels given
  whole_are = ap (λ k. k / (channels * 2)) (sym (length-take-le n bytes within) ∙ ap (λ xs. length xs) front)

  -- and the frames are these, and silence, if what is behind them is 0
  frames_are_given : (whole : ℕ) → whole ≡ n / (channels * 2)
      → frames_from p channels
      (take (whole * (channels * 2)) bytes ++ replicate (length bytes - whole * (channels * 2)) 0)
      ≡ frames_given p channels given
  frames_are_given whole whole-is =
      let block : ℕ = channels * 2 in
      let head : List ℕ = take (whole * block) bytes in
      let tail : List ℕ = replicate (length bytes - whole * block) 0 in
      let all : length bytes ≡ p * block = size ∙ grind arith in
      let below : whole * block ≤ n =
      (rw (← whole-is) at (div-mul-le_self n block)) in
      let rows_fit : whole * block ≤ p * block = omega (arith, below, within, all) in
      let few : whole ≤ p = le_of_mul-le-mul_right rows_fit (omega arith) in
      let both : whole + (p - whole) ≡ p = omega (arith, few) in
      let rows : p * block ≡ whole * block + (p - whole) * block =
      ap (λ k. k * block) (sym both) ∙ grind arith in
      let left : length bytes - whole * block ≡ (p - whole) * block = omega (arith, all, rows) in
      let long : length head ≡ whole * block = length-take-le (whole * block) bytes (omega (arith, below, within)) in
      let at_head : take (whole * block) (head ++ tail) ≡ head =
      ap (λ k. take k (head ++ tail)) (sym long) ∙ take-append_seam head tail in
      let at_tail : drop (whole * block) (head ++ tail) ≡ tail =
      ap (λ k. drop k (head ++ tail)) (sym long) ∙ drop-append_seam head tail in
      let came : frames_from whole channels head ≡ frames_from (whole_frames channels given) channels given =
      ap (frames_from whole channels)
      (sym (take-take (whole * block) n bytes below) ∙ ap (take (whole * block)) front)
      ∙ frames_front whole channels given
      ∙ ap (λ k. frames_from k channels given) (whole-is ∙ whole_are) in
      let silent : frames_from (p - whole) channels tail
      ≡ replicate (p - whole_frames channels given) (replicate channels (pos 0)) =
      ap (λ k. frames_from (p - whole) channels (replicate k 0)) left ∙ silent_frames (p - whole) channels
      ∙ ap (λ k. replicate (p - k) (replicate channels (pos 0))) (whole-is ∙ whole_are) in
      ap (λ k. frames_from k channels (head ++ tail)) (sym both)
      ∙ frames_split whole (p - whole) channels (head ++ tail)
      ∙ (λ i. frames_from whole channels (at_head i) ++ frames_from (p - whole) channels (at_tail i))
      ∙ (λ i. came i ++ silent i)

  -- also with other bytes behind them
  pub frames_written : (tail silence : List ℕ) (whole k : ℕ) → whole ≡ n / (channels * 2)
      → silence ≡ replicate (length bytes - whole * (channels * 2)) 0
      → frames_from p channels (put_mid (whole * (channels * 2)) k (bytes ++ tail) silence)
      ≡ frames_given p channels given
  frames_written tail silence whole k whole-is silent =
      let at : ℕ = whole * (channels * 2) in
      let all : List ℕ = put_mid at k (bytes ++ tail) silence in
      let below : at ≤ n = (rw (← whole-is) at (div-mul-le_self n (channels * 2))) in
      let long : length silence ≡ length bytes - at =
      ap (λ xs. length xs) silent ∙ length-replicate (length bytes - at) 0 in
      let rows : p * (channels * 2) ≡ at + length silence = omega (arith, size, long, below, within) in
      let there : at ≤ length (bytes ++ tail) = omega (arith, length-append bytes tail, below, within) in
      let front_is : take (p * (channels * 2)) all ≡ take at bytes ++ replicate (length bytes - at) 0 =
      take-put_mid at k (bytes ++ tail) silence (p * (channels * 2)) rows there
      ∙ (λ i. take-append-le at bytes tail (omega (arith, below, within)) i ++ silent i) in
      sym (frames_front p channels all) ∙ ap (frames_from p channels) front_is
      ∙ frames_are_given whole whole-is
