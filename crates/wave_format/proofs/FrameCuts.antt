-- Frames one after another, cut at a place; and frames of silence.
use Rattle.std.proofs.Common.{◌≡◌, ℕ, zero, suc, ◌+◌, ◌-◌, ◌*◌, ◌≤◌, List, [], ◌∷◌, ◌++◌, take, drop}
use Rattle.std.proofs.Common.{ℤ, pos, refl, sym, ap, ◌∙◌, arith, replicate}
use Rattle.std.proofs.lemmas.List.{take-take, drop-take, drop-drop, take-replicate, drop-replicate}
use Rattle.wave_format.specs.Frame.{frame_from, frames_from}

-- frames of bytes are those of the front and those of the rest
pub frames_split : (a b channels : ℕ) (bytes : List ℕ) → frames_from (a + b) channels bytes
    ≡ frames_from a channels (take (a * (channels * 2)) bytes)
    ++ frames_from b channels (drop (a * (channels * 2)) bytes)
frames_split zero b channels bytes =
    let none : 0 * (channels * 2) ≡ 0 = grind arith in
    let count : 0 + b ≡ b = omega arith in
    rw (none, count) refl
frames_split (suc a) b channels bytes =
    let count : suc a + b ≡ suc (a + b) = omega arith in
    let more : suc a * (channels * 2) ≡ channels * 2 + a * (channels * 2) = grind arith in
    rw (
      count,
      more,
      take-take (channels * 2) (channels * 2 + a * (channels * 2)) bytes (omega arith),
      drop-take (channels * 2) (a * (channels * 2)) bytes,
      sym (drop-drop (a * (channels * 2)) (channels * 2) bytes),
    ) (
    ap (λ (fs : List (List ℤ)). frame_from (take (channels * 2) bytes) ∷ fs)
    (frames_split a b channels (drop (channels * 2) bytes)))

-- what is behind the frames doesn't matter
pub frames_front : (count channels : ℕ) (bytes : List ℕ)
    → frames_from count channels (take (count * (channels * 2)) bytes) ≡ frames_from count channels bytes
frames_front zero channels bytes = refl
frames_front (suc count) channels bytes =
    let more : suc count * (channels * 2) ≡ channels * 2 + count * (channels * 2) = grind arith in
    rw (
      more,
      take-take (channels * 2) (channels * 2 + count * (channels * 2)) bytes (omega arith),
      drop-take (channels * 2) (count * (channels * 2)) bytes,
    ) (
    ap (λ (fs : List (List ℤ)). frame_from (take (channels * 2) bytes) ∷ fs)
    (frames_front count channels (drop (channels * 2) bytes)))

silent_frame : (channels : ℕ) → frame_from (replicate (channels * 2) 0) ≡ replicate channels (pos 0)
silent_frame zero = refl
silent_frame (suc channels) =
    let more : suc channels * 2 ≡ suc (suc (channels * 2)) = omega arith in
    rw more (ap (λ (zs : List ℤ). pos 0 ∷ zs) (silent_frame channels))

-- bytes that are 0 are silent frames
pub silent_frames : (count channels : ℕ)
    → frames_from count channels (replicate (count * (channels * 2)) 0) ≡ replicate count (replicate channels (pos 0))
silent_frames zero channels = refl
silent_frames (suc count) channels =
    let block : ℕ = channels * 2 in
    let all : ℕ = suc count * block in
    let more : all ≡ block + count * block = grind arith in
    let rest : all - block ≡ count * block = omega (arith, more) in
    rw (
      take-replicate {X = ℕ} block all 0 (omega (arith, more)),
      drop-replicate {X = ℕ} block all 0,
      rest,
    ) (
    λ i. silent_frame channels i ∷ silent_frames count channels i)
