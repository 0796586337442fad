-- Frames one after another, as bytes and back.
use Rattle.std.proofs.Common.{◌≡◌, ℕ, zero, suc, ◌+◌, ◌-◌, ◌*◌, ◌/◌, ◌%◌, ◌^◌, ◌<◌, List, [], ◌∷◌, ◌++◌, length, take}
use Rattle.std.proofs.Common.{drop, map, ℤ, refl, sym, ap, ◌∙◌, arith}
use Rattle.std.proofs.lemmas.List.{take-append-drop, length-take-le, length-drop}
use Rattle.std.proofs.Math.Seq.{take-append_seam, drop-append_seam}
use Rattle.std.proofs.lemmas.List.FromFn.{length-map-range_with_len}
use Rattle.std.proofs.lemmas.Int.{of_z-to_z}
use Rattle.std.proofs.lemmas.Nat.{shr-shr, mod-pow-add}
use Rattle.std.proofs.Math.Facts.{sfits_to_z, Fits-of_lt}
use Rattle.std.specs.List.{flat_map, range_with_len, AllByRecursion}
use Rattle.std.specs.Int.{w16, cast_unsigned, cast_signed}
use Rattle.std.specs.Int.RustNames.{FitsSigned}
use Rattle.wave_format.specs.Frame.{word_of, IsFrame, AreBytes, sample_at, frame_of, frame_bytes, frame_from}
use Rattle.wave_format.specs.Frame.{frames_from}
use Rattle.wave_format.proofs.FrameLaws.{sample_at-fits, length-frame_bytes, frame_from-frame_bytes}
use Rattle.wave_format.proofs.FrameLaws.{frame_bytes-frame_from}

samples_fit : (word a n : ℕ) → AllByRecursion (FitsSigned w16) (map (sample_at word) (range_with_len a n))
samples_fit word a zero = tt
samples_fit word a (suc n) = (sample_at-fits word a, samples_fit word (a + 1) n)

samples_rest : (word a n : ℕ)
    → map (sample_at word) (range_with_len (a + 1) n) ≡ map (sample_at (word / 2 ^ 16)) (range_with_len a n)
samples_rest word a zero = refl
samples_rest word a (suc n) =
    let place : 16 * (a + 1) ≡ 16 + 16 * a = omega arith in
    let lane : sample_at word (a + 1) ≡ sample_at (word / 2 ^ 16) a =
    ap (λ (k : ℕ). cast_signed w16 (word / 2 ^ k % 2 ^ 16)) place
    ∙ ap (λ (q : ℕ). cast_signed w16 (q % 2 ^ 16)) (sym (shr-shr word 16 (16 * a))) in
    let rest = samples_rest word (a + 1) n in
    λ i. lane i ∷ rest i

pub word_of-frame_of : (channels word : ℕ) → word_of (frame_of channels word) ≡ word % 2 ^ (16 * channels)
word_of-frame_of zero word = omega arith
word_of-frame_of (suc n) word =
    let place : 16 * suc n ≡ 16 * n + 16 = omega arith in
    let first_lane : cast_unsigned w16 (sample_at word 0) ≡ word % 2 ^ 16 =
    of_z-to_z w16 (word / 2 ^ (16 * 0) % 2 ^ 16) (omega arith) ∙ omega arith in
    let rest : word_of (map (sample_at word) (range_with_len (0 + 1) n)) ≡ word / 2 ^ 16 % 2 ^ (16 * n) =
    ap word_of (samples_rest word 0 n) ∙ word_of-frame_of n (word / 2 ^ 16) in
    ap (λ (x : ℕ). x + 2 ^ 16 * word_of (map (sample_at word) (range_with_len (0 + 1) n))) first_lane
    ∙ ap (λ (x : ℕ). word % 2 ^ 16 + 2 ^ 16 * x) rest
    ∙ omega arith
    ∙ sym (mod-pow-add word (16 * n) 16)
    ∙ ap (λ (k : ℕ). word % 2 ^ k) (sym place)

pub frame_of-frame : (channels word : ℕ) → IsFrame channels (frame_of channels word)
frame_of-frame channels word = record {
  count = length-map-range_with_len (sample_at word) 0 channels;
  within = samples_fit word 0 channels;
}

pub frames_from-frame_bytes : (channels : ℕ) (frames : List (List ℤ)) → AllByRecursion (IsFrame channels) frames
    → frames_from (length frames) channels (flat_map frame_bytes frames) ≡ frames
frames_from-frame_bytes channels [] h = refl
frames_from-frame_bytes channels (f ∷ fs) h =
    let size : length (frame_bytes f) ≡ channels * 2 = rw (← h.0.count) (length-frame_bytes f) in
    let others : List ℕ = flat_map frame_bytes fs in
    let front : take (channels * 2) (frame_bytes f ++ others) ≡ frame_bytes f =
    rw (← size) (take-append_seam (frame_bytes f) others) in
    let back : drop (channels * 2) (frame_bytes f ++ others) ≡ others =
    rw (← size) (drop-append_seam (frame_bytes f) others) in
    let one = ap frame_from front ∙ frame_from-frame_bytes f h.0.within in
    let rest = ap (frames_from (length fs) channels) back ∙ frames_from-frame_bytes channels fs h.1 in
    λ i. one i ∷ rest i

-- ---- from bytes

length-frame_from : (channels : ℕ) (bytes : List ℕ) → length bytes ≡ channels * 2 → length (frame_from bytes) ≡ channels
length-frame_from channels [] l = omega arith
length-frame_from channels (low ∷ []) l = absurd (omega arith)
length-frame_from channels (low ∷ high ∷ bytes) l =
    let e = length-frame_from (channels - 1) bytes (omega arith) in omega arith

frame_from-within : (bytes : List ℕ) → AreBytes bytes → AllByRecursion (FitsSigned w16) (frame_from bytes)
frame_from-within [] h = tt
frame_from-within (low ∷ []) h = tt
frame_from-within (low ∷ high ∷ bytes) h =
    let l : low < 256 = h 0 in
    let m : high < 256 = h 1 in
    (sfits_to_z (Fits-of_lt (omega arith)), frame_from-within bytes (λ i. h (suc (suc i))))

pub frame_from-frame : (channels : ℕ) (bytes : List ℕ) → AreBytes bytes → length bytes ≡ channels * 2
    → IsFrame channels (frame_from bytes)
frame_from-frame channels bytes h l = record {
  count = length-frame_from channels bytes l;
  within = frame_from-within bytes h;
}

pub length-frames_from : (count channels : ℕ) (bytes : List ℕ) → length (frames_from count channels bytes) ≡ count
length-frames_from zero channels bytes = refl
length-frames_from (suc count) channels bytes =
    omega (arith, length-frames_from count channels (drop (channels * 2) bytes))

AreBytes-cons : (byte : ℕ) (bytes : List ℕ) → byte < 256 → AreBytes bytes → AreBytes (byte ∷ bytes)
AreBytes-cons byte bytes b h zero = b
AreBytes-cons byte bytes b h (suc i) = h i

pub AreBytes-take : (n : ℕ) (bytes : List ℕ) → AreBytes bytes → AreBytes (take n bytes)
AreBytes-take zero bytes h = λ i. omega arith
AreBytes-take (suc n) [] h = λ i. omega arith
AreBytes-take (suc n) (byte ∷ bytes) h =
    AreBytes-cons byte (take n bytes) (h 0) (AreBytes-take n bytes (λ i. h (suc i)))

pub AreBytes-drop : (n : ℕ) (bytes : List ℕ) → AreBytes bytes → AreBytes (drop n bytes)
AreBytes-drop zero bytes h = h
AreBytes-drop (suc n) [] h = h
AreBytes-drop (suc n) (byte ∷ bytes) h = AreBytes-drop n bytes (λ i. h (suc i))

pub frames_from-frames : (count channels : ℕ) (bytes : List ℕ) → AreBytes bytes → length bytes ≡ count * (channels * 2)
    → AllByRecursion (IsFrame channels) (frames_from count channels bytes)
    × (flat_map frame_bytes (frames_from count channels bytes) ≡ bytes)
frames_from-frames zero channels [] h l = (tt, refl)
frames_from-frames zero channels (b ∷ bytes) h l = absurd (omega arith)
frames_from-frames (suc count) channels bytes h l =
    let n : ℕ = channels * 2 in
    let size : n + count * n ≡ length bytes = omega arith in
    let front : length (take n bytes) ≡ n = length-take-le n bytes (omega arith) in
    let back : length (drop n bytes) ≡ count * n = omega (arith, length-drop n bytes) in
    let rest = frames_from-frames count channels (drop n bytes) (AreBytes-drop n bytes h) back in
    let even : length (take n bytes) % 2 ≡ 0 = omega arith in
    let one = frame_bytes-frame_from (take n bytes) even (AreBytes-take n bytes h) in (
      (frame_from-frame channels (take n bytes) (AreBytes-take n bytes h) front, rest.0),
      (λ i. one i ++ rest.1 i) ∙ take-append-drop n bytes,
    )
