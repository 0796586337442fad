-- Frames, words and bytes lead back to one another.
use Rattle.std.proofs.Common.{◌≡◌, ℕ, zero, suc, ◌+◌, ◌*◌, ◌/◌, ◌%◌, ◌^◌, ◌<◌, List, [], ◌∷◌, ◌++◌, length, get_or}
use Rattle.std.proofs.Common.{map, ℤ, pos, negsuc, refl, sym, ap, ◌∙◌, arith}
use Rattle.std.proofs.lemmas.Int.{to_z-of_z, of_z-to_z}
use Rattle.std.proofs.lemmas.Nat.{shr-shr, pow-add, le_bytes_2, from_le_bytes-to_le_bytes_2}
use Rattle.std.proofs.lemmas.Slice.Eq.{text_from_reads}
use Rattle.std.proofs.Math.Facts.{sfits_to_z, Fits-of_lt}
use Rattle.std.specs.List.{range_with_len, AllByRecursion}
use Rattle.std.specs.Int.{w16, w64, cast_unsigned, cast_signed, to_le_bytes, from_le_bytes}
use Rattle.std.specs.Int.RustNames.{FitsSigned}
use Rattle.wave_format.specs.Frame.{AreBytes, word_of, sample_at, frame_of, frame_bytes, frame_from}

-- ---- words

pub lane_fits : (z : ℤ) → FitsSigned w16 z → cast_unsigned w16 z < 2 ^ 16
lane_fits (pos n) f = omega (arith, f.sfits)
lane_fits (negsuc n) f = omega arith

pub sample_back : (z : ℤ) → FitsSigned w16 z → cast_signed w16 (cast_unsigned w16 z) ≡ z
sample_back z f = to_z-of_z w16 z f

-- the lowest lane is channel 0
sample_low : (low word : ℕ) → low < 2 ^ 16 → sample_at (low + 2 ^ 16 * word) 0 ≡ cast_signed w16 low
sample_low low word h =
    let e : (low + 2 ^ 16 * word) / 2 ^ (16 * 0) % 2 ^ 16 ≡ low = omega arith in
    ap (cast_signed w16) e

-- the lanes above it are the rest
sample_high : (low word channel : ℕ) → low < 2 ^ 16
    → sample_at (low + 2 ^ 16 * word) (channel + 1) ≡ sample_at word channel
sample_high low word channel h =
    let place : 16 * (channel + 1) ≡ 16 + 16 * channel = omega arith in
    let rest : (low + 2 ^ 16 * word) / 2 ^ 16 ≡ word = omega arith in
    ap (λ (k : ℕ). cast_signed w16 ((low + 2 ^ 16 * word) / 2 ^ k % 2 ^ 16)) place
    ∙ ap (λ (q : ℕ). cast_signed w16 (q % 2 ^ 16)) (sym (shr-shr (low + 2 ^ 16 * word) 16 (16 * channel)))
    ∙ ap (λ (q : ℕ). cast_signed w16 (q / 2 ^ (16 * channel) % 2 ^ 16)) rest

samples_high : (low word : ℕ) → low < 2 ^ 16 → (a n : ℕ)
    → map (sample_at (low + 2 ^ 16 * word)) (range_with_len (a + 1) n) ≡ map (sample_at word) (range_with_len a n)
samples_high low word h a zero = refl
samples_high low word h a (suc n) =
    let lane = sample_high low word a h in
    let rest = samples_high low word h (a + 1) n in
    λ i. lane i ∷ rest i

-- a frame's word holds the frame
pub frame_back : (samples : List ℤ) → AllByRecursion (FitsSigned w16) samples
    → frame_of (length samples) (word_of samples) ≡ samples
frame_back [] h = refl
frame_back (z ∷ zs) h =
    let low = lane_fits z h.0 in
    let lane = sample_low (cast_unsigned w16 z) (word_of zs) low ∙ sample_back z h.0 in
    let rest = samples_high (cast_unsigned w16 z) (word_of zs) low 0 (length zs) ∙ frame_back zs h.1 in
    λ i. lane i ∷ rest i

-- channel by channel
pub sample_of_word : (samples : List ℤ) (channel : ℕ) (d : ℤ) → AllByRecursion (FitsSigned w16) samples
    → channel < length samples → sample_at (word_of samples) channel ≡ get_or samples channel d
sample_of_word [] channel d h l = absurd (omega arith)
sample_of_word (z ∷ zs) zero d h l = sample_low (cast_unsigned w16 z) (word_of zs) (lane_fits z h.0) ∙ sample_back z h.0
sample_of_word (z ∷ zs) (suc channel) d h l =
    ap (λ (k : ℕ). sample_at (cast_unsigned w16 z + 2 ^ 16 * word_of zs) k) (omega arith)
    ∙ sample_high (cast_unsigned w16 z) (word_of zs) channel (lane_fits z h.0)
    ∙ sample_of_word zs channel d h.1 (omega arith)

-- a lane of 16 bits a sample
pub word_fits : (samples : List ℤ) → AllByRecursion (FitsSigned w16) samples
    → word_of samples < 2 ^ (16 * length samples)
word_fits [] h = omega arith
word_fits (z ∷ zs) h =
    let low = lane_fits z h.0 in
    let high = word_fits zs h.1 in
    let place : 16 * suc (length zs) ≡ 16 + 16 * length zs = omega arith in
    let power : 2 ^ (16 * suc (length zs)) ≡ 2 ^ 16 * 2 ^ (16 * length zs) =
    ap (λ (k : ℕ). 2 ^ k) place ∙ pow-add 2 16 (16 * length zs) in
    omega (arith, power)

pub sample_at-fits : (word channel : ℕ) → FitsSigned w16 (sample_at word channel)
sample_at-fits word channel = sfits_to_z (Fits-of_lt (omega arith))

-- ---- bytes

two_bytes : (low high : ℕ) → low < 256 → high < 256 → (i : ℕ) → get_or (low ∷ high ∷ []) i 0 < 256
two_bytes low high l h zero = l
two_bytes low high l h (suc zero) = h
two_bytes low high l h (suc (suc i)) = omega arith

pub frame_from-frame_bytes : (samples : List ℤ) → AllByRecursion (FitsSigned w16) samples
    → frame_from (frame_bytes samples) ≡ samples
frame_from-frame_bytes [] h = refl
frame_from-frame_bytes (z ∷ zs) h =
    let number = from_le_bytes-to_le_bytes_2 (cast_unsigned w16 z) (lane_fits z h.0) in
    let lane = ap (cast_signed w16) number ∙ sample_back z h.0 in
    let rest = frame_from-frame_bytes zs h.1 in
    λ i. lane i ∷ rest i

pub length-frame_bytes : (samples : List ℤ) → length (frame_bytes samples) ≡ length samples * 2
length-frame_bytes [] = refl
length-frame_bytes (z ∷ zs) = omega (arith, length-frame_bytes zs)

-- two bytes as a number
abbrev pair : ℕ → ℕ → ℕ
pair low high = from_le_bytes w16 (low ∷ high ∷ [])

pair_back : (low high : ℕ) → low < 256 → high < 256
    → cast_unsigned w16 (cast_signed w16 (pair low high)) ≡ pair low high
pair_back low high l h = of_z-to_z w16 (pair low high) (omega arith)

pub frame_bytes-frame_from : (bytes : List ℕ) → length bytes % 2 ≡ 0 → AreBytes bytes
    → frame_bytes (frame_from bytes) ≡ bytes
frame_bytes-frame_from [] even h = refl
frame_bytes-frame_from (low ∷ []) even h = absurd (omega arith)
frame_bytes-frame_from (low ∷ high ∷ bytes) even h =
    let l : low < 256 = h 0 in
    let m : high < 256 = h 1 in
    let front = le_bytes_2 (low ∷ high ∷ []) (pair low high) refl (two_bytes low high l m) refl in
    let rest = frame_bytes-frame_from bytes (omega arith) (λ i. h (suc (suc i))) in
    ap (λ (n : ℕ). to_le_bytes w16 n ++ frame_bytes (frame_from bytes)) (pair_back low high l m)
    ∙ ap (λ (xs : List ℕ). xs ++ frame_bytes (frame_from bytes)) front
    ∙ ap (λ (xs : List ℕ). low ∷ high ∷ xs) rest

-- ---- what `pack` and `word_from_bytes` compute

-- the lane of a sample
abbrev pub lane_at : List ℤ → ℕ → ℕ
lane_at samples channel = cast_unsigned w16 (get_or samples channel (pos 0))

pub word_of_four : (samples : List ℤ) (a b c d : ℕ) → length samples ≡ 4
    → a ≡ lane_at samples 0 → b ≡ lane_at samples 1 → c ≡ lane_at samples 2 → d ≡ lane_at samples 3
    → a + 65536 * (b + 65536 * (c + 65536 * d)) ≡ word_of samples
word_of_four [] a b c d l p q r s = absurd (omega arith)
word_of_four (z ∷ []) a b c d l p q r s = absurd (omega arith)
word_of_four (z ∷ z2 ∷ []) a b c d l p q r s = absurd (omega arith)
word_of_four (z ∷ z2 ∷ z3 ∷ []) a b c d l p q r s = absurd (omega arith)
word_of_four (z ∷ z2 ∷ z3 ∷ z4 ∷ []) a b c d l p q r s = omega arith
word_of_four (z ∷ z2 ∷ z3 ∷ z4 ∷ z5 ∷ zs) a b c d l p q r s = absurd (omega arith)

pair_word : (low high : ℕ) (bytes : List ℕ) → low < 256 → high < 256
    → word_of (frame_from (low ∷ high ∷ bytes)) ≡ low + 256 * high + 65536 * word_of (frame_from bytes)
pair_word low high bytes l h =
    ap (λ (n : ℕ). n + 65536 * word_of (frame_from bytes)) (pair_back low high l h) ∙ omega arith

abbrev pub eight : List ℕ → List ℕ
eight bytes =
    get_or bytes 0 0 ∷ get_or bytes 1 0 ∷ get_or bytes 2 0 ∷ get_or bytes 3 0
    ∷ get_or bytes 4 0 ∷ get_or bytes 5 0 ∷ get_or bytes 6 0 ∷ get_or bytes 7 0 ∷ []

word_of_pairs : (a b c d e f g h : ℕ) → a < 256 → b < 256 → c < 256 → d < 256 → e < 256 → f < 256 → g < 256 → h < 256
    → from_le_bytes w64 (a ∷ b ∷ c ∷ d ∷ e ∷ f ∷ g ∷ h ∷ []) ≡ word_of (frame_from (a ∷ b ∷ c ∷ d ∷ e ∷ f ∷ g ∷ h ∷ []))
word_of_pairs a b c d e f g h ka kb kc kd ke kf kg kh =
    let p = pair_word a b (c ∷ d ∷ e ∷ f ∷ g ∷ h ∷ []) ka kb in
    let q = pair_word c d (e ∷ f ∷ g ∷ h ∷ []) kc kd in
    let r = pair_word e f (g ∷ h ∷ []) ke kf in
    let s = pair_word g h [] kg kh in
    omega arith

pub word_of_eight : (bytes : List ℕ) → AreBytes bytes → length bytes ≡ 8
    → from_le_bytes w64 (eight bytes) ≡ word_of (frame_from bytes)
word_of_eight bytes h l =
    let whole : bytes ≡ eight bytes =
    text_from_reads bytes (eight bytes) l (refl, (refl, (refl, (refl, (refl, (refl, (refl, (refl, tt)))))))) in
    word_of_pairs _ _ _ _ _ _ _ _ (h 0) (h 1) (h 2) (h 3) (h 4) (h 5) (h 6) (h 7)
    ∙ ap (λ (b : List ℕ). word_of (frame_from b)) (sym whole)
