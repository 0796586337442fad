-- The fields of a format are read from their bytes, and bytes are those of their fields.
use Rattle.std.proofs.Common.{◌≡◌, ℕ, zero, suc, ◌+◌, ◌*◌, ◌/◌, ◌%◌, ◌^◌, ◌<◌, ◌≤◌, Bool, true, false, cond, List, []}
use Rattle.std.proofs.Common.{◌∷◌, ◌++◌, length, get_or, take, drop, refl, sym, ap, ◌∙◌, arith}
use Rattle.std.proofs.lemmas.List.{take-append-drop, drop-drop}
use Rattle.std.proofs.Math.Seq.{take-add}
use Rattle.std.specs.Int.{w16, w32, to_le_bytes}
use Rattle.wave_format.specs.declared.fields.Fields.{Fields}
use Rattle.wave_format.specs.Fields.{Extension, fields_of, field_bytes, extension_of, extension_bytes}
use Rattle.wave_format.specs.Frame.{AreBytes}

-- ---- from bytes

pair_of : (v a b : ℕ) → a < 256 → b < 256 → v ≡ a + 256 * (b + 256 * 0) → to_le_bytes w16 v ≡ a ∷ b ∷ []
pair_of v a b ka kb e =
    let p : v % 256 ≡ a = omega arith in
    let q : v / 256 % 256 ≡ b = omega arith in
    cc

four_of : (v a b c d : ℕ) → a < 256 → b < 256 → c < 256 → d < 256
    → v ≡ a + 256 * (b + 256 * (c + 256 * (d + 256 * 0))) → to_le_bytes w32 v ≡ a ∷ b ∷ c ∷ d ∷ []
four_of v a b c d ka kb kc kd e =
    let p : v % 256 ≡ a = omega arith in
    let q : v / 256 % 256 ≡ b = omega arith in
    let r : v / 65536 % 256 ≡ c = omega arith in
    let s : v / 16777216 % 256 ≡ d = omega arith in
    cc

-- the bytes of a number are those at its place
pair_at : (bytes : List ℕ) (place : ℕ) → AreBytes bytes → suc place < length bytes
    → to_le_bytes w16 (get_or bytes place 0 + 256 * (get_or bytes (suc place) 0 + 256 * 0)) ≡ take 2 (drop place bytes)
pair_at [] place h l = absurd (omega arith)
pair_at (a ∷ []) zero h l = absurd (omega arith)
pair_at (a ∷ b ∷ bytes) zero h l = pair_of _ a b (h 0) (h 1) refl
pair_at (a ∷ bytes) (suc place) h l = pair_at bytes place (λ i. h (suc i)) (omega arith)

four_at : (bytes : List ℕ) (place : ℕ) → AreBytes bytes → suc (suc (suc place)) < length bytes
    → to_le_bytes w32
    (get_or bytes place 0 + 256 * (get_or bytes (suc place) 0
    + 256 * (get_or bytes (suc (suc place)) 0 + 256 * (get_or bytes (suc (suc (suc place))) 0 + 256 * 0))))
    ≡ take 4 (drop place bytes)
four_at [] place h l = absurd (omega arith)
four_at (a ∷ []) zero h l = absurd (omega arith)
four_at (a ∷ b ∷ []) zero h l = absurd (omega arith)
four_at (a ∷ b ∷ c ∷ []) zero h l = absurd (omega arith)
four_at (a ∷ b ∷ c ∷ d ∷ bytes) zero h l = four_of _ a b c d (h 0) (h 1) (h 2) (h 3) refl
four_at (a ∷ bytes) (suc place) h l = four_at bytes place (λ i. h (suc i)) (omega arith)

-- two pieces that follow each other
joined : (bytes : List ℕ) (n m : ℕ) (xs ys : List ℕ) → xs ≡ take n bytes → ys ≡ take m (drop n bytes)
    → xs ++ ys ≡ take (n + m) bytes
joined bytes n m xs ys p q = cc (take-add n m bytes)

pub field_bytes-fields_of : (bytes : List ℕ) → AreBytes bytes → 18 ≤ length bytes
    → field_bytes (fields_of bytes) ≡ take 18 bytes
field_bytes-fields_of bytes h l =
    joined bytes 16 2 _ _
    (joined bytes 14 2 _ _
    (joined bytes 12 2 _ _
    (joined bytes 8 4 _ _
    (joined bytes 4 4 _ _
    (joined bytes 2 2 _ _ (pair_at bytes 0 h (omega arith)) (pair_at bytes 2 h (omega arith)))
    (four_at bytes 4 h (omega arith)))
    (four_at bytes 8 h (omega arith)))
    (pair_at bytes 12 h (omega arith)))
    (pair_at bytes 14 h (omega arith)))
    (pair_at bytes 16 h (omega arith))

extension_bytes-extension_of : (bytes : List ℕ) → AreBytes bytes → 24 ≤ length bytes
    → extension_bytes (extension_of bytes) ≡ drop 18 bytes
extension_bytes-extension_of bytes h l =
    let mask = four_at bytes 20 h (omega arith) ∙ ap (take 4) (sym (drop-drop 2 18 bytes)) in
    let front = joined (drop 18 bytes) 2 4 _ _ (pair_at bytes 18 h (omega arith)) mask in
    ap (λ (xs : List ℕ). xs ++ drop 24 bytes) front
    ∙ ap (λ (xs : List ℕ). take 6 (drop 18 bytes) ++ xs) (sym (drop-drop 6 18 bytes))
    ∙ take-append-drop 6 (drop 18 bytes)

-- bytes are those of their fields and what they add
pub whole_bytes : (bytes : List ℕ) → AreBytes bytes → 24 ≤ length bytes
    → field_bytes (fields_of bytes) ++ extension_bytes (extension_of bytes) ≡ bytes
whole_bytes bytes h l =
    ap (λ (xs : List ℕ). xs ++ extension_bytes (extension_of bytes)) (field_bytes-fields_of bytes h (omega arith))
    ∙ ap (λ (xs : List ℕ). take 18 bytes ++ xs) (extension_bytes-extension_of bytes h l)
    ∙ take-append-drop 18 bytes

-- ---- to bytes

pair_back : (v : ℕ) → v < 2 ^ 16 → v % 256 + 256 * (v / 256 % 256 + 256 * 0) ≡ v
pair_back v h = omega arith

four_back : (v : ℕ) → v < 2 ^ 32
    → v % 256 + 256 * (v / 256 % 256 + 256 * (v / 65536 % 256 + 256 * (v / 16777216 % 256 + 256 * 0))) ≡ v
four_back v h = omega arith

-- the fields are numbers of their sizes
pub record FieldsFit (f : Fields) : Type 0 where
  pub tag : f.tag < 2 ^ 16
  pub channels : f.channels < 2 ^ 16
  pub rate : f.rate < 2 ^ 32
  pub average : f.average < 2 ^ 32
  pub block_align : f.block_align < 2 ^ 16
  pub bits : f.bits < 2 ^ 16
  pub extra : f.extra < 2 ^ 16

pub fields_of-field_bytes : (f : Fields) (rest : List ℕ) → FieldsFit f → fields_of (field_bytes f ++ rest) ≡ f
fields_of-field_bytes f rest h = λ i. record {
  tag = pair_back f.tag h.tag i;
  channels = pair_back f.channels h.channels i;
  rate = four_back f.rate h.rate i;
  average = four_back f.average h.average i;
  block_align = pair_back f.block_align h.block_align i;
  bits = pair_back f.bits h.bits i;
  extra = pair_back f.extra h.extra i;
}

pub extension_of-extension_bytes : (f : Fields) (e : Extension) → e.valid_bits < 2 ^ 16 → e.mask < 2 ^ 32
    → extension_of (field_bytes f ++ extension_bytes e) ≡ e
extension_of-extension_bytes f e v m = λ i. record {
  valid_bits = pair_back e.valid_bits v i;
  mask = four_back e.mask m i;
  sub_format = e.sub_format;
}

-- a mask that is kept only if a test holds fits in 32 bits
pub mask_fits : (b : Bool) (bytes : List ℕ) → AreBytes bytes → cond b (extension_of bytes).mask 0 < 2 ^ 32
mask_fits true bytes h = omega (arith, h 20, h 21, h 22, h 23)
mask_fits false bytes h = omega arith

-- ---- of numbers that their fields can't hold

low_pair : (n : ℕ) → to_le_bytes w16 (n % 65536) ≡ to_le_bytes w16 n
low_pair n =
    let a : n % 65536 % 256 ≡ n % 256 = omega arith in
    let b : n % 65536 / 256 % 256 ≡ n / 256 % 256 = omega arith in
    cc

low_four : (n : ℕ) → to_le_bytes w32 (n % 4294967296) ≡ to_le_bytes w32 n
low_four n =
    let a : n % 4294967296 % 256 ≡ n % 256 = omega arith in
    let b : n % 4294967296 / 256 % 256 ≡ n / 256 % 256 = omega arith in
    let c : n % 4294967296 / 65536 % 256 ≡ n / 65536 % 256 = omega arith in
    let d : n % 4294967296 / 16777216 % 256 ≡ n / 16777216 % 256 = omega arith in
    cc

-- bytes are those of a number's low part
pub field_bytes-low : (tag channels rate average block_align bits extra : ℕ)
    → field_bytes (record {
      tag = tag;
      channels = channels;
      rate = rate;
      average = average % 4294967296;
      block_align = block_align % 65536;
      bits = bits;
      extra = extra;
    }) ≡ field_bytes (record {
      tag = tag;
      channels = channels;
      rate = rate;
      average = average;
      block_align = block_align;
      bits = bits;
      extra = extra;
    })
field_bytes-low tag channels rate average block_align bits extra = cc (low_four average, low_pair block_align)
