-- Numbers as bytes, at every width: what is read is written so, and what was written is read again.
use Rattle.std.proofs.Common.{◌≡◌, ℕ, zero, suc, ◌+◌, ◌-◌, ◌*◌, ◌/◌, ◌%◌, ◌^◌, ◌<◌, ◌≤◌, List, [], ◌∷◌, ◌++◌, length}
use Rattle.std.proofs.Common.{get_or, take, drop, refl, sym, ap, ◌∙◌, arith, inl, inr}
use Rattle.std.specs.Prelude.{reverse}
use Rattle.std.specs.Int.{w16, w32, w64, w128, byte_at, byte_worth, bytes_low_first, bytes_high_first, sum_through}
use Rattle.std.specs.Int.{from_le_bytes, to_le_bytes, from_be_bytes, to_be_bytes}
use Rattle.std.proofs.Math.Nat.{div-div-eq-div-mul, pow-succ'}
use Rattle.std.proofs.Math.Seq.{take-suc, take-length}
use Rattle.std.proofs.lemmas.Bool.{cases_lt}
use Rattle.std.proofs.lemmas.List.{length-take, length-reverse, reverse-append, reverse-reverse, get_or-drop}
use Rattle.std.proofs.lemmas.List.{get_or-take, get_or-reverse, get_or_past}

-- each of them is a byte
abbrev pub IsBytes : List ℕ → Type 0
IsBytes bs = (i : ℕ) → get_or bs i 0 < 256

pub IsBytes-drop : (n : ℕ) (bs : List ℕ) → IsBytes bs → IsBytes (drop n bs)
IsBytes-drop n bs h i = rw get_or-drop (h (n + i))

pub IsBytes-take : (n : ℕ) (bs : List ℕ) → IsBytes bs → IsBytes (take n bs)
IsBytes-take n bs h i =
    elim (cases_lt i n) [
      | inl lt ↦ rw (get_or-take n bs i 0 lt) (h i)
      | inr le ↦ rw (get_or_past (take n bs) i 0 (omega (arith, length-take n bs))) (omega arith)
    ]

IsBytes-reverse : (bs : List ℕ) → IsBytes bs → IsBytes (reverse bs)
IsBytes-reverse bs h i =
    elim (cases_lt i (length bs)) [
      | inl lt ↦ rw (get_or-reverse bs i 0 lt) (h (length bs - 1 - i))
      | inr le ↦ rw (get_or_past (reverse bs) i 0 (omega (arith, length-reverse bs))) (omega arith)
    ]

-- numbers below `limit` as `size` bytes
pub record IsCode (size limit : ℕ) (spell : ℕ → List ℕ) (worth : List ℕ → ℕ) : Type 0 where
  pub len : (n : ℕ) → length (spell n) ≡ size
  pub back : (bs : List ℕ) → length bs ≡ size → IsBytes bs → spell (worth bs) ≡ bs
  pub again : (n : ℕ) → n < limit → worth (spell n) ≡ n
  pub below : (bs : List ℕ) → length bs ≡ size → IsBytes bs → worth bs < limit

-- ---- the lowest byte first, by division

-- the lowest `k` bytes of a number
digits : ℕ → ℕ → List ℕ
digits zero n = []
digits (suc k) n = n % 256 ∷ digits k (n / 256)

-- what bytes are worth
value : List ℕ → ℕ
value [] = 0
value (b ∷ bs) = b + 256 * value bs

length-digits : (k n : ℕ) → length (digits k n) ≡ k
unfolding digits
length-digits zero n = refl
length-digits (suc k) n = omega (arith, length-digits k (n / 256))

digits-value : (bs : List ℕ) → IsBytes bs → digits (length bs) (value bs) ≡ bs
unfolding digits value
digits-value [] fits = refl
digits-value (b ∷ bs) fits =
    let small : b < 256 = fits 0 in
    let low : (b + 256 * value bs) % 256 ≡ b = omega arith in
    let high : (b + 256 * value bs) / 256 ≡ value bs = omega arith in
    rw (low, high, digits-value bs (λ i. fits (suc i))) refl

value-digits : (k n : ℕ) → n < 256 ^ k → value (digits k n) ≡ n
unfolding digits value
value-digits zero n lt = omega arith
value-digits (suc k) n lt =
    let less : n / 256 < 256 ^ k = omega (arith, pow-succ' 256 k) in
    rw (value-digits k (n / 256) less) (omega arith)

value_below : (bs : List ℕ) → IsBytes bs → value bs < 256 ^ length bs
unfolding value
value_below [] fits = omega arith
value_below (b ∷ bs) fits =
    omega (arith, fits 0, value_below bs (λ i. fits (suc i)), pow-succ' 256 (length bs))

byte_at-suc : (i n : ℕ) → byte_at (suc i) n ≡ byte_at i (n / 256)
byte_at-suc zero n = refl
byte_at-suc (suc i) n =
    ap (λ (p : ℕ). n / p % 256) (pow-succ' 256 (suc i))
    ∙ ap (λ (m : ℕ). m % 256) (sym (div-div-eq-div-mul n 256 (256 ^ suc i)))

-- ---- little-endian

low_shifted : (i k n : ℕ) → bytes_low_first (suc i) k n ≡ bytes_low_first i k (n / 256)
low_shifted i zero n = refl
low_shifted i (suc k) n = rw (byte_at-suc i n, low_shifted (suc i) k n) refl

low_digits : (k n : ℕ) → bytes_low_first 0 k n ≡ digits k n
unfolding digits
low_digits zero n = refl
low_digits (suc k) n = ap (λ (xs : List ℕ). n % 256 ∷ xs) (low_shifted 0 k n ∙ low_digits k (n / 256))

-- what the first bytes are worth, up to place `k`, the lowest first
abbrev low_worth : ℕ → List ℕ → ℕ
low_worth k bs = sum_through (λ i. byte_worth i (get_or bs i 0)) k

low_more : (k b : ℕ) (bs : List ℕ) → low_worth (suc k) (b ∷ bs) ≡ b + 256 * low_worth k bs
low_more zero b bs = omega arith
low_more (suc k) b bs = rw (low_more k b bs, pow-succ' 256 (suc k)) (omega arith)

low_value : (k : ℕ) (bs : List ℕ) → length bs ≡ suc k → low_worth k bs ≡ value bs
unfolding value
low_value k [] len = absurd (omega arith)
low_value zero (b ∷ []) len = omega arith
low_value zero (b ∷ c ∷ bs) len = absurd (omega arith)
low_value (suc k) (b ∷ bs) len =
    low_more k b bs ∙ ap (λ (v : ℕ). b + 256 * v) (low_value k bs (omega arith))

le_code : (k : ℕ) → IsCode (suc k) (256 ^ suc k) (bytes_low_first 0 (suc k)) (low_worth k)
le_code k = record {
  len = λ n. ap length (low_digits (suc k) n) ∙ length-digits (suc k) n;
  back = λ bs len fits.
      low_digits (suc k) (low_worth k bs)
      ∙ ap (digits (suc k)) (low_value k bs len)
      ∙ ap (λ (n : ℕ). digits n (value bs)) (sym len)
      ∙ digits-value bs fits;
  again = λ n lt.
      low_value k (bytes_low_first 0 (suc k) n) (ap length (low_digits (suc k) n) ∙ length-digits (suc k) n)
      ∙ ap value (low_digits (suc k) n)
      ∙ value-digits (suc k) n lt;
  below = λ bs len fits. rw (low_value k bs len, ← len) (value_below bs fits);
}

-- ---- big-endian

high_last : (k n : ℕ) → bytes_high_first (suc k) n ≡ bytes_high_first k (n / 256) ++ (n % 256 ∷ [])
high_last zero n = refl
high_last (suc k) n = rw (byte_at-suc k n, high_last k n) refl

high_digits : (k n : ℕ) → bytes_high_first k n ≡ reverse (digits k n)
unfolding digits
high_digits zero n = refl
high_digits (suc k) n =
    high_last k n
    ∙ ap (λ (xs : List ℕ). xs ++ (n % 256 ∷ [])) (high_digits k (n / 256))
    ∙ sym (reverse-append (n % 256 ∷ []) (digits k (n / 256)))

-- what the first bytes are worth, up to place `k`, the highest first
abbrev high_worth : ℕ → List ℕ → ℕ
high_worth k bs = sum_through (λ i. byte_worth (k - i) (get_or bs i 0)) k

worth_more : (i b : ℕ) → byte_worth (suc i) b ≡ 256 * byte_worth i b
worth_more zero b = omega arith
worth_more (suc i) b = rw (pow-succ' 256 (suc i)) (omega arith)

term_more : (k j b : ℕ) → j ≤ k → byte_worth (suc k - j) b ≡ 256 * byte_worth (k - j) b
term_more k j b le =
    let e : suc k - j ≡ suc (k - j) = omega arith in
    ap (λ (i : ℕ). byte_worth i b) e ∙ worth_more (k - j) b

high_scaled : (k j : ℕ) (bs : List ℕ) → j ≤ k
    → sum_through (λ i. byte_worth (suc k - i) (get_or bs i 0)) j
    ≡ 256 * sum_through (λ i. byte_worth (k - i) (get_or bs i 0)) j
high_scaled k zero bs le = term_more k 0 (get_or bs 0 0) le
high_scaled k (suc j) bs le =
    rw (high_scaled k j bs (omega arith), term_more k (suc j) (get_or bs (suc j) 0) le) (omega arith)

high_more : (k : ℕ) (bs : List ℕ) → high_worth (suc k) bs ≡ get_or bs (suc k) 0 + 256 * high_worth k bs
high_more k bs =
    let b = get_or bs (suc k) 0 in
    let none : suc k - suc k ≡ 0 = omega arith in
    let last : byte_worth (suc k - suc k) b ≡ b = ap (λ (i : ℕ). byte_worth i b) none in
    rw (high_scaled k k bs (omega arith), last) (omega arith)

high_value : (k : ℕ) (bs : List ℕ) → suc k ≤ length bs → high_worth k bs ≡ value (reverse (take (suc k) bs))
unfolding value
high_value zero [] le = absurd (omega arith)
high_value zero (b ∷ bs) le = omega arith
high_value (suc k) bs le =
    let b = get_or bs (suc k) 0 in
    let front = take (suc k) bs in
    high_more k bs
    ∙ ap (λ (v : ℕ). b + 256 * v) (high_value k bs (omega arith))
    ∙ ap value (sym (reverse-append front (b ∷ [])))
    ∙ ap (λ (xs : List ℕ). value (reverse xs)) (sym (take-suc bs (suc k) 0 le))

high_whole : (k : ℕ) (bs : List ℕ) → length bs ≡ suc k → high_worth k bs ≡ value (reverse bs)
high_whole k bs len =
    high_value k bs (omega arith)
    ∙ ap (λ (n : ℕ). value (reverse (take n bs))) (sym len)
    ∙ ap (λ (xs : List ℕ). value (reverse xs)) (take-length bs)

high_length : (k n : ℕ) → length (bytes_high_first k n) ≡ k
high_length k n = ap length (high_digits k n) ∙ length-reverse (digits k n) ∙ length-digits k n

be_code : (k : ℕ) → IsCode (suc k) (256 ^ suc k) (bytes_high_first (suc k)) (high_worth k)
be_code k = record {
  len = high_length (suc k);
  back = λ bs len fits.
      high_digits (suc k) (high_worth k bs)
      ∙ ap (λ (n : ℕ). reverse (digits (suc k) n)) (high_whole k bs len)
      ∙ ap (λ (n : ℕ). reverse (digits n (value (reverse bs)))) (sym (length-reverse bs ∙ len))
      ∙ ap reverse (digits-value (reverse bs) (IsBytes-reverse bs fits))
      ∙ reverse-reverse bs;
  again = λ n lt.
      high_whole k (bytes_high_first (suc k) n) (high_length (suc k) n)
      ∙ ap (λ (xs : List ℕ). value (reverse xs)) (high_digits (suc k) n)
      ∙ ap value (reverse-reverse (digits (suc k) n))
      ∙ value-digits (suc k) n lt;
  below = λ bs len fits.
      rw (high_whole k bs len, ← len, ← length-reverse bs) (value_below (reverse bs) (IsBytes-reverse bs fits));
}

-- ---- the widths of the wire

pub u16_code : IsCode 2 (2 ^ 16) (to_le_bytes w16) (from_le_bytes w16)
u16_code = le_code 1

pub u32_code : IsCode 4 (2 ^ 32) (to_le_bytes w32) (from_le_bytes w32)
u32_code = le_code 3

pub u64_code : IsCode 8 (2 ^ 64) (to_le_bytes w64) (from_le_bytes w64)
u64_code = le_code 7

pub guid_code : IsCode 16 (2 ^ 128) (to_be_bytes w128) (from_be_bytes w128)
guid_code = be_code 15
