-- The packets of a store's words: one more behind them, and without those in front.
use Rattle.std.proofs.Common.{◌≡◌, ℕ, zero, suc, ◌+◌, ◌-◌, ◌*◌, ◌/◌, ◌≤◌, List, [], ◌∷◌, ◌++◌, length, take, drop}
use Rattle.std.proofs.Common.{refl, sym, ap, ◌∙◌, arith, length-append}
use Rattle.std.proofs.lemmas.List.{drop-append-le, drop-drop, length-drop, take-append-le, take_all}
use Rattle.std.proofs.Math.Nat.{mul-div_left, mul-sub, mul_comm}
use Rattle.period_engine.specs.Packed.{packet_of, packets_from, packets_in}

pub length-packets_from : (count channels period : ℕ) (words : List ℕ)
    → length (packets_from count channels period words) ≡ count
length-packets_from zero channels period words = refl
length-packets_from (suc count) channels period words =
    ap (λ n. suc n) (length-packets_from count channels period (drop (suc period) words))

pub length-packets_in : (channels period : ℕ) (words : List ℕ)
    → length (packets_in channels period words) ≡ length words / suc period
length-packets_in channels period words = length-packets_from (length words / suc period) channels period words

pub packets_in-nil : (channels period : ℕ) → packets_in channels period [] ≡ []
packets_in-nil channels period =
    let none : 0 / suc period ≡ 0 = omega arith in
    ap (λ n. packets_from n channels period []) none

-- how many packets there are in a number of words
pub packets_in-whole : (n channels period : ℕ) (words : List ℕ) → length words ≡ n * suc period
    → packets_in channels period words ≡ packets_from n channels period words
packets_in-whole n channels period words size =
    ap (λ k. packets_from k channels period words)
    (ap (λ k. k / suc period) size ∙ mul-div_left n (omega arith))

push : (n channels period : ℕ) (words more : List ℕ) → length words ≡ n * suc period → length more ≡ suc period
    → packets_from (suc n) channels period (words ++ more)
    ≡ packets_from n channels period words ++ packet_of channels more ∷ []
push zero channels period [] more size one =
    ap (λ ws. packet_of channels ws ∷ []) (take_all (suc period) more (omega (arith, one)))
push zero channels period (word ∷ words) more size one = absurd (omega arith)
push (suc n) channels period words more size one =
    let within : suc period ≤ length words =
    let first : suc n * suc period ≡ n * suc period + suc period = grind arith in omega (arith, size, first) in
    let rest : length (drop (suc period) words) ≡ n * suc period =
    let first : suc n * suc period ≡ n * suc period + suc period = grind arith in
    omega (arith, length-drop (suc period) words, size, first) in
    rw (take-append-le (suc period) words more within, drop-append-le (suc period) words more within)
    (ap (λ ps. packet_of channels (take (suc period) words) ∷ ps)
    (push n channels period (drop (suc period) words) more rest one))

-- a packet more
pub packets_in-append : (n channels period : ℕ) (words more : List ℕ) → length words ≡ n * suc period
    → length more ≡ suc period
    → packets_in channels period (words ++ more) ≡ packets_in channels period words ++ packet_of channels more ∷ []
packets_in-append n channels period words more size one =
    let all : length (words ++ more) ≡ suc n * suc period =
    length-append words more
    ∙ (let first : suc n * suc period ≡ n * suc period + suc period = grind arith in omega (arith, size, one, first))
    in
    packets_in-whole (suc n) channels period (words ++ more) all
    ∙ push n channels period words more size one
    ∙ ap (λ ps. ps ++ packet_of channels more ∷ []) (sym (packets_in-whole n channels period words size))

skip : (k n channels period : ℕ) (words : List ℕ)
    → packets_from (n - k) channels period (drop (k * suc period) words)
    ≡ drop k (packets_from n channels period words)
skip zero n channels period words =
    let none : n - 0 ≡ n = omega arith in
    let start : 0 * suc period ≡ 0 = omega arith in
    rw (none, start) refl
skip (suc k) zero channels period words = let none : 0 - suc k ≡ 0 = omega arith in rw none refl
skip (suc k) (suc n) channels period words =
    let less : suc n - suc k ≡ n - k = omega arith in
    let first : suc k * suc period ≡ suc period + k * suc period = grind arith in
    rw (less, first, sym (drop-drop (k * suc period) (suc period) words))
    (skip k n channels period (drop (suc period) words))

-- without the first packets
pub packets_in-drop : (n k channels period : ℕ) (words : List ℕ) → length words ≡ n * suc period
    → packets_in channels period (drop (k * suc period) words) ≡ drop k (packets_in channels period words)
packets_in-drop n k channels period words size =
    let rows : (n - k) * suc period ≡ n * suc period - k * suc period =
    mul_comm (n - k) (suc period) ∙ mul-sub (suc period) n k
    ∙ (λ i. mul_comm (suc period) n i - mul_comm (suc period) k i) in
    let rest : length (drop (k * suc period) words) ≡ (n - k) * suc period =
    length-drop (k * suc period) words ∙ ap (λ m. m - k * suc period) size ∙ sym rows in
    packets_in-whole (n - k) channels period (drop (k * suc period) words) rest
    ∙ skip k n channels period words
    ∙ ap (drop k) (sym (packets_in-whole n channels period words size))
