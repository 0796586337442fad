-- Sums that are written as samples, one more.
use Rattle.std.proofs.Common.{
  ◌≡◌,
  ◌≢◌,
  ℕ,
  suc,
  ◌+◌,
  ◌*◌,
  ◌%◌,
  ◌<◌,
  ◌≤◌,
  List,
  length,
  get_or,
  set,
  sym,
  ap,
  ◌∙◌,
  arith,
  inl,
  inr,
  ◌⊎◌,
  add-one,
}
use Rattle.std.proofs.Math.Nat.{suc-mod, mod_self, mod-eq_of_lt}
use Rattle.std.proofs.lemmas.Nat.{mod_below}
use Rattle.std.proofs.lemmas.List.{length-set, get_or-set_same, get_or-set_other}
use Rattle.std.proofs.lemmas.Bool.{cases_lt}

-- the channel of the next sample
pub channel_wraps : (place channels channel : ℕ) → channel ≡ place % channels → channel + 1 ≡ channels
    → 0 ≡ (place + 1) % channels
channel_wraps place channels channel is last =
    let next : suc (place % channels) ≡ channels = omega (arith, is, last) in
    sym (ap (λ n. n % channels) (add-one place) ∙ suc-mod place channels ∙ ap (λ n. n % channels) next
    ∙ mod_self channels)

pub channel_goes : (place channels channel : ℕ) → channel ≡ place % channels → channel + 1 ≢ channels → 0 < channels
    → channel + 1 ≡ (place + 1) % channels
channel_goes place channels channel is more some =
    let below : suc (place % channels) < channels = omega (arith, is, more, mod_below place channels some) in
    let same : channel + 1 ≡ suc (place % channels) = omega (arith, is) in
    same ∙ sym (ap (λ n. n % channels) (add-one place) ∙ suc-mod place channels ∙ mod-eq_of_lt below)

-- one pair of bytes more
module _ (bytes : List ℕ) (n : ℕ) (pair : ℕ → List ℕ) (low high : ℕ) (there : 2 * n + 1 < length bytes)
    (low_is : low ≡ get_or (pair n) 0 0) (high_is : high ≡ get_or (pair n) 1 0)
    (so_far : (k i : ℕ) → k < n → i < 2 → get_or bytes (2 * k + i) 0 ≡ get_or (pair k) i 0) where
  low_at : get_or (set (set bytes (2 * n) low) (2 * n + 1) high) (2 * n + 0) 0 ≡ low
  low_at =
      let here : 2 * n + 0 ≡ 2 * n = omega arith in
      rw here (get_or-set_other (set bytes (2 * n) low) (2 * n + 1) (2 * n) high 0 (omega arith)
      ∙ get_or-set_same bytes (2 * n) low 0 (omega arith))

  high_at : get_or (set (set bytes (2 * n) low) (2 * n + 1) high) (2 * n + 1) 0 ≡ high
  high_at = get_or-set_same (set bytes (2 * n) low) (2 * n + 1) high 0
      (omega (arith, length-set bytes (2 * n) low))

  at_last : (i : ℕ) → (i < 1) ⊎ (1 ≤ i) → i < 2
      → get_or (set (set bytes (2 * n) low) (2 * n + 1) high) (2 * n + i) 0 ≡ get_or (pair n) i 0
  at_last i (inl lt) below = let is : i ≡ 0 = omega arith in rw is (low_at ∙ low_is)
  at_last i (inr le) below = let is : i ≡ 1 = omega arith in rw is (high_at ∙ high_is)

  at_each : (k i : ℕ) → (k < n) ⊎ (n ≤ k) → k < n + 1 → i < 2
      → get_or (set (set bytes (2 * n) low) (2 * n + 1) high) (2 * k + i) 0 ≡ get_or (pair k) i 0
  at_each k i (inl lt) more below =
      get_or-set_other (set bytes (2 * n) low) (2 * n + 1) (2 * k + i) high 0 (omega arith)
      ∙ get_or-set_other bytes (2 * n) (2 * k + i) low 0 (omega arith) ∙ so_far k i lt below
  at_each k i (inr le) more below = let is : k ≡ n = omega arith in rw is (at_last i (cases_lt i 1) below)

  pub one_pair : (k i : ℕ) → k < n + 1 → i < 2
      → get_or (set (set bytes (2 * n) low) (2 * n + 1) high) (2 * k + i) 0 ≡ get_or (pair k) i 0
  one_pair k i more below = at_each k i (cases_lt k n) more below
