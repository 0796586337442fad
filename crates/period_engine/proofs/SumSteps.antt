-- Words that are added to sums, one sample and one word more.
use Rattle.std.proofs.Common.{
  ◌≡◌,
  ◌≢◌,
  ℕ,
  ◌+◌,
  ◌*◌,
  ◌<◌,
  ◌≤◌,
  ℤ,
  pos,
  ◌+ℤ◌,
  unsigned_abs,
  List,
  [],
  ◌∷◌,
  ◌++◌,
  length,
  get_or,
  set,
  replicate,
  refl,
  sym,
  ap,
  ◌∙◌,
  arith,
  inl,
  inr,
  ◌⊎◌,
  to_z,
  of_z,
}
use Rattle.std.specs.Int.{w32}
use Rattle.std.proofs.lemmas.Int.{ints, to_z-of_z, fits_signed_from_abs}
use Rattle.std.proofs.lemmas.List.{
  length-set,
  get_or-set_same,
  get_or-set_other,
  get_or_append_left,
  get_or_push,
  length_push,
  get_or_default,
  get_or-replicate,
  get_or_past,
  length-replicate,
}
use Rattle.std.proofs.Math.Nat.{mul-le-mul_left}
use Rattle.std.proofs.lemmas.Bool.{cases_eq, cases_lt}
use Rattle.volume_stack.specs.Sums.{sample_limit, AreWithin}
use Rattle.period_engine.specs.Added.{most_sum, sum_at, share, StayNear, AddsWord, AddsWords}

abs_add : (a b : ℤ) → unsigned_abs (a +ℤ b) ≤ unsigned_abs a + unsigned_abs b
abs_add a b = omega (arith, ints)

pub nothing_added : (gains : List ℕ) (word at : ℕ) (sums : List ℤ) → AddsWord gains 0 word at sums sums
nothing_added gains word at sums = record {
  here = λ channel lt. absurd (omega arith);
  before = λ k lt. refl;
  after = λ k le. refl;
  stay = record { size = refl; near = λ k. omega arith };
}

-- the sum of the next channel is as it was
module _ {gains : List ℕ} {n word at : ℕ} {old mid : List ℤ} (so_far : AddsWord gains n word at old mid) where
  pub next_sum : sum_at mid (at + n) ≡ sum_at old (at + n)
  next_sum = so_far.after (at + n) (omega arith)

  pub next_within : (bound : ℕ) → ((k : ℕ) → at ≤ k → unsigned_abs (sum_at old k) ≤ bound)
      → unsigned_abs (sum_at mid (at + n)) ≤ bound
  next_within bound all = rw next_sum (all (at + n) (omega arith))

-- one sample more
module _ {gains : List ℕ} {n word at : ℕ} {old mid : List ℤ} (so_far : AddsWord gains n word at old mid) (v : ℤ)
    (there : at + n < length old) (is : v ≡ sum_at mid (at + n) +ℤ share gains word n)
    (small : unsigned_abs (share gains word n) ≤ sample_limit) where
  was : sum_at mid (at + n) ≡ sum_at old (at + n)
  was = next_sum so_far

  within : at + n < length mid
  within = omega (arith, so_far.stay.size)

  others : (k : ℕ) → k ≢ at + n → sum_at (set mid (at + n) v) k ≡ sum_at mid k
  others k other = get_or-set_other mid (at + n) k v (pos 0) other

  near_here : unsigned_abs v ≤ unsigned_abs (sum_at old (at + n)) + sample_limit
  near_here =
      omega (arith, ap unsigned_abs is, ap unsigned_abs was, abs_add (sum_at mid (at + n)) (share gains word n), small)

  near_at : (k : ℕ) → (k ≡ at + n) ⊎ (k ≢ at + n)
      → unsigned_abs (sum_at (set mid (at + n) v) k) ≤ unsigned_abs (sum_at old k) + sample_limit
  near_at k (inl same) = rw same (rw (get_or-set_same mid (at + n) v (pos 0) within) near_here)
  near_at k (inr other) = rw (others k other) (so_far.stay.near k)

  here_at : (channel : ℕ) → (channel < n) ⊎ (n ≤ channel) → channel < n + 1
      → sum_at (set mid (at + n) v) (at + channel) ≡ sum_at old (at + channel) +ℤ share gains word channel
  here_at channel (inl lt) below = others (at + channel) (omega arith) ∙ so_far.here channel lt
  here_at channel (inr le) below =
      let same : channel ≡ n = omega arith in
      rw same (get_or-set_same mid (at + n) v (pos 0) within ∙ is ∙ ap (λ z. z +ℤ share gains word n) was)

  pub one_channel : AddsWord gains (n + 1) word at old (set mid (at + n) v)
  one_channel = record {
    here = λ channel below. here_at channel (cases_lt channel n) below;
    before = λ k lt. others k (omega arith) ∙ so_far.before k lt;
    after = λ k le. others k (omega arith) ∙ so_far.after k (omega arith);
    stay = record {
      size = length-set mid (at + n) v ∙ so_far.stay.size;
      near = λ k. near_at k (cases_eq k (at + n));
    };
  }

-- the program computes such a sum as it is
pub fits_sum : (sum share : ℤ) → unsigned_abs sum ≤ most_sum → unsigned_abs share ≤ sample_limit
    → to_z w32 (of_z w32 (to_z w32 (of_z w32 sum) +ℤ to_z w32 (of_z w32 share))) ≡ sum +ℤ share
fits_sum sum share near small =
    let sum_fits = to_z-of_z w32 sum (fits_signed_from_abs w32 sum (omega arith)) in
    let share_fits = to_z-of_z w32 share (fits_signed_from_abs w32 share (omega arith)) in
    rw (sum_fits, share_fits) (to_z-of_z w32 (sum +ℤ share)
    (fits_signed_from_abs w32 (sum +ℤ share) (omega (arith, abs_add sum share))))

-- ---- one word more

pub row_below : (width place count : ℕ) → place < count → width * place + width ≤ width * count
row_below width place count lt =
    let more : width * (place + 1) ≤ width * count = mul-le-mul_left width (omega arith) in
    omega (arith, more)

pub row_within : (width place count channel : ℕ) → place < count → channel < width
    → width * place + channel < width * count
row_within width place count channel lt below = omega (arith, row_below width place count lt)

pub no_words : (gains : List ℕ) (channels : ℕ) (sums : List ℤ) → AddsWords gains channels [] sums sums
no_words gains channels sums = record {
  here = λ place channel lt below. absurd (omega arith);
  after = λ k le. refl;
  stay = record { size = refl; near = λ k. omega arith };
}

module _ {gains : List ℕ} {channels word : ℕ} {words : List ℕ} {old mid new : List ℤ}
    (so_far : AddsWords gains channels words old mid)
    (one : AddsWord gains channels word (channels * length words) mid new)
  where
    here_within : (place channel : ℕ) → (place < length words) ⊎ (length words ≤ place)
        → place < length (words ++ word ∷ [])
        → channel < channels → sum_at new (channels * place + channel)
        ≡ sum_at old (channels * place + channel) +ℤ share gains (get_or (words ++ word ∷ []) place 0) channel
    here_within place channel (inl lt) below within =
        rw (get_or_append_left words (word ∷ []) 0 place lt)
        (one.before (channels * place + channel) (row_within channels place (length words) channel lt within)
        ∙ so_far.here place channel lt within)
    here_within place channel (inr le) below within =
        let last : place ≡ length words = omega (arith, length_push words word) in
        rw (last, get_or_push words word 0 (length words) refl)
        (one.here channel within
        ∙ ap (λ z. z +ℤ share gains word channel) (so_far.after (channels * length words + channel) (omega arith)))

    near_within : (k : ℕ) → (k < channels * length words) ⊎ (channels * length words ≤ k)
        → unsigned_abs (sum_at new k) ≤ unsigned_abs (sum_at old k) + sample_limit
    near_within k (inl lt) = rw (one.before k lt) (so_far.stay.near k)
    near_within k (inr le) = rw (sym (so_far.after k le)) (one.stay.near k)

    after_all : (k : ℕ) → channels * length (words ++ word ∷ []) ≤ k → sum_at new k ≡ sum_at old k
    after_all k le =
        let size : channels * length (words ++ word ∷ []) ≡ channels * length words + channels =
        ap (λ n. channels * n) (length_push words word) ∙ omega arith in
        one.after k (omega (arith, size)) ∙ so_far.after k (omega (arith, size))

    pub one_word : AddsWords gains channels (words ++ word ∷ []) old new
    one_word = record {
      here = λ place channel lt within. here_within place channel (cases_lt place (length words)) lt within;
      after = after_all;
      stay = record {
        size = one.stay.size ∙ so_far.stay.size;
        near = λ k. near_within k (cases_lt k (channels * length words));
      };
    }

-- ---- the bounds of sums

zero_within : (n k : ℕ) → (k < n) ⊎ (n ≤ k) → sum_at (replicate n (pos 0)) k ≡ pos 0
zero_within n k (inl lt) = get_or-replicate n k (pos 0) (pos 0) lt
zero_within n k (inr le) = get_or_past (replicate n (pos 0)) k (pos 0) (omega (arith, length-replicate n (pos 0)))

-- each of a number of sums that are 0
pub zero_at : (n k : ℕ) → sum_at (replicate n (pos 0)) k ≡ pos 0
zero_at n k = zero_within n k (cases_lt k n)

pub zeros_near : (n k : ℕ) → unsigned_abs (sum_at (replicate n (pos 0)) k) ≤ 0 * sample_limit
zeros_near n k = rw (zero_at n k) (omega arith)

pub all_near : (count bound : ℕ) (sums : List ℤ) → count * sample_limit ≤ bound
    → ((k : ℕ) → unsigned_abs (sum_at sums k) ≤ count * sample_limit) → AreWithin bound sums
all_near count bound sums le near k d lt =
    rw (get_or_default sums k d (pos 0) lt) (omega (arith, near k, le))

pub near_more : (count : ℕ) (old new : List ℤ) → StayNear old new
    → ((k : ℕ) → unsigned_abs (sum_at old k) ≤ count * sample_limit)
    → (k : ℕ) → unsigned_abs (sum_at new k) ≤ (count + 1) * sample_limit
near_more count old new stay near k = omega (arith, stay.near k, near k)
