-- A block of words that is added to sums, behind words that were added.
use Rattle.std.proofs.Common.{
  ◌≡◌,
  ℕ,
  ◌+◌,
  ◌-◌,
  ◌*◌,
  ◌<◌,
  ◌≤◌,
  ◌⊎◌,
  inl,
  inr,
  ℤ,
  pos,
  ◌+ℤ◌,
  unsigned_abs,
  List,
  ◌++◌,
  length,
  get_or,
  take,
  drop,
  sym,
  ap,
  ◌∙◌,
  arith,
  length-append,
}
use Rattle.std.proofs.Math.Nat.{mul-le-mul_left}
use Rattle.std.proofs.lemmas.Bool.{cases_lt}
use Rattle.std.proofs.lemmas.List.{
  get_or_append_left,
  get_or-append-add,
  get_or-take,
  get_or-drop,
  get_or_default,
  length-take-le,
  length-drop,
}
use Rattle.volume_stack.specs.Sums.{AreWithin, sample_limit}
use Rattle.period_engine.specs.Added.{sum_at, share, AddsWords}
use Rattle.period_engine.proofs.SumSteps.{row_within}

-- the sums from a block's place on have the room that is left
pub room_left : (channels place size count total : ℕ) → place + size ≤ count → channels * count ≤ total
    → channels * size ≤ total - channels * place
room_left channels place size count total fits room =
    let rows : channels * (place + size) ≤ channels * count = mul-le-mul_left channels fits in
    omega (arith, rows, room)

pub place_within : (channels place count total : ℕ) → place ≤ count → channels * count ≤ total
    → channels * place ≤ total
place_within channels place count total fits room =
    let rows : channels * place ≤ channels * count = mul-le-mul_left channels fits in
    omega (arith, rows, room)

-- the sums from a block's place on are as they were
module _ {gains : List ℕ} {channels : ℕ} {words : List ℕ} {old mid : List ℤ}
    (so_far : AddsWords gains channels words old mid) (at : ℕ) (at_is : at ≡ channels * length words)
  where
    before_block : (k : ℕ) → sum_at (drop at mid) k ≡ sum_at old (at + k)
    before_block k = get_or-drop at mid k (pos 0) ∙ so_far.after (at + k) (omega (arith, at_is))

    pub near_block : (bound : ℕ) → AreWithin bound old → AreWithin bound (drop at mid)
    near_block bound near k d lt =
        rw (get_or_default (drop at mid) k d (pos 0) lt, before_block k)
        (near (at + k) (pos 0) (omega (arith, lt, length-drop at mid, so_far.stay.size)))

-- and a block that is added to them is added behind the words that were
module _ {gains : List ℕ} {channels : ℕ} {words more : List ℕ} {old mid part : List ℤ}
    (so_far : AddsWords gains channels words old mid) (at : ℕ) (at_is : at ≡ channels * length words)
    (within : at ≤ length mid) (adds : AddsWords gains channels more (drop at mid) part)
  where
    abbrev pub joined : List ℤ
    joined = take at mid ++ part

    long : length (take at mid) ≡ at
    long = length-take-le at mid within

    front : (k : ℕ) → k < at → sum_at joined k ≡ sum_at mid k
    front k lt =
        get_or_append_left (take at mid) part (pos 0) k (omega (arith, long, lt)) ∙ get_or-take at mid k (pos 0) lt

    behind : (k : ℕ) → sum_at joined (at + k) ≡ sum_at part k
    behind k = ap (λ n. sum_at joined (n + k)) (sym long) ∙ get_or-append-add (take at mid) part k (pos 0)

    here_joined : (place channel : ℕ) → (place < length words) ⊎ (length words ≤ place)
        → place < length (words ++ more) → channel < channels → sum_at joined (channels * place + channel)
        ≡ sum_at old (channels * place + channel) +ℤ share gains (get_or (words ++ more) place 0) channel
    here_joined place channel (inl lt) below few =
        let there = row_within channels place (length words) channel lt few in
        rw (get_or_append_left words more 0 place lt)
        (front (channels * place + channel) (omega (arith, there, at_is)) ∙ so_far.here place channel lt few)
    here_joined place channel (inr le) below few =
        let p = place - length words in
        let is : place ≡ length words + p = omega (arith, le) in
        let k = channels * p + channel in
        let there : channels * place + channel ≡ at + k =
        ap (λ n. channels * n + channel) is ∙ omega (arith, at_is) in
        let word : get_or (words ++ more) place 0 ≡ get_or more p 0 =
        ap (λ n. get_or (words ++ more) n 0) is ∙ get_or-append-add words more p 0 in
        rw (there, word)
        (behind k ∙ adds.here p channel (omega (arith, below, le, length-append words more)) few
        ∙ ap (λ z. z +ℤ share gains (get_or more p 0) channel) (before_block so_far at at_is k))

    near_joined : (k : ℕ) → (k < at) ⊎ (at ≤ k)
        → unsigned_abs (sum_at joined k) ≤ unsigned_abs (sum_at old k) + sample_limit
    near_joined k (inl lt) = rw (front k lt) (so_far.stay.near k)
    near_joined k (inr le) =
        let is : k ≡ at + (k - at) = omega (arith, le) in
        rw is (rw (behind (k - at), ← before_block so_far at at_is (k - at)) (adds.stay.near (k - at)))

    after_joined : (k : ℕ) → channels * length (words ++ more) ≤ k → sum_at joined k ≡ sum_at old k
    after_joined k le =
        let size : channels * length (words ++ more) ≡ at + channels * length more =
        ap (λ n. channels * n) (length-append words more) ∙ omega (arith, at_is) in
        let is : k ≡ at + (k - at) = omega (arith, le, size) in
        rw is (behind (k - at) ∙ adds.after (k - at) (omega (arith, le, size)) ∙ before_block so_far at at_is (k - at))

    pub more_words : AddsWords gains channels (words ++ more) old joined
    more_words = record {
      here = λ place channel lt few. here_joined place channel (cases_lt place (length words)) lt few;
      after = after_joined;
      stay = record {
        size = omega (
          arith,
          length-append (take at mid) part,
          long,
          adds.stay.size,
          length-drop at mid,
          within,
          so_far.stay.size,
        );
        near = λ k. near_joined k (cases_lt k at);
      };
    }
