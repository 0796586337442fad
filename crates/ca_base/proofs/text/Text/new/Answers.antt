use Rattle.std.proofs.Common.{
  ◌≡◌,
  ℕ,
  ◌-◌,
  ◌+◌,
  ◌<◌,
  List,
  ◌∷◌,
  ◌++◌,
  [],
  length,
  get_or,
  set,
  take,
  drop,
  replicate,
  arith,
  ap,
  ◌∙◌,
  sym,
}
use Rattle.std.proofs.lemmas.List.{take_more, take_more_set, length-set, drop-set-lt, drop-drop, drop-replicate}
use Rattle.ca_base.proofs.text.Text.new.Goals as goal

zeros_after : (padded : List ℕ) (i y : ℕ) → drop i padded ≡ replicate (256 - i) 0
    → drop (i + 1) (set padded i y) ≡ replicate (256 - (i + 1)) 0
zeros_after padded i y h =
    let n : (256 - i) - 1 ≡ 256 - (i + 1) = omega arith in
    drop-set-lt (i + 1) padded i y (omega arith)
    ∙ sym (drop-drop 1 i padded)
    ∙ ap (λ (xs : List ℕ). drop 1 xs) h
    ∙ drop-replicate 1 (256 - i) 0
    ∙ ap (λ (k : ℕ). replicate k 0) n

front_after : (padded bytes : List ℕ) (i : ℕ) → i < length padded → i < length bytes → take i padded ≡ take i bytes
    → take (i + 1) (set padded i (get_or bytes i 0)) ≡ take (i + 1) bytes
front_after padded bytes i in_padded in_bytes h =
    take_more_set padded i (get_or bytes i 0) in_padded
    ∙ ap (λ (xs : List ℕ). xs ++ get_or bytes i 0 ∷ []) h
    ∙ sym (take_more bytes i 0 in_bytes)

pub loop-i-preserved : goal.loop-i-preserved
loop-i-preserved c =
    let text = c.args.bytes.now in
    let i = c.loop-i.i in
    record {
      whole = length-set c.loop-i.padded i (get_or text i 0) ∙ c.loop-i.invariant.whole;
      front = front_after c.loop-i.padded text i (omega arith) (omega arith) c.loop-i.invariant.front;
      zeros = zeros_after c.loop-i.padded i (get_or text i 0) c.loop-i.invariant.zeros;
    }
