-- Reads of a store, more words at a time.
use Rattle.std.proofs.Common.{
  ◌≡◌,
  ℕ,
  suc,
  ◌+◌,
  ◌*◌,
  ◌≤◌,
  ℤ,
  List,
  [],
  ◌∷◌,
  ◌++◌,
  length,
  take,
  drop,
  refl,
  sym,
  ap,
  subst,
  ◌∙◌,
  arith,
  length-append,
}
use Rattle.buffer_ring.specs.declared.step.EndState.{EndState}
use Rattle.buffer_ring.specs.declared.step.StoreStep.{StoreStep}
use Rattle.buffer_ring.specs.declared.step.StoreStep.TheVariants as step
use Rattle.buffer_ring.specs.Steps.{reads_from}
use Rattle.period_engine.specs.declared.entry.StreamEntry.{StreamEntry}
use Rattle.period_engine.specs.Added.{AddsWords, AddsStore, AddsEntry}
use Rattle.period_engine.proofs.SoundSteps.{reads_packed}
use Rattle.period_engine.proofs.Turns.{same_but}
use Rattle.period_engine.proofs.WordBlocks.{more_words}

reads_append : (start : ℕ) (words more : List ℕ)
    → reads_from start words ++ reads_from (start + length words) more ≡ reads_from start (words ++ more)
reads_append start [] more =
    let here : start + 0 ≡ start = omega arith in
    ap (λ place. reads_from place more) here
reads_append start (word ∷ words) more =
    let here : start + suc (length words) ≡ suc start + length words = omega arith in
    ap (λ steps. step.Reads start word ∷ steps)
    (ap (λ place. reads_from (suc start) words ++ reads_from place more) here ∙ reads_append (suc start) words more)

module _ {E : Type 0} {moves : E → List StoreStep → E → Type 0} {state : E → EndState} {gains : List ℕ}
    {channels place : ℕ} {a b : E} {old mid : List ℤ}
    (so_far : AddsStore moves state gains channels place a b old mid)
    (joins : (a b c : E) (xs ys : List StoreStep) → moves a xs b → moves b ys c → moves a (xs ++ ys) c) where
  -- a block of words more was read and added
  pub one_block : (c : E) (words : List ℕ) (size : ℕ) (part : List ℤ) → length words ≡ size
      → channels * place ≤ length mid → moves b (reads_from place words) c → state c ≡ state b
      → AddsWords gains channels words (drop (channels * place) mid) part
      → AddsStore moves state gains channels (place + size) a c old (take (channels * place) mid ++ part)
  one_block c words size part is within made keeps adds =
      let before = so_far.words in
      let at : channels * place ≡ channels * length before = ap (λ n. channels * n) (sym so_far.count_is) in
      let here : place ≡ 0 + length before = omega (arith, so_far.count_is) in
      let steps : reads_from 0 before ++ reads_from place words ≡ reads_from 0 (before ++ words) =
      ap (λ p. reads_from 0 before ++ reads_from p words) here ∙ reads_append 0 before words in
      record {
        words = before ++ words;
        count_is = omega (arith, length-append before words, so_far.count_is, is);
        made = subst (λ ss. moves a ss c) steps
            (joins a b c (reads_from 0 before) (reads_from place words) so_far.made made);
        knows = keeps ∙ so_far.knows;
        adds = more_words so_far.adds (channels * place) at within adds;
      }

-- what was picked of an entry was read and added: nothing else of it changed
pub adds_picked : {E : Type 0} (moves : E → List StoreStep → E → Type 0) (state : E → EndState) (channels n : ℕ)
    (a : StreamEntry E) (store : E) (old new : List ℤ) → channels ≡ n
    → AddsStore moves state a.gains n a.picked a.store store old new
    → AddsEntry moves state channels a (record a { store = store }) old new
adds_picked moves state channels n a store old new is adds = record {
  words = adds.words;
  count_is = adds.count_is;
  takes = record {
    same = same_but a store a.picked a.position a.offered a.ever a.after_gap;
    running = refl;
    gate = refl;
    picked = refl;
    position = refl;
    offered = refl;
    ever = refl;
    after_gap = refl;
    made = adds.made;
    packs = λ l. reads_packed l 0 adds.words;
  };
  knows = adds.knows;
  adds = subst (λ k. AddsWords a.gains k adds.words old new) (sym is) adds.adds;
}
