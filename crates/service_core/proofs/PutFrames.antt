-- Frames that go into a store of words.
use Rattle.std.proofs.Common.{◌≡◌, ℕ, ◌+◌, ◌-◌, ◌*◌, ◌≤◌, List, ◌++◌, length, map, take, drop, ℤ, replicate}
use Rattle.std.proofs.Common.{sym, ap, ◌∙◌, append_assoc, arith}
use Rattle.std.proofs.lemmas.List.{length-append, map-append, replicate-append-replicate}
use Rattle.wave_format.specs.Frame.{frame_of, frames_from}
use Rattle.wave_format.proofs.FrameCuts.{frames_split}
use Rattle.ca_base.specs.declared.ids.Gate.TheVariants as gate
use Rattle.ca_base.specs.declared.ids.Reason.{Reason}
use Rattle.buffer_ring.specs.declared.stores.Put.{Put}
use Rattle.buffer_ring.specs.declared.stores.Put.TheVariants as put
use Rattle.buffer_ring.specs.Kept.{Kept, PutsWords}

-- more frames go in: they are the first of those that are left
pub batch_goes_in : (channels left count frame_size : ℕ) (items batch rest now after : List ℕ) (all : List (List ℤ)) →
    count ≤ left → frame_size ≡ channels * 2
    → now ≡ take (count * frame_size) rest → after ≡ drop (count * frame_size) rest
    → map (frame_of channels) batch ≡ frames_from count channels now
    → map (frame_of channels) items ++ frames_from left channels rest ≡ all
    → map (frame_of channels) (items ++ batch) ++ frames_from (left - count) channels after ≡ all
batch_goes_in channels left count frame_size items batch rest now after all le is now-is after_is batch-is so_far =
    let size : count * frame_size ≡ count * (channels * 2) = ap (λ (n : ℕ). count * n) is in
    let both : count + (left - count) ≡ left = omega (arith, le) in
    let split : frames_from left channels rest
    ≡ frames_from count channels now ++ frames_from (left - count) channels after =
    rw (now-is, after_is, size)
    (ap (λ (n : ℕ). frames_from n channels rest) (sym both) ∙ frames_split count (left - count) channels rest) in
    let f : List ℕ → List (List ℤ) = map (frame_of channels) in
    rw (map-append, batch-is)
    (append_assoc (f items) (frames_from count channels now) (frames_from (left - count) channels after))
    ∙ ap (λ (fs : List (List ℤ)). f items ++ fs) (sym split) ∙ so_far

-- a store to which some of `count` words were put, and `left` of them weren't yet
pub record IsFilling (left count : ℕ) (old new : Kept) : Type 0 where
  pub size : new.cap ≡ old.cap
  pub way : new.dir ≡ old.dir
  pub opens : new.gate ≡ old.gate
  pub all_words : length new.words + left ≡ length old.words + count
  pub grows : length old.words ≤ length new.words

-- words go through an open gate
pub puts_open : (answer : Put) (words : List ℕ) (old new : Kept) → old.gate ≡ gate.Open →
    PutsWords answer words old new → new ≡ record old { words = old.words ++ words }
puts_open put.Done words old new opens puts = puts.1
puts_open (put.Closed reason) words old new opens puts = absurd (closed reason (sym opens ∙ puts.0))
  where
    closed : (reason : Reason) → gate.Open ≡ gate.Closed reason → ⊥
    closed reason e = cc

pub fills_on : (left count k : ℕ) (first old new : Kept) (words : List ℕ) → IsFilling left count first old →
    new ≡ record old { words = old.words ++ words } → length words ≡ k → k ≤ left →
    IsFilling (left - k) count first new
fills_on left count k first old new words filling is size few = record {
  size = ap (λ k. k.cap) is ∙ filling.size;
  way = ap (λ k. k.dir) is ∙ filling.way;
  opens = ap (λ k. k.gate) is ∙ filling.opens;
  all_words =
      let here : length new.words ≡ length old.words + length words =
      ap (λ k. length k.words) is ∙ length-append old.words words in
      omega (arith, here, size, few, filling.all_words);
  grows =
      let here : length new.words ≡ length old.words + length words =
      ap (λ k. length k.words) is ∙ length-append old.words words in
      omega (arith, here, filling.grows);
}

-- more silence goes in
pub silence_goes_in : (left k : ℕ) (old new : Kept) (words all : List ℕ) → k ≤ left → words ≡ replicate k 0 →
    new ≡ record old { words = old.words ++ words } → old.words ++ replicate left 0 ≡ all →
    new.words ++ replicate (left - k) 0 ≡ all
silence_goes_in left k old new words all few silent is so_far =
    let both : k + (left - k) ≡ left = omega (arith, few) in
    ap (λ j. j.words ++ replicate (left - k) 0) is
    ∙ ap (λ ws. old.words ++ ws ++ replicate (left - k) 0) silent
    ∙ append_assoc old.words (replicate k 0) (replicate (left - k) 0)
    ∙ ap (λ ws. old.words ++ ws) (replicate-append-replicate k (left - k) 0 ∙ ap (λ n. replicate n 0) both)
    ∙ so_far
