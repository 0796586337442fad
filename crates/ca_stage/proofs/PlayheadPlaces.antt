-- The playhead of an endpoint through a whole period: its next place rises by the period's frames, the others stay.
use Rattle.std.proofs.Common.{◌≡◌, ℕ, zero, suc, ◌+◌, ◌==◌, List, [], ◌∷◌, map, Bool, true, false, Some, refl}
use Rattle.std.proofs.Common.{sym, ap, ap₂, ◌∙◌, slice_get, slice_set, eq-eqb, eqb-true, if◌then◌else◌}
use Rattle.std.proofs.lemmas.Bool.{both_ways, or_left, or_parts, or_right}
use Rattle.std.proofs.lemmas.Option.{same_Some, none-some}
use Rattle.ca_stage.specs.Stage.{Playhead, Stage}
use Rattle.ca_stage.specs.Moves.{finished, Mixing, playhead_after, after_moves, playhead_at}
use Rattle.ca_stage.specs.Periods.{sub_steps}
use Rattle.ca_stage.specs.Order.{clients, is_among, IsWithout, AreDistinct, RisesFrom}
use Rattle.ca_stage.proofs.Playheads.{numbers_of, playhead_there, found_number}
use Rattle.ca_stage.proofs.Periods.{period_by}

-- a playhead that is brought on
abbrev pub brought_on : ℕ → Playhead → Playhead
brought_on frames e = record e { next = e.next + frames }

on_its_own : (m : Mixing) (e : Playhead) → e.number ≡ m.endpoint →
    playhead_after (finished m true) e ≡ brought_on m.frames e
on_its_own m e h = ap (λ b. if b then brought_on m.frames e else e) (eq-eqb e.number m.endpoint h)

on_others : (m : Mixing) (e : Playhead) → (e.number == m.endpoint) ≡ false → playhead_after (finished m true) e ≡ e
on_others m e h = ap (λ b. if b then brought_on m.frames e else e) h

-- in a list of playheads of different numbers one is set
all_others : (m : Mixing) (heads : List Playhead) → IsWithout m.endpoint (numbers_of heads) →
    map (playhead_after (finished m true)) heads ≡ heads
all_others m [] w = refl
all_others m (e ∷ heads) w =
    let p = or_parts (e.number == m.endpoint) (is_among m.endpoint (numbers_of heads)) w in
    ap₂ (λ x xs. x ∷ xs) (on_others m e p.0) (all_others m heads p.1)

number_there : (at : ℕ) (heads : List Playhead) (e : Playhead) → slice_get heads at ≡ Some e →
    is_among e.number (numbers_of heads) ≡ true
number_there at [] e h = absurd (none-some e h)
number_there zero (x ∷ heads) e h =
    or_left (x.number == e.number) _ (eq-eqb x.number e.number (ap (λ (p : Playhead). p.number) (same_Some x e h)))
number_there (suc at) (x ∷ heads) e h = or_right (x.number == e.number) _ (number_there at heads e h)

-- another number than one that comes later
other_number : (n : ℕ) (ns : List ℕ) (k : ℕ) → IsWithout n ns → is_among k ns ≡ true → (n == k) ≡ false
other_number n ns k w a = go (n == k) refl
  where
    go : (b : Bool) → (n == k) ≡ b → b ≡ false
    go false e = refl
    go true e = absurd (both_ways (is_among k ns) (ap (λ j. is_among j ns) (sym (eqb-true n k e)) ∙ w) a)

pub head_in_place : (m : Mixing) (at : ℕ) (heads : List Playhead) (e : Playhead) → AreDistinct (numbers_of heads) →
    slice_get heads at ≡ Some e → e.number ≡ m.endpoint →
    map (playhead_after (finished m true)) heads ≡ slice_set heads at (brought_on m.frames e)
head_in_place m at [] e d h s = absurd (none-some e h)
head_in_place m zero (x ∷ heads) e d h s =
    let same = same_Some x e h in
    let number : x.number ≡ m.endpoint = ap (λ (p : Playhead). p.number) same ∙ s in
    ap₂ (λ y ys. y ∷ ys) (on_its_own m x number ∙ ap (brought_on m.frames) same)
    (all_others m heads (ap (λ n. is_among n (numbers_of heads)) (sym number) ∙ d.0))
head_in_place m (suc at) (x ∷ heads) e d h s =
    ap₂ (λ y ys. y ∷ ys)
    (on_others m x (ap (λ n. x.number == n) (sym s)
    ∙ other_number x.number (numbers_of heads) e.number d.0 (number_there at heads e h)))
    (head_in_place m at heads e d.1 h s)

-- after a period with nothing between its sub-steps
module _ (m : Mixing) (st : Stage) (r : RisesFrom 0 (clients st)) where
  pub own_playhead : (e : Playhead) → playhead_at m.endpoint st ≡ Some e →
      playhead_at m.endpoint (after_moves st (sub_steps m true st)) ≡ Some (brought_on m.frames e)
  own_playhead e h =
      ap (playhead_at m.endpoint) (period_by m st r true)
      ∙ playhead_there m.endpoint st (finished m true) e h
      ∙ ap Some (on_its_own m e (found_number m.endpoint st e h))

  pub other_playhead : (n : ℕ) (e : Playhead) → (n == m.endpoint) ≡ false → playhead_at n st ≡ Some e →
      playhead_at n (after_moves st (sub_steps m true st)) ≡ Some e
  other_playhead n e o h =
      ap (playhead_at n) (period_by m st r true)
      ∙ playhead_there n st (finished m true) e h
      ∙ ap Some (on_others m e (ap (λ k. k == m.endpoint) (found_number n st e h) ∙ o))

  pub failed_playheads : (after_moves st (sub_steps m false st)).playheads ≡ st.playheads
  failed_playheads = ap (λ at. at.playheads) (period_by m st r false)
