-- Each endpoint that is there has a playhead.
use Rattle.std.proofs.Common.{◌≡◌, ℕ, ◌||◌, List, [], ◌∷◌, ◌++◌, map, Bool, true, false, cond, Option, Some, None, refl}
use Rattle.std.proofs.Common.{sym, ap, ◌∙◌, find, eq-eqb}
use Rattle.std.specs.List.{AllByRecursion}
use Rattle.ca_stage.specs.Stage.{Playhead, Stage}
use Rattle.ca_stage.specs.Moves.{Move, added, playhead_after, has_playhead, with_added, after_move, after_moves}
use Rattle.ca_stage.specs.Moves.{playhead_at}
use Rattle.ca_stage.proofs.Lists.{chosen_by, all_weaker, find-append, first_of_two}
use Rattle.ca_stage.proofs.Playheads.{playhead_there, is_number}
use Rattle.device_registry.specs.declared.endpoint.Endpoint.{Endpoint}

-- the playhead of an endpoint's number
pub record HasHead (number : ℕ) (st : Stage) : Type 0 where
  pub head : Playhead
  pub there : playhead_at number st ≡ Some head

abbrev pub HaveHeads : Stage → List Endpoint → Type 0
HaveHeads st endpoints = AllByRecursion (λ (e : Endpoint). HasHead e.no.0 st) endpoints

head_stays : (number : ℕ) (st : Stage) (xs : List Move) → HasHead number st → HasHead number (after_moves st xs)
head_stays number st [] h = h
head_stays number st (x ∷ xs) h =
    head_stays number (after_move st x) xs
    (record { head = playhead_after x h.head; there = playhead_there number st x h.head h.there })

pub heads_stay : (st : Stage) (xs : List Move) (endpoints : List Endpoint) → HaveHeads st endpoints →
    HaveHeads (after_moves st xs) endpoints
heads_stay st xs endpoints h =
    all_weaker (λ (e : Endpoint). HasHead e.no.0 st) (λ (e : Endpoint). HasHead e.no.0 (after_moves st xs))
    (λ e k. head_stays e.no.0 st xs k) endpoints h

-- an endpoint that is added has one
record Finds (number : ℕ) (heads : List Playhead) : Type 0 where
  head : Playhead
  found : find (is_number number) heads ≡ Some head

finds_first : (number : ℕ) (e : Playhead) (heads : List Playhead) (b : Bool) →
    (has_playhead number heads ≡ true → Finds number heads) → is_number number e ≡ b →
    has_playhead number (e ∷ heads) ≡ true → Finds number (e ∷ heads)
finds_first number e heads true f k h =
    record { head = e; found = ap (λ b. cond b (Some e) (find (is_number number) heads)) k }
finds_first number e heads false f k h =
    let there : has_playhead number heads ≡ true =
    sym (ap (λ b. b || has_playhead number heads) k) ∙ h in
    let r : Finds number heads = f there in
    record { head = r.head; found = ap (λ b. cond b (Some e) (find (is_number number) heads)) k ∙ r.found }

finds : (number : ℕ) (heads : List Playhead) → has_playhead number heads ≡ true → Finds number heads
finds number [] h = absurd (Rattle.std.proofs.lemmas.Bool.false≢true h)
finds number (e ∷ heads) h = finds_first number e heads (is_number number e) (λ k. finds number heads k) refl h

abbrev new_head : ℕ → Playhead
new_head number = record { number = number; next = 0 }

pushed_first : (number : ℕ) (heads : List Playhead) (o : Option Playhead) → find (is_number number) heads ≡ o →
    Finds number (heads ++ new_head number ∷ [])
pushed_first number heads (Some e) k = record {
  head = e;
  found = find-append (is_number number) heads (new_head number ∷ [])
      ∙ ap (λ o. first_of_two o (find (is_number number) (new_head number ∷ []))) k;
}
pushed_first number heads None k = record {
  head = new_head number;
  found = find-append (is_number number) heads (new_head number ∷ [])
      ∙ ap (λ o. first_of_two o (find (is_number number) (new_head number ∷ []))) k
      ∙ ap (λ (b : Bool). cond b (Some (new_head number)) None) (eq-eqb number number refl);
}

pub head_added : (number : ℕ) (st : Stage) → HasHead number (after_move st (added number))
head_added number st =
    let f : Finds number (with_added (added number) (map (playhead_after (added number)) st.playheads)) =
    chosen_by (Finds number) (has_playhead number (map (playhead_after (added number)) st.playheads))
    (map (playhead_after (added number)) st.playheads)
    (map (playhead_after (added number)) st.playheads ++ new_head number ∷ [])
    (λ h. finds number (map (playhead_after (added number)) st.playheads) h)
    (λ h. pushed_first number (map (playhead_after (added number)) st.playheads) _ refl) in
    record { head = f.head; there = f.found }
