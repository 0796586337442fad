-- The place up to which an endpoint's whole Sounds have gone: each move leaves it, or is a whole Sound that goes on
-- from it by its period.
use Rattle.std.proofs.Common.{◌≡◌, ℕ, ◌+◌, ◌==◌, List, [], ◌∷◌, Bool, true, false, Option, Some, None, refl, sym, ap}
use Rattle.std.proofs.Common.{ap₂, ◌∙◌, subst, arith, eqb, eqb-true, eq-eqb, option_map, if◌then◌else◌}
use Rattle.std.proofs.lemmas.Bool.{false≢true, true≢false}
use Rattle.ca_base.specs.declared.ids.Reason.TheVariants.{Removal}
use Rattle.ca_stage.specs.Stage.{Stream, Playhead, Stage}
use Rattle.ca_stage.specs.Moves.{closed, picked, retired, fed, Move, of_client, sounded, finished, Mixing}
use Rattle.ca_stage.specs.Moves.{playhead_after, after_move, playhead_at}
use Rattle.ca_stage.specs.Periods.{open_streams_on}
use Rattle.ca_stage.specs.Fates.{place_of, next_of}
use Rattle.ca_stage.specs.Woven.{is_data, is_sub_step, due_after, due_of}
use Rattle.ca_stage.specs.Laws.{sound_of, heard_at}
use Rattle.ca_stage.proofs.Clients.{turned}
use Rattle.ca_stage.proofs.Playheads.{next_after, next_stays, playhead_stays, leaves_places, found_number}
use Rattle.ca_stage.proofs.SubSteps.{in_air, air_sounded, air_closing, air_of_due, SubStep, picks_one, sounds_whole}
use Rattle.ca_stage.proofs.SubSteps.{sounds_failed, retires_one, feeds_one, closes_one, finishes_whole}
use Rattle.ca_stage.proofs.SubSteps.{finishes_failed}
use Rattle.ca_stage.proofs.Flights.{flying, summed_by}

-- a whole Sound in the air is one period ahead
abbrev pub extra : Option Mixing → ℕ → ℕ
extra None number = 0
extra (Some m) number = if m.endpoint == number then m.frames else 0

abbrev pub begun : ℕ → Stage → List Move → ℕ
begun number st due = next_of number st + extra (in_air due) number

pub data SoundStep (number : ℕ) (st : Stage) (x : Move) (b b' : ℕ) : Type 0 where
  still : ((place : ℕ) → sound_of number place st x ≡ []) →
      ((place : ℕ) (s : Stream) → summed_by number place st x s ≡ []) → b' ≡ b → SoundStep number st x b b'
  mixes : (m : Mixing) (e : Playhead) → x ≡ sounded m true → m.endpoint ≡ number → playhead_at number st ≡ Some e →
      b ≡ e.next → b' ≡ e.next + m.frames → SoundStep number st x b b'

-- moves that are no whole Sound
abbrev sounds_none : Move → Bool
sounds_none (sounded m true) = false
sounds_none _ = true

silent : (number place : ℕ) (st : Stage) (x : Move) → sounds_none x ≡ true → sound_of number place st x ≡ []
silent number place st (sounded m true) h = absurd (false≢true h)
silent number place st (sounded m false) h = refl
silent number place st _ h = refl

sums_none : (number place : ℕ) (st : Stage) (x : Move) (s : Stream) → sounds_none x ≡ true →
    summed_by number place st x s ≡ []
sums_none number place st (sounded m true) s h = absurd (false≢true h)
sums_none number place st (sounded m false) s h = refl
sums_none number place st _ s h = refl

still_by : (number : ℕ) (st : Stage) (x : Move) (b b' : ℕ) → sounds_none x ≡ true → b' ≡ b → SoundStep number st x b b'
still_by number st x b b' h e =
    still (λ place. silent number place st x h) (λ place s. sums_none number place st x s h) e

-- the same next place, and the same in the air
begun_same : (number : ℕ) (st : Stage) (x : Move) (due due' : List Move) → leaves_places x ≡ true →
    in_air due' ≡ in_air due → begun number (after_move st x) due' ≡ begun number st due
begun_same number st x due due' h a = ap₂ (λ n k. n + extra k number) (next_stays number st x h) a

outside_sounds_none : (x : Move) → is_sub_step x ≡ false → sounds_none x ≡ true
outside_sounds_none (sounded m true) n = absurd (true≢false n)
outside_sounds_none (sounded m false) n = refl
outside_sounds_none _ n = refl

outside_leaves : (x : Move) → is_sub_step x ≡ false → leaves_places x ≡ true
outside_leaves (finished m true) n = absurd (true≢false n)
outside_leaves (finished m false) n = refl
outside_leaves _ n = refl

pub outside_step : (number : ℕ) (st : Stage) (x : Move) → is_sub_step x ≡ false →
    SoundStep number st x (begun number st []) (begun number (after_move st x) (due_of st x))
outside_step number st x n =
    still_by number st x _ _ (outside_sounds_none x n)
    (begun_same number st x [] (due_of st x) (outside_leaves x n) (air_of_due st x))

data_sounds_none : (x : Move) → is_data x ≡ true → sounds_none x ≡ true
data_sounds_none (of_client client m) d = refl
data_sounds_none _ d = absurd (false≢true d)

data_leaves : (x : Move) → is_data x ≡ true → leaves_places x ≡ true
data_leaves (of_client client m) d = refl
data_leaves _ d = absurd (false≢true d)

pub data_step : (number : ℕ) (st : Stage) (x : Move) (due : List Move) → is_data x ≡ true →
    SoundStep number st x (begun number st due) (begun number (after_move st x) due)
data_step number st x due d =
    still_by number st x _ _ (data_sounds_none x d) (begun_same number st x due due (data_leaves x d) refl)

-- a whole Sound
sound_elsewhere : (number place : ℕ) (m : Mixing) (st : Stage) → eqb m.endpoint number ≡ false →
    sound_of number place st (sounded m true) ≡ []
sound_elsewhere number place m st n =
    ap (λ b. if b then heard_at place m st.streams (playhead_at number st) else []) n

sums_elsewhere : (number place : ℕ) (m : Mixing) (st : Stage) (s : Stream) → eqb m.endpoint number ≡ false →
    summed_by number place st (sounded m true) s ≡ []
sums_elsewhere number place m st s n = ap (λ b. if b then flying m number place st s else []) n

whole_step : (number : ℕ) (st : Stage) (m : Mixing) (e : Playhead) (due left : List Move) (b : Bool) →
    eqb m.endpoint number ≡ b → playhead_at m.endpoint st ≡ Some e → in_air left ≡ Some m →
    SoundStep number st (sounded m true) (begun number st (sounded m true ∷ due))
    (begun number (after_move st (sounded m true)) left)
whole_step number st m e due left true n there a =
    let same : m.endpoint ≡ number = eqb-true m.endpoint number n in
    let at : playhead_at number st ≡ Some e = ap (λ k. playhead_at k st) (sym same) ∙ there in
    mixes m e refl same at
    (ap (λ o. place_of o + 0) at ∙ omega arith)
    (ap₂ (λ o k. place_of o + extra k number) (playhead_stays number st (sounded m true) refl ∙ at) a
    ∙ ap (λ b. e.next + (if b then m.frames else 0)) n)
whole_step number st m e due left false n there a =
    still (λ place. sound_elsewhere number place m st n) (λ place s. sums_elsewhere number place m st s n)
    (ap₂ (λ k o. k + extra o number) (next_stays number st (sounded m true) refl) a
    ∙ ap (λ b. next_of number st + (if b then m.frames else 0)) n)

-- a Finish
finish_next : (number : ℕ) (m : Mixing) (o : Option Playhead) → ((e : Playhead) → o ≡ Some e → e.number ≡ number) →
    (b : Bool) → eqb m.endpoint number ≡ b → (b ≡ true → (e : Playhead) × (o ≡ Some e)) →
    place_of (option_map (playhead_after (finished m true)) o) ≡ place_of o + (if b then m.frames else 0)
finish_next number m None f true n there = absurd (let w : None ≡ Some (there refl).0 = (there refl).1 in cc)
finish_next number m None f false n there = omega arith
finish_next number m (Some e) f true n there =
    ap (λ b. place_of (Some (if b then record e { next = e.next + m.frames } else e)))
    (eq-eqb e.number m.endpoint (f e refl ∙ sym (eqb-true m.endpoint number n)))
finish_next number m (Some e) f false n there =
    ap (λ b. place_of (Some (if b then record e { next = e.next + m.frames } else e)))
    (ap (λ k. eqb k m.endpoint) (f e refl) ∙ turned m.endpoint number n)
    ∙ omega arith

finish_step : (number : ℕ) (st : Stage) (m : Mixing) (e : Playhead) (due : List Move) →
    playhead_at m.endpoint st ≡ Some e →
    in_air due ≡ None → begun number (after_move st (finished m true)) due ≡ begun number st (finished m true ∷ due)
finish_step number st m e due there a =
    ap (λ k. next_of number (after_move st (finished m true)) + extra k number) a
    ∙ ap (λ n. n + 0)
    (next_after number st (finished m true)
    ∙ finish_next number m (playhead_at number st) (λ e' h. found_number number st e' h) (eqb m.endpoint number) refl
    (λ t. (e, ap (λ k. playhead_at k st) (sym (eqb-true m.endpoint number t)) ∙ there)))
    ∙ omega arith

-- each sub-step
abbrev SubSounds : ℕ → Stage → Move → List Move → Type 0
SubSounds number st x due =
    SoundStep number st x (begun number st (x ∷ due)) (begun number (after_move st x) (due_after st x due))

at_sounds : (number : ℕ) (st : Stage) (x y : Move) (due : List Move) → x ≡ y → SubSounds number st y due →
    SubSounds number st x due
at_sounds number st x y due e h = subst (λ z. SubSounds number st z due) (sym e) h

pub sub_sounds : (number : ℕ) (st : Stage) (x : Move) (due : List Move) → SubStep st x due → SubSounds number st x due
sub_sounds number st x due (picks_one n k e a) =
    at_sounds number st x (of_client n (picked k)) due e
    (still_by number st (of_client n (picked k)) _ _ refl
    (begun_same number st (of_client n (picked k)) (of_client n (picked k) ∷ due) due refl a))
sub_sounds number st x due (sounds_whole m e there e' held) =
    at_sounds number st x (sounded m true) due e'
    (whole_step number st m e due (due_after st (sounded m true) due) (eqb m.endpoint number) refl there
    (air_sounded m st))
sub_sounds number st x due (sounds_failed m e) =
    at_sounds number st x (sounded m false) due e
    (still_by number st (sounded m false) _ _ refl
    (begun_same number st (sounded m false) (sounded m false ∷ due) (due_after st (sounded m false) due) refl
    (air_closing m (open_streams_on m.endpoint st))))
sub_sounds number st x due (retires_one m e n there e' a held) =
    at_sounds number st x (of_client n retired) due e'
    (still_by number st (of_client n retired) _ _ refl
    (begun_same number st (of_client n retired) (of_client n retired ∷ due) due refl refl))
sub_sounds number st x due (feeds_one n frames e) =
    at_sounds number st x (of_client n (fed frames)) due e
    (still_by number st (of_client n (fed frames)) _ _ refl
    (begun_same number st (of_client n (fed frames)) (of_client n (fed frames) ∷ due) due refl refl))
sub_sounds number st x due (closes_one n e a) =
    at_sounds number st x (of_client n (closed Removal)) due e
    (still_by number st (of_client n (closed Removal)) _ _ refl
    (begun_same number st (of_client n (closed Removal)) (of_client n (closed Removal) ∷ due) due refl a))
sub_sounds number st x due (finishes_whole m e there e' d held) =
    at_sounds number st x (finished m true) due e'
    (still_by number st (finished m true) _ _ refl (finish_step number st m e due there (ap in_air d)))
sub_sounds number st x due (finishes_failed m e d) =
    at_sounds number st x (finished m false) due e
    (still_by number st (finished m false) _ _ refl
    (begun_same number st (finished m false) (finished m false ∷ due) due refl (ap in_air d)))
