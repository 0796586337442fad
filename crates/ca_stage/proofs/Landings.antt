-- How each move carries on what is in flight: a whole Sound brings it up, and a Retire renders it.
use Rattle.std.proofs.Common.{not, ◌≡◌, ℕ, ◌+◌, ◌-◌, ◌<◌, ◌≤◌, ◌==◌, ◌&&◌, ◌⊎◌, inl, inr, List, [], ◌∷◌, ◌++◌, length}
use Rattle.std.proofs.Common.{take, Bool, true, false, Option, Some, None, refl, sym, ap, ap₂, ◌∙◌, subst, append-nil}
use Rattle.std.proofs.Common.{arith, eqb, eqb-true, eq-eqb, le-ltb, lt-ltb, nat_lt, nat_le, slice_index_or, get_or-take}
use Rattle.std.proofs.Common.{length-take-le, if◌then◌else◌}
use Rattle.std.proofs.lemmas.Bool.{false≢true, true≢false, and_left, and_right, and_from, cases_lt, le-leb, lt-leb}
use Rattle.std.proofs.lemmas.List.{get_or_append_left}
use Rattle.std.specs.List.{AllByRecursion}
use Rattle.ca_base.specs.declared.ids.Reason.TheVariants.{Removal}
use Rattle.ca_stage.specs.Stage.{Frame, Stream, Playhead, Stage}
use Rattle.ca_stage.specs.Moves.{StreamMove, leased, released, read, closed, picked, retired, fed, Move, of_client}
use Rattle.ca_stage.specs.Moves.{sounded, finished, Mixing, moved, is_open_of, stream_after, after_move, playhead_at}
use Rattle.ca_stage.specs.Moves.{stream_at}
use Rattle.ca_stage.specs.Periods.{playing_streams_on, open_streams_on}
use Rattle.ca_stage.specs.Mix.{due_at}
use Rattle.ca_stage.specs.Fates.{of_found, place_of, next_of, rendered_from, fated_by, pending_of, all_released, fates}
use Rattle.ca_stage.specs.Fates.{having}
use Rattle.ca_stage.specs.Woven.{is_period_move, is_data_move, is_data, is_sub_step, IsPeriod, due_after, due_of}
use Rattle.ca_stage.specs.Woven.{IsWoven}
use Rattle.ca_stage.specs.Order.{IsHeld, IsStage, Rests}
use Rattle.ca_stage.proofs.Lists.{chosen, all_found}
use Rattle.ca_stage.proofs.Streams.{after_endpoint, is_of}
use Rattle.ca_stage.proofs.Conservation.{fated_frames}
use Rattle.ca_stage.proofs.Playheads.{playhead_stays}
use Rattle.ca_stage.proofs.Phases.{IsPicked, MayBePicked, idle}
use Rattle.ca_stage.proofs.SubSteps.{in_air, air_sounded, air_closing, air_picking, air_of_due, plays_there, SubStep}
use Rattle.ca_stage.proofs.SubSteps.{picks_one, sounds_whole, sounds_failed, retires_one, feeds_one, closes_one}
use Rattle.ca_stage.proofs.SubSteps.{finishes_whole, finishes_failed}
use Rattle.ca_stage.proofs.WovenMoves.{Carries, walk}
use Rattle.ca_stage.proofs.Places.{having_elsewhere, having_before, having_at, having_behind}
use Rattle.ca_stage.proofs.Flights.{covers_in, flying_from, flying, summed, air, IsFlown, StepFlies, flies_step}
use Rattle.ca_stage.proofs.Flights.{flies_none, is_retire_move, renders_none, unrendered, quiet}

-- data calls and feeds leave what is due
abbrev leaves_due : StreamMove → Bool
leaves_due (leased n) = true
leaves_due (released frames) = true
leaves_due (read n) = true
leaves_due (fed frames) = true
leaves_due _ = false

data_leaves : (m : StreamMove) → is_data_move m ≡ true → leaves_due m ≡ true
data_leaves (leased n) d = refl
data_leaves (released frames) d = refl
data_leaves (read n) d = refl
data_leaves _ d = absurd (false≢true d)

due_more : (i : ℕ) (s : Stream) (frames : List Frame) → IsHeld s → due_at i (moved (released frames) s) ≡ due_at i s
due_more i s frames h = go (cases_lt i s.picked)
  where
    go : ((i < s.picked) ⊎ (s.picked ≤ i)) → due_at i (moved (released frames) s) ≡ due_at i s
    go (inl l) =
        ap (λ f. if nat_lt i s.picked then f ∷ [] else [])
        (get_or_append_left s.buffer_data.pending frames [] i (omega arith))
    go (inr l) =
        ap (λ b. if b then slice_index_or (s.buffer_data.pending ++ frames) i [] ∷ [] else []) (le-ltb i s.picked l)
        ∙ sym (ap (λ b. if b then slice_index_or s.buffer_data.pending i [] ∷ [] else []) (le-ltb i s.picked l))

due_same : (i : ℕ) (m : StreamMove) (s : Stream) → leaves_due m ≡ true → IsHeld s → due_at i (moved m s) ≡ due_at i s
due_same i (leased n) s d h = refl
due_same i (released frames) s d h = due_more i s frames h
due_same i (read n) s d h = refl
due_same i (fed frames) s d h = refl
due_same i _ s d h = absurd (false≢true d)

due_stays : (i client : ℕ) (m : StreamMove) (s : Stream) → leaves_due m ≡ true → IsHeld s →
    due_at i (stream_after (of_client client m) s) ≡ due_at i s
due_stays i client m s d h =
    chosen (λ t. due_at i t ≡ due_at i s) (is_open_of client s) (moved m s) s (due_same i m s d h) refl

no_retire : (m : StreamMove) → leaves_due m ≡ true → is_retire_move m ≡ false
no_retire retired d = absurd (false≢true d)
no_retire _ d = refl

still_flies : (number place client : ℕ) (st : Stage) (move : StreamMove) (old : Option Mixing) (s : Stream) →
    leaves_due move ≡ true → IsHeld s →
    StepFlies number place st (after_move st (of_client client move)) (of_client client move) old old s
still_flies number place client st move old s d h =
    append-nil _
    ∙ air_same old
    ∙ ap (λ z. z ++ air old (λ m. flying m number place (after_move st x) (stream_after x s)))
    (sym (unrendered number place st x s (ap not (no_retire move d))))
  where
    x : Move
    x = of_client client move

    same : (m : Mixing) → flying m number place st s ≡ flying m number place (after_move st x) (stream_after x s)
    same m =
        sym (ap₂ (λ e f. if e == number && covers_in place m (playhead_at number st) then f else [])
        (after_endpoint x s) (due_stays (place - next_of number st) client move s d h))
        ∙ ap (λ o. flying_from m number place o (stream_after x s)) (sym (playhead_stays number st x refl))

    air_same : (o : Option Mixing) →
        air o (λ m. flying m number place st s)
        ≡ air o (λ m. flying m number place (after_move st x) (stream_after x s))
    air_same None = refl
    air_same (Some m) = same m

-- a whole Sound: what it sums flies from now on
picked_elsewhere : (number place : ℕ) (o : Option Playhead) (m : Mixing) (s : Stream) → eqb m.endpoint number ≡ false →
    MayBePicked m s → flying_from m number place o s ≡ []
picked_elsewhere number place o m s n (inl z) = flies_none m number place o s z
picked_elsewhere number place o m s n (inr p) =
    ap (λ b. if b then due_at (place - place_of o) s else [])
    (and_left (s.endpoint == number) (covers_in place m o)
    (ap (λ k. eqb k number) (plays_there m.endpoint s p.plays) ∙ n))

whole_sums : (number place : ℕ) (st : Stage) (m : Mixing) (s : Stream) (b : Bool) → eqb m.endpoint number ≡ b →
    MayBePicked m s → (if b then flying m number place st s else []) ≡ flying m number place st s
whole_sums number place st m s true h k = refl
whole_sums number place st m s false h k = sym (picked_elsewhere number place (playhead_at number st) m s h k)

sound_flies : (number place : ℕ) (st : Stage) (m : Mixing) (new : Option Mixing) (s : Stream) → new ≡ Some m →
    MayBePicked m s → StepFlies number place st (after_move st (sounded m true)) (sounded m true) None new s
sound_flies number place st m new s a k =
    whole_sums number place st m s (eqb m.endpoint number) refl k
    ∙ sym (ap (λ o. air o (λ m'. flying m' number place (after_move st (sounded m true)) s)) a
    ∙ ap (λ o. flying_from m number place o s) (playhead_stays number st (sounded m true) refl))

-- a Retire: what flies is rendered
here_renders : (number place : ℕ) (o : Option Playhead) (m : Mixing) (e : Playhead) (s : Stream) → o ≡ Some e →
    eqb s.endpoint number ≡ true → IsHeld s → IsPicked m s → ((place < e.next) ⊎ (e.next ≤ place)) →
    flying_from m number place o s
    ≡ having number place (take s.picked s.buffer_data.pending)
    (rendered_from number (place_of o) (take s.picked s.buffer_data.pending))
here_renders number place o m e s h n held p (inl l) =
    let a : place_of o ≡ e.next = ap place_of h in
    ap (λ b. if b then due_at (place - place_of o) s else [])
    (and_right (s.endpoint == number) (covers_in place m o)
    (ap (covers_in place m) h
    ∙ and_left (nat_le e.next place) (nat_lt place (e.next + m.frames)) (lt-leb e.next place l)))
    ∙ sym (having_before number place (place_of o) (take s.picked s.buffer_data.pending) (omega arith))
here_renders number place o m e s h n held p (inr l) = go (cases_lt (place - place_of o) s.picked)
  where
    fits : s.picked ≤ m.frames
    fits = p.fits

    a : place_of o ≡ e.next
    a = ap place_of h

    long : length (take s.picked s.buffer_data.pending) ≡ s.picked
    long = length-take-le s.picked s.buffer_data.pending held

    go : (((place - place_of o) < s.picked) ⊎ (s.picked ≤ (place - place_of o))) →
        flying_from m number place o s
        ≡ having number place (take s.picked s.buffer_data.pending)
        (rendered_from number (place_of o) (take s.picked s.buffer_data.pending))
    go (inl i) =
        ap (λ b. if b then due_at (place - place_of o) s else [])
        (and_from (s.endpoint == number) (covers_in place m o) n
        (ap (covers_in place m) h
        ∙ and_from (nat_le e.next place) (nat_lt place (e.next + m.frames)) (le-leb e.next place l)
        (lt-ltb place (e.next + m.frames) (omega (arith, a, fits)))))
        ∙ ap (λ b. if b then slice_index_or s.buffer_data.pending (place - place_of o) [] ∷ [] else [])
        (lt-ltb (place - place_of o) s.picked i)
        ∙ ap (λ f. f ∷ []) (sym (get_or-take s.picked s.buffer_data.pending (place - place_of o) [] i))
        ∙ sym (having_at number place (place_of o) (place - place_of o) (take s.picked s.buffer_data.pending)
        (omega (arith, a)) (omega (arith, long)))
    go (inr i) =
        chosen (λ d. d ≡ []) (s.endpoint == number && covers_in place m o) (due_at (place - place_of o) s) []
        (ap (λ b. if b then slice_index_or s.buffer_data.pending (place - place_of o) [] ∷ [] else [])
        (le-ltb (place - place_of o) s.picked i)) refl
        ∙ sym (having_behind number place (place_of o) (place - place_of o) (take s.picked s.buffer_data.pending)
        (omega (arith, a)) (omega (arith, long)))

abbrev first_rendered : ℕ → ℕ → Stage → Stream → List Frame
first_rendered number place st s =
    having number place (take s.picked s.buffer_data.pending)
    (rendered_from s.endpoint (next_of s.endpoint st) (take s.picked s.buffer_data.pending))

retire_here : (number place : ℕ) (st : Stage) (m : Mixing) (e : Playhead) (s : Stream) →
    playhead_at m.endpoint st ≡ Some e → s.endpoint ≡ number → IsHeld s → MayBePicked m s →
    flying m number place st s ≡ first_rendered number place st s
retire_here number place st m e s there n held (inl z) =
    flies_none m number place (playhead_at number st) s z
    ∙ sym (ap (λ k. having number place (take k s.buffer_data.pending)
    (rendered_from s.endpoint (next_of s.endpoint st) (take k s.buffer_data.pending))) z)
retire_here number place st m e s there n held (inr p) =
    here_renders number place (playhead_at number st) m e s
    (ap (λ k. playhead_at k st) (sym n ∙ plays_there m.endpoint s p.plays) ∙ there)
    (eq-eqb s.endpoint number n) held p (cases_lt place e.next)
    ∙ ap (λ k. having number place (take s.picked s.buffer_data.pending)
    (rendered_from k (next_of k st) (take s.picked s.buffer_data.pending))) (sym n)

retire_renders : (number place : ℕ) (st : Stage) (m : Mixing) (e : Playhead) (s : Stream) (b : Bool) →
    eqb s.endpoint number ≡ b → playhead_at m.endpoint st ≡ Some e → IsHeld s → MayBePicked m s →
    flying m number place st s ≡ first_rendered number place st s
retire_renders number place st m e s true n there held k =
    retire_here number place st m e s there (eqb-true s.endpoint number n) held k
retire_renders number place st m e s false n there held k =
    ap (λ b. if b then due_at (place - next_of number st) s else [])
    (and_left (s.endpoint == number) (covers_in place m (playhead_at number st)) n)
    ∙ sym (having_elsewhere number place s.endpoint (next_of s.endpoint st) (take s.picked s.buffer_data.pending) n)

retire_by : (number place n : ℕ) (st : Stage) (m : Mixing) (s : Stream) (b : Bool) →
    flying m number place st s ≡ first_rendered number place st s →
    flying m number place st s ++ []
    ≡ having number place (if b then take s.picked s.buffer_data.pending else [])
    (if b then rendered_from s.endpoint (next_of s.endpoint st) (take s.picked s.buffer_data.pending) else [])
    ++ flying m number place (after_move st (of_client n retired)) (if b then moved retired s else s)
retire_by number place n st m s true h =
    ap (λ z. z ++ []) h
    ∙ ap (λ z. first_rendered number place st s ++ z)
    (sym (flies_none m number place (playhead_at number (after_move st (of_client n retired))) (moved retired s) refl))
retire_by number place n st m s false h =
    append-nil _
    ∙ ap (λ o. flying_from m number place o s) (sym (playhead_stays number st (of_client n retired) refl))

retire_flies : (number place n : ℕ) (st : Stage) (m : Mixing) (e : Playhead) (air_of : Option Mixing) (s : Stream) →
    playhead_at m.endpoint st ≡ Some e → air_of ≡ Some m → IsHeld s → MayBePicked m s →
    StepFlies number place st (after_move st (of_client n retired)) (of_client n retired) air_of air_of s
retire_flies number place n st m e air_of s there a held k =
    ap (λ o. air o (λ m'. flying m' number place st s) ++ []) a
    ∙ retire_by number place n st m s (is_open_of n s)
    (retire_renders number place st m e s (eqb s.endpoint number) refl there held k)
    ∙ ap (λ o. having number place (fated_frames x s) (fated_by st x s)
    ++ air o (λ m'. flying m' number place (after_move st x) (stream_after x s))) (sym a)
  where
    x : Move
    x = of_client n retired

-- a Finish: nothing flies any more
finish_flies : (number place : ℕ) (st : Stage) (m : Mixing) (new : Option Mixing) (s : Stream) → new ≡ None → Rests s →
    StepFlies number place st (after_move st (finished m true)) (finished m true) (Some m) new s
finish_flies number place st m new s a z =
    ap (λ d. d ++ []) (flies_none m number place (playhead_at number st) s z)
    ∙ ap (λ o. air o (λ m'. flying m' number place (after_move st (finished m true)) s)) (sym a)

-- each sub-step
abbrev Flies : ℕ → ℕ → ℕ → Stage → Move → List Move → Type 0
Flies number place n st x due =
    (s : Stream) → stream_at n st ≡ Some s →
    StepFlies number place st (after_move st x) x (in_air (x ∷ due)) (in_air (due_after st x due)) s

at_flies : (number place n : ℕ) (st : Stage) (x y : Move) (due : List Move) → x ≡ y →
    Flies number place n st y due → Flies number place n st x due
at_flies number place n st x y due e h = subst (λ z. Flies number place n st z due) (sym e) h

sub_step_flies : (number place n : ℕ) (st : Stage) (x : Move) (due : List Move) → IsStage st → SubStep st x due →
    Flies number place n st x due
sub_step_flies number place n st x due h (picks_one c k e a) =
    at_flies number place n st x (of_client c (picked k)) due e
    (λ s f. quiet number place st (of_client c (picked k)) None (in_air due) s refl refl a)
sub_step_flies number place n st x due h (sounds_whole m e there e' held) =
    at_flies number place n st x (sounded m true) due e'
    (λ s f. sound_flies number place st m (in_air (due_after st (sounded m true) due)) s
    (air_sounded m st) (all_found (MayBePicked m) (is_of n) st.streams s held f))
sub_step_flies number place n st x due h (sounds_failed m e) =
    at_flies number place n st x (sounded m false) due e
    (λ s f. quiet number place st (sounded m false) None (in_air (due_after st (sounded m false) due)) s refl refl
    (air_closing m (open_streams_on m.endpoint st)))
sub_step_flies number place n st x due h (retires_one m e c there e' a held) =
    at_flies number place n st x (of_client c retired) due e'
    (λ s f. retire_flies number place c st m e (in_air due) s there a
    (all_found IsHeld (is_of n) st.streams s h.held f) (all_found (MayBePicked m) (is_of n) st.streams s held f))
sub_step_flies number place n st x due h (feeds_one c frames e) =
    at_flies number place n st x (of_client c (fed frames)) due e
    (λ s f. still_flies number place c st (fed frames) (in_air due) s refl
    (all_found IsHeld (is_of n) st.streams s h.held f))
sub_step_flies number place n st x due h (closes_one c e a) =
    at_flies number place n st x (of_client c (closed Removal)) due e
    (λ s f. quiet number place st (of_client c (closed Removal)) None (in_air due) s refl refl a)
sub_step_flies number place n st x due h (finishes_whole m e there e' d held) =
    at_flies number place n st x (finished m true) due e'
    (λ s f. finish_flies number place st m (in_air due) s (ap in_air d) (all_found Rests (is_of n) st.streams s held f))
sub_step_flies number place n st x due h (finishes_failed m e d) =
    at_flies number place n st x (finished m false) due e
    (λ s f. quiet number place st (finished m false) None (in_air due) s refl refl (ap in_air d))

pub outside_no_retire : (m : StreamMove) → is_period_move m ≡ false → is_retire_move m ≡ false
outside_no_retire retired n = absurd (true≢false n)
outside_no_retire _ n = refl

outside_renders_none : (x : Move) → is_sub_step x ≡ false → renders_none x ≡ true
outside_renders_none (of_client client m) n = ap not (outside_no_retire m n)
outside_renders_none (sounded m true) n = absurd (true≢false n)
outside_renders_none (sounded m false) n = refl
outside_renders_none _ n = refl

-- when a period begins, nothing flies
pub begins_grounded : (st : Stage) (steps : List Move) → IsPeriod st steps → in_air steps ≡ None
begins_grounded st steps p =
    ap in_air p.steps_are ∙ air_picking p.mixing p.whole (playing_streams_on p.mixing.endpoint st)

ends_flown : (number place n : ℕ) (st : Stage) → IsFlown number place n st [] []
ends_flown number place n st = sym (go (pending_of n st))
  where
    go : (frames : List Frame) → having number place (frames ++ []) [] ≡ []
    go [] = refl
    go (frame ∷ frames) = refl

data_step_flies : (number place n : ℕ) (st : Stage) (x : Move) (old : Option Mixing) (s : Stream) → is_data x ≡ true →
    IsHeld s → StepFlies number place st (after_move st x) x old old s
data_step_flies number place n st (of_client client m) old s d h =
    still_flies number place client st m old s (data_leaves m d) h
data_step_flies number place n st _ old s d h = absurd (false≢true d)

carries_flown : (number place n : ℕ) → Carries (IsFlown number place n)
carries_flown number place n = record {
  ends = λ st. ends_flown number place n st;
  outside = λ st x xs e k.
      flies_step number place n st x [] (due_of st x) xs
      (λ s f. quiet number place st x None (in_air (due_of st x)) s (outside_renders_none x e) refl (air_of_due st x))
      k;
  data_call = λ st x next due xs h d k.
      flies_step number place n st x (next ∷ due) (next ∷ due) xs
      (λ s f. data_step_flies number place n st x (in_air (next ∷ due)) s d
      (all_found IsHeld (is_of n) st.streams s h.held f)) k;
  sub_step = λ st x due xs h s k.
      flies_step number place n st x (x ∷ due) (due_after st x due) xs (sub_step_flies number place n st x due h s) k;
  begins = λ st x due xs p k.
      sym (ap (λ a. air a (λ m. of_found (flying m number place st) (stream_at n st))
      ++ summed number place n st (x ∷ xs)) (begins_grounded st (x ∷ due) p)) ∙ k;
}

-- what whole Sounds sum of a stream at a place is what is rendered there
pub flown : (number place n : ℕ) (st : Stage) (xs : List Move) → AllByRecursion Rests st.streams → IsStage st →
    IsWoven st [] xs →
    summed number place n st xs ≡ having number place (pending_of n st ++ all_released n st xs) (fates n st xs)
flown number place n st xs z h w =
    walk (IsFlown number place n) (carries_flown number place n) st [] xs
    (idle (record { due_is = refl; rests = z })) h w
