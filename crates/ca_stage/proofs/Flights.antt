-- What a whole Sound summed of a stream at a place is what is rendered there: until it is retired it is in flight.
use Rattle.std.proofs.Common.{not, ◌≡◌, ℕ, ◌-◌, ◌==◌, ◌&&◌, List, [], ◌∷◌, ◌++◌, Bool, true, false, Option, Some, None}
use Rattle.std.proofs.Common.{refl, sym, ap, ap₂, ◌∙◌, append_assoc, if◌then◌else◌}
use Rattle.std.proofs.lemmas.Bool.{false≢true, true≢false}
use Rattle.ca_stage.specs.Stage.{Frame, Stream, Playhead, Stage}
use Rattle.ca_stage.specs.Moves.{as_opened, StreamMove, reset, closed, retired, Move, of_client, sounded, Mixing}
use Rattle.ca_stage.specs.Moves.{is_open_of, stream_after, after_move, playhead_at, stream_at}
use Rattle.ca_stage.specs.Mix.{due_at}
use Rattle.ca_stage.specs.Fates.{Fate, of_found, place_of, next_of, released_by, fates_given, fated_by, pending_of}
use Rattle.ca_stage.specs.Fates.{all_released, fates, having}
use Rattle.ca_stage.specs.Order.{Rests}
use Rattle.ca_stage.specs.Laws.{covers}
use Rattle.ca_stage.proofs.Lists.{chosen}
use Rattle.ca_stage.proofs.Streams.{moved_there, came, Comes, absent, present}
use Rattle.ca_stage.proofs.Conservation.{frames_fated, fated_frames, split_step, of_lengths, length-fated_by}
use Rattle.ca_stage.proofs.Silence.{nothing_due}
use Rattle.ca_stage.proofs.SubSteps.{in_air}
use Rattle.ca_stage.proofs.Places.{having-append, having_reset, having_dropped}

-- the frame of a stream that a period by a mixing has picked for a place
abbrev pub covers_in : ℕ → Mixing → Option Playhead → Bool
covers_in place m None = false
covers_in place m (Some e) = covers place m e

abbrev pub flying_from : Mixing → ℕ → ℕ → Option Playhead → Stream → List Frame
flying_from m number place o s =
    if s.endpoint == number && covers_in place m o then due_at (place - place_of o) s else []

abbrev pub flying : Mixing → ℕ → ℕ → Stage → Stream → List Frame
flying m number place st s = flying_from m number place (playhead_at number st) s

-- what a move sums of it, and what a list of moves does
abbrev pub summed_by : ℕ → ℕ → Stage → Move → Stream → List Frame
summed_by number place st (sounded m true) s = if m.endpoint == number then flying m number place st s else []
summed_by number place st _ s = []

abbrev pub summed : ℕ → ℕ → ℕ → Stage → List Move → List Frame
summed number place n st [] = []
summed number place n st (x ∷ xs) =
    of_found (summed_by number place st x) (stream_at n st) ++ summed number place n (after_move st x) xs

-- what was summed by the mixing in the air and isn't yet rendered
abbrev pub air : {A : Type 0} → Option Mixing → (Mixing → List A) → List A
air None f = []
air (Some m) f = f m

abbrev pub flight : ℕ → ℕ → ℕ → Stage → List Move → List Frame
flight number place n st due = air (in_air due) (λ m. of_found (flying m number place st) (stream_at n st))

abbrev pub IsFlown : ℕ → ℕ → ℕ → Stage → List Move → List Move → Type 0
IsFlown number place n st due xs =
    flight number place n st due ++ summed number place n st xs
    ≡ having number place (pending_of n st ++ all_released n st xs) (fates n st xs)

-- one move of one stream
abbrev pub StepFlies : ℕ → ℕ → Stage → Stage → Move → Option Mixing → Option Mixing → Stream → Type 0
StepFlies number place st st' x old new s =
    air old (λ m. flying m number place st s) ++ summed_by number place st x s
    ≡ having number place (fated_frames x s) (fated_by st x s)
    ++ air new (λ m. flying m number place st' (stream_after x s))

regrouped : {A : Type 0} (fl sm sm' ha fl' : List A) → fl ++ sm ≡ ha ++ fl' → fl ++ (sm ++ sm') ≡ ha ++ (fl' ++ sm')
regrouped fl sm sm' ha fl' e = sym (append_assoc fl sm sm') ∙ ap (λ z. z ++ sm') e ∙ append_assoc ha fl' sm'

regrouped_frames : (p r r' a p' : List Frame) → p ++ r ≡ a ++ p' → p ++ (r ++ r') ≡ a ++ (p' ++ r')
regrouped_frames p r r' a p' e = sym (append_assoc p r r') ∙ ap (λ z. z ++ r') e ∙ append_assoc a p' r'

flies_on : (number place n : ℕ) (st : Stage) (x : Move) (due due' xs : List Move) →
    (flight number place n st due ++ of_found (summed_by number place st x) (stream_at n st)
    ≡ having number place (of_found (fated_frames x) (stream_at n st)) (of_found (fated_by st x) (stream_at n st))
    ++ flight number place n (after_move st x) due') →
    IsFlown number place n (after_move st x) due' xs → IsFlown number place n st due (x ∷ xs)
flies_on number place n st x due due' xs step k =
    regrouped (flight number place n st due) (of_found (summed_by number place st x) (stream_at n st))
    (summed number place n (after_move st x) xs) _ (flight number place n (after_move st x) due') step
    ∙ ap (λ z. having number place (of_found (fated_frames x) (stream_at n st)) given ++ z) k
    ∙ sym (having-append number place (of_found (fated_frames x) (stream_at n st))
    (pending_of n (after_move st x) ++ all_released n (after_move st x) xs) given (fates n (after_move st x) xs)
    (sym (of_lengths (fated_by st x) (fated_frames x) (length-fated_by st x) (stream_at n st))))
    ∙ ap (λ z. having number place z (given ++ fates n (after_move st x) xs))
    (sym (regrouped_frames (pending_of n st) (of_found (released_by x) (stream_at n st))
    (all_released n (after_move st x) xs) (of_found (fated_frames x) (stream_at n st))
    (pending_of n (after_move st x)) (split_step n st x)))
  where
    given : List Fate
    given = of_found (fated_by st x) (stream_at n st)

-- if nothing is picked, nothing flies
pub flies_none : (m : Mixing) (number place : ℕ) (o : Option Playhead) (s : Stream) → Rests s →
    flying_from m number place o s ≡ []
flies_none m number place o s z =
    chosen (λ d. d ≡ []) (s.endpoint == number && covers_in place m o) (due_at (place - place_of o) s) []
    (nothing_due (place - place_of o) s z) refl

air_none : {A : Type 0} (o : Option Mixing) (f : Mixing → List A) → ((m : Mixing) → f m ≡ []) → air o f ≡ []
air_none None f e = refl
air_none (Some m) f e = e m

comes_flying : (m : Mixing) (number place : ℕ) (st : Stage) (o : Option Stream) → Comes o →
    of_found (flying m number place st) o ≡ []
comes_flying m number place st o (absent e) = ap (of_found (flying m number place st)) e
comes_flying m number place st o (present new e) =
    ap (of_found (flying m number place st)) e
    ∙ flies_none m number place (playhead_at number st) (as_opened new) refl

-- lifted to the client's stream
flies_at : (number place n : ℕ) (st : Stage) (x : Move) (old new : Option Mixing) →
    ((s : Stream) → stream_at n st ≡ Some s → StepFlies number place st (after_move st x) x old new s) →
    (o : Option Stream) → stream_at n st ≡ o →
    air old (λ m. of_found (flying m number place st) o) ++ of_found (summed_by number place st x) o
    ≡ having number place (of_found (fated_frames x) o) (of_found (fated_by st x) o)
    ++ air new (λ m. of_found (flying m number place (after_move st x)) (stream_at n (after_move st x)))
flies_at number place n st x old new f None e =
    ap (λ z. z ++ []) (air_none {A = Frame} old (λ m. []) (λ m. refl))
    ∙ sym (air_none new (λ m. of_found (flying m number place (after_move st x)) (stream_at n (after_move st x)))
    (λ m. comes_flying m number place (after_move st x) (stream_at n (after_move st x)) (came n st x e)))
flies_at number place n st x old new f (Some s) e =
    f s e
    ∙ ap (λ (o : Option Stream). having number place (fated_frames x s) (fated_by st x s)
    ++ air new (λ m. of_found (flying m number place (after_move st x)) o)) (sym (moved_there n st x s e))

pub flies_step : (number place n : ℕ) (st : Stage) (x : Move) (due due' xs : List Move) →
    ((s : Stream) → stream_at n st ≡ Some s →
    StepFlies number place st (after_move st x) x (in_air due) (in_air due') s) →
    IsFlown number place n (after_move st x) due' xs → IsFlown number place n st due (x ∷ xs)
flies_step number place n st x due due' xs f k =
    flies_on number place n st x due due' xs
    (flies_at number place n st x (in_air due) (in_air due') f (stream_at n st) refl) k

-- moves that render and sum nothing
abbrev pub is_retire_move : StreamMove → Bool
is_retire_move retired = true
is_retire_move _ = false

abbrev pub renders_none : Move → Bool
renders_none (of_client client m) = not (is_retire_move m)
renders_none (sounded m true) = false
renders_none _ = true

unrendered_by : (number place next : ℕ) (m : StreamMove) (s : Stream) → is_retire_move m ≡ false →
    having number place (frames_fated m s) (fates_given m next s) ≡ []
unrendered_by number place next retired s h = absurd (true≢false h)
unrendered_by number place next reset s h = having_reset number place s.buffer_data.pending
unrendered_by number place next (closed reason) s h = having_dropped number place reason s.buffer_data.pending
unrendered_by number place next _ s h = refl

not_true : (b : Bool) → not b ≡ true → b ≡ false
not_true true h = absurd (false≢true h)
not_true false h = refl

pub unrendered : (number place : ℕ) (st : Stage) (x : Move) (s : Stream) → renders_none x ≡ true →
    having number place (fated_frames x s) (fated_by st x s) ≡ []
unrendered number place st (of_client client m) s h =
    go (is_open_of client s) _ _
    (unrendered_by number place (next_of s.endpoint st) m s (not_true (is_retire_move m) h))
  where
    go : (b : Bool) (frames : List Frame) (fs : List Fate) → having number place frames fs ≡ [] →
        having number place (if b then frames else []) (if b then fs else []) ≡ []
    go true frames fs e = e
    go false frames fs e = refl
unrendered number place st _ s h = refl

unsummed : (number place : ℕ) (st : Stage) (x : Move) (s : Stream) → renders_none x ≡ true →
    summed_by number place st x s ≡ []
unsummed number place st (sounded m true) s h = absurd (false≢true h)
unsummed number place st (sounded m false) s h = refl
unsummed number place st _ s h = refl

pub quiet : (number place : ℕ) (st : Stage) (x : Move) (old new : Option Mixing) (s : Stream) → renders_none x ≡ true →
    old ≡ None → new ≡ None → StepFlies number place st (after_move st x) x old new s
quiet number place st x old new s h o e =
    ap₂ (λ a b. a ++ b) (ap (λ k. air k (λ m. flying m number place st s)) o) (unsummed number place st x s h)
    ∙ sym (ap₂ (λ a b. a ++ b) (unrendered number place st x s h)
    (ap (λ k. air k (λ m. flying m number place (after_move st x) (stream_after x s))) e))
