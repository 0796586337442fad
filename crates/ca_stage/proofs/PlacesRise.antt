-- The places of a stream's rendered frames rise.
use Rattle.std.proofs.Common.{◌≡◌, ℕ, suc, ◌+◌, ◌≤◌, ◌==◌, ◌⊎◌, inl, inr, List, [], ◌∷◌, ◌++◌, length, map, take, Bool}
use Rattle.std.proofs.Common.{true, false, Option, Some, None, refl, sym, ap, ap₂, ◌∙◌, subst, arith, eq-eqb}
use Rattle.std.proofs.Common.{option_map, length-take-le, if◌then◌else◌}
use Rattle.std.proofs.lemmas.Bool.{true≢false, false≢true}
use Rattle.std.specs.List.{AllByRecursion}
use Rattle.ca_base.specs.declared.ids.Reason.TheVariants.{Removal}
use Rattle.ca_stage.specs.Stage.{empty_stage, Frame, Stream, Playhead, Stage}
use Rattle.ca_stage.specs.Moves.{StreamMove, leased, released, read, started, stopped, reset, closed, picked, retired}
use Rattle.ca_stage.specs.Moves.{fed, Move, of_client, sounded, finished, Mixing, moved, is_open_of, stream_after}
use Rattle.ca_stage.specs.Moves.{playhead_after, after_move, playhead_at, stream_at}
use Rattle.ca_stage.specs.Fates.{Fate, Rendered, Reset, Dropped, of_found, place_of, next_of, rendered_from}
use Rattle.ca_stage.specs.Fates.{fates_given, fated_by, fates, places_of}
use Rattle.ca_stage.specs.Woven.{is_data_move, is_data, is_sub_step, due_after, due_of}
use Rattle.ca_stage.specs.Order.{RisesFrom, IsHeld, IsStage, Rests}
use Rattle.ca_stage.specs.Laws.{PlacesRise}
use Rattle.ca_stage.proofs.Lists.{chosen, all_found}
use Rattle.ca_stage.proofs.Streams.{after_endpoint, moved_there, came, Comes, absent, present, is_of}
use Rattle.ca_stage.proofs.StageHolds.{empty_is_stage}
use Rattle.ca_stage.proofs.Playheads.{next_after, playhead_stays}
use Rattle.ca_stage.proofs.Phases.{MayBePicked, idle}
use Rattle.ca_stage.proofs.SubSteps.{in_air, plays_there, SubStep, picks_one, sounds_whole, sounds_failed, retires_one}
use Rattle.ca_stage.proofs.SubSteps.{feeds_one, closes_one, finishes_whole, finishes_failed}
use Rattle.ca_stage.proofs.WovenMoves.{Carries, walk}
use Rattle.ca_stage.proofs.Flights.{is_retire_move}
use Rattle.ca_stage.proofs.Landings.{begins_grounded, outside_no_retire as move_no_retire}
use Rattle.ca_stage.proofs.WholeSounds.{extra, begun, SoundStep, still, mixes, outside_step, data_step, sub_sounds}

-- lists that rise
rises_lower : (low low' : ℕ) (ps : List ℕ) → low ≤ low' → RisesFrom low' ps → RisesFrom low ps
rises_lower low low' [] h r = tt
rises_lower low low' (p ∷ ps) h r = let l = r.0 in (omega arith, r.1)

places-append : (a b : List Fate) → places_of (a ++ b) ≡ places_of a ++ places_of b
places-append [] b = refl
places-append (Rendered number place ∷ a) b = ap (λ z. place ∷ z) (places-append a b)
places-append (Reset ∷ a) b = places-append a b
places-append (Dropped reason ∷ a) b = places-append a b

no_places_reset : (frames : List Frame) → places_of (map (λ (frame : Frame). Reset) frames) ≡ []
no_places_reset [] = refl
no_places_reset (frame ∷ frames) = no_places_reset frames

no_places_dropped : (reason : _) (frames : List Frame) → places_of (map (λ (frame : Frame). Dropped reason) frames) ≡ []
no_places_dropped reason [] = refl
no_places_dropped reason (frame ∷ frames) = no_places_dropped reason frames

rise_run : (low number next : ℕ) (frames : List Frame) (ps : List ℕ) → low ≤ next →
    RisesFrom (next + length frames) ps → RisesFrom low (places_of (rendered_from number next frames) ++ ps)
rise_run low number next [] ps h r = rises_lower low (next + 0) ps (omega arith) r
rise_run low number next (frame ∷ frames) ps h r = (
  h,
  rise_run (suc next) number (next + 1) frames ps (omega arith)
      (rises_lower ((next + 1) + length frames) (next + suc (length frames)) ps (omega arith) r),
)

-- the next place doesn't fall
place_grows : (x : Move) (o : Option Playhead) → place_of o ≤ place_of (option_map (playhead_after x) o)
place_grows x None = omega arith
place_grows (finished m true) (Some e) =
    chosen (λ t. e.next ≤ t.next) (e.number == m.endpoint) (record e { next = e.next + m.frames }) e
    (omega arith) (omega arith)
place_grows (finished m false) (Some e) = omega arith
place_grows _ (Some e) = omega arith

next_grows : (number : ℕ) (st : Stage) (x : Move) → next_of number st ≤ next_of number (after_move st x)
next_grows number st x =
    subst (λ n. next_of number st ≤ n) (sym (next_after number st x)) (place_grows x (playhead_at number st))

begun_grows : (number : ℕ) (st : Stage) (x : Move) (b b' : ℕ) → SoundStep number st x b b' → b ≤ b'
begun_grows number st x b b' (still f g e) = omega arith
begun_grows number st x b b' (mixes m e y on there n n') = omega arith

-- what the places of a stream's next frames are not below
abbrev LowOf : ℕ → Stage → List Move → Stream → Type 0
LowOf low st due s = (low ≤ next_of s.endpoint st) ⊎ (Rests s × (low ≤ begun s.endpoint st due))

abbrev LowAt : ℕ → Stage → List Move → Option Stream → Type 0
LowAt low st due None = low ≤ 0
LowAt low st due (Some s) = LowOf low st due s

abbrev IsRising : ℕ → Stage → List Move → List Move → Type 0
IsRising n st due xs = (low : ℕ) → LowAt low st due (stream_at n st) → RisesFrom low (places_of (fates n st xs))

-- a move that picks nothing leaves unpicked what is
abbrev is_pick_move : StreamMove → Bool
is_pick_move (picked n) = true
is_pick_move _ = false

abbrev is_pick : Move → Bool
is_pick (of_client client m) = is_pick_move m
is_pick _ = false

rests_moved : (m : StreamMove) (s : Stream) → is_pick_move m ≡ false → Rests s → Rests (moved m s)
rests_moved (picked n) s p z = absurd (true≢false p)
rests_moved (leased n) s p z = z
rests_moved (released frames) s p z = z
rests_moved (read n) s p z = z
rests_moved (fed frames) s p z = z
rests_moved started s p z = z
rests_moved stopped s p z = z
rests_moved reset s p z = refl
rests_moved (closed reason) s p z = refl
rests_moved retired s p z = refl

rests_stay : (x : Move) (s : Stream) → is_pick x ≡ false → Rests s → Rests (stream_after x s)
rests_stay (of_client client m) s p z = chosen Rests (is_open_of client s) (moved m s) s (rests_moved m s p z) z
rests_stay _ s p z = z

-- what a move needs for the bounds to stay
pub record StaysLow (st : Stage) (x : Move) (due due' : List Move) : Type 0 where
  pub steps : (number : ℕ) → SoundStep number st x (begun number st due) (begun number (after_move st x) due')
  pub grounded : is_pick x ≡ false ⊎ (in_air due ≡ None)

grounded_low : (low number : ℕ) (st : Stage) (due : List Move) → in_air due ≡ None → low ≤ begun number st due →
    low ≤ next_of number st
grounded_low low number st due a h =
    let e : begun number st due ≡ next_of number st + 0 = ap (λ k. next_of number st + extra k number) a in omega arith

low_picks : (low : ℕ) (st : Stage) (x : Move) (due due' : List Move) (s : Stream) → StaysLow st x due due' →
    (is_pick x ≡ false ⊎ (in_air due ≡ None)) → Rests s → low ≤ begun s.endpoint st due →
    (low ≤ next_of s.endpoint (after_move st x))
    ⊎ (Rests (stream_after x s) × (low ≤ begun s.endpoint (after_move st x) due'))
low_picks low st x due due' s k (inl p) z l =
    let g = begun_grows s.endpoint st x _ _ (k.steps s.endpoint) in inr (rests_stay x s p z, omega arith)
low_picks low st x due due' s k (inr a) z l =
    let g = next_grows s.endpoint st x in let h = grounded_low low s.endpoint st due a l in inl (omega arith)

low_moves : (low : ℕ) (st : Stage) (x : Move) (due due' : List Move) (s : Stream) → StaysLow st x due due' →
    LowOf low st due s →
    (low ≤ next_of s.endpoint (after_move st x))
    ⊎ (Rests (stream_after x s) × (low ≤ begun s.endpoint (after_move st x) due'))
low_moves low st x due due' s k (inl l) = let g = next_grows s.endpoint st x in inl (omega arith)
low_moves low st x due due' s k (inr p) = low_picks low st x due due' s k k.grounded p.0 p.1

low_stays : (low : ℕ) (st : Stage) (x : Move) (due due' : List Move) (s : Stream) → StaysLow st x due due' →
    LowOf low st due s → LowOf low (after_move st x) due' (stream_after x s)
low_stays low st x due due' s k h =
    subst (λ e. (low ≤ next_of e (after_move st x)) ⊎
    (Rests (stream_after x s) × (low ≤ begun e (after_move st x) due')))
    (sym (after_endpoint x s)) (low_moves low st x due due' s k h)

low_comes : (low : ℕ) (st : Stage) (due : List Move) (o : Option Stream) → low ≤ 0 → Comes o → LowAt low st due o
low_comes low st due o h (absent e) = subst (LowAt low st due) (sym e) h
low_comes low st due o h (present new e) = subst (LowAt low st due) (sym e) (inl (omega arith))

low_at : (n low : ℕ) (st : Stage) (x : Move) (due due' : List Move) → StaysLow st x due due' → (o : Option Stream) →
    stream_at n st ≡ o → LowAt low st due o → LowAt low (after_move st x) due' (stream_at n (after_move st x))
low_at n low st x due due' k None e h = low_comes low (after_move st x) due' _ h (came n st x e)
low_at n low st x due due' k (Some s) e h =
    subst (LowAt low (after_move st x) due') (sym (moved_there n st x s e)) (low_stays low st x due due' s k h)

-- a move that renders nothing
abbrev is_retire : Move → Bool
is_retire (of_client client m) = is_retire_move m
is_retire _ = false

no_places_given : (m : StreamMove) (next : ℕ) (s : Stream) → is_retire_move m ≡ false →
    places_of (fates_given m next s) ≡ []
no_places_given retired next s h = absurd (true≢false h)
no_places_given reset next s h = no_places_reset s.buffer_data.pending
no_places_given (closed reason) next s h = no_places_dropped reason s.buffer_data.pending
no_places_given _ next s h = refl

no_places : (st : Stage) (x : Move) (s : Stream) → is_retire x ≡ false → places_of (fated_by st x s) ≡ []
no_places st (of_client client m) s h =
    chosen (λ fs. places_of fs ≡ []) (is_open_of client s) (fates_given m (next_of s.endpoint st) s) []
    (no_places_given m (next_of s.endpoint st) s h) refl
no_places st _ s h = refl

no_places_of : (st : Stage) (x : Move) (o : Option Stream) → is_retire x ≡ false →
    places_of (of_found (fated_by st x) o) ≡ []
no_places_of st x None h = refl
no_places_of st x (Some s) h = no_places st x s h

more_rises : (low : ℕ) (a b : List Fate) → places_of a ≡ [] → RisesFrom low (places_of b) →
    RisesFrom low (places_of (a ++ b))
more_rises low a b e r = subst (RisesFrom low) (sym (places-append a b ∙ ap (λ z. z ++ places_of b) e)) r

quiet_rises : (n : ℕ) (st : Stage) (x : Move) (due due' xs : List Move) → is_retire x ≡ false →
    StaysLow st x due due' → IsRising n (after_move st x) due' xs → IsRising n st due (x ∷ xs)
quiet_rises n st x due due' xs r k f low h =
    more_rises low (of_found (fated_by st x) (stream_at n st)) (fates n (after_move st x) xs)
    (no_places_of st x (stream_at n st) r) (f low (low_at n low st x due due' k (stream_at n st) refl h))

-- a Retire
take_none : (number next : ℕ) (s : Stream) → Rests s →
    places_of (rendered_from number next (take s.picked s.buffer_data.pending)) ≡ []
take_none number next s z = ap (λ k. places_of (rendered_from number next (take k s.buffer_data.pending))) z

begun_here : (st st' : Stage) (m : Mixing) (due : List Move) (number : ℕ) → m.endpoint ≡ number →
    playhead_at number st' ≡ playhead_at number st → in_air due ≡ Some m →
    begun number st' due ≡ next_of number st + m.frames
begun_here st st' m due number n same a =
    ap₂ (λ o k. place_of o + extra k number) same a
    ∙ ap (λ b. next_of number st + (if b then m.frames else 0)) (eq-eqb m.endpoint number n)

module _ (n c : ℕ) (st : Stage) (m : Mixing) (due xs : List Move) (a : in_air due ≡ Some m)
    (k : StaysLow st (of_client c retired) (of_client c retired ∷ due) due) where
  abbrev after : Stage
  after = after_move st (of_client c retired)

  abbrev rest : List ℕ
  rest = places_of (fates n after xs)

  abbrev Rest : Stream → Type 0
  Rest new = (low : ℕ) → LowOf low after due new → RisesFrom low rest

  retired_now : (low : ℕ) (s : Stream) → IsHeld s → MayBePicked m s → LowOf low st (of_client c retired ∷ due) s →
      LowOf low after due (moved retired s) → Rest (moved retired s) →
      RisesFrom low
      (places_of (rendered_from s.endpoint (next_of s.endpoint st) (take s.picked s.buffer_data.pending)) ++ rest)
  retired_now low s held (inl z) h h' f =
      subst (λ ps. RisesFrom low (ps ++ rest)) (sym (take_none s.endpoint (next_of s.endpoint st) s z)) (f low h')
  retired_now low s held (inr p) (inr q) h' f =
      subst (λ ps. RisesFrom low (ps ++ rest)) (sym (take_none s.endpoint (next_of s.endpoint st) s q.0)) (f low h')
  retired_now low s held (inr p) (inl l) h' f =
      let same : s.endpoint ≡ m.endpoint = plays_there m.endpoint s p.plays in
      let long : length (take s.picked s.buffer_data.pending) ≡ s.picked =
      length-take-le s.picked s.buffer_data.pending held in
      let fits : s.picked ≤ m.frames = p.fits in
      let b : begun s.endpoint after due ≡ next_of s.endpoint st + m.frames =
      begun_here st after m due s.endpoint (sym same) (playhead_stays s.endpoint st (of_client c retired) refl) a in
      rise_run low s.endpoint (next_of s.endpoint st) (take s.picked s.buffer_data.pending) _ l
      (f (next_of s.endpoint st + length (take s.picked s.buffer_data.pending)) (inr (refl, omega arith)))

  retired_by : (low : ℕ) (s : Stream) (b : Bool) → IsHeld s → MayBePicked m s →
      LowOf low st (of_client c retired ∷ due) s → LowOf low after due (if b then moved retired s else s) →
      Rest (if b then moved retired s else s) →
      RisesFrom low
      (places_of
      (if b then rendered_from s.endpoint (next_of s.endpoint st) (take s.picked s.buffer_data.pending) else [])
      ++ rest)
  retired_by low s true held p h h' f = retired_now low s held p h h' f
  retired_by low s false held p h h' f = f low h'

  retired_rises : (o : Option Stream) → stream_at n st ≡ o → ((s : Stream) → o ≡ Some s → IsHeld s × MayBePicked m s) →
      IsRising n after due xs → (low : ℕ) → LowAt low st (of_client c retired ∷ due) o →
      RisesFrom low (places_of (of_found (fated_by st (of_client c retired)) o) ++ rest)
  retired_rises None q p f low h =
      f low (low_at n low st (of_client c retired) (of_client c retired ∷ due) due k None q h)
  retired_rises (Some s) q p f low h =
      retired_by low s (is_open_of c s) (p s refl).0 (p s refl).1 h
      (low_stays low st (of_client c retired) (of_client c retired ∷ due) due s k h)
      (λ low' h'. f low' (subst (LowAt low' after due) (sym (moved_there n st (of_client c retired) s q)) h'))

retire_rises : (n c : ℕ) (st : Stage) (m : Mixing) (due xs : List Move) → IsStage st → in_air due ≡ Some m →
    AllByRecursion (MayBePicked m) st.streams →
    StaysLow st (of_client c retired) (of_client c retired ∷ due) due →
    IsRising n (after_move st (of_client c retired)) due xs →
    IsRising n st (of_client c retired ∷ due) (of_client c retired ∷ xs)
retire_rises n c st m due xs stage a held k f low h =
    subst (RisesFrom low)
    (sym (places-append (of_found (fated_by st (of_client c retired)) (stream_at n st))
    (fates n (after_move st (of_client c retired)) xs)))
    (retired_rises n c st m due xs a k (stream_at n st) refl
    (λ s q. (
      all_found IsHeld (is_of n) st.streams s stage.held q,
      all_found (MayBePicked m) (is_of n) st.streams s held q,
    )) f low h)

-- each sub-step
sub_low : (st : Stage) (x y : Move) (due : List Move) → x ≡ y → is_pick y ≡ false ⊎ (in_air (y ∷ due) ≡ None) →
    SubStep st x due → StaysLow st x (x ∷ due) (due_after st x due)
sub_low st x y due e g s = record {
  steps = λ number. sub_sounds number st x due s;
  grounded = subst (λ z. is_pick z ≡ false ⊎ (in_air (z ∷ due) ≡ None)) (sym e) g;
}

sub_quiet : (n : ℕ) (st : Stage) (x y : Move) (due xs : List Move) → x ≡ y → is_retire y ≡ false →
    is_pick y ≡ false ⊎ (in_air (y ∷ due) ≡ None) → SubStep st x due →
    IsRising n (after_move st x) (due_after st x due) xs → IsRising n st (x ∷ due) (x ∷ xs)
sub_quiet n st x y due xs e r g s f =
    quiet_rises n st x (x ∷ due) (due_after st x due) xs (ap is_retire e ∙ r) (sub_low st x y due e g s) f

sub_rises : (n : ℕ) (st : Stage) (x : Move) (due xs : List Move) → IsStage st → SubStep st x due → SubStep st x due →
    IsRising n (after_move st x) (due_after st x due) xs → IsRising n st (x ∷ due) (x ∷ xs)
sub_rises n st x due xs h s (picks_one c k e a) f =
    sub_quiet n st x (of_client c (picked k)) due xs e refl (inr refl) s f
sub_rises n st x due xs h s (sounds_whole m e there e' held) f =
    sub_quiet n st x (sounded m true) due xs e' refl (inl refl) s f
sub_rises n st x due xs h s (sounds_failed m e) f = sub_quiet n st x (sounded m false) due xs e refl (inl refl) s f
sub_rises n st x due xs h s (feeds_one c frames e) f =
    sub_quiet n st x (of_client c (fed frames)) due xs e refl (inl refl) s f
sub_rises n st x due xs h s (closes_one c e a) f =
    sub_quiet n st x (of_client c (closed Removal)) due xs e refl (inl refl) s f
sub_rises n st x due xs h s (finishes_whole m e there e' d held) f =
    sub_quiet n st x (finished m true) due xs e' refl (inl refl) s f
sub_rises n st x due xs h s (finishes_failed m e d) f = sub_quiet n st x (finished m false) due xs e refl (inl refl) s f
sub_rises n st x due xs h s (retires_one m e c there e' a held) f =
    subst (λ y. IsRising n st (y ∷ due) (y ∷ xs)) (sym e')
    (retire_rises n c st m due xs h a held
    (subst (λ y. StaysLow st y (y ∷ due) (due_after st y due)) e'
    (sub_low st x (of_client c retired) due e' (inl refl) s))
    (subst (λ y. IsRising n (after_move st y) (due_after st y due) xs) e' f))

-- the other moves
data_no_pick_move : (m : StreamMove) → is_data_move m ≡ true → (is_pick_move m ≡ false) × (is_retire_move m ≡ false)
data_no_pick_move (leased n) d = (refl, refl)
data_no_pick_move (released frames) d = (refl, refl)
data_no_pick_move (read n) d = (refl, refl)
data_no_pick_move _ d = absurd (false≢true d)

data_no_pick : (x : Move) → is_data x ≡ true → (is_pick x ≡ false) × (is_retire x ≡ false)
data_no_pick (of_client client m) d = data_no_pick_move m d
data_no_pick _ d = absurd (false≢true d)

outside_no_retire : (x : Move) → is_sub_step x ≡ false → is_retire x ≡ false
outside_no_retire (of_client client m) n = move_no_retire m n
outside_no_retire _ n = refl

low_grounded : (low : ℕ) (st : Stage) (due : List Move) (o : Option Stream) → in_air due ≡ None → LowAt low st [] o →
    LowAt low st due o
low_grounded low st due None a h = h
low_grounded low st due (Some s) a h = go h
  where
    go : LowOf low st [] s → LowOf low st due s
    go (inl l) = inl l
    go (inr p) = inl (grounded_low low s.endpoint st [] refl p.1)

carries_rising : (n : ℕ) → Carries (IsRising n)
carries_rising n = record {
  ends = λ st low h. tt;
  outside = λ st x xs e k.
      quiet_rises n st x [] (due_of st x) xs (outside_no_retire x e)
      (record { steps = λ number. outside_step number st x e; grounded = inr refl }) k;
  data_call = λ st x next due xs h d k.
      quiet_rises n st x (next ∷ due) (next ∷ due) xs (data_no_pick x d).1
      (record { steps = λ number. data_step number st x (next ∷ due) d; grounded = inl (data_no_pick x d).0 }) k;
  sub_step = λ st x due xs h s k. sub_rises n st x due xs h s s k;
  begins = λ st x due xs p k low h.
      k low (low_grounded low st (x ∷ due) (stream_at n st) (begins_grounded st (x ∷ due) p) h);
}

pub places_rise : PlacesRise
places_rise n xs w =
    walk (IsRising n) (carries_rising n) empty_stage [] xs (idle (record { due_is = refl; rests = tt })) empty_is_stage
    w
    0 (omega arith)
