-- Woven lists of moves: they append, a period's sub-steps are one, and what is picked in them.
use Rattle.std.proofs.Common.{◌≡◌, ℕ, ◌≤◌, inl, inr, List, [], ◌∷◌, ◌++◌, map, filter, Bool, true, false, Some, refl}
use Rattle.std.proofs.Common.{sym, ap, ap₂, ◌∙◌, subst, arith, cond, append-nil}
use Rattle.std.proofs.lemmas.Bool.{true≢false, false≢true}
use Rattle.std.specs.Bool.{MatchBool}
use Rattle.std.specs.List.{AllByRecursion}
use Rattle.ca_base.specs.declared.ids.Reason.TheVariants.{Removal}
use Rattle.ca_stage.specs.Stage.{empty_stage, Frame, Stream, Playhead, Stage}
use Rattle.ca_stage.specs.Moves.{closed, picked, retired, fed, Move, of_client, sounded, finished, captured, Mixing}
use Rattle.ca_stage.specs.Moves.{after_move, after_moves, playhead_at}
use Rattle.ca_stage.specs.Periods.{is_hearing, is_recording, playing_streams_on, open_streams_on, picks, after_sound}
use Rattle.ca_stage.specs.Periods.{sub_steps, captures}
use Rattle.ca_stage.specs.Mix.{mixed}
use Rattle.ca_stage.specs.Woven.{IsPeriod, is_data, is_sub_step, due_after, due_of, IsWoven}
use Rattle.ca_stage.specs.Order.{IsStage, Rests, frames_ahead}
use Rattle.ca_stage.specs.Laws.{RestsBetween, PicksFit}
use Rattle.ca_stage.proofs.Lists.{all_weaker}
use Rattle.ca_stage.proofs.StageHolds.{stage_step, empty_is_stage}
use Rattle.ca_stage.proofs.Phases.{MayBePicked, MayBeLeft, Phase, idle, picking, retiring, feeding, recording, closing}
use Rattle.ca_stage.proofs.Phases.{picks_left, feeds_left, hears_left, retires_left, closes_left}
use Rattle.ca_stage.proofs.WovenMoves.{Moment, steps, phase_rests}

pub after_moves-append : (st : Stage) (xs ys : List Move) →
    after_moves st (xs ++ ys) ≡ after_moves (after_moves st xs) ys
after_moves-append st [] ys = refl
after_moves-append st (x ∷ xs) ys = after_moves-append (after_move st x) xs ys

begins_more : (st : Stage) (x : Move) (F G : List Move → Type 0) → ((due : List Move) → F due → G due) →
    (b : Bool) →
    MatchBool b ((due : List Move) × IsPeriod st (x ∷ due) × F (due_after st x due)) (F (due_of st x)) →
    MatchBool b ((due : List Move) × IsPeriod st (x ∷ due) × G (due_after st x due)) (G (due_of st x))
begins_more st x F G f true w = (w.0, w.1, f (due_after st x w.0) w.2)
begins_more st x F G f false w = f (due_of st x) w

continues_more : (st : Stage) (x next : Move) (due : List Move) (F G : List Move → Type 0) →
    ((due : List Move) → F due → G due) → (b : Bool) →
    MatchBool b (F (next ∷ due)) ((x ≡ next) × F (due_after st x due)) →
    MatchBool b (G (next ∷ due)) ((x ≡ next) × G (due_after st x due))
continues_more st x next due F G f true w = f (next ∷ due) w
continues_more st x next due F G f false w = (w.0, f (due_after st x due) w.1)

-- woven lists append
pub woven-append : (st : Stage) (due xs ys : List Move) → IsWoven st due xs → IsWoven (after_moves st xs) [] ys →
    IsWoven st due (xs ++ ys)
woven-append st [] [] ys w k = k
woven-append st (next ∷ due) [] ys w k = absurd w
woven-append st [] (x ∷ xs) ys w k =
    begins_more st x (λ due. IsWoven (after_move st x) due xs) (λ due. IsWoven (after_move st x) due (xs ++ ys))
    (λ due v. woven-append (after_move st x) due xs ys v k) (is_sub_step x) w
woven-append st (next ∷ due) (x ∷ xs) ys w k =
    continues_more st x next due (λ due. IsWoven (after_move st x) due xs)
    (λ due. IsWoven (after_move st x) due (xs ++ ys))
    (λ due v. woven-append (after_move st x) due xs ys v k) (is_data x) w

-- a move that is no sub-step is woven, if nothing is due after it
pub woven_one : (st : Stage) (x : Move) → is_sub_step x ≡ false → due_of st x ≡ [] → IsWoven st [] (x ∷ [])
woven_one st x h d = go (is_sub_step x) h
  where
    go : (b : Bool) → b ≡ false →
        MatchBool b
        ((due : List Move) × IsPeriod st (x ∷ due) × IsWoven (after_move st x) (due_after st x due) [])
        (IsWoven (after_move st x) (due_of st x) [])
    go true e = absurd (true≢false e)
    go false e = subst (λ due. IsWoven (after_move st x) due []) (sym d) tt

-- what is left of a period is woven if it is due
woven_feeds : (st : Stage) (frames : List Frame) (left : List Stream) →
    IsWoven st (feeds_left frames left) (feeds_left frames left)
woven_feeds st frames [] = tt
woven_feeds st frames (s ∷ left) = (refl, woven_feeds (after_move st (of_client s.client (fed frames))) frames left)

woven_hears : (st : Stage) (m : Mixing) (frames : List Frame) (left : List Stream) →
    IsWoven st (hears_left m frames left) (hears_left m frames left)
woven_hears st m frames [] = (refl, tt)
woven_hears st m frames (s ∷ left) = (refl, woven_hears (after_move st (of_client s.client (fed frames))) m frames left)

woven_retires : (st : Stage) (m : Mixing) (frames : List Frame) (hearing left : List Stream) →
    IsWoven st (retires_left m frames hearing left) (retires_left m frames hearing left)
woven_retires st m frames hearing [] = woven_hears st m frames hearing
woven_retires st m frames hearing (s ∷ left) =
    (refl, woven_retires (after_move st (of_client s.client retired)) m frames hearing left)

-- a period of an endpoint that captures is woven
pub woven_captures : (number : ℕ) (frames : List Frame) (st : Stage) → IsWoven st [] (captures number frames st)
woven_captures number frames st =
    woven_feeds (after_move st (captured number frames)) frames (filter (is_recording number) st.streams)

woven_closes : (st : Stage) (m : Mixing) (left : List Stream) → IsWoven st (closes_left m left) (closes_left m left)
woven_closes st m [] = (refl, tt)
woven_closes st m (s ∷ left) = (refl, woven_closes (after_move st (of_client s.client (closed Removal))) m left)

woven_after_sound : (st : Stage) (m : Mixing) (whole : Bool) (at : Stage) →
    IsWoven st (after_sound m whole at) (after_sound m whole at)
woven_after_sound st m true at =
    woven_retires st m (mixed m at.streams) (filter (is_hearing m.endpoint) at.streams)
    (playing_streams_on m.endpoint at)
woven_after_sound st m false at = woven_closes st m (open_streams_on m.endpoint at)

-- the moves of the picks that are left
abbrev picks_of : Mixing → List Stream → List Move
picks_of m left = map (λ s. of_client s.client (picked m.frames)) left

woven_picks : (st : Stage) (m : Mixing) (whole : Bool) (left : List Stream) →
    IsWoven st (picks_left m whole left)
    (picks_of m left ++ sounded m whole ∷ after_sound m whole (after_moves st (picks_of m left)))
woven_picks st m whole [] = (refl, woven_after_sound (after_move st (sounded m whole)) m whole st)
woven_picks st m whole (s ∷ left) =
    (refl, woven_picks (after_move st (of_client s.client (picked m.frames))) m whole left)

-- the sub-steps of a period of an endpoint that is there are woven
woven_begun : (st : Stage) (m : Mixing) (whole : Bool) (e : Playhead) (left : List Stream) →
    playhead_at m.endpoint st ≡ Some e → picks_left m whole left ≡ picks m st ++ sounded m whole ∷ [] →
    IsWoven st [] (picks_of m left ++ sounded m whole ∷ after_sound m whole (after_moves st (picks_of m left)))
woven_begun st m whole e [] t h = (
  [],
  record { mixing = m; whole = whole; playhead = e; there = t; steps_are = h },
  woven_after_sound (after_move st (sounded m whole)) m whole st,
)
woven_begun st m whole e (s ∷ left) t h = (
  picks_left m whole left,
  record { mixing = m; whole = whole; playhead = e; there = t; steps_are = h },
  woven_picks (after_move st (of_client s.client (picked m.frames))) m whole left,
)

pub woven_period : (m : Mixing) (whole : Bool) (e : Playhead) (st : Stage) → playhead_at m.endpoint st ≡ Some e →
    IsWoven st [] (sub_steps m whole st)
woven_period m whole e st t = woven_begun st m whole e (playing_streams_on m.endpoint st) t refl

-- what is told of the streams that pass a test, of streams that were changed without a change to either
pick_same : {A B : Type 0} (g : A → B) (x y : A) (xs ys : List A) (b c : Bool) → b ≡ c → g x ≡ g y →
    map g xs ≡ map g ys → map g (cond b (x ∷ xs) xs) ≡ map g (cond c (y ∷ ys) ys)
pick_same g x y xs ys true true e h k = ap₂ (λ z zs. z ∷ zs) h k
pick_same g x y xs ys false false e h k = k
pick_same g x y xs ys true false e h k = absurd (true≢false e)
pick_same g x y xs ys false true e h k = absurd (false≢true e)

pub map_filter_same : {A B : Type 0} (g : A → B) (test : A → Bool) (f : A → A) → ((a : A) → test (f a) ≡ test a) →
    ((a : A) → g (f a) ≡ g a) → (xs : List A) → map g (filter test (map f xs)) ≡ map g (filter test xs)
map_filter_same g test f t h [] = refl
map_filter_same g test f t h (x ∷ xs) =
    pick_same g (f x) x (filter test (map f xs)) (filter test xs) (test (f x)) (test x) (t x) (h x)
    (map_filter_same g test f t h xs)

-- each moment of a woven list
pub moment : (st : Stage) (due before rest : List Move) → Phase st due → IsStage st → IsWoven st due (before ++ rest) →
    Moment (after_moves st before) rest
moment st due [] rest p h w = record { due = due; phase = p; woven = w }
moment st due (x ∷ before) rest p h w =
    let s = steps (λ st due xs. Unit {0}) st due x (before ++ rest) p h w in
    moment (after_move st x) s.left before rest s.phase (stage_step st x h) s.woven

start : Phase empty_stage []
start = idle (record { due_is = refl; rests = tt })

-- if nothing is left to come, nothing is due
moment_rests : (st : Stage) → Moment st [] → AllByRecursion Rests st.streams
moment_rests st k = go k.due k.phase k.woven
  where
    go : (due : List Move) → Phase st due → IsWoven st due [] → AllByRecursion Rests st.streams
    go [] p w = phase_rests st p
    go (next ∷ due) p w = absurd w

pub rests_between : RestsBetween
rests_between xs w =
    moment_rests (after_moves empty_stage xs)
    (moment empty_stage [] xs [] start empty_is_stage
    (subst (IsWoven empty_stage []) (sym (append-nil xs)) w))

-- the frames of the period that comes first are those of the period that is due
abbrev ends : List Move → Bool
ends [] = false
ends (sounded m whole ∷ due) = true
ends (finished m whole ∷ due) = true
ends (_ ∷ due) = ends due

ahead_data : (x : Move) (xs : List Move) → is_data x ≡ true → frames_ahead (x ∷ xs) ≡ frames_ahead xs
ahead_data (of_client client m) xs d = refl
ahead_data (sounded m whole) xs d = absurd (false≢true d)
ahead_data (finished m whole) xs d = absurd (false≢true d)
ahead_data _ xs d = refl

ahead_next : (st : Stage) (next : Move) (due xs : List Move) → ends (next ∷ due) ≡ true →
    (ends due ≡ true → IsWoven (after_move st next) due xs → frames_ahead xs ≡ frames_ahead due) →
    IsWoven (after_move st next) (due_after st next due) xs → frames_ahead (next ∷ xs) ≡ frames_ahead (next ∷ due)
ahead_next st (sounded m whole) due xs e f w = refl
ahead_next st (finished m whole) due xs e f w = refl
ahead_next st _ due xs e f w = f e w

ahead_by : (st : Stage) (x next : Move) (due xs : List Move) → ends (next ∷ due) ≡ true →
    ((due : List Move) → ends due ≡ true → IsWoven (after_move st x) due xs → frames_ahead xs ≡ frames_ahead due) →
    (b : Bool) → is_data x ≡ b →
    MatchBool b (IsWoven (after_move st x) (next ∷ due) xs)
    ((x ≡ next) × IsWoven (after_move st x) (due_after st x due) xs) →
    frames_ahead (x ∷ xs) ≡ frames_ahead (next ∷ due)
ahead_by st x next due xs e f true d w = ahead_data x xs d ∙ f (next ∷ due) e w
ahead_by st x next due xs e f false d w =
    ahead_next st x due xs (ap (λ y. ends (y ∷ due)) w.0 ∙ e) (f due) w.1 ∙ ap (λ y. frames_ahead (y ∷ due)) w.0

ahead : (st : Stage) (due rest : List Move) → ends due ≡ true → IsWoven st due rest →
    frames_ahead rest ≡ frames_ahead due
ahead st [] rest e w = absurd (false≢true e)
ahead st (next ∷ due) [] e w = absurd w
ahead st (next ∷ due) (x ∷ xs) e w =
    ahead_by st x next due xs e (λ due e w. ahead (after_move st x) due xs e w) (is_data x) refl w

ends_picks : (m : Mixing) (whole : Bool) (left : List Stream) →
    (ends (picks_left m whole left) ≡ true) × (frames_ahead (picks_left m whole left) ≡ m.frames)
ends_picks m whole [] = (refl, refl)
ends_picks m whole (s ∷ left) = ends_picks m whole left

ends_hears : (m : Mixing) (frames : List Frame) (left : List Stream) →
    (ends (hears_left m frames left) ≡ true) × (frames_ahead (hears_left m frames left) ≡ m.frames)
ends_hears m frames [] = (refl, refl)
ends_hears m frames (s ∷ left) = ends_hears m frames left

ends_retires : (m : Mixing) (frames : List Frame) (hearing left : List Stream) →
    (ends (retires_left m frames hearing left) ≡ true)
    × (frames_ahead (retires_left m frames hearing left) ≡ m.frames)
ends_retires m frames hearing [] = ends_hears m frames hearing
ends_retires m frames hearing (s ∷ left) = ends_retires m frames hearing left

ends_closes : (m : Mixing) (left : List Stream) →
    (ends (closes_left m left) ≡ true) × (frames_ahead (closes_left m left) ≡ m.frames)
ends_closes m [] = (refl, refl)
ends_closes m (s ∷ left) = ends_closes m left

may_fit : (m : Mixing) (s : Stream) → MayBePicked m s → s.picked ≤ m.frames
may_fit m s (inl z) = omega arith
may_fit m s (inr p) = p.fits

left_fit : (m : Mixing) (left : List Stream) (s : Stream) → MayBeLeft m left s → s.picked ≤ m.frames
left_fit m left s (inl z) = omega arith
left_fit m left s (inr p) = p.0.fits

-- of the period that is due
abbrev FitsAhead : List Move → Stream → Type 0
FitsAhead rest s = s.picked ≤ frames_ahead rest

fits_by : (m : Mixing) (due rest : List Move) (left : List Move) (st : Stage) → due ≡ left →
    (ends left ≡ true) × (frames_ahead left ≡ m.frames) → IsWoven st due rest →
    AllByRecursion (λ s. s.picked ≤ m.frames) st.streams → AllByRecursion (FitsAhead rest) st.streams
fits_by m due rest left st d p w h =
    let e : frames_ahead rest ≡ m.frames = ahead st due rest (ap ends d ∙ p.0) w ∙ ap frames_ahead d ∙ p.1 in
    all_weaker (λ s. s.picked ≤ m.frames) (FitsAhead rest) (λ s l. omega arith) st.streams h

rests_fit : (rest : List Move) (streams : List Stream) → AllByRecursion Rests streams →
    AllByRecursion (FitsAhead rest) streams
rests_fit rest streams h = all_weaker Rests (FitsAhead rest) (λ s z. omega arith) streams h

phase_fits : (st : Stage) (due rest : List Move) → Phase st due → IsWoven st due rest →
    AllByRecursion (FitsAhead rest) st.streams
phase_fits st due rest (idle k) w = rests_fit rest st.streams k.rests
phase_fits st due rest (feeding m e frames left k) w = rests_fit rest st.streams k.rests
phase_fits st due rest (recording frames left k) w = rests_fit rest st.streams k.rests
phase_fits st due rest (picking m e whole left k) w =
    fits_by m due rest (picks_left m whole left) st k.due_is (ends_picks m whole left) w
    (all_weaker (MayBePicked m) (λ s. s.picked ≤ m.frames) (may_fit m) st.streams k.held)
phase_fits st due rest (retiring m e frames hearing left k) w =
    fits_by m due rest (retires_left m frames hearing left) st k.due_is (ends_retires m frames hearing left) w
    (all_weaker (MayBeLeft m left) (λ s. s.picked ≤ m.frames) (left_fit m left) st.streams k.held)
phase_fits st due rest (closing m left k) w =
    fits_by m due rest (closes_left m left) st k.due_is (ends_closes m left) w
    (all_weaker (MayBeLeft m left) (λ s. s.picked ≤ m.frames) (left_fit m left) st.streams k.held)

pub picks_fit : PicksFit
picks_fit before rest w =
    let k = moment empty_stage [] before rest start empty_is_stage w in
    phase_fits (after_moves empty_stage before) k.due rest k.phase k.woven
