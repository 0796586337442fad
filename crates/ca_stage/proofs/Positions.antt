-- A stream's position is how many of its frames were rendered since its last Reset.
use Rattle.std.proofs.Common.{◌≡◌, ℕ, ◌+◌, ◌||◌, List, [], ◌∷◌, take, Bool, true, false, Option, Some, None, refl, sym}
use Rattle.std.proofs.Common.{ap, ap₂, ◌∙◌, arith, count_by, if◌then◌else◌, zero-add}
use Rattle.std.proofs.lemmas.Bool.{false≢true, or_right}
use Rattle.ca_stage.specs.Stage.{empty_stage, Stream, Stage}
use Rattle.ca_stage.specs.Moves.{StreamMove, reset, closed, retired, Move, of_client, moved, is_open_of, stream_after}
use Rattle.ca_stage.specs.Moves.{after_move, after_moves, stream_at}
use Rattle.ca_stage.specs.Fates.{Dropped, of_found, fates_given, fated_by, next_of, fates, is_open_in, resets}
use Rattle.ca_stage.specs.Fates.{has_reset, fates_since, is_rendered}
use Rattle.ca_stage.specs.Order.{IsHeld, IsStage}
use Rattle.ca_stage.specs.Laws.{Positions}
use Rattle.ca_stage.proofs.Lists.{all_found, chosen}
use Rattle.ca_stage.proofs.Streams.{is_of, moved_there, came, Comes, absent, present}
use Rattle.ca_stage.proofs.StageHolds.{stage_step, empty_is_stage}
use Rattle.ca_stage.proofs.Counting.{more_by, same_by, count-append, count-rendered_from, count-map, retired_frames}

-- the position of a stream, 0 if there is none
abbrev position_in : Option Stream → ℕ
position_in None = 0
position_in (Some s) = s.position

abbrev is_reset_move : StreamMove → Bool
is_reset_move reset = true
is_reset_move _ = false

-- a move that is no Reset adds what it renders
position_moved : (m : StreamMove) (next : ℕ) (s : Stream) → IsHeld s → is_reset_move m ≡ false →
    (moved m s).position ≡ s.position + count_by is_rendered (fates_given m next s)
position_moved retired next s h r =
    more_by s.position
    (count-rendered_from is_rendered true (λ n p. refl) s.endpoint next (take s.picked s.buffer_data.pending)
    ∙ retired_frames s h)
position_moved (closed reason) next s h r =
    same_by s.position (count-map is_rendered false (λ frame. Dropped reason) (λ frame. refl) s.buffer_data.pending)
position_moved reset next s h r = absurd (false≢true (sym r))
position_moved _ next s h r = omega arith

by_choice : (client : ℕ) (m : StreamMove) (st : Stage) (s : Stream) (b : Bool) → IsHeld s → is_reset_move m ≡ false →
    (if b then moved m s else s).position
    ≡ s.position + count_by is_rendered (if b then fates_given m (next_of s.endpoint st) s else [])
by_choice client m st s true h r = position_moved m (next_of s.endpoint st) s h r
by_choice client m st s false h r = omega arith

by_reset : (st : Stage) (s : Stream) (b : Bool) → b ≡ false →
    (if b then moved reset s else s).position
    ≡ s.position + count_by is_rendered (if b then fates_given reset (next_of s.endpoint st) s else [])
by_reset st s true e = absurd (false≢true (sym e))
by_reset st s false e = omega arith

position_after : (n : ℕ) (st : Stage) (x : Move) (s : Stream) → stream_at n st ≡ Some s → IsHeld s →
    resets n st x ≡ false → (stream_after x s).position ≡ s.position + count_by is_rendered (fated_by st x s)
position_after n st (of_client client reset) s e h r =
    by_reset st s (is_open_of client s) (ap (λ o. is_open_in o client) (sym e) ∙ r)
position_after n st (of_client client m) s e h r = by_choice client m st s (is_open_of client s) h refl
position_after n st _ s e h r = omega arith

none_positioned : (o : Option Stream) → Comes o → position_in o ≡ 0
none_positioned o (absent e) = ap position_in e
none_positioned o (present new e) = ap position_in e

step_adds : (n : ℕ) (st : Stage) (x : Move) → IsStage st → resets n st x ≡ false → (o : Option Stream) →
    stream_at n st ≡ o →
    position_in (stream_at n (after_move st x)) ≡ position_in o + count_by is_rendered (of_found (fated_by st x) o)
step_adds n st x h r None e = none_positioned (stream_at n (after_move st x)) (came n st x e)
step_adds n st x h r (Some s) e =
    ap position_in (moved_there n st x s e)
    ∙ position_after n st x s e (all_found IsHeld (is_of n) st.streams s h.held e) r

-- a Reset begins again
reset_here : (n client : ℕ) (st : Stage) (o : Option Stream) → stream_at n st ≡ o → is_open_in o client ≡ true →
    position_in (stream_at n (after_move st (of_client client reset))) ≡ 0
reset_here n client st None e r = absurd (false≢true r)
reset_here n client st (Some s) e r =
    ap position_in (moved_there n st (of_client client reset) s e)
    ∙ ap (λ b. (if b then moved reset s else s).position) r

step_resets : (n : ℕ) (st : Stage) (x : Move) → resets n st x ≡ true →
    position_in (stream_at n (after_move st x)) ≡ 0
step_resets n st (of_client client reset) r = reset_here n client st (stream_at n st) refl r
step_resets n st (of_client client m) r = absurd (false≢true r)
step_resets n st _ r = absurd (false≢true r)

-- if no Reset comes, all fates are since the last one
since_none : (n : ℕ) (st : Stage) (xs : List Move) → has_reset n st xs ≡ false → fates_since n st xs ≡ fates n st xs
since_none n st [] h = refl
since_none n st (x ∷ xs) h =
    ap (λ b. if b then fates_since n (after_move st x) xs else fates n st (x ∷ xs)) h

-- what a stream begins with counts until a Reset comes
abbrev start_of : ℕ → Stage → List Move → ℕ
start_of n st xs = if has_reset n st xs then 0 else position_in (stream_at n st)

later_reset : (n : ℕ) (st : Stage) (x : Move) (xs : List Move) → resets n st x ≡ true →
    start_of n st (x ∷ xs) + count_by is_rendered (fates_since n st (x ∷ xs))
    ≡ count_by is_rendered (fates_since n (after_move st x) xs)
later_reset n st x xs r =
    ap₂ (λ a fs. a + count_by is_rendered fs)
    (ap (λ b. if b then 0 else position_in (stream_at n st)) here)
    (ap (λ b. if b then fates_since n (after_move st x) xs else fates n st (x ∷ xs)) here)
    ∙ zero-add _
  where
    here : has_reset n st (x ∷ xs) ≡ true
    here = ap (λ b. b || has_reset n (after_move st x) xs) r

position_cons : (n : ℕ) (st : Stage) (x : Move) (xs : List Move) → IsStage st → (b c : Bool) →
    resets n st x ≡ b → has_reset n (after_move st x) xs ≡ c →
    start_of n (after_move st x) xs + count_by is_rendered (fates_since n (after_move st x) xs)
    ≡ start_of n st (x ∷ xs) + count_by is_rendered (fates_since n st (x ∷ xs))
position_cons n st x xs h b true r l =
    ap (λ b. (if b then 0 else position_in (stream_at n (after_move st x)))
    + count_by is_rendered (fates_since n (after_move st x) xs)) l
    ∙ sym (ap₂ (λ a fs. a + count_by is_rendered fs)
    (ap (λ b. if b then 0 else position_in (stream_at n st)) here)
    (ap (λ b. if b then fates_since n (after_move st x) xs else fates n st (x ∷ xs)) here))
  where
    here : has_reset n st (x ∷ xs) ≡ true
    here = ap₂ (λ a b. a || b) r l ∙ or_right b true refl
position_cons n st x xs h true false r l =
    ap (λ b. (if b then 0 else position_in (stream_at n (after_move st x)))
    + count_by is_rendered (fates_since n (after_move st x) xs)) l
    ∙ ap (λ k. k + count_by is_rendered (fates_since n (after_move st x) xs)) (step_resets n st x r) ∙ zero-add _
    ∙ sym (later_reset n st x xs r)
position_cons n st x xs h false false r l =
    ap₂ (λ b fs. (if b then 0 else position_in (stream_at n (after_move st x))) + count_by is_rendered fs) l
    (since_none n (after_move st x) xs l)
    ∙ ap (λ k. k + count_by is_rendered (fates n (after_move st x) xs)) (step_adds n st x h r (stream_at n st) refl)
    ∙ regroup _ _ _ _
    (count-append is_rendered (of_found (fated_by st x) (stream_at n st)) (fates n (after_move st x) xs))
    ∙ sym (ap₂ (λ a fs. a + count_by is_rendered fs)
    (ap (λ b. if b then 0 else position_in (stream_at n st)) none)
    (ap (λ b. if b then fates_since n (after_move st x) xs else fates n st (x ∷ xs)) none))
  where
    none : has_reset n st (x ∷ xs) ≡ false
    none = ap₂ (λ a b. a || b) r l

    regroup : (p a b c : ℕ) → c ≡ a + b → (p + a) + b ≡ p + c
    regroup p a b c e = omega arith

pub position_all : (n : ℕ) (st : Stage) (xs : List Move) → IsStage st →
    position_in (stream_at n (after_moves st xs))
    ≡ start_of n st xs + count_by is_rendered (fates_since n st xs)
position_all n st [] h = omega arith
position_all n st (x ∷ xs) h =
    position_all n (after_move st x) xs (stage_step st x h)
    ∙ position_cons n st x xs h (resets n st x) (has_reset n (after_move st x) xs) refl refl

no_start : (n : ℕ) (xs : List Move) → start_of n empty_stage xs ≡ 0
no_start n xs = chosen (λ k. k ≡ 0) (has_reset n empty_stage xs) 0 0 refl refl

pub positions : Positions
positions n s xs e =
    sym (ap position_in e) ∙ position_all n empty_stage xs empty_is_stage
    ∙ ap (λ k. k + count_by is_rendered (fates_since n empty_stage xs)) (no_start n xs) ∙ zero-add _
