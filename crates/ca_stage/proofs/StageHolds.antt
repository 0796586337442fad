-- What holds of a stage at any moment: streams rise, a closed one is still, what is picked is there, frames are frames.
use Rattle.std.proofs.Common.{◌≡◌, ℕ, zero, suc, ◌≤◌, ◌==◌, List, [], ◌∷◌, ◌++◌, length, drop, true, false, Some, refl}
use Rattle.std.proofs.Common.{sym, ap, ◌∙◌, subst, length-append, arith, eqb-true}
use Rattle.std.proofs.lemmas.Bool.{true≢false, and_parts}
use Rattle.std.specs.List.{AllByRecursion}
use Rattle.ca_stage.specs.Stage.{empty_stage, Frame, Stream, Stage, is_open}
use Rattle.ca_stage.specs.Moves.{StreamMove, leased, released, read, started, stopped, reset, closed, picked, retired}
use Rattle.ca_stage.specs.Moves.{fed, Move, of_client, moved, is_open_of, stream_after, as_opened, after_move}
use Rattle.ca_stage.specs.Moves.{after_moves, stream_at}
use Rattle.ca_stage.specs.Fates.{frames_handed}
use Rattle.ca_stage.specs.Order.{clients, AreDistinct, RisesFrom, IsStill, IsSettled, IsHeld, IsStage, AreFrames}
use Rattle.ca_stage.specs.Order.{HasFrames, FitsStream, ReleasesFrames, AllReleaseFrames}
use Rattle.ca_stage.specs.Laws.{ClosedIsEmpty, StageHolds, FramesFit}
use Rattle.ca_stage.proofs.Lists.{chosen_by, all-append, all_both, all_found}
use Rattle.ca_stage.proofs.Streams.{after_carries, all_step, is_of}
use Rattle.ca_stage.proofs.Clients.{rises_step, rising_distinct, each_found}
use Rattle.ca_stage.proofs.Playheads.{playheads_distinct}

settled_moved : (m : StreamMove) (s : Stream) → is_open s ≡ true → IsSettled s → IsSettled (moved m s)
settled_moved (closed reason) s o h e =
    record { empty = refl; no_packets = refl; rests = refl; unpicked = refl }
settled_moved _ s o h e = absurd (true≢false (sym o ∙ e))

held_more : (k : ℕ) (xs ys : List Frame) → k ≤ length xs → k ≤ length (xs ++ ys)
held_more k xs ys h = let e = length-append xs ys in omega arith

pub held_moved : (m : StreamMove) (s : Stream) → is_open s ≡ true → IsHeld s → IsHeld (moved m s)
held_moved (released frames) s o h = held_more s.picked s.buffer_data.pending frames h
held_moved (leased n) s o h = h
held_moved (read n) s o h = h
held_moved (fed frames) s o h = h
held_moved started s o h = h
held_moved stopped s o h = h
held_moved _ s o h = omega arith

settled_new : (new : Stream) → IsSettled (as_opened new)
settled_new new e = absurd (true≢false e)

held_new : (new : Stream) → IsHeld (as_opened new)
held_new new = omega arith

pub stage_step : (st : Stage) (x : Move) → IsStage st → IsStage (after_move st x)
stage_step st x h = record {
  rising = rises_step st x h.rising;
  playheads = playheads_distinct st x h.playheads;
  settled = all_step IsSettled IsSettled st x (after_carries IsSettled settled_moved x) settled_new h.settled;
  held = all_step IsHeld IsHeld st x (after_carries IsHeld held_moved x) held_new h.held;
}

pub stage_after : (st : Stage) (xs : List Move) → IsStage st → IsStage (after_moves st xs)
stage_after st [] h = h
stage_after st (x ∷ xs) h = stage_after (after_move st x) xs (stage_step st x h)

pub empty_is_stage : IsStage empty_stage
empty_is_stage = record { rising = tt; playheads = tt; settled = tt; held = tt }

pub stage_holds : StageHolds
stage_holds xs = stage_after empty_stage xs empty_is_stage

-- a stream that is found is still once it is closed
pub found_still : (n : ℕ) (st : Stage) (s : Stream) → IsStage st → stream_at n st ≡ Some s → is_open s ≡ false →
    IsStill s
found_still n st s h e c = all_found IsSettled (is_of n) st.streams s h.settled e c

pub closed_is_empty : ClosedIsEmpty
closed_is_empty n s xs e c = ap length (found_still n (after_moves empty_stage xs) s (stage_holds xs) e c).empty

-- frames of its channels are released to each stream
all-drop : (P : Frame → Type 0) (k : ℕ) (xs : List Frame) → AllByRecursion P xs → AllByRecursion P (drop k xs)
all-drop P zero xs h = h
all-drop P (suc k) [] h = tt
all-drop P (suc k) (x ∷ xs) h = all-drop P k xs h.1

frames_moved : (m : StreamMove) (s : Stream) → AreFrames s.channels (frames_handed m) → HasFrames s →
    HasFrames (moved m s)
frames_moved (released frames) s f h = all-append _ s.buffer_data.pending frames h f
frames_moved (leased n) s f h = h
frames_moved (read n) s f h = h
frames_moved (fed fs) s f h = h
frames_moved started s f h = h
frames_moved stopped s f h = h
frames_moved reset s f h = tt
frames_moved (closed reason) s f h = tt
frames_moved (picked n) s f h = h
frames_moved retired s f h = all-drop _ s.picked s.buffer_data.pending h

handed_fit : (m : StreamMove) (client : ℕ) (st : Stage) (s : Stream) → stream_at client st ≡ Some s →
    ReleasesFrames st (of_client client m) → AreFrames s.channels (frames_handed m)
handed_fit (released frames) client st s e r = subst (FitsStream frames) e r
handed_fit _ client st s e r = tt

frames_after : (st : Stage) (x : Move) (s : Stream) → ReleasesFrames st x → stream_at s.client st ≡ Some s →
    HasFrames s →
    HasFrames (stream_after x s)
frames_after st (of_client client m) s r e h =
    chosen_by HasFrames (is_open_of client s) (moved m s) s
    (λ o. frames_moved m s (handed_fit m client st s (here o) r) h) (λ o. h)
  where
    here : is_open_of client s ≡ true → stream_at client st ≡ Some s
    here o =
        ap (λ n. stream_at n st) (sym (eqb-true s.client client (and_parts (s.client == client) (is_open s) o).0)) ∙ e
frames_after st _ s r e h = h

frames_step : (st : Stage) (x : Move) → AreDistinct (clients st) → ReleasesFrames st x →
    AllByRecursion HasFrames st.streams → AllByRecursion HasFrames (after_move st x).streams
frames_step st x d r h =
    all_step (λ s. HasFrames s × (stream_at s.client st ≡ Some s)) HasFrames st x
    (λ s p. frames_after st x s r p.1 p.0) (λ new. tt)
    (all_both HasFrames (λ s. stream_at s.client st ≡ Some s) (λ s. HasFrames s × (stream_at s.client st ≡ Some s))
    (λ s a b. (a, b)) st.streams h (each_found st.streams d))

pub frames_stay : (st : Stage) (xs : List Move) → RisesFrom 0 (clients st) → AllReleaseFrames st xs →
    AllByRecursion HasFrames st.streams → AllByRecursion HasFrames (after_moves st xs).streams
frames_stay st [] d r h = h
frames_stay st (x ∷ xs) d r h =
    frames_stay (after_move st x) xs (rises_step st x d) r.1 (frames_step st x (rising_distinct 0 _ d) r.0 h)

pub frames_fit : FramesFit
frames_fit xs r = frames_stay empty_stage xs tt r tt
