-- The sub-steps of a period, one after another: what each finds, and the phase after it.
use Rattle.std.proofs.Common.{◌≡◌, ℕ, ◌==◌, ◌&&◌, ◌||◌, ◌⊎◌, inl, inr, List, [], ◌∷◌, filter, Bool, true, false}
use Rattle.std.proofs.Common.{Option, Some, None, refl, sym, ap, ◌∙◌, subst, arith, eqb-true, eq-eqb}
use Rattle.std.proofs.lemmas.Bool.{false≢true, or_left, or_right, and_parts, and_from, both_ways, cases_Bool}
use Rattle.std.specs.List.{AllByRecursion}
use Rattle.ca_base.specs.declared.ids.Reason.TheVariants.{Removal}
use Rattle.ca_stage.specs.Stage.{Frame, Stream, Playhead, Stage, is_open, is_render}
use Rattle.ca_stage.specs.Moves.{StreamMove, closed, picked, retired, fed, Move, of_client, sounded, finished, captured}
use Rattle.ca_stage.specs.Moves.{Mixing, moved, is_open_of, stream_after, has_stream, after_move, playhead_at}
use Rattle.ca_stage.specs.Periods.{is_playing, is_open_on, is_hearing, is_recording, playing_streams_on}
use Rattle.ca_stage.specs.Periods.{open_streams_on, after_sound}
use Rattle.ca_stage.specs.Mix.{mixed}
use Rattle.ca_stage.specs.Woven.{due_after, due_of}
use Rattle.ca_stage.specs.Order.{Rests}
use Rattle.ca_stage.proofs.Lists.{chosen_by, all-map, all_weaker, all_both, cons_parts}
use Rattle.ca_stage.proofs.Playheads.{playhead_stays}
use Rattle.ca_stage.proofs.Phases.{MayBePicked, MayBeLeft, PlaysIfLeft, picks_left, feeds_left, hears_left}
use Rattle.ca_stage.proofs.Phases.{retires_left, closes_left, IsPicking, IsRetiring, IsFeeding, IsRecording, IsClosing}
use Rattle.ca_stage.proofs.Phases.{Phase, idle, picking, retiring, feeding, recording, closing, passing_in, all_moved}

-- the mixing of the whole Sound of the period that is under way, once it was made
abbrev pub in_air : List Move → Option Mixing
in_air [] = None
in_air (of_client client retired ∷ due) = in_air due
in_air (of_client client (fed frames) ∷ due) = in_air due
in_air (finished m true ∷ due) = Some m
in_air (_ ∷ due) = None

pub air_feeding : (m : Mixing) (frames : List Frame) (left : List Stream) → in_air (hears_left m frames left) ≡ Some m
air_feeding m frames [] = refl
air_feeding m frames (s ∷ left) = air_feeding m frames left

pub air_retiring : (m : Mixing) (frames : List Frame) (hearing left : List Stream) →
    in_air (retires_left m frames hearing left) ≡ Some m
air_retiring m frames hearing [] = air_feeding m frames hearing
air_retiring m frames hearing (s ∷ left) = air_retiring m frames hearing left

pub air_recording : (frames : List Frame) (left : List Stream) → in_air (feeds_left frames left) ≡ None
air_recording frames [] = refl
air_recording frames (s ∷ left) = air_recording frames left

-- after a move that is no sub-step no Sound is in the air
pub air_of_due : (st : Stage) (x : Move) → in_air (due_of st x) ≡ None
air_of_due st (captured number frames) = air_recording frames (filter (is_recording number) st.streams)
air_of_due st _ = refl

pub air_closing : (m : Mixing) (left : List Stream) → in_air (closes_left m left) ≡ None
air_closing m [] = refl
air_closing m (s ∷ left) = refl

pub air_picking : (m : Mixing) (whole : Bool) (left : List Stream) → in_air (picks_left m whole left) ≡ None
air_picking m whole [] = refl
air_picking m whole (s ∷ left) = refl

-- after a whole Sound its mixing is in the air
pub air_sounded : (m : Mixing) (st : Stage) → in_air (after_sound m true st) ≡ Some m
air_sounded m st =
    air_retiring m (mixed m st.streams) (filter (is_hearing m.endpoint) st.streams)
    (playing_streams_on m.endpoint st)

-- what a sub-step finds, with what is due behind it
pub data SubStep (st : Stage) (x : Move) (due : List Move) : Type 0 where
  picks_one : (n k : ℕ) → x ≡ of_client n (picked k) → in_air due ≡ None → SubStep st x due
  sounds_whole : (m : Mixing) (e : Playhead) → playhead_at m.endpoint st ≡ Some e → x ≡ sounded m true →
      AllByRecursion (MayBePicked m) st.streams → SubStep st x due
  sounds_failed : (m : Mixing) → x ≡ sounded m false → SubStep st x due
  retires_one : (m : Mixing) (e : Playhead) (n : ℕ) → playhead_at m.endpoint st ≡ Some e → x ≡ of_client n retired →
      in_air due ≡ Some m → AllByRecursion (MayBePicked m) st.streams → SubStep st x due
  feeds_one : (n : ℕ) (frames : List Frame) → x ≡ of_client n (fed frames) → SubStep st x due
  closes_one : (n : ℕ) → x ≡ of_client n (closed Removal) → in_air due ≡ None → SubStep st x due
  finishes_whole : (m : Mixing) (e : Playhead) → playhead_at m.endpoint st ≡ Some e → x ≡ finished m true →
      due ≡ [] → AllByRecursion Rests st.streams → SubStep st x due
  finishes_failed : (m : Mixing) → x ≡ finished m false → due ≡ [] → SubStep st x due

pub record Goes (st : Stage) (x : Move) (due : List Move) : Type 0 where
  pub sub_step : SubStep st x due
  pub phase : Phase (after_move st x) (due_after st x due)

-- Pick
same_client : (s t : Stream) → is_open_of t.client s ≡ true → (t.client == s.client) ≡ true
same_client s t o =
    eq-eqb t.client s.client
    (sym (eqb-true s.client t.client (and_parts (s.client == t.client) (is_open s) o).0))

pick_may : (m : Mixing) (t : Stream) (left : List Stream) (s : Stream) → MayBePicked m s → PlaysIfLeft m (t ∷ left) s →
    MayBePicked m (stream_after (of_client t.client (picked m.frames)) s)
pick_may m t left s h p =
    chosen_by (MayBePicked m) (is_open_of t.client s) (moved (picked m.frames) s) s
    (λ o. inr (record {
      plays = p (or_left (t.client == s.client) (has_stream s.client left) (same_client s t o));
      fits = omega arith;
    })) (λ o. h)

pick_plays : (m : Mixing) (t : Stream) (left : List Stream) (s : Stream) → PlaysIfLeft m (t ∷ left) s →
    PlaysIfLeft m left (stream_after (of_client t.client (picked m.frames)) s)
pick_plays m t left s p =
    chosen_by (PlaysIfLeft m left) (is_open_of t.client s) (moved (picked m.frames) s) s
    (λ o k. p (or_right (t.client == s.client) (has_stream s.client left) k))
    (λ o k. p (or_right (t.client == s.client) (has_stream s.client left) k))

pick_step : (st : Stage) (due : List Move) (m : Mixing) (e : Playhead) (whole : Bool) (t : Stream) (left : List Stream)
    →
    playhead_at m.endpoint st ≡ Some e → due ≡ picks_left m whole left → AllByRecursion (MayBePicked m) st.streams →
    AllByRecursion (PlaysIfLeft m (t ∷ left)) st.streams → Goes st (of_client t.client (picked m.frames)) due
pick_step st due m e whole t left there d held plays = record {
  sub_step = picks_one t.client m.frames refl (ap in_air d ∙ air_picking m whole left);
  phase = picking m e whole left (record {
    there = playhead_stays m.endpoint st (of_client t.client (picked m.frames)) refl ∙ there;
    due_is = d;
    held =
        all-map (λ s. MayBePicked m s × PlaysIfLeft m (t ∷ left) s) (MayBePicked m)
        (stream_after (of_client t.client (picked m.frames))) (λ s h. pick_may m t left s h.0 h.1) st.streams
        (all_both (MayBePicked m) (PlaysIfLeft m (t ∷ left)) (λ s. MayBePicked m s × PlaysIfLeft m (t ∷ left) s)
        (λ s a b. (a, b)) st.streams held plays);
    plays =
        all-map (PlaysIfLeft m (t ∷ left)) (PlaysIfLeft m left) (stream_after (of_client t.client (picked m.frames)))
        (pick_plays m t left) st.streams plays;
  });
}

-- Sound
left_playing : (m : Mixing) (all : List Stream) (s : Stream) → MayBePicked m s →
    (is_playing m.endpoint s ≡ true → has_stream s.client all ≡ true) → MayBeLeft m all s
left_playing m all s (inl z) f = inl z
left_playing m all s (inr p) f = inr (p, f p.plays)

pub plays_on : (number : ℕ) (s : Stream) → is_playing number s ≡ true → is_open_on number s ≡ true
plays_on number s h =
    let p = and_parts (s.endpoint == number) (is_open s && (s.running && is_render s.kind)) h in
    and_from (s.endpoint == number) (is_open s) p.0 (and_parts (is_open s) (s.running && is_render s.kind) p.1).0

pub plays_open : (number : ℕ) (s : Stream) → is_playing number s ≡ true → is_open s ≡ true
plays_open number s h = (and_parts (s.endpoint == number) (is_open s) (plays_on number s h)).1

pub plays_there : (number : ℕ) (s : Stream) → is_playing number s ≡ true → s.endpoint ≡ number
plays_there number s h =
    eqb-true s.endpoint number
    (and_parts (s.endpoint == number) (is_open s && (s.running && is_render s.kind)) h).0

sound_step : (st : Stage) (due : List Move) (m : Mixing) (e : Playhead) (whole : Bool) →
    playhead_at m.endpoint st ≡ Some e → AllByRecursion (MayBePicked m) st.streams → Goes st (sounded m whole) due
sound_step st due m e true there held = record {
  sub_step = sounds_whole m e there refl held;
  phase = retiring m e (mixed m st.streams) (filter (is_hearing m.endpoint) st.streams) all (record {
    there = playhead_stays m.endpoint st (sounded m true) refl ∙ there;
    due_is = refl;
    held =
        all-map (MayBeLeft m all) (MayBeLeft m all) (stream_after (sounded m true)) (λ s h. h) st.streams
        (all_both (MayBePicked m) (λ s. is_playing m.endpoint s ≡ true → has_stream s.client all ≡ true)
        (MayBeLeft m all) (left_playing m all) st.streams held (passing_in (is_playing m.endpoint) st.streams));
  });
}
  where
    all : List Stream
    all = playing_streams_on m.endpoint st
sound_step st due m e false there held = record {
  sub_step = sounds_failed m refl;
  phase = closing m (open_streams_on m.endpoint st) (record {
    due_is = refl;
    held =
        all-map (MayBeLeft m (open_streams_on m.endpoint st)) (MayBeLeft m (open_streams_on m.endpoint st))
        (stream_after (sounded m false)) (λ s h. h) st.streams
        (all_both (MayBePicked m)
        (λ s. is_open_on m.endpoint s ≡ true → has_stream s.client (open_streams_on m.endpoint st) ≡ true)
        (MayBeLeft m (open_streams_on m.endpoint st))
        (λ s h f. left_playing m (open_streams_on m.endpoint st) s h (λ p. f (plays_on m.endpoint s p))) st.streams
        held (passing_in (is_open_on m.endpoint) st.streams));
  });
}

-- Retire and Close
still_left : (m : Mixing) (t : Stream) (left : List Stream) (s : Stream) → is_open_of t.client s ≡ false →
    MayBeLeft m (t ∷ left) s → MayBeLeft m left s
still_left m t left s n (inl z) = inl z
still_left m t left s n (inr p) = inr (p.0, go (cases_Bool (t.client == s.client)) p.1)
  where
    go : (((t.client == s.client) ≡ true) ⊎ ((t.client == s.client) ≡ false)) →
        has_stream s.client (t ∷ left) ≡ true → has_stream s.client left ≡ true
    go (inl h) k =
        absurd (both_ways (is_open_of t.client s) n
        (and_from (s.client == t.client) (is_open s)
        (eq-eqb s.client t.client (sym (eqb-true t.client s.client h))) (plays_open m.endpoint s p.0.plays)))
    go (inr h) k = sym (ap (λ b. b || has_stream s.client left) h) ∙ k

rests_or_left : (m : Mixing) (t : Stream) (left : List Stream) (move : StreamMove) →
    ((s : Stream) → Rests (moved move s)) → (s : Stream) → MayBeLeft m (t ∷ left) s →
    MayBeLeft m left (stream_after (of_client t.client move) s)
rests_or_left m t left move z s h =
    chosen_by (MayBeLeft m left) (is_open_of t.client s) (moved move s) s
    (λ o. inl (z s)) (λ o. still_left m t left s o h)

forget_left : (m : Mixing) (left : List Stream) (s : Stream) → MayBeLeft m left s → MayBePicked m s
forget_left m left s (inl z) = inl z
forget_left m left s (inr p) = inr p.0

retire_step : (st : Stage) (due : List Move) (m : Mixing) (e : Playhead) (frames : List Frame) (hearing : List Stream)
    (t : Stream) (left : List Stream) → playhead_at m.endpoint st ≡ Some e →
    due ≡ retires_left m frames hearing left → AllByRecursion (MayBeLeft m (t ∷ left)) st.streams →
    Goes st (of_client t.client retired) due
retire_step st due m e frames hearing t left there d held = record {
  sub_step =
      retires_one m e t.client there refl (ap in_air d ∙ air_retiring m frames hearing left)
      (all_weaker (MayBeLeft m (t ∷ left)) (MayBePicked m) (forget_left m (t ∷ left)) st.streams held);
  phase = retiring m e frames hearing left (record {
    there = playhead_stays m.endpoint st (of_client t.client retired) refl ∙ there;
    due_is = d;
    held =
        all-map (MayBeLeft m (t ∷ left)) (MayBeLeft m left) (stream_after (of_client t.client retired))
        (rests_or_left m t left retired (λ s. refl)) st.streams held;
  });
}

close_step : (st : Stage) (due : List Move) (m : Mixing) (t : Stream) (left : List Stream) → due ≡ closes_left m left →
    AllByRecursion (MayBeLeft m (t ∷ left)) st.streams → Goes st (of_client t.client (closed Removal)) due
close_step st due m t left d held = record {
  sub_step = closes_one t.client refl (ap in_air d ∙ air_closing m left);
  phase = closing m left (record {
    due_is = d;
    held =
        all-map (MayBeLeft m (t ∷ left)) (MayBeLeft m left) (stream_after (of_client t.client (closed Removal)))
        (rests_or_left m t left (closed Removal) (λ s. refl)) st.streams held;
  });
}

-- Feed
fed_rests : (n : ℕ) (frames : List Frame) (st : Stage) → AllByRecursion Rests st.streams →
    AllByRecursion Rests (after_move st (of_client n (fed frames))).streams
fed_rests n frames st h = all_moved Rests Rests st n (fed frames) (λ s z. z) (λ s z. z) h

feed_step : (st : Stage) (due : List Move) (m : Mixing) (e : Playhead) (frames : List Frame) (t : Stream)
    (left : List Stream) → playhead_at m.endpoint st ≡ Some e → due ≡ hears_left m frames left →
    AllByRecursion Rests st.streams → Goes st (of_client t.client (fed frames)) due
feed_step st due m e frames t left there d rests = record {
  sub_step = feeds_one t.client frames refl;
  phase = feeding m e frames left (record {
    there = playhead_stays m.endpoint st (of_client t.client (fed frames)) refl ∙ there;
    due_is = d;
    rests = fed_rests t.client frames st rests;
  });
}

record_step : (st : Stage) (due : List Move) (frames : List Frame) (t : Stream) (left : List Stream) →
    due ≡ feeds_left frames left → AllByRecursion Rests st.streams → Goes st (of_client t.client (fed frames)) due
record_step st due frames t left d rests = record {
  sub_step = feeds_one t.client frames refl;
  phase = recording frames left (record { due_is = d; rests = fed_rests t.client frames st rests });
}

-- Finish
none_left : (m : Mixing) (s : Stream) → MayBeLeft m [] s → Rests s
none_left m s (inl z) = z
none_left m s (inr p) = absurd (false≢true p.1)

finish_step : (st : Stage) (due : List Move) (m : Mixing) (e : Playhead) → playhead_at m.endpoint st ≡ Some e →
    due ≡ [] → AllByRecursion Rests st.streams → Goes st (finished m true) due
finish_step st due m e there d rests = record {
  sub_step = finishes_whole m e there refl d rests;
  phase = idle (record {
    due_is = d;
    rests = all-map Rests Rests (stream_after (finished m true)) (λ s z. z) st.streams rests;
  });
}

fail_step : (st : Stage) (due : List Move) (m : Mixing) → due ≡ [] → AllByRecursion (MayBeLeft m []) st.streams →
    Goes st (finished m false) due
fail_step st due m d held = record {
  sub_step = finishes_failed m refl d;
  phase = idle (record {
    due_is = d;
    rests = all-map (MayBeLeft m []) Rests (stream_after (finished m false)) (none_left m) st.streams held;
  });
}

-- the next sub-step
at_move : (st : Stage) (x y : Move) (due : List Move) → x ≡ y → Goes st y due → Goes st x due
at_move st x y due e h = subst (λ z. Goes st z due) (sym e) h

next_picking : (st : Stage) (x : Move) (due : List Move) (m : Mixing) (e : Playhead) (whole : Bool)
    (left : List Stream) → IsPicking st (x ∷ due) m e whole left → Goes st x due
next_picking st x due m e whole [] k =
    let p = cons_parts x (sounded m whole) due [] k.due_is in
    at_move st x (sounded m whole) due p.0 (sound_step st due m e whole k.there k.held)
next_picking st x due m e whole (t ∷ left) k =
    let p = cons_parts x (of_client t.client (picked m.frames)) due (picks_left m whole left) k.due_is in
    at_move st x (of_client t.client (picked m.frames)) due p.0
    (pick_step st due m e whole t left k.there p.1 k.held k.plays)

next_feeding : (st : Stage) (x : Move) (due : List Move) (m : Mixing) (e : Playhead) (frames : List Frame)
    (left : List Stream) → IsFeeding st (x ∷ due) m e frames left → Goes st x due
next_feeding st x due m e frames [] k =
    let p = cons_parts x (finished m true) due [] k.due_is in
    at_move st x (finished m true) due p.0 (finish_step st due m e k.there p.1 k.rests)
next_feeding st x due m e frames (t ∷ left) k =
    let p = cons_parts x (of_client t.client (fed frames)) due (hears_left m frames left) k.due_is in
    at_move st x (of_client t.client (fed frames)) due p.0 (feed_step st due m e frames t left k.there p.1 k.rests)

next_recording : (st : Stage) (x : Move) (due : List Move) (frames : List Frame) (left : List Stream) →
    IsRecording st (x ∷ due) frames left → Goes st x due
next_recording st x due frames [] k = let e : x ∷ due ≡ [] = k.due_is in absurd cc
next_recording st x due frames (t ∷ left) k =
    let p = cons_parts x (of_client t.client (fed frames)) due (feeds_left frames left) k.due_is in
    at_move st x (of_client t.client (fed frames)) due p.0 (record_step st due frames t left p.1 k.rests)

next_retiring : (st : Stage) (x : Move) (due : List Move) (m : Mixing) (e : Playhead) (frames : List Frame)
    (hearing left : List Stream) → IsRetiring st (x ∷ due) m e frames hearing left → Goes st x due
next_retiring st x due m e frames hearing [] k =
    next_feeding st x due m e frames hearing (record {
      there = k.there;
      due_is = k.due_is;
      rests = all_weaker (MayBeLeft m []) Rests (none_left m) st.streams k.held;
    })
next_retiring st x due m e frames hearing (t ∷ left) k =
    let p = cons_parts x (of_client t.client retired) due (retires_left m frames hearing left) k.due_is in
    at_move st x (of_client t.client retired) due p.0
    (retire_step st due m e frames hearing t left k.there p.1 k.held)

next_closing : (st : Stage) (x : Move) (due : List Move) (m : Mixing) (left : List Stream) →
    IsClosing st (x ∷ due) m left → Goes st x due
next_closing st x due m [] k =
    let p = cons_parts x (finished m false) due [] k.due_is in
    at_move st x (finished m false) due p.0 (fail_step st due m p.1 k.held)
next_closing st x due m (t ∷ left) k =
    let p = cons_parts x (of_client t.client (closed Removal)) due (closes_left m left) k.due_is in
    at_move st x (of_client t.client (closed Removal)) due p.0 (close_step st due m t left p.1 k.held)

pub phase_next : (st : Stage) (x : Move) (due : List Move) → Phase st (x ∷ due) → Goes st x due
phase_next st x due (idle k) = let e : x ∷ due ≡ [] = k.due_is in absurd cc
phase_next st x due (picking m e whole left k) = next_picking st x due m e whole left k
phase_next st x due (retiring m e frames hearing left k) = next_retiring st x due m e frames hearing left k
phase_next st x due (feeding m e frames left k) = next_feeding st x due m e frames left k
phase_next st x due (recording frames left k) = next_recording st x due frames left k
phase_next st x due (closing m left k) = next_closing st x due m left k
