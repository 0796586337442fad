-- A period with nothing between its sub-steps is one map over the streams.
use Rattle.std.proofs.Common.{◌≡◌, ◌==◌, ◌&&◌, List, [], ◌∷◌, ◌++◌, map, Bool, true, false, refl, sym, ap, ap₂}
use Rattle.std.proofs.Common.{◌∙◌, if◌then◌else◌}
use Rattle.std.proofs.lemmas.Bool.{true≢false, false≢true, and_parts, and_right}
use Rattle.ca_base.specs.declared.ids.Reason.TheVariants.{Removal}
use Rattle.ca_base.specs.declared.ids.StreamKind.{StreamKind}
use Rattle.ca_base.specs.declared.ids.StreamKind.TheVariants as kind
use Rattle.ca_stage.specs.Stage.{empty_stage, Frame, Stream, Stage, is_open, is_render, is_loopback}
use Rattle.ca_stage.specs.Moves.{closed, picked, retired, fed, sounded, finished, Mixing, moved}
use Rattle.ca_stage.specs.Moves.{stream_after, playhead_after, after_move, after_moves}
use Rattle.ca_stage.specs.Periods.{is_playing, is_open_on, is_hearing, playing_streams_on, open_streams_on, feeds}
use Rattle.ca_stage.specs.Periods.{picks, after_sound, sub_steps, picked_on, fed_if, played, failed, after_period}
use Rattle.ca_stage.specs.Mix.{mixed}
use Rattle.ca_stage.specs.Order.{clients, RisesFrom}
use Rattle.ca_stage.specs.Laws.{PeriodIsOneMap}
use Rattle.ca_stage.proofs.Lists.{chosen, chosen_by, all_of, map_alike, map_map, map_same}
use Rattle.ca_stage.proofs.Clients.{rising_distinct, rises_after}
use Rattle.ca_stage.proofs.MapMoves.{moves_of, kept_moved, playheads_left}
use Rattle.ca_stage.proofs.SubSteps.{plays_on, plays_open}
use Rattle.ca_stage.proofs.StageHolds.{stage_holds}
use Rattle.ca_stage.proofs.Stages.{after_moves-append, woven_period}
use Rattle.ca_stage.proofs.Feeds.{hears_open, feeds_at}

-- a Sound leaves the stage, and so does the end of a failed period
pub sound_leaves : (m : Mixing) (whole : Bool) (st : Stage) → after_move st (sounded m whole) ≡ st
sound_leaves m whole st =
    ap₂ (λ heads streams. record { playheads = heads; streams = streams })
    (map_same (playhead_after (sounded m whole)) (λ e. refl) st.playheads)
    (map_same (stream_after (sounded m whole)) (λ s. refl) st.streams)

pub failure_leaves : (m : Mixing) (st : Stage) → after_move st (finished m false) ≡ st
failure_leaves m st =
    ap₂ (λ heads streams. record { playheads = heads; streams = streams })
    (map_same (playhead_after (finished m false)) (λ e. refl) st.playheads)
    (map_same (stream_after (finished m false)) (λ s. refl) st.streams)

-- who plays doesn't hear
render_hears_none : (k : StreamKind) → is_render k ≡ true → is_loopback k ≡ false
render_hears_none kind.Render h = refl
render_hears_none kind.Capture h = refl
render_hears_none kind.Loopback h = absurd (false≢true h)

-- what is picked of a stream, and then rendered, or lost
module _ (m : Mixing) where
  abbrev pub retired_by : Stream → Stream
  retired_by s = if is_playing m.endpoint s then moved retired s else s

  pub still_plays : (s : Stream) → is_playing m.endpoint (picked_on m s) ≡ is_playing m.endpoint s
  still_plays s =
      chosen (λ t. is_playing m.endpoint t ≡ is_playing m.endpoint s) (is_playing m.endpoint s)
      (moved (picked m.frames) s) s refl refl

  pub still_open : (s : Stream) → is_open_on m.endpoint (picked_on m s) ≡ is_open_on m.endpoint s
  still_open s =
      chosen (λ t. is_open_on m.endpoint t ≡ is_open_on m.endpoint s) (is_playing m.endpoint s)
      (moved (picked m.frames) s) s refl refl

  plays_alone : (s : Stream) → is_playing m.endpoint s ≡ true → is_hearing m.endpoint s ≡ false
  plays_alone s h =
      let p = and_parts (s.endpoint == m.endpoint) (is_open s && (s.running && is_render s.kind)) h in
      let q = and_parts s.running (is_render s.kind) (and_parts (is_open s) (s.running && is_render s.kind) p.1).1 in
      and_right (s.endpoint == m.endpoint) _
      (and_right (is_open s) _ (and_right s.running (is_loopback s.kind) (render_hears_none s.kind q.1)))

  -- a stream that plays is picked and rendered, and one that hears is fed
  both_or_none : (s : Stream) (b : Bool) →
      (if b then moved retired (if b then moved (picked m.frames) s else s) else
      (if b then moved (picked m.frames) s else s))
      ≡ (if b then moved retired (moved (picked m.frames) s) else s)
  both_or_none s true = refl
  both_or_none s false = refl

  fed_or_played : (frames : List Frame) (s : Stream) (b : Bool) → is_playing m.endpoint s ≡ b →
      fed_if (is_hearing m.endpoint) frames (if b then moved retired (moved (picked m.frames) s) else s)
      ≡ (if b then moved retired (moved (picked m.frames) s) else fed_if (is_hearing m.endpoint) frames s)
  fed_or_played frames s true e =
      ap (λ b. if b then moved (fed frames) (moved retired (moved (picked m.frames) s)) else
      moved retired (moved (picked m.frames) s)) (plays_alone s e)
  fed_or_played frames s false e = refl

  pick_then_retire : (frames : List Frame) (s : Stream) →
      fed_if (is_hearing m.endpoint) frames (retired_by (picked_on m s)) ≡ played m frames s
  pick_then_retire frames s =
      ap (λ b. fed_if (is_hearing m.endpoint) frames (if b then moved retired (picked_on m s) else picked_on m s))
      (still_plays s)
      ∙ ap (fed_if (is_hearing m.endpoint) frames) (both_or_none s (is_playing m.endpoint s))
      ∙ fed_or_played frames s (is_playing m.endpoint s) refl

  closes_alike : (s : Stream) → moved (closed Removal) (picked_on m s) ≡ moved (closed Removal) s
  closes_alike s =
      chosen (λ t. moved (closed Removal) t ≡ moved (closed Removal) s) (is_playing m.endpoint s)
      (moved (picked m.frames) s) s refl refl

  not_playing : (s : Stream) → is_open_on m.endpoint s ≡ false → picked_on m s ≡ s
  not_playing s c =
      chosen_by (λ t. t ≡ s) (is_playing m.endpoint s) (moved (picked m.frames) s) s
      (λ p. absurd (true≢false (sym (plays_on m.endpoint s p) ∙ c))) (λ p. refl)

  lost : (s : Stream) (b : Bool) → is_open_on m.endpoint s ≡ b →
      (if b then moved (closed Removal) (picked_on m s) else picked_on m s)
      ≡ (if b then moved (closed Removal) s else s)
  lost s true c = closes_alike s
  lost s false c = not_playing s c

  pick_then_close : (s : Stream) →
      (if is_open_on m.endpoint (picked_on m s) then moved (closed Removal) (picked_on m s) else picked_on m s)
      ≡ failed m s
  pick_then_close s =
      ap (λ b. if b then moved (closed Removal) (picked_on m s) else picked_on m s) (still_open s)
      ∙ lost s (is_open_on m.endpoint s) refl

  -- what follows a Sound makes of the stage: what was due is rendered, and those who hear are fed
  module _ (st : Stage) (r : RisesFrom 0 (clients st)) where
    abbrev wrote : List Frame
    wrote = mixed m st.streams

    abbrev rendered_at : Stage
    rendered_at = after_moves st (moves_of retired (playing_streams_on m.endpoint st))

    rendered_streams : rendered_at.streams ≡ map retired_by st.streams
    rendered_streams = kept_moved retired (is_playing m.endpoint) st (rising_distinct 0 _ r) (plays_open m.endpoint)

    heard_is : after_moves rendered_at (feeds (is_hearing m.endpoint) wrote st) ≡ record {
      playheads = st.playheads;
      streams = map (fed_if (is_hearing m.endpoint) wrote) (map retired_by st.streams);
    }
    heard_is =
        feeds_at (is_hearing m.endpoint) wrote retired_by st rendered_at rendered_streams
        (λ s. chosen (λ t. is_hearing m.endpoint t ≡ is_hearing m.endpoint s) (is_playing m.endpoint s)
        (moved retired s) s refl refl)
        (λ s. chosen (λ t. t.client ≡ s.client) (is_playing m.endpoint s) (moved retired s) s refl refl)
        (rises_after st (moves_of retired (playing_streams_on m.endpoint st)) r) (hears_open m.endpoint)
        ∙ ap₂ (λ heads streams. record {
          playheads = heads;
          streams = map (fed_if (is_hearing m.endpoint) wrote) streams;
        }) (playheads_left retired (playing_streams_on m.endpoint st) st) rendered_streams

    pub after_whole : after_moves st (after_sound m true st) ≡ record {
      playheads = map (playhead_after (finished m true)) st.playheads;
      streams = map (fed_if (is_hearing m.endpoint) wrote) (map retired_by st.streams);
    }
    after_whole =
        after_moves-append st (moves_of retired (playing_streams_on m.endpoint st))
        (feeds (is_hearing m.endpoint) wrote st ++ finished m true ∷ [])
        ∙ after_moves-append rendered_at (feeds (is_hearing m.endpoint) wrote st) (finished m true ∷ [])
        ∙ ap (λ at. after_move at (finished m true)) heard_is
        ∙ ap (λ streams. record {
          playheads = map (playhead_after (finished m true)) st.playheads;
          streams = streams;
        }) (map_same (stream_after (finished m true)) (λ s. refl) _)

    -- or the streams of the endpoint are closed
    pub after_failed : after_moves st (after_sound m false st) ≡ record st { streams = map (failed m) st.streams }
    after_failed =
        after_moves-append st (moves_of (closed Removal) (open_streams_on m.endpoint st)) (finished m false ∷ [])
        ∙ failure_leaves m _
        ∙ ap₂ (λ heads streams. record { playheads = heads; streams = streams })
        (playheads_left (closed Removal) (open_streams_on m.endpoint st) st)
        (kept_moved (closed Removal) (is_open_on m.endpoint) st (rising_distinct 0 _ r)
        (λ s o. (and_parts (s.endpoint == m.endpoint) (is_open s) o).1))

  -- the stage at the Sound
  module _ (st : Stage) (r : RisesFrom 0 (clients st)) where
    abbrev pub at_sound : Stage
    at_sound = after_moves st (picks m st)

    pub picked_streams : at_sound.streams ≡ map (picked_on m) st.streams
    picked_streams =
        kept_moved (picked m.frames) (is_playing m.endpoint) st (rising_distinct 0 _ r) (plays_open m.endpoint)

    pub rising_at_sound : RisesFrom 0 (clients at_sound)
    rising_at_sound = rises_after st (picks m st) r

    picked_heads : at_sound.playheads ≡ st.playheads
    picked_heads = playheads_left (picked m.frames) (playing_streams_on m.endpoint st) st

    -- up to the Sound and after it
    parted : (whole : Bool) →
        after_moves st (sub_steps m whole st) ≡ after_moves at_sound (after_sound m whole at_sound)
    parted whole =
        after_moves-append st (picks m st) (sounded m whole ∷ after_sound m whole at_sound)
        ∙ ap (λ at. after_moves at (after_sound m whole at_sound)) (sound_leaves m whole at_sound)

    pub period_by : (whole : Bool) → after_moves st (sub_steps m whole st) ≡ after_period m whole st
    period_by true =
        parted true
        ∙ after_whole at_sound rising_at_sound
        ∙ ap₂ (λ heads streams. record { playheads = map (playhead_after (finished m true)) heads; streams = streams })
        picked_heads
        (ap (λ ss. map (fed_if (is_hearing m.endpoint) (mixed m ss)) (map retired_by ss)) picked_streams
        ∙ map_map (fed_if (is_hearing m.endpoint) got) retired_by (map (picked_on m) st.streams)
        ∙ map_map (λ s. fed_if (is_hearing m.endpoint) got (retired_by s)) (picked_on m) st.streams
        ∙ map_alike _ _ st.streams (all_of _ (pick_then_retire got) st.streams))
      where
        got : List Frame
        got = mixed m (map (picked_on m) st.streams)
    period_by false =
        parted false
        ∙ after_failed at_sound rising_at_sound
        ∙ ap₂ (λ heads streams. record { playheads = heads; streams = streams }) picked_heads
        (ap (map (failed m)) picked_streams
        ∙ map_map (failed m) (picked_on m) st.streams
        ∙ map_alike _ _ st.streams (all_of _ pick_then_close st.streams))

pub period_is_one_map : PeriodIsOneMap
period_is_one_map m whole xs = record {
  woven = λ e t. woven_period m whole e (after_moves empty_stage xs) t;
  stage = period_by m (after_moves empty_stage xs) (stage_holds xs).rising whole;
}
