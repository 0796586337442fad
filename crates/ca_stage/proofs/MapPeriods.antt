-- A period with nothing between its sub-steps: the stage at its Sound, and what it adds to the tally.
use Rattle.std.proofs.Common.{◌≡◌, ℕ, ◌≤◌, min, List, [], ◌∷◌, ◌++◌, map, filter, Bool, true, false, refl, ap, ap₂}
use Rattle.std.proofs.Common.{◌==◌, ◌∙◌, sum_by, Option, Some, None, if◌then◌else◌}
use Rattle.std.proofs.lemmas.Bool.{and_parts}
use Rattle.ca_base.specs.declared.ids.Reason.TheVariants.{Removal}
use Rattle.ca_base.specs.declared.limits.TheConstants.{MAX_TALLY}
use Rattle.ca_stage.specs.Stage.{Stream, Stage, padding, is_open}
use Rattle.ca_stage.specs.Moves.{StreamMove, closed, picked, retired, Move, of_client, sounded, finished, Mixing, moved}
use Rattle.ca_stage.specs.Moves.{is_open_of, after_move, after_moves, stream_at}
use Rattle.ca_stage.specs.Periods.{is_playing, is_open_on, is_hearing, playing_streams_on, open_streams_on, feeds}
use Rattle.ca_stage.specs.Periods.{picks, after_sound, sub_steps, picked_on}
use Rattle.ca_stage.specs.Mix.{mixed, sound_bytes}
use Rattle.ca_stage.specs.Tally.{Tally, counted, tally_of_found, tally_after}
use Rattle.ca_stage.specs.Order.{clients, RisesFrom}
use Rattle.ca_stage.proofs.Lists.{all_of, all_weaker}
use Rattle.ca_stage.proofs.Clients.{clients_of, rising_distinct}
use Rattle.ca_stage.proofs.SubSteps.{plays_open}
use Rattle.ca_stage.proofs.MapMoves.{moves_of, moves_of_are, is_open_among, kept_once, among_kept, playheads_left}
use Rattle.ca_stage.proofs.MapTallies.{AddsTo, amount_where, more_rendered, more_dropped, retired_adds, closed_adds}
use Rattle.ca_stage.proofs.MapTallies.{sum_alike, sum_map, tally_moved_once, tally-append}
use Rattle.ca_stage.proofs.Feeds.{feeds_tally}
use Rattle.ca_stage.proofs.Periods.{still_plays, still_open, at_sound, picked_streams, rising_at_sound, sound_leaves}

-- the streams that pass a test of open streams are moved: the tally has their amounts more
pub kept_tally : (m : StreamMove) (amount : Stream → ℕ) (count : Tally → ℕ) (with_more : ℕ → Tally → Tally) →
    AddsTo m amount count with_more → (test : Stream → Bool) (st : Stage) (t : Tally) → RisesFrom 0 (clients st) →
    ((s : Stream) → test s ≡ true → is_open s ≡ true) → count t ≤ MAX_TALLY →
    tally_after t st (moves_of m (filter test st.streams))
    ≡ with_more (sum_by (amount_where test amount) st.streams) t
kept_tally m amount count with_more k test st t r o l =
    ap (tally_after t st) (moves_of_are m (filter test st.streams))
    ∙ tally_moved_once m amount count with_more k (clients_of (filter test st.streams)) st t
    (kept_once m test st.streams (rising_distinct 0 _ r)) r l
    ∙ ap (λ a. with_more a t)
    (sum_alike (amount_where (is_open_among (clients_of (filter test st.streams))) amount) (amount_where test amount)
    st.streams
    (all_weaker (λ s. is_open_among (clients_of (filter test st.streams)) s ≡ test s)
    (λ s. amount_where (is_open_among (clients_of (filter test st.streams))) amount s ≡ amount_where test amount s)
    (λ s e. ap (λ b. if b then amount s else 0) e) st.streams (among_kept test st.streams (rising_distinct 0 _ r) o)))

-- a pick adds nothing
pick_adds_none : (n k : ℕ) (o : Option Stream) (t : Tally) → tally_of_found n (picked k) o t ≡ t
pick_adds_none n k None t = refl
pick_adds_none n k (Some s) t = go (is_open_of n s)
  where
    go : (b : Bool) → (if b then t else t) ≡ t
    go true = refl
    go false = refl

pub picks_tally : (k : ℕ) (left : List Stream) (t : Tally) (st : Stage) →
    tally_after t st (moves_of (picked k) left) ≡ t
picks_tally k [] t st = refl
picks_tally k (s ∷ left) t st =
    ap (λ u. tally_after u (after_move st (of_client s.client (picked k))) (moves_of (picked k) left))
    (pick_adds_none s.client k (stream_at s.client st) t)
    ∙ picks_tally k left t (after_move st (of_client s.client (picked k)))

module _ (m : Mixing) (st : Stage) (r : RisesFrom 0 (clients st)) where
  -- the stage at the Sound, and what is mixed there
  pub at_sound_is : after_moves st (picks m st) ≡ record st { streams = map (picked_on m) st.streams }
  at_sound_is =
      ap₂ (λ heads streams. record { playheads = heads; streams = streams })
      (playheads_left (picked m.frames) (playing_streams_on m.endpoint st) st) (picked_streams m st r)

  pub frames_at_sound : mixed m (after_moves st (picks m st)).streams ≡ mixed m (map (picked_on m) st.streams)
  frames_at_sound = ap (mixed m) (picked_streams m st r)

  pub mixed_at_sound : sound_bytes m (after_moves st (picks m st)).streams
      ≡ sound_bytes m (map (picked_on m) st.streams)
  mixed_at_sound = ap (sound_bytes m) (picked_streams m st r)

  -- what is due of a stream that plays is as much of its padding as fits the period
  rendered_of_one : (s : Stream) → amount_where (is_playing m.endpoint) (λ s. s.picked) (picked_on m s)
      ≡ amount_where (is_playing m.endpoint) (λ s. min m.frames (padding s)) s
  rendered_of_one s =
      ap (λ b. if b then (picked_on m s).picked else 0) (still_plays m s) ∙ go (is_playing m.endpoint s)
    where
      go : (b : Bool) → (if b then (if b then moved (picked m.frames) s else s).picked else 0)
          ≡ (if b then min m.frames (padding s) else 0)
      go true = refl
      go false = refl

  dropped_of_one : (s : Stream) → amount_where (is_open_on m.endpoint) padding (picked_on m s)
      ≡ amount_where (is_open_on m.endpoint) padding s
  dropped_of_one s =
      ap (λ b. if b then padding (picked_on m s) else 0) (still_open m s)
      ∙ ap (λ k. if is_open_on m.endpoint s then k else 0) (go (is_playing m.endpoint s))
    where
      go : (b : Bool) → padding (if b then moved (picked m.frames) s else s) ≡ padding s
      go true = refl
      go false = refl

  -- the tally at the Sound is as before, and what follows the Sound is at its stage
  after_picks : (whole : Bool) (t : Tally) → tally_after t st (sub_steps m whole st)
      ≡ tally_after t (at_sound m st r) (after_sound m whole (at_sound m st r))
  after_picks whole t =
      tally-append (picks m st) (sounded m whole ∷ after_sound m whole (at_sound m st r)) t st
      ∙ ap₂ (λ u at. tally_after u at (after_sound m whole (at_sound m st r)))
      (picks_tally m.frames (playing_streams_on m.endpoint st) t st) (sound_leaves m whole (at_sound m st r))

  -- a whole period renders what was due
  pub tally_of_whole : (t : Tally) → t.rendered ≤ MAX_TALLY → tally_after t st (sub_steps m true st)
      ≡ record t {
        rendered =
            counted t.rendered
            (sum_by (amount_where (is_playing m.endpoint) (λ s. min m.frames (padding s))) st.streams);
      }
  tally_of_whole t l =
      after_picks true t
      ∙ tally-append (moves_of retired (playing_streams_on m.endpoint (at_sound m st r)))
      (heard ++ finished m true ∷ []) t (at_sound m st r)
      ∙ tally-append heard (finished m true ∷ []) _ _
      ∙ feeds_tally (mixed m (at_sound m st r).streams) (filter (is_hearing m.endpoint) (at_sound m st r).streams) _ _
      ∙ kept_tally retired (λ s. s.picked) (λ t. t.rendered) more_rendered retired_adds (is_playing m.endpoint)
      (at_sound m st r) t (rising_at_sound m st r) (plays_open m.endpoint) l
      ∙ ap (λ a. more_rendered a t)
      (ap (sum_by (amount_where (is_playing m.endpoint) (λ s. s.picked))) (picked_streams m st r)
      ∙ sum_map (amount_where (is_playing m.endpoint) (λ s. s.picked)) (picked_on m) st.streams
      ∙ sum_alike _ _ st.streams (all_of _ rendered_of_one st.streams))
    where
      heard : List Move
      heard = feeds (is_hearing m.endpoint) (mixed m (at_sound m st r).streams) (at_sound m st r)

  -- a failed one closes the streams of its endpoint, and what they had pending is dropped
  pub tally_of_failed : (t : Tally) → t.dropped ≤ MAX_TALLY → tally_after t st (sub_steps m false st)
      ≡ record t {
        dropped = counted t.dropped (sum_by (amount_where (is_open_on m.endpoint) padding) st.streams);
      }
  tally_of_failed t l =
      after_picks false t
      ∙ tally-append (moves_of (closed Removal) (open_streams_on m.endpoint (at_sound m st r))) (finished m false ∷ [])
      t (at_sound m st r)
      ∙ kept_tally (closed Removal) padding (λ t. t.dropped) more_dropped (closed_adds Removal)
      (is_open_on m.endpoint) (at_sound m st r) t (rising_at_sound m st r)
      (λ s o. (and_parts (s.endpoint == m.endpoint) (is_open s) o).1) l
      ∙ ap (λ a. more_dropped a t)
      (ap (sum_by (amount_where (is_open_on m.endpoint) padding)) (picked_streams m st r)
      ∙ sum_map (amount_where (is_open_on m.endpoint) padding) (picked_on m) st.streams
      ∙ sum_alike _ _ st.streams (all_of _ dropped_of_one st.streams))
