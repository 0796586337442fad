-- What an event counts is by how much the frames that are pending in open streams become fewer.
use Rattle.std.proofs.Common.{◌≡◌, ℕ, ◌+◌, ◌-◌, ◌≤◌, ◌==◌, min, List, [], ◌∷◌, map, filter, Bool, true, false, refl}
use Rattle.std.proofs.Common.{sym, ap, ◌∙◌, arith, sum_by, if◌then◌else◌, length-drop}
use Rattle.std.specs.List.{AllByRecursion}
use Rattle.std.proofs.lemmas.Bool.{and_parts}
use Rattle.std.proofs.lemmas.List.Sums.{sum_by-cons}
use Rattle.ca_base.specs.declared.ids.Reason.{Reason}
use Rattle.ca_base.specs.declared.ids.Reason.TheVariants.{Removal}
use Rattle.ca_base.specs.declared.limits.TheConstants.{MAX_TALLY}
use Rattle.ca_stage.specs.Stage.{Frame, Stream, Stage, padding, is_open}
use Rattle.ca_stage.specs.Moves.{StreamMove, reset, closed, picked, retired, Move, of_client, Mixing, after_moves}
use Rattle.ca_stage.specs.Moves.{moved}
use Rattle.ca_stage.specs.Mix.{mixed}
use Rattle.ca_stage.specs.Periods.{failed, fed_if, is_hearing, is_open_on, is_playing, is_recording, picked_on, played}
use Rattle.ca_stage.specs.Periods.{sub_steps}
use Rattle.ca_stage.specs.Given.{whole_frames}
use Rattle.device_registry.specs.declared.endpoint.Endpoint.{Endpoint}
use Rattle.ca_machine.specs.Periods.{recording_moves}
use Rattle.ca_machine.proofs.RecordedStage.{fed_by, frames_of, lost_on, recorded_stage, tally_lost, tally_recorded}
use Rattle.ca_stage.proofs.Feeds.{fed_if_keeps}
use Rattle.ca_stage.specs.Order.{clients, is_among, RisesFrom}
use Rattle.ca_stage.specs.Present.{present, AreGone, IsGone}
use Rattle.ca_stage.specs.Tally.{Tally, counted, tally_after}
use Rattle.ca_stage.proofs.Counting.{counted_none, counted_twice, counted_most}
use Rattle.ca_stage.proofs.Lists.{all_of}
use Rattle.ca_stage.proofs.MapMoves.{all_closed, is_open_among, moved_where, moves_to, once_distinct}
use Rattle.ca_stage.proofs.MapMoves.{streams_moved_once}
use Rattle.ca_stage.proofs.MapTallies.{AddsTo, amount_where, closes_tally, sum_alike, sum_both, sum_map}
use Rattle.ca_stage.proofs.MapTallies.{tally_moved_once}
use Rattle.ca_stage.proofs.MapPeriods.{tally_of_failed, tally_of_whole}
use Rattle.ca_stage.proofs.Periods.{period_by}

-- the frames that are pending in open streams
abbrev pub open_pads : Stream → ℕ
open_pads s = amount_where is_open padding s

abbrev pub open_padding : Stage → ℕ
open_padding st = sum_by open_pads st.streams

-- what a map of the streams takes off is a sum over them
fall_by : (f : Stream → Stream) (amount : Stream → ℕ) → ((s : Stream) → open_pads (f s) + amount s ≡ open_pads s) →
    (streams : List Stream) → sum_by amount streams ≡ sum_by open_pads streams - sum_by open_pads (map f streams)
fall_by f amount h streams =
    let both : sum_by open_pads (map f streams) + sum_by amount streams ≡ sum_by open_pads streams =
    ap (λ n. n + sum_by amount streams) (sum_map open_pads f streams)
    ∙ sum_both (λ s. open_pads (f s)) amount streams
    ∙ sum_alike (λ s. open_pads (f s) + amount s) open_pads streams (all_of _ h streams) in
    omega (arith, both)

-- a move of open streams that leaves nothing pending
empties_where : (test : Stream → Bool) (m : StreamMove) → ((s : Stream) → test s ≡ true → is_open s ≡ true) →
    ((s : Stream) → open_pads (moved m s) ≡ 0) → (s : Stream) →
    open_pads (moved_where test m s) + amount_where test padding s ≡ open_pads s
empties_where test m opens empties s = go (test s) refl
  where
    go : (b : Bool) → test s ≡ b →
        open_pads (if b then moved m s else s) + (if b then padding s else 0) ≡ open_pads s
    go true t =
        let here : open_pads s ≡ padding s = ap (λ b. if b then padding s else 0) (opens s t) in
        omega (arith, here, empties s)
    go false t = omega arith

-- ---- a reset

abbrev more_reset : ℕ → Tally → Tally
more_reset k t = record t { reset = counted t.reset k }

reset_adds : AddsTo reset padding (λ t. t.reset) more_reset
reset_adds = record {
  adds = λ s t. refl;
  nothing = λ t l. ap (λ k. record t { reset = k }) (counted_none t.reset l refl);
  twice = λ a b t. ap (λ k. record t { reset = k }) (counted_twice t.reset a b refl);
  fits = λ a t. counted_most t.reset a;
}

reset_empties : (s : Stream) → open_pads (moved reset s) ≡ 0
reset_empties s = by (is_open s)
  where
    by : (b : Bool) → (let n : ℕ = if b then 0 else 0 in n) ≡ 0
    by true = refl
    by false = refl

among_opens : (numbers : List ℕ) (s : Stream) → is_open_among numbers s ≡ true → is_open s ≡ true
among_opens numbers s h = (and_parts (is_among s.client numbers) (is_open s) h).1

pub reset_counts : (n : ℕ) (st : Stage) (t : Tally) → RisesFrom 0 (clients st) → t.reset ≤ MAX_TALLY →
    tally_after t st (of_client n reset ∷ [])
    ≡ more_reset (open_padding st - open_padding (after_moves st (of_client n reset ∷ []))) t
reset_counts n st t r l =
    tally_moved_once reset padding (λ t. t.reset) more_reset reset_adds (n ∷ []) st t
    (once_distinct reset (n ∷ []) (refl, tt))
    r l
    ∙ ap (λ k. more_reset k t)
    (fall_by (moved_where (is_open_among (n ∷ [])) reset) (amount_where (is_open_among (n ∷ [])) padding)
    (empties_where (is_open_among (n ∷ [])) reset (among_opens (n ∷ [])) reset_empties) st.streams
    ∙ ap (λ streams. open_padding st - sum_by open_pads streams)
    (sym (streams_moved_once reset (n ∷ []) st (once_distinct reset (n ∷ []) (refl, tt)))))

-- ---- a period

-- a stream that is offered a packet has as many frames pending
fed_pads : (test : Stream → Bool) (frames : List Frame) (s : Stream) → open_pads (fed_if test frames s) ≡ open_pads s
fed_pads test frames s = fed_if_keeps open_pads test frames s refl

played_falls : (m : Mixing) (frames : List Frame) (s : Stream) →
    open_pads (played m frames s) + amount_where (is_playing m.endpoint) (λ s. min m.frames (padding s)) s ≡ open_pads s
played_falls m frames s = go (is_playing m.endpoint s) refl
  where
    go : (b : Bool) → is_playing m.endpoint s ≡ b →
        open_pads (if b then moved retired (moved (picked m.frames) s)
        else fed_if (is_hearing m.endpoint) frames s)
        + (if b then min m.frames (padding s) else 0) ≡ open_pads s
    go true t =
        let opens : is_open s ≡ true =
        (and_parts (is_open s) _ (and_parts (s.endpoint == m.endpoint) _ t).1).0 in
        let here : open_pads s ≡ padding s = ap (λ b. if b then padding s else 0) opens in
        let later : open_pads (moved retired (moved (picked m.frames) s)) ≡ padding s - min m.frames (padding s) =
        ap (λ b. if b then padding (moved retired (moved (picked m.frames) s)) else 0) opens
        ∙ length-drop (min m.frames (padding s)) s.buffer_data.pending in
        omega (arith, here, later)
    go false t = let same = fed_pads (is_hearing m.endpoint) frames s in omega (arith, same)

failed_falls : (m : Mixing) (s : Stream) →
    open_pads (failed m s) + amount_where (is_open_on m.endpoint) padding s ≡ open_pads s
failed_falls m s =
    empties_where (is_open_on m.endpoint) (closed Removal)
    (λ s t. (and_parts (s.endpoint == m.endpoint) (is_open s) t).1) (λ s. refl) s

pub whole_counts : (m : Mixing) (st : Stage) (t : Tally) → RisesFrom 0 (clients st) → t.rendered ≤ MAX_TALLY →
    tally_after t st (sub_steps m true st) ≡ record t {
      rendered = counted t.rendered (open_padding st - open_padding (after_moves st (sub_steps m true st)));
    }
whole_counts m st t r l =
    tally_of_whole m st r t l
    ∙ ap (λ k. record t { rendered = counted t.rendered k })
    (fall_by (played m (mixed m (map (picked_on m) st.streams)))
    (amount_where (is_playing m.endpoint) (λ s. min m.frames (padding s)))
    (played_falls m (mixed m (map (picked_on m) st.streams))) st.streams
    ∙ ap (λ after. open_padding st - open_padding after) (sym (period_by m st r true)))

pub failed_counts : (m : Mixing) (st : Stage) (t : Tally) → RisesFrom 0 (clients st) → t.dropped ≤ MAX_TALLY →
    tally_after t st (sub_steps m false st) ≡ record t {
      dropped = counted t.dropped (open_padding st - open_padding (after_moves st (sub_steps m false st)));
    }
failed_counts m st t r l =
    tally_of_failed m st r t l
    ∙ ap (λ k. record t { dropped = counted t.dropped k })
    (fall_by (failed m) (amount_where (is_open_on m.endpoint) padding) (failed_falls m) st.streams
    ∙ ap (λ after. open_padding st - open_padding after) (sym (period_by m st r false)))

-- ---- a period of an endpoint that captures

fed_falls : (e : Endpoint) (frames : ℕ) (bytes : List ℕ) (s : Stream) →
    open_pads (fed_by e frames bytes s) ≡ open_pads s
fed_falls e frames bytes s = by (whole_frames e.format.channels bytes == 0)
  where
    by : (b : Bool) →
        open_pads (if b then s else fed_if (is_recording e.no.0) (frames_of e frames bytes) s) ≡ open_pads s
    by true = refl
    by false = fed_pads (is_recording e.no.0) (frames_of e frames bytes) s

-- what it offers takes nothing from what is pending
pub recorded_counts : (e : Endpoint) (frames : ℕ) (bytes : List ℕ) (st : Stage) (t : Tally) →
    RisesFrom 0 (clients st) → t.rendered ≤ MAX_TALLY →
    tally_after t st (recording_moves e frames bytes true st) ≡ record t {
      rendered = counted t.rendered
          (open_padding st - open_padding (after_moves st (recording_moves e frames bytes true st)));
    }
recorded_counts e frames bytes st t r l =
    let same : open_padding (after_moves st (recording_moves e frames bytes true st)) ≡ open_padding st =
    ap open_padding (recorded_stage e frames bytes st r true)
    ∙ sum_map open_pads (fed_by e frames bytes) st.streams
    ∙ sum_alike (λ s. open_pads (fed_by e frames bytes s)) open_pads st.streams
    (all_of _ (fed_falls e frames bytes) st.streams) in
    let none : open_padding st - open_padding (after_moves st (recording_moves e frames bytes true st)) ≡ 0 =
    omega (arith, same) in
    tally_recorded e frames bytes st t ∙ ap (λ k. record t { rendered = k }) (counted_none t.rendered l none)

lost_falls : (number : ℕ) (s : Stream) →
    open_pads (lost_on number s) + amount_where (is_open_on number) padding s ≡ open_pads s
lost_falls number s =
    empties_where (is_open_on number) (closed Removal)
    (λ s t. (and_parts (s.endpoint == number) (is_open s) t).1) (λ s. refl) s

pub lost_counts : (e : Endpoint) (frames : ℕ) (bytes : List ℕ) (st : Stage) (t : Tally) → RisesFrom 0 (clients st) →
    t.dropped ≤ MAX_TALLY → tally_after t st (recording_moves e frames bytes false st) ≡ record t {
      dropped = counted t.dropped
          (open_padding st - open_padding (after_moves st (recording_moves e frames bytes false st)));
    }
lost_counts e frames bytes st t r l =
    tally_lost e frames bytes st r t l
    ∙ ap (λ k. record t { dropped = counted t.dropped k })
    (fall_by (lost_on e.no.0) (amount_where (is_open_on e.no.0) padding) (lost_falls e.no.0) st.streams
    ∙ ap (λ after. open_padding st - open_padding after) (sym (recorded_stage e frames bytes st r false)))

-- ---- clients that leave

-- closed streams have nothing in the sum, so those that are left out don't count
closed_out : (numbers : List ℕ) (streams : List Stream) → AllByRecursion (IsGone numbers) streams →
    sum_by open_pads (filter (λ s. is_among s.client numbers) streams) ≡ sum_by open_pads streams
closed_out numbers [] gone = refl
closed_out numbers (s ∷ streams) gone =
    by (is_among s.client numbers) refl (closed_out numbers streams gone.1) ∙ sym (sum_by-cons open_pads s streams)
  where
    by : (b : Bool) → is_among s.client numbers ≡ b →
        sum_by open_pads (filter (λ s. is_among s.client numbers) streams) ≡ sum_by open_pads streams →
        sum_by open_pads (if b then s ∷ filter (λ s. is_among s.client numbers) streams
        else filter (λ s. is_among s.client numbers) streams)
        ≡ open_pads s + sum_by open_pads streams
    by true t rest =
        sum_by-cons open_pads s (filter (λ s. is_among s.client numbers) streams) ∙ ap (λ n. open_pads s + n) rest
    by false t rest = rest ∙ none (ap (λ b. if b then padding s else 0) (gone.0 t))
      where
        none : open_pads s ≡ 0 → sum_by open_pads streams ≡ open_pads s + sum_by open_pads streams
        none h = omega (arith, h)

pub left_padding : (numbers : List ℕ) (st : Stage) → AreGone numbers st →
    open_padding (present numbers st) ≡ open_padding st
left_padding numbers st gone = closed_out numbers st.streams gone

-- streams of these clients are closed
pub closes_count : (reason : Reason) (numbers : List ℕ) (st : Stage) (t : Tally) → RisesFrom 0 (clients st) →
    t.dropped ≤ MAX_TALLY → (xs : List Move) → xs ≡ moves_to (closed reason) numbers →
    tally_after t st xs
    ≡ record t { dropped = counted t.dropped (open_padding st - open_padding (after_moves st xs)) }
closes_count reason numbers st t r l xs is =
    ap (tally_after t st) is
    ∙ closes_tally reason numbers st t r l
    ∙ ap (λ k. record t { dropped = counted t.dropped k })
    (fall_by (moved_where (is_open_among numbers) (closed reason)) (amount_where (is_open_among numbers) padding)
    (empties_where (is_open_among numbers) (closed reason) (among_opens numbers) (λ s. refl)) st.streams
    ∙ ap (λ after. open_padding st - open_padding after)
    (sym (ap (after_moves st) is ∙ all_closed reason numbers st)))
