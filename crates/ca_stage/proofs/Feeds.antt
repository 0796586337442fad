-- Frames that are offered to streams as packets: one map over the streams, and none of them gets a fate. So is a period
-- of an endpoint that captures.
use Rattle.std.proofs.Common.{◌≡◌, ℕ, ◌==◌, ◌&&◌, List, [], ◌∷◌, ◌++◌, map, filter, Bool, true, false, Option, Some}
use Rattle.std.proofs.Common.{None, refl, sym, ap, find, option_map, ap₂, ◌∙◌, if◌then◌else◌}
use Rattle.std.proofs.lemmas.Bool.{false≢true, and_parts}
use Rattle.ca_stage.specs.Stage.{empty_stage, Frame, Stream, Stage, is_open, is_capture, is_loopback}
use Rattle.ca_stage.specs.Moves.{StreamMove, read, fed, of_client, captured, moved, is_open_of, stream_after}
use Rattle.ca_stage.specs.Moves.{playhead_after, after_move, after_moves, stream_at}
use Rattle.ca_stage.specs.Periods.{is_recording, is_hearing, feeds, captures, fed_if, after_captures}
use Rattle.ca_stage.specs.Fates.{of_found, frames_handed, released_by, fates_given, fated_by, all_released, fates}
use Rattle.ca_stage.specs.Tally.{Tally, tally_of_found, tally_after}
use Rattle.ca_stage.specs.Order.{clients, RisesFrom}
use Rattle.ca_stage.specs.Laws.{CaptureIsOneMap}
use Rattle.ca_stage.proofs.Lists.{all_of, chosen, find_map, map_alike, map_map, map_same}
use Rattle.ca_stage.proofs.Streams.{is_of}
use Rattle.ca_stage.proofs.Clients.{rising_distinct}
use Rattle.ca_stage.proofs.StageHolds.{stage_holds}
use Rattle.ca_stage.proofs.Stages.{map_filter_same, woven_captures}
use Rattle.ca_stage.proofs.MapMoves.{moves_of, kept_moved, playheads_left}

-- what a feed and a read leave of a stream: all but its packets, what counts them, and the lease
pub record LeavesFrames (s t : Stream) : Type 0 where
  pub running : t.running ≡ s.running
  pub gate : t.gate ≡ s.gate
  pub picked : t.picked ≡ s.picked
  pub position : t.position ≡ s.position
  pub pending : t.buffer_data.pending ≡ s.buffer_data.pending
  pub released : t.buffer_data.released ≡ s.buffer_data.released

pub fed_leaves : (frames : List Frame) (s : Stream) → LeavesFrames s (moved (fed frames) s)
fed_leaves frames s = record {
  running = refl;
  gate = refl;
  picked = refl;
  position = refl;
  pending = refl;
  released = refl;
}

pub read_leaves : (n : ℕ) (s : Stream) → LeavesFrames s (moved (read n) s)
read_leaves n s = record {
  running = refl;
  gate = refl;
  picked = refl;
  position = refl;
  pending = refl;
  released = refl;
}

-- whatever a feed leaves of a stream, it leaves of one that may be fed
pub fed_if_keeps : {A : Type 0} (v : Stream → A) (test : Stream → Bool) (frames : List Frame) (s : Stream) →
    v (moved (fed frames) s) ≡ v s → v (fed_if test frames s) ≡ v s
fed_if_keeps v test frames s h = chosen (λ t. v t ≡ v s) (test s) (moved (fed frames) s) s h refl

pub fed_each_keeps : {A : Type 0} (v : Stream → A) (test : Stream → Bool) (frames : List Frame)
    (streams : List Stream) → ((s : Stream) → v (moved (fed frames) s) ≡ v s) →
    map v (map (fed_if test frames) streams) ≡ map v streams
fed_each_keeps v test frames streams h =
    map_map v (fed_if test frames) streams
    ∙ map_alike (λ s. v (fed_if test frames s)) v streams (all_of _ (λ s. fed_if_keeps v test frames s (h s)) streams)

-- a client's stream among those that may be fed
pub fed_found : (n : ℕ) (test : Stream → Bool) (frames : List Frame) (streams : List Stream) →
    find (is_of n) (map (fed_if test frames) streams) ≡ option_map (fed_if test frames) (find (is_of n) streams)
fed_found n test frames streams =
    find_map (is_of n) (fed_if test frames) (λ s. fed_if_keeps (is_of n) test frames s refl) streams

-- a feed and a read hand over no frame and give no fate
abbrev pub is_packet_move : StreamMove → Bool
is_packet_move (read n) = true
is_packet_move (fed frames) = true
is_packet_move _ = false

hands_none : (m : StreamMove) → is_packet_move m ≡ true → frames_handed m ≡ []
hands_none (read n) h = refl
hands_none (fed frames) h = refl
hands_none _ h = absurd (false≢true h)

gives_none : (m : StreamMove) (next : ℕ) (s : Stream) → is_packet_move m ≡ true → fates_given m next s ≡ []
gives_none (read n) next s h = refl
gives_none (fed frames) next s h = refl
gives_none _ next s h = absurd (false≢true h)

none_passes : {A : Type 0} (b : Bool) (xs : List A) → xs ≡ [] → (if b then xs else []) ≡ []
none_passes true xs e = e
none_passes false xs e = refl

pub packet_releases_none : (client : ℕ) (m : StreamMove) (o : Option Stream) → is_packet_move m ≡ true →
    of_found (released_by (of_client client m)) o ≡ []
packet_releases_none client m None h = refl
packet_releases_none client m (Some s) h = none_passes (is_open_of client s) (frames_handed m) (hands_none m h)

pub packet_fates_none : (st : Stage) (client : ℕ) (m : StreamMove) (o : Option Stream) → is_packet_move m ≡ true →
    of_found (fated_by st (of_client client m)) o ≡ []
packet_fates_none st client m None h = refl
packet_fates_none st client m (Some s) h = none_passes (is_open_of client s) (fates_given m _ s) (gives_none m _ s h)

-- nor does it add to the tally
pub packet_adds_none : (client : ℕ) (m : StreamMove) (o : Option Stream) (t : Tally) → is_packet_move m ≡ true →
    tally_of_found client m o t ≡ t
packet_adds_none client m None t h = refl
packet_adds_none client (read n) (Some s) t h = chosen (λ u. u ≡ t) (is_open_of client s) t t refl refl
packet_adds_none client (fed frames) (Some s) t h = chosen (λ u. u ≡ t) (is_open_of client s) t t refl refl
packet_adds_none client _ (Some s) t h = absurd (false≢true h)

-- the same of all feeds of a period, from any stage on
pub feeds_release_none : (n : ℕ) (frames : List Frame) (left : List Stream) (st : Stage) →
    all_released n st (moves_of (fed frames) left) ≡ []
feeds_release_none n frames [] st = refl
feeds_release_none n frames (s ∷ left) st =
    ap₂ (λ a b. a ++ b) (packet_releases_none s.client (fed frames) (stream_at n st) refl)
    (feeds_release_none n frames left (after_move st (of_client s.client (fed frames))))

pub feeds_fate_none : (n : ℕ) (frames : List Frame) (left : List Stream) (st : Stage) →
    fates n st (moves_of (fed frames) left) ≡ []
feeds_fate_none n frames [] st = refl
feeds_fate_none n frames (s ∷ left) st =
    ap₂ (λ a b. a ++ b) (packet_fates_none st s.client (fed frames) (stream_at n st) refl)
    (feeds_fate_none n frames left (after_move st (of_client s.client (fed frames))))

pub feeds_tally : (frames : List Frame) (left : List Stream) (t : Tally) (st : Stage) →
    tally_after t st (moves_of (fed frames) left) ≡ t
feeds_tally frames [] t st = refl
feeds_tally frames (s ∷ left) t st =
    ap (λ u. tally_after u (after_move st (of_client s.client (fed frames))) (moves_of (fed frames) left))
    (packet_adds_none s.client (fed frames) (stream_at s.client st) t refl)
    ∙ feeds_tally frames left t (after_move st (of_client s.client (fed frames)))

-- who hears or records is open
pub hears_open : (number : ℕ) (s : Stream) → is_hearing number s ≡ true → is_open s ≡ true
hears_open number s h =
    (and_parts (is_open s) (s.running && is_loopback s.kind)
    (and_parts (s.endpoint == number) (is_open s && (s.running && is_loopback s.kind)) h).1).0

pub records_open : (number : ℕ) (s : Stream) → is_recording number s ≡ true → is_open s ≡ true
records_open number s h =
    (and_parts (is_open s) (s.running && is_capture s.kind)
    (and_parts (s.endpoint == number) (is_open s && (s.running && is_capture s.kind)) h).1).0

-- frames that are offered to the streams of a test of open streams
module _ (test : Stream → Bool) (frames : List Frame) (st : Stage) (r : RisesFrom 0 (clients st))
    (o : (s : Stream) → test s ≡ true → is_open s ≡ true) where
  pub feeds_streams : (after_moves st (feeds test frames st)).streams ≡ map (fed_if test frames) st.streams
  feeds_streams = kept_moved (fed frames) test st (rising_distinct 0 _ r) o

  pub feeds_by : after_moves st (feeds test frames st) ≡ record st { streams = map (fed_if test frames) st.streams }
  feeds_by =
      ap₂ (λ heads streams. record { playheads = heads; streams = streams })
      (playheads_left (fed frames) (filter test st.streams) st) feeds_streams

-- the same at a later stage, whose streams were changed without a change to the test
pub feeds_at : (test : Stream → Bool) (frames : List Frame) (f : Stream → Stream) (st at : Stage) →
    at.streams ≡ map f st.streams → ((s : Stream) → test (f s) ≡ test s) → ((s : Stream) → (f s).client ≡ s.client) →
    RisesFrom 0 (clients at) → ((s : Stream) → test s ≡ true → is_open s ≡ true) →
    after_moves at (feeds test frames st) ≡ record at { streams = map (fed_if test frames) at.streams }
feeds_at test frames f st at e t c r o =
    ap (after_moves at)
    (sym (ap (λ ss. map (λ s. of_client s.client (fed frames)) (filter test ss)) e
    ∙ map_filter_same (λ s. of_client s.client (fed frames)) test f t (λ s. ap (λ n. of_client n (fed frames)) (c s))
    st.streams))
    ∙ feeds_by test frames at r o

-- what a device gave leaves the stage, until it is offered
pub captured_leaves : (number : ℕ) (frames : List Frame) (st : Stage) → after_move st (captured number frames) ≡ st
captured_leaves number frames st =
    ap₂ (λ heads streams. record { playheads = heads; streams = streams })
    (map_same (playhead_after (captured number frames)) (λ e. refl) st.playheads)
    (map_same (stream_after (captured number frames)) (λ s. refl) st.streams)

module _ (number : ℕ) (frames : List Frame) (st : Stage) where
  -- a period of an endpoint that captures is one map, and adds nothing to the tally
  pub capture_by : RisesFrom 0 (clients st) →
      after_moves st (captures number frames st) ≡ after_captures number frames st
  capture_by r =
      ap (λ at. after_moves at (feeds (is_recording number) frames st)) (captured_leaves number frames st)
      ∙ feeds_by (is_recording number) frames st r (records_open number)

  pub tally_of_captures : (t : Tally) → tally_after t st (captures number frames st) ≡ t
  tally_of_captures t =
      feeds_tally frames (filter (is_recording number) st.streams) t (after_move st (captured number frames))

  -- it hands over no frame and gives no fate
  nothing_of : {A : Type 0} (o : Option Stream) → of_found {A = A} (λ s. []) o ≡ []
  nothing_of None = refl
  nothing_of (Some s) = refl

  pub captures_release_none : (n : ℕ) → all_released n st (captures number frames st) ≡ []
  captures_release_none n =
      ap₂ (λ a b. a ++ b) (nothing_of (stream_at n st))
      (feeds_release_none n frames (filter (is_recording number) st.streams)
      (after_move st (captured number frames)))

  pub captures_fate_none : (n : ℕ) → fates n st (captures number frames st) ≡ []
  captures_fate_none n =
      ap₂ (λ a b. a ++ b) (nothing_of (stream_at n st))
      (feeds_fate_none n frames (filter (is_recording number) st.streams)
      (after_move st (captured number frames)))

pub capture_is_one_map : CaptureIsOneMap
capture_is_one_map number frames xs = record {
  woven = woven_captures number frames (after_moves empty_stage xs);
  stage = capture_by number frames (after_moves empty_stage xs) (stage_holds xs).rising;
}
