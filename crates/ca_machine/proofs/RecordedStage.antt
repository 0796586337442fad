-- A period of an endpoint that captures is one map over the streams; it adds to the tally only if its device failed.
use Rattle.std.proofs.Common.{◌≡◌, ℕ, ◌≤◌, ◌==◌, List, [], map, Bool, true, false, refl, sym, ap, ap₂, ◌∙◌, sum_by}
use Rattle.std.proofs.Common.{if◌then◌else◌}
use Rattle.std.proofs.lemmas.Bool.{and_parts}
use Rattle.ca_base.specs.declared.ids.Reason.TheVariants.{Removal}
use Rattle.ca_base.specs.declared.limits.TheConstants.{MAX_TALLY}
use Rattle.ca_stage.specs.Stage.{Frame, Stream, Stage, padding, is_open}
use Rattle.ca_stage.specs.Moves.{closed, moved, after_moves}
use Rattle.ca_stage.specs.Periods.{captures, fed_if, is_open_on, is_recording, open_streams_on}
use Rattle.ca_stage.specs.Given.{frames_given, whole_frames}
use Rattle.ca_stage.specs.Tally.{Tally, counted, tally_after}
use Rattle.ca_stage.specs.Order.{clients, RisesFrom}
use Rattle.ca_stage.proofs.Lists.{map_same}
use Rattle.ca_stage.proofs.Clients.{rising_distinct}
use Rattle.ca_stage.proofs.Feeds.{capture_by, tally_of_captures}
use Rattle.ca_stage.proofs.MapMoves.{kept_moved, playheads_left}
use Rattle.ca_stage.proofs.MapPeriods.{kept_tally}
use Rattle.ca_stage.proofs.MapTallies.{amount_where, closed_adds, more_dropped}
use Rattle.device_registry.specs.declared.endpoint.Endpoint.{Endpoint}
use Rattle.ca_machine.specs.State.{State}
use Rattle.ca_machine.specs.Plan.{Answer, bytes_given, is_whole}
use Rattle.ca_machine.specs.Periods.{after_recording, recording, recording_moves}

-- the frames of its packet
abbrev pub frames_of : Endpoint → ℕ → List ℕ → List Frame
frames_of e frames bytes = frames_given frames e.format.channels bytes

-- what it makes of a stream, if its device gave these bytes: it is offered a packet, if it records the endpoint and one
-- whole frame came
abbrev pub fed_by : Endpoint → ℕ → List ℕ → Stream → Stream
fed_by e frames bytes s =
    if whole_frames e.format.channels bytes == 0 then s else fed_if (is_recording e.no.0) (frames_of e frames bytes) s

-- or if its device failed: it is closed, if it is on the endpoint
abbrev pub lost_on : ℕ → Stream → Stream
lost_on number s = if is_open_on number s then moved (closed Removal) s else s

abbrev pub recorded : Endpoint → ℕ → List ℕ → Bool → Stream → Stream
recorded e frames bytes true s = fed_by e frames bytes s
recorded e frames bytes false s = lost_on e.no.0 s

module _ (e : Endpoint) (frames : ℕ) (bytes : List ℕ) (st : Stage) where
  on_is_open : (s : Stream) → is_open_on e.no.0 s ≡ true → is_open s ≡ true
  on_is_open s o = (and_parts (s.endpoint == e.no.0) (is_open s) o).1

  by_frames : RisesFrom 0 (clients st) → (b : Bool) →
      after_moves st (if b then [] else captures e.no.0 (frames_of e frames bytes) st)
      ≡ record st {
        streams =
            map (λ s. if b then s else fed_if (is_recording e.no.0) (frames_of e frames bytes) s) st.streams;
      }
  by_frames r true = ap (λ ss. record st { streams = ss }) (sym (map_same (λ s. s) (λ s. refl) st.streams))
  by_frames r false = capture_by e.no.0 (frames_of e frames bytes) st r

  pub recorded_stage : RisesFrom 0 (clients st) → (whole : Bool) →
      after_moves st (recording_moves e frames bytes whole st)
      ≡ record st { streams = map (recorded e frames bytes whole) st.streams }
  recorded_stage r true = by_frames r (whole_frames e.format.channels bytes == 0)
  recorded_stage r false =
      ap₂ (λ heads streams. record { playheads = heads; streams = streams })
      (playheads_left (closed Removal) (open_streams_on e.no.0 st) st)
      (kept_moved (closed Removal) (is_open_on e.no.0) st (rising_distinct 0 _ r) on_is_open)

  none_added : (t : Tally) (b : Bool) →
      tally_after t st (if b then [] else captures e.no.0 (frames_of e frames bytes) st) ≡ t
  none_added t true = refl
  none_added t false = tally_of_captures e.no.0 (frames_of e frames bytes) st t

  pub tally_recorded : (t : Tally) → tally_after t st (recording_moves e frames bytes true st) ≡ t
  tally_recorded t = none_added t (whole_frames e.format.channels bytes == 0)

  -- what the streams had pending is dropped
  pub tally_lost : RisesFrom 0 (clients st) → (t : Tally) → t.dropped ≤ MAX_TALLY →
      tally_after t st (recording_moves e frames bytes false st)
      ≡ record t { dropped = counted t.dropped (sum_by (amount_where (is_open_on e.no.0) padding) st.streams) }
  tally_lost r t l =
      kept_tally (closed Removal) padding (λ t. t.dropped) more_dropped (closed_adds Removal) (is_open_on e.no.0) st t
      r on_is_open l

-- the state after it: its stage has this map over the streams, the tally is as it was, and events are set
abbrev pub state_recorded : State → Endpoint → ℕ → List ℕ → State
state_recorded st e frames bytes =
    after_recording e bytes true
    (record st { stage = record (st.stage) { streams = map (fed_by e frames bytes) st.stage.streams } })

pub recorded_state : (st : State) (e : Endpoint) (frames : ℕ) (given : List Answer) →
    RisesFrom 0 (clients st.stage) → is_whole given ≡ true →
    (recording st e frames given).after ≡ state_recorded st e frames (bytes_given given)
recorded_state st e frames given r w =
    ap (λ whole. after_recording e (bytes_given given) whole
    (Rattle.ca_machine.specs.Plan.moved (recording_moves e frames (bytes_given given) whole st.stage) st)) w
    ∙ ap₂ (λ stage tally. after_recording e (bytes_given given) true (record st { stage = stage; tally = tally }))
    (recorded_stage e frames (bytes_given given) st.stage r true)
    (tally_recorded e frames (bytes_given given) st.stage st.tally)
