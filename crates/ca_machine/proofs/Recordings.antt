-- A period of an endpoint that captures: it upholds the headline.
use Rattle.std.proofs.Common.{◌≡◌, ℕ, ◌==◌, List, [], ◌++◌, Bool, true, false, Some, refl, sym, ap, ◌∙◌, subst}
use Rattle.std.proofs.Common.{if◌then◌else◌}
use Rattle.ca_base.specs.declared.codes.TheConstants.Hr as hr
use Rattle.ca_base.specs.declared.ids.Reason.TheVariants.{Removal}
use Rattle.ca_model.specs.declared.event.Event.{Event}
use Rattle.ca_stage.specs.Stage.{Frame}
use Rattle.ca_stage.specs.Moves.{Move}
use Rattle.ca_stage.specs.Periods.{captures, open_streams_on}
use Rattle.ca_stage.specs.Given.{frames_given, whole_frames}
use Rattle.ca_stage.specs.Woven.{IsWoven}
use Rattle.ca_stage.proofs.Stages.{woven_captures}
use Rattle.device_registry.specs.declared.endpoint.Endpoint.{Endpoint}
use Rattle.ca_machine.specs.State.{State, endpoint_at, live_clients}
use Rattle.ca_machine.specs.Plan.{Answer, bytes_given, is_whole, Outcome, moved}
use Rattle.ca_machine.specs.Periods.{after_period, after_recording, frames_recorded, period_frames, period_payload}
use Rattle.ca_machine.specs.Periods.{recording, recording_moves}
use Rattle.ca_machine.specs.Headline.{IsGivenIn}
use Rattle.ca_machine.proofs.PeriodMoves.{captures_all}
use Rattle.ca_machine.proofs.PresentStage.{PresentLaws, stage_of, captures_open_none}
use Rattle.ca_machine.proofs.PlayheadsThere.{adds_none}
use Rattle.ca_machine.proofs.StateInOrder.{IsInOrder, in_order_moved, in_order_period}
use Rattle.ca_machine.proofs.SoundsTaken.{captures_sound_none}
use Rattle.ca_machine.proofs.FramesHanded.{HandsNone, ReleasesNone, none_by, releases_none}
use Rattle.ca_machine.proofs.Outcomes.{
  AreQuiet,
  Upholds,
  feeds_quiet,
  mixes_quiet,
  period_adds,
  period_releases,
  records_quiet,
  takes_none,
  upholds_quiet,
}
use Rattle.ca_machine.proofs.Disconnects.{closes_of, order_closed, quiet_of}

module _ (laws : PresentLaws) (ms : List Move) (st : State) (h : IsInOrder ms st) (e : Event) (given : List Answer)
    (d : Endpoint) (n : HandsNone e)
  where
    -- what such a period gets, by its moves
    abbrev recorded : List ℕ → List Move → State → Outcome
    recorded payload xs after = record {
      result = hr.S_OK;
      payload = payload;
      moves = xs;
      output = [];
      after = after;
    }

    -- no device gave a frame
    none_given : (payload : List ℕ) (xs : List Move) (after : State) → AreQuiet xs → IsInOrder (ms ++ xs) after →
        Upholds ms st e given (recorded payload xs after)
    none_given payload xs after q k = upholds_quiet laws ms st h e given (recorded payload xs after) n q refl k

    -- the device gave frames
    some_given : (payload : List ℕ) (frames : List Frame) → IsGivenIn st given d.no.0 frames →
        Upholds ms st e given
        (recorded payload (captures d.no.0 frames st.stage)
        (after_period d.no.0 true (moved (captures d.no.0 frames st.stage) st)))
    some_given payload frames g =
        let xs : List Move = captures d.no.0 frames st.stage in
        let same : xs ≡ captures d.no.0 frames (stage_of ms) =
        ap (captures d.no.0 frames) h.stands
        ∙ (laws.is_whole (live_clients st.clients) ms h.gone).feeds d.no.0 frames in
        record {
          order =
              in_order_period (ms ++ xs) (moved xs st) d.no.0 true
              (in_order_moved laws ms xs st h (captures_open_none (live_clients st.clients) d.no.0 frames st.stage)
              (captures_all (λ x. adds_none x ≡ true) period_adds d.no.0 frames refl st.stage)
              (subst (IsWoven (stage_of ms) []) (sym same) (woven_captures d.no.0 frames (stage_of ms))));
          mixes = mixes_quiet st _ (feeds_quiet d.no.0 frames st.stage);
          records = (g, records_quiet st given _ (feeds_quiet d.no.0 frames st.stage));
          plays = takes_none _ [] (captures_sound_none d.no.0 frames st.stage (stage_of ms)) refl;
          hands = λ i.
              releases_none i (stage_of ms) xs
              (captures_all ReleasesNone period_releases d.no.0 frames (λ s. refl) st.stage)
              ∙ sym (none_by (stage_of ms) e hr.S_OK n i);
        }

    -- by whether it gave a whole one
    given_by : (payload : List ℕ) (frames : List Frame) (b : Bool) → IsGivenIn st given d.no.0 frames →
        Upholds ms st e given
        (recorded payload (if b then [] else captures d.no.0 frames st.stage)
        (if b
        then moved (if b then [] else captures d.no.0 frames st.stage) st
        else after_period d.no.0 true (moved (if b then [] else captures d.no.0 frames st.stage) st)))
    given_by payload frames true g = none_given payload [] (moved [] st) tt (in_order_moved laws ms [] st h tt tt tt)
    given_by payload frames false g = some_given payload frames g

    pub upholds_recording : endpoint_at d.no.0 st ≡ Some d → Upholds ms st e given
        (recording st d (period_frames d st.stage.streams) given)
    upholds_recording k = go (is_whole given)
      where
        payload : Bool → List ℕ
        payload whole = period_payload (frames_recorded d (period_frames d st.stage.streams) (bytes_given given)) whole

        go : (whole : Bool) → Upholds ms st e given
            (recorded (payload whole)
            (recording_moves d (period_frames d st.stage.streams) (bytes_given given) whole st.stage)
            (after_recording d (bytes_given given) whole
            (moved (recording_moves d (period_frames d st.stage.streams) (bytes_given given) whole st.stage) st)))
        go true =
            given_by (payload true)
            (frames_given (period_frames d st.stage.streams) d.format.channels (bytes_given given))
            (whole_frames d.format.channels (bytes_given given) == 0) (d, k, refl)
        go false =
            let xs : List Move = closes_of Removal (open_streams_on d.no.0 st.stage) in
            none_given (payload false) xs (after_period d.no.0 false (moved xs st))
            (quiet_of Removal (open_streams_on d.no.0 st.stage))
            (in_order_period (ms ++ xs) (moved xs st) d.no.0 false
            (order_closed laws ms st h e given st Removal (open_streams_on d.no.0 st.stage) h))
