-- A period is told if its device failed.
use Rattle.std.proofs.Common.{◌≡◌, ℕ, ◌++◌, not, List, [], ◌∷◌, Bool, true, false, Option, Some, None, Result, Ok, Err}
use Rattle.std.proofs.Common.{IfOk, refl, sym, ap, subst, ◌∙◌, if◌then◌else◌}
use Rattle.std.specs.Int.{w32, to_le_bytes}
use Rattle.device_io.specs.DeviceLog.{DeviceLog}
use Rattle.ca_base.specs.declared.codes.Hr.{Hr}
use Rattle.ca_base.specs.declared.codes.TheConstants.Hr as hr
use Rattle.ca_base.specs.declared.ids.EndpointNo.{EndpointNo}
use Rattle.ca_base.specs.declared.ids.Flow.{Flow}
use Rattle.ca_base.specs.declared.ids.Flow.TheVariants as flow
use Rattle.ca_base.specs.Rows.{first}
use Rattle.ca_model.specs.declared.event.Call.{Call}
use Rattle.ca_model.specs.declared.event.Call.TheVariants as call
use Rattle.ca_model.specs.declared.event.Event.{Event}
use Rattle.ca_model.specs.declared.event.Event.TheVariants as event
use Rattle.device_registry.specs.declared.endpoint.Endpoint.{Endpoint}
use Rattle.step_notices.specs.Notes.{Notes}
use Rattle.ca_machine.specs.State.{State, endpoint_at}
use Rattle.ca_machine.specs.Plan.{Answer, AreAnswers, Asked, Outcome, asked_of, bytes_given, is_whole, outcome_of}
use Rattle.ca_machine.specs.Plan.{refused}
use Rattle.ca_machine.specs.Plan.{unless_refused, unless_row}
use Rattle.ca_machine.specs.Notices.{noted}
use Rattle.ca_machine.specs.Periods.{frames_recorded, mixing_of, period_by, period_frames, period_of, period_payload}
use Rattle.ca_machine.specs.Periods.{period_plan, period_rows, recording, sounding}
use Rattle.ca_machine.specs.View.{MachineView}
use Rattle.reply_payload.specs.Answers.{IsPeriod, code_of, payload_of}
use Rattle.reply_payload.specs.declared.payload.Payload.{Payload}
use Rattle.reply_payload.specs.declared.payload.Payload.TheVariants as payload
use Rattle.service_book.specs.Telling.{step_notices}
use Rattle.service_board.specs.Telling.{has_failed}
use Rattle.service_core.specs.Service.{AnswersPlan, AnswersStep}
use Rattle.service_core.specs.Telling.{after_telling, call_telling, telling_of}
use Rattle.service_core.specs.declared.telling.Telling.TheVariants as telling
use Rattle.service_core.proofs.ComparedSteps.{made_by_notes}
use Rattle.service_core.proofs.TallyOutcomes.{last_byte, some_bytes}
use Rattle.service_core.proofs.ToldSteps.{told_by_notices, untold_step}

-- ---- which events are told as periods

no_call : (x : Call) (e : EndpointNo) → call_telling x ≡ telling.Period e → ⊥
no_call (call.Release c) e h = cc h
no_call (call.Initialize c share flags duration period format session) e h = cc h
no_call (call.Start c) e h = cc h
no_call (call.Stop c) e h = cc h
no_call (call.SetMaster s level context) e h = cc h
no_call (call.SetMute s mute context) e h = cc h
no_call (call.SetChannel s channel level context) e h = cc h
no_call (call.SetDisplayName s context text) e h = cc h
no_call (call.SetIconPath s context text) e h = cc h
no_call (call.SetGrouping s grouping context) e h = cc h
no_call _ e h = cc h

pub is_period : (ev : Event) (e : EndpointNo) → telling_of ev ≡ telling.Period e → ev ≡ event.Period e
is_period (event.Period d) e h = ap event.Period (same d e h)
  where
    same : (d e : EndpointNo) → telling.Period d ≡ telling.Period e → d ≡ e
    same d e h = cc h
is_period (event.Call conn tag x) e h = absurd (no_call x e h)
is_period (event.Open c process name) e h = absurd (cc h)
is_period (event.Hangup c) e h = absurd (cc h)
is_period (event.Device x) e h = absurd (cc h)
is_period event.Shutdown e h = absurd (cc h)

-- ---- whether the device failed

-- the bytes of a period's answer
abbrev answer_bytes : ℕ → Bool → List ℕ
answer_bytes frames failed = to_le_bytes w32 frames ++ (if failed then 1 else 0) ∷ []

module _ (st : State) (given : List Answer) where
  -- where a row refuses, or nothing was asked, no device failed
  unasked : (verdict : Option Hr) → AreAnswers (unless_row verdict Asked.nothing) given → is_whole given ≡ true
  unasked None a = ap is_whole a
  unasked (Some code) a = ap is_whole a

  -- an outcome whose payload is that of a period of so many frames
  module _ (asks : Asked) (o : Outcome) (n : ℕ) (pays : o.payload ≡ period_payload n (is_whole given)) where
    -- an answer without bytes: no device failed
    none_failed : (verdict : Option Hr) → AreAnswers (unless_row verdict asks) given →
        [] ≡ (unless_refused st verdict o).payload → is_whole given ≡ true
    none_failed None a e = absurd (some_bytes n (is_whole given) (e ∙ pays))
    none_failed (Some code) a e = ap is_whole a

    -- an answer with bytes says whether it failed
    says_failed : (verdict : Option Hr) (frames : ℕ) (failed : Bool) →
        answer_bytes frames failed ≡ (unless_refused st verdict o).payload → failed ≡ not (is_whole given)
    says_failed None frames failed e = last_byte n (is_whole given) failed frames (e ∙ pays)
    says_failed (Some code) frames failed e = cc (ap (λ bytes. bytes) e)

  -- by the endpoint's flow
  flow_whole : (d : Endpoint) (f : Flow) → AreAnswers (asked_of (period_by st d f)) given →
      [] ≡ (outcome_of st (period_by st d f) given).payload → is_whole given ≡ true
  flow_whole d flow.Render a e =
      none_failed (period_by st d flow.Render).asks (sounding st (mixing_of st d) given)
      (period_frames d st.stage.streams) refl (first (period_rows st d (period_frames d st.stage.streams))) a e
  flow_whole d flow.Capture a e =
      none_failed (period_by st d flow.Capture).asks
      (recording st d (period_frames d st.stage.streams) given)
      (frames_recorded d (period_frames d st.stage.streams) (bytes_given given)) refl
      (first (period_rows st d (period_frames d st.stage.streams))) a e

  flow_failed : (d : Endpoint) (f : Flow) (frames : ℕ) (failed : Bool) →
      answer_bytes frames failed ≡ (outcome_of st (period_by st d f) given).payload → failed ≡ not (is_whole given)
  flow_failed d flow.Render frames failed e =
      says_failed (period_by st d flow.Render).asks (sounding st (mixing_of st d) given)
      (period_frames d st.stage.streams) refl (first (period_rows st d (period_frames d st.stage.streams))) frames
      failed e
  flow_failed d flow.Capture frames failed e =
      says_failed (period_by st d flow.Capture).asks
      (recording st d (period_frames d st.stage.streams) given)
      (frames_recorded d (period_frames d st.stage.streams) (bytes_given given)) refl
      (first (period_rows st d (period_frames d st.stage.streams))) frames failed e

  nothing_whole : (o : Option Endpoint) → AreAnswers (asked_of (period_of st o)) given →
      [] ≡ (outcome_of st (period_of st o) given).payload → is_whole given ≡ true
  nothing_whole None a e = unasked (first (period_of st None).rows) a
  nothing_whole (Some d) a e = flow_whole d d.flow a e

  refused_bytes : (verdict : Option Hr) (frames : ℕ) (failed : Bool) →
      answer_bytes frames failed ≡ (unless_refused st verdict (refused st hr.E_NOTFOUND)).payload → ⊥
  refused_bytes None frames failed e = cc (ap (λ bytes. bytes) e)
  refused_bytes (Some code) frames failed e = cc (ap (λ bytes. bytes) e)

  bytes_failed : (o : Option Endpoint) (frames : ℕ) (failed : Bool) →
      answer_bytes frames failed ≡ (outcome_of st (period_of st o) given).payload → failed ≡ not (is_whole given)
  bytes_failed None frames failed e = absurd (refused_bytes (first (period_of st None).rows) frames failed e)
  bytes_failed (Some d) frames failed e = flow_failed d d.flow frames failed e

-- ---- its step

module _ {D : Type 0} (faults : D → ℕ) (told_by : D → Option (List DeviceLog)) (e : EndpointNo)
    (old mid : MachineView D) (was : Notes) where
  -- a period that was played, or whose device failed
  played_step : (frames : ℕ) (failed : Bool) →
      AnswersPlan faults told_by (λ st. period_plan st e.0) hr.S_OK (answer_bytes frames failed) old mid →
      AnswersStep faults told_by (event.Period e) hr.S_OK (answer_bytes frames failed) old
      (after_telling failed (step_notices (if failed then noted old.state else was) (event.Period e) (noted mid.state))
      mid)
  played_step frames true got =
      told_by_notices faults told_by (event.Period e) hr.S_OK (answer_bytes frames true) old mid got
      (step_notices (noted old.state) (event.Period e) (noted mid.state))
      (made_by_notes old.state (event.Period e) mid.state refl)
      (sym (bytes_failed old.state got.given (endpoint_at e.0 old.state) frames true got.payload_is))
  played_step frames false got =
      untold_step faults told_by (event.Period e) hr.S_OK (answer_bytes frames false) old mid got
      (sym (bytes_failed old.state got.given (endpoint_at e.0 old.state) frames false got.payload_is))

  refused_step : (code : Hr) → AnswersPlan faults told_by (λ st. period_plan st e.0) code [] old mid →
      AnswersStep faults told_by (event.Period e) code [] old mid
  refused_step code got =
      untold_step faults told_by (event.Period e) code [] old mid got
      (ap not (nothing_whole old.state got.given (endpoint_at e.0 old.state) got.answers got.payload_is))

  answered_step : (answer : Result Payload Hr) → IfOk answer IsPeriod →
      AnswersPlan faults told_by (λ st. period_plan st e.0) (code_of answer) (payload_of answer) old mid →
      AnswersStep faults told_by (event.Period e) (code_of answer) (payload_of answer) old
      (after_telling (has_failed answer)
      (step_notices (if has_failed answer then noted old.state else was) (event.Period e) (noted mid.state)) mid)
  answered_step (Err code) plays got = refused_step code got
  answered_step (Ok (payload.Period frames failed)) plays got = played_step frames failed got
  answered_step (Ok payload.Nothing) plays got = absurd plays
  answered_step (Ok (payload.Number n)) plays got = absurd plays
  answered_step (Ok (payload.Long n)) plays got = absurd plays
  answered_step (Ok (payload.Longs a b)) plays got = absurd plays
  answered_step (Ok (payload.Format f)) plays got = absurd plays
  answered_step (Ok (payload.Closest f)) plays got = absurd plays

  -- by what was noted before it, if its device failed
  pub period_step : (answer : Result Payload Hr) (before : Notes) → IfOk answer IsPeriod →
      before ≡ (if has_failed answer then noted old.state else was) →
      AnswersPlan faults told_by (λ st. period_plan st e.0) (code_of answer) (payload_of answer) old mid →
      AnswersStep faults told_by (event.Period e) (code_of answer) (payload_of answer) old
      (after_telling (has_failed answer) (step_notices before (event.Period e) (noted mid.state)) mid)
  period_step answer before plays is got =
      subst (λ o. AnswersStep faults told_by (event.Period e) (code_of answer) (payload_of answer) old
      (after_telling (has_failed answer) (step_notices o (event.Period e) (noted mid.state)) mid)) (sym is)
      (answered_step answer plays got)
