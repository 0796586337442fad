-- An event that was answered by its plan, and told if the step tells it, is the step of the machine.
use Rattle.std.proofs.Common.{◌≡◌, ℕ, ◌==◌, ◌&&◌, List, Bool, true, false, Option, if◌then◌else◌}
use Rattle.std.proofs.Common.{refl, sym, ap, ap₂, subst, ◌∙◌}
use Rattle.device_io.specs.DeviceLog.{DeviceLog}
use Rattle.ca_base.specs.declared.codes.Hr.{Hr}
use Rattle.ca_base.specs.declared.codes.TheConstants.Hr as hr
use Rattle.ca_model.specs.declared.event.Event.{Event}
use Rattle.event_notices.specs.declared.notice.Notice.{Notice}
use Rattle.ca_machine.specs.State.{State}
use Rattle.ca_machine.specs.Plan.{Outcome, outcome_of}
use Rattle.ca_machine.specs.Notices.{made, told, with_notices}
use Rattle.ca_machine.specs.Step.{plan, step, tells}
use Rattle.ca_machine.specs.View.{MachineView, Passes, outside}
use Rattle.service_core.specs.Service.{AnswersPlan, AnswersStep}
use Rattle.service_core.specs.Telling.{after_telling, after_told}

-- whatever is told, only the state after it is another
told_same : {A : Type 0} (f : Outcome → A) → ((o : Outcome) (st : State) → f (record o { after = st }) ≡ f o) →
    (st : State) (e : Event) (b : Bool) (o : Outcome) → f (told st e b o) ≡ f o
told_same f h st e false o = refl
told_same f h st e true o = by (o.result.0 == hr.S_OK.0)
  where
    by : (c : Bool) → f (if c then record o { after = with_notices (made st e o.after) o.after } else o) ≡ f o
    by true = h o (with_notices (made st e o.after) o.after)
    by false = refl

told_after : (st : State) (e : Event) (b : Bool) (o : Outcome) →
    (told st e b o).after ≡ after_told (b && o.result.0 == hr.S_OK.0) (made st e o.after) o.after
told_after st e false o = refl
told_after st e true o = by (o.result.0 == hr.S_OK.0)
  where
    by : (c : Bool) →
        (if c then record o { after = with_notices (made st e o.after) o.after } else o).after
        ≡ after_told c (made st e o.after) o.after
    by true = refl
    by false = refl

module _ {D : Type 0} (faults : D → ℕ) (told_by : D → Option (List DeviceLog)) (e : Event) (result : Hr)
    (payload : List ℕ) (old mid : MachineView D)
    (got : AnswersPlan faults told_by (λ st. plan st e) result payload old mid) where
  abbrev o : Outcome
  o = outcome_of old.state (plan old.state e) got.given

  -- what the step makes, by whether it tells the event
  step_is : (b : Bool) → tells e got.given ≡ b → step old.state e got.given ≡ told old.state e b o
  step_is b is = ap (λ b. told old.state e b o) is

  told_is : (b : Bool) → tells e got.given ≡ b →
      after_told (b && result.0 == hr.S_OK.0) (made old.state e mid.state) mid.state
      ≡ (step old.state e got.given).after
  told_is b is =
      ap₂ (λ (code : Hr) st. after_told (b && code.0 == hr.S_OK.0) (made old.state e st) st) got.result_is got.after_is
      ∙ sym (told_after old.state e b o)
      ∙ sym (ap (λ o. o.after) (step_is b is))

  -- the event was told, if it was to be and was granted
  pub told_step : (b : Bool) → tells e got.given ≡ b →
      AnswersStep faults told_by e result payload old
      (after_telling (b && result.0 == hr.S_OK.0) (made old.state e mid.state) mid)
  told_step b is = record {
    given = got.given;
    answers = got.answers;
    result_is = got.result_is
        ∙ sym (told_same (λ o. o.result) (λ o st. refl) old.state e (tells e got.given) o);
    payload_is = got.payload_is
        ∙ sym (told_same (λ o. o.payload) (λ o st. refl) old.state e (tells e got.given) o);
    after_is = told_is b is;
    passes = subst
        (λ pieces. Passes (outside faults told_by old.devices) pieces got.given (outside faults told_by mid.devices))
        (sym (told_same (λ o. o.output) (λ o st. refl) old.state e (tells e got.given) o)) got.passes;
  }

  -- it tells nothing
  pub untold_step : tells e got.given ≡ false → AnswersStep faults told_by e result payload old mid
  untold_step is = told_step false is

  -- it was told by these notices, which are those of the step
  pub told_by_notices : (ns : List Notice) → made old.state e mid.state ≡ ns → tells e got.given ≡ true →
      AnswersStep faults told_by e result payload old (after_telling (result.0 == hr.S_OK.0) ns mid)
  told_by_notices ns is tells_it =
      subst
      (λ ns. AnswersStep faults told_by e result payload old (after_telling (result.0 == hr.S_OK.0) ns mid)) is
      (told_step true tells_it)
