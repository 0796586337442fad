-- Events that are told by what is noted before them and after them, and those that aren't told.
use Rattle.std.proofs.Common.{◌≡◌, ℕ, ◌==◌, ◌++◌, List, [], true, false, Option, refl, ap, ◌∙◌}
use Rattle.std.proofs.lemmas.List.{append-nil}
use Rattle.device_io.specs.DeviceLog.{DeviceLog}
use Rattle.ca_base.specs.declared.codes.Hr.{Hr}
use Rattle.ca_base.specs.declared.codes.TheConstants.Hr as hr
use Rattle.ca_base.specs.declared.ids.ConnNo.{ConnNo}
use Rattle.ca_model.specs.declared.event.Call.{Call}
use Rattle.ca_model.specs.declared.event.Call.TheVariants as call
use Rattle.ca_model.specs.declared.event.Event.{Event}
use Rattle.ca_model.specs.declared.event.Event.TheVariants as event
use Rattle.ca_machine.specs.State.{State}
use Rattle.ca_machine.specs.Plan.{Answer}
use Rattle.ca_machine.specs.Notices.{event_notices, made, noted}
use Rattle.ca_machine.specs.Step.{call_tells, plan, tells}
use Rattle.ca_machine.specs.View.{MachineView}
use Rattle.service_book.specs.Telling.{step_notices}
use Rattle.service_core.specs.Service.{AnswersPlan, AnswersStep}
use Rattle.service_core.specs.Telling.{IsNoPeriod, after_telling, call_telling, telling_of}
use Rattle.service_core.specs.declared.telling.Telling.TheVariants as telling
use Rattle.service_core.proofs.ToldSteps.{told_by_notices, untold_step}

-- an event that itself tells nothing
pub made_by_notes : (st : State) (e : Event) (after : State) → event_notices e st after ≡ [] →
    made st e after ≡ step_notices (noted st) e (noted after)
made_by_notes st e after none =
    ap (λ ns. step_notices (noted st) e (noted after) ++ ns) none ∙ append-nil (step_notices (noted st) e (noted after))

-- what is compared: it may be told, tells nothing itself, and is no period
pub record IsCompared (e : Event) : Type 0 where
  pub tells_it : (given : List Answer) → tells e given ≡ true
  pub itself : (st after : State) → event_notices e st after ≡ []
  pub other : IsNoPeriod e

compared_call : (conn : ConnNo) (tag : ℕ) (x : Call) → call_telling x ≡ telling.Compared →
    IsCompared (event.Call conn tag x)
compared_call conn tag (call.Release c) h =
    record { tells_it = λ given. refl; itself = λ st after. refl; other = tt }
compared_call conn tag (call.Initialize c share flags duration period format session) h =
    record { tells_it = λ given. refl; itself = λ st after. refl; other = tt }
compared_call conn tag (call.Start c) h =
    record { tells_it = λ given. refl; itself = λ st after. refl; other = tt }
compared_call conn tag (call.Stop c) h =
    record { tells_it = λ given. refl; itself = λ st after. refl; other = tt }
compared_call conn tag _ h = absurd (cc h)

pub compared : (e : Event) → telling_of e ≡ telling.Compared → IsCompared e
compared (event.Hangup c) h = record { tells_it = λ given. refl; itself = λ st after. refl; other = tt }
compared (event.Device x) h = record { tells_it = λ given. refl; itself = λ st after. refl; other = tt }
compared event.Shutdown h = record { tells_it = λ given. refl; itself = λ st after. refl; other = tt }
compared (event.Call conn tag x) h = compared_call conn tag x h
compared (event.Open c process name) h = absurd (cc h)
compared (event.Period e) h = absurd (cc h)

-- what isn't told: no answers make the step tell it, and it is no period
pub record IsUntold (e : Event) : Type 0 where
  pub tells_none : (given : List Answer) → tells e given ≡ false
  pub other : IsNoPeriod e

untold_call : (x : Call) → call_telling x ≡ telling.Nothing → call_tells x ≡ false
untold_call (call.Release c) h = cc h
untold_call (call.Initialize c share flags duration period format session) h = cc h
untold_call (call.Start c) h = cc h
untold_call (call.Stop c) h = cc h
untold_call (call.SetMaster s level context) h = cc h
untold_call (call.SetMute s mute context) h = cc h
untold_call (call.SetChannel s channel level context) h = cc h
untold_call (call.SetDisplayName s context text) h = cc h
untold_call (call.SetIconPath s context text) h = cc h
untold_call (call.SetGrouping s grouping context) h = cc h
untold_call _ h = refl

pub untold : (e : Event) → telling_of e ≡ telling.Nothing → IsUntold e
untold (event.Open c process name) h = record { tells_none = λ given. refl; other = tt }
untold (event.Call conn tag x) h = record { tells_none = λ given. untold_call x h; other = tt }
untold (event.Hangup c) h = absurd (cc h)
untold (event.Device x) h = absurd (cc h)
untold (event.Period e) h = absurd (cc h)
untold event.Shutdown h = absurd (cc h)

module _ {D : Type 0} (faults : D → ℕ) (told_by : D → Option (List DeviceLog)) (e : Event) (result : Hr)
    (payload : List ℕ) (old mid : MachineView D)
    (got : AnswersPlan faults told_by (λ st. plan st e) result payload old mid) where
  pub compared_step : telling_of e ≡ telling.Compared →
      AnswersStep faults told_by e result payload old
      (after_telling (result.0 == hr.S_OK.0) (step_notices (noted old.state) e (noted mid.state)) mid)
  compared_step h =
      told_by_notices faults told_by e result payload old mid got (step_notices (noted old.state) e (noted mid.state))
      (made_by_notes old.state e mid.state ((compared e h).itself old.state mid.state))
      ((compared e h).tells_it got.given)

  pub nothing_step : telling_of e ≡ telling.Nothing → AnswersStep faults told_by e result payload old mid
  nothing_step h = untold_step faults told_by e result payload old mid got ((untold e h).tells_none got.given)
