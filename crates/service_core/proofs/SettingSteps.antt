-- Calls that set a session: nothing that is noted changes, so that the step tells their own notice alone.
use Rattle.std.proofs.Common.{◌≡◌, ℕ, ◌==◌, ◌++◌, List, [], ◌∷◌, map, Bool, true, false, Option, Some, None}
use Rattle.std.proofs.Common.{refl, sym, ap, ap₂, subst, ◌∙◌, if◌then◌else◌}
use Rattle.device_io.specs.DeviceLog.{DeviceLog}
use Rattle.ca_base.specs.declared.codes.Hr.{Hr}
use Rattle.ca_base.specs.declared.codes.TheConstants.Hr as hr
use Rattle.ca_base.specs.declared.ids.ConnNo.{ConnNo}
use Rattle.ca_base.specs.declared.ids.SessionNo.{SessionNo}
use Rattle.ca_base.specs.Rows.{first}
use Rattle.ca_model.specs.declared.event.Call.{Call}
use Rattle.ca_model.specs.declared.event.Call.TheVariants as call
use Rattle.ca_model.specs.declared.event.Event.TheVariants as event
use Rattle.session_manager.specs.declared.changes.Change.{Change}
use Rattle.session_manager.specs.declared.changes.Change.TheVariants as change
use Rattle.session_manager.specs.declared.session.Session.{Session}
use Rattle.session_manager.specs.Changes.{after as changed_by}
use Rattle.session_manager.specs.Sessions.{changed, is_session}
use Rattle.step_notices.specs.Changes.{device_notices, session_notices}
use Rattle.step_notices.specs.Laws.{SameDevicesAreQuiet, SameSessionsAreQuiet}
use Rattle.ca_machine.specs.State.{State}
use Rattle.ca_machine.specs.Plan.{Answer, granted, outcome_of, unless_refused}
use Rattle.ca_machine.specs.Notices.{made, noted, noted_session, setting_notices, volume_at}
use Rattle.ca_machine.specs.Sessions.{set_session_plan}
use Rattle.ca_machine.specs.Step.{call_plan, call_tells}
use Rattle.ca_machine.specs.View.{MachineView}
use Rattle.service_book.specs.Telling.{setting_notices_by}
use Rattle.service_core.specs.Service.{AnswersPlan, AnswersStep}
use Rattle.service_core.specs.Telling.{after_telling, call_telling}
use Rattle.service_core.specs.declared.telling.Telling.TheVariants as telling
use Rattle.service_core.proofs.ApartNotes.{AreApart}
use Rattle.service_core.proofs.ToldSteps.{told_by_notices}

-- ---- what is noted of sessions stays

same_note : (by : Change) (s : Session) → noted_session (changed_by by s) ≡ noted_session s
same_note (change.Level level) s = refl
same_note (change.Mute mute) s = refl
same_note (change.Channel channel level) s = refl
same_note (change.Display text) s = refl
same_note (change.Icon text) s = refl
same_note (change.Grouping guid) s = refl

same_notes : (number : ℕ) (by : Change) (sessions : List Session) →
    map noted_session (changed number (changed_by by) sessions) ≡ map noted_session sessions
same_notes number by [] = refl
same_notes number by (s ∷ sessions) =
    ap₂ (λ n ns. n ∷ ns) (one (is_session number s)) (same_notes number by sessions)
  where
    one : (b : Bool) → noted_session (if b then changed_by by s else s) ≡ noted_session s
    one true = same_note by s
    one false = refl

noted_set : (st : State) (conn number : ℕ) (by : Change) (given : List Answer) →
    noted (outcome_of st (set_session_plan st conn number by) given).after ≡ noted st
noted_set st conn number by given = unless (first (set_session_plan st conn number by).rows)
  where
    unless : (verdict : Option Hr) →
        noted (unless_refused st verdict
        (granted [] [] (record st { sessions = changed number (changed_by by) st.sessions }))).after ≡ noted st
    unless None = ap (λ sessions. record (noted st) { sessions = sessions }) (same_notes number by st.sessions)
    unless (Some code) = refl

-- ---- which calls set a session

-- a call sets this session
record Sets (x : Call) (s : SessionNo) : Type 0 where
  by : Change
  planned : (st : State) (conn : ℕ) → call_plan st conn x ≡ set_session_plan st conn s.0 by
  tells_it : call_tells x ≡ true
  notices : (st after : State) → setting_notices x st after ≡ setting_notices_by x (volume_at s.0 st) after

same_session : (n s : SessionNo) → telling.Setting n ≡ telling.Setting s → n ≡ s
same_session n s h = cc h

sets : (x : Call) (s : SessionNo) → call_telling x ≡ telling.Setting s → Sets x s
sets (call.SetMaster n level context) s h =
    subst (Sets (call.SetMaster n level context)) (same_session n s h)
    (record { by = change.Level level; planned = λ st conn. refl; tells_it = refl; notices = λ st after. refl })
sets (call.SetMute n mute context) s h =
    subst (Sets (call.SetMute n mute context)) (same_session n s h)
    (record { by = change.Mute mute; planned = λ st conn. refl; tells_it = refl; notices = λ st after. refl })
sets (call.SetChannel n channel level context) s h =
    subst (Sets (call.SetChannel n channel level context)) (same_session n s h) (record {
      by = change.Channel channel level;
      planned = λ st conn. refl;
      tells_it = refl;
      notices = λ st after. refl;
    })
sets (call.SetDisplayName n context text) s h =
    subst (Sets (call.SetDisplayName n context text)) (same_session n s h)
    (record { by = change.Display text; planned = λ st conn. refl; tells_it = refl; notices = λ st after. refl })
sets (call.SetIconPath n context text) s h =
    subst (Sets (call.SetIconPath n context text)) (same_session n s h)
    (record { by = change.Icon text; planned = λ st conn. refl; tells_it = refl; notices = λ st after. refl })
sets (call.SetGrouping n grouping context) s h =
    subst (Sets (call.SetGrouping n grouping context)) (same_session n s h)
    (record { by = change.Grouping grouping; planned = λ st conn. refl; tells_it = refl; notices = λ st after. refl })
sets _ s h = absurd (cc h)

-- ---- the step of such a call

module _ (devices : SameDevicesAreQuiet) (sessions : SameSessionsAreQuiet) where
  -- where nothing noted changes, only the call itself tells something
  made_setting : (st after : State) (conn : ConnNo) (tag : ℕ) (x : Call) → noted after ≡ noted st →
      AreApart (noted st) → made st (event.Call conn tag x) after ≡ setting_notices x st after
  made_setting st after conn tag x same apart =
      ap₂ (λ ds ss. ds ++ [] ++ ss ++ setting_notices x st after)
      (ap (device_notices (noted st)) same ∙ devices (noted st) apart.endpoints)
      (ap (session_notices (noted st)) same ∙ sessions (noted st) apart.clients)

  pub setting_step : {D : Type 0} (faults : D → ℕ) (told_by : D → Option (List DeviceLog)) (conn : ConnNo) (tag : ℕ)
      (x : Call) (s : SessionNo) (result : Hr) (payload : List ℕ) (old mid : MachineView D) (was : ℕ) →
      call_telling x ≡ telling.Setting s → AreApart (noted old.state) → was ≡ volume_at s.0 old.state →
      AnswersPlan faults told_by (λ st. call_plan st conn.0 x) result payload old mid →
      AnswersStep faults told_by (event.Call conn tag x) result payload old
      (after_telling (result.0 == hr.S_OK.0) (setting_notices_by x was mid.state) mid)
  setting_step faults told_by conn tag x s result payload old mid was h apart is got =
      let it : Sets x s = sets x s h in
      let same : noted mid.state ≡ noted old.state =
      ap noted (got.after_is ∙ ap (λ p. (outcome_of old.state p got.given).after) (it.planned old.state conn.0))
      ∙ noted_set old.state conn.0 s.0 it.by got.given in
      told_by_notices faults told_by (event.Call conn tag x) result payload old mid got
      (setting_notices_by x was mid.state)
      (made_setting old.state mid.state conn tag x same apart
      ∙ it.notices old.state mid.state
      ∙ ap (λ n. setting_notices_by x n mid.state) (sym is))
      it.tells_it
