-- How events are told: every connection keeps the notices that it registered for (this project's own).
use Rattle.std.specs.Prelude.{List, Bool, true, false}
use Rattle.ca_model.specs.declared.event.Call.{Call}
use Rattle.ca_model.specs.declared.event.Call.TheVariants as call
use Rattle.ca_model.specs.declared.event.Event.{Event}
use Rattle.ca_model.specs.declared.event.Event.TheVariants as event
use Rattle.event_notices.specs.declared.notice.Notice.{Notice}
use Rattle.ca_machine.specs.State.{State}
use Rattle.ca_machine.specs.Notices.{with_notices}
use Rattle.ca_machine.specs.View.{MachineView}
use Rattle.service_core.specs.declared.telling.Telling.{Telling}
use Rattle.service_core.specs.declared.telling.Telling.TheVariants as telling

-- how a call is told
abbrev pub call_telling : Call → Telling
call_telling (call.Release c) = telling.Compared
call_telling (call.Initialize c share flags duration period format session) = telling.Compared
call_telling (call.Start c) = telling.Compared
call_telling (call.Stop c) = telling.Compared
call_telling (call.SetMaster s level context) = telling.Setting s
call_telling (call.SetMute s mute context) = telling.Setting s
call_telling (call.SetChannel s channel level context) = telling.Setting s
call_telling (call.SetDisplayName s context text) = telling.Setting s
call_telling (call.SetIconPath s context text) = telling.Setting s
call_telling (call.SetGrouping s grouping context) = telling.Setting s
call_telling _ = telling.Nothing

-- how an event is told
abbrev pub telling_of : Event → Telling
telling_of (event.Open c process name) = telling.Nothing
telling_of (event.Hangup c) = telling.Compared
telling_of (event.Call c tag x) = call_telling x
telling_of (event.Period e) = telling.Period e
telling_of (event.Device x) = telling.Compared
telling_of event.Shutdown = telling.Compared

-- an event that is no period
abbrev pub IsNoPeriod : Event → Type 0
IsNoPeriod (event.Period e) = ⊥
IsNoPeriod _ = Unit {0}

-- a state, and what a service shows, after these notices were told, if they were
abbrev pub after_told : Bool → List Notice → State → State
after_told false ns st = st
after_told true ns st = with_notices ns st

abbrev pub after_telling : {D : Type 0} → Bool → List Notice → MachineView D → MachineView D
after_telling telling ns v = record v { state = after_told telling ns v.state }
