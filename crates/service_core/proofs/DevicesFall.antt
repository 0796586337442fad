-- Device events and a shutdown leave streams as they were opened, with no more frames pending.
use Rattle.std.proofs.Common.{ℕ, not, List, [], ◌∷◌, ◌&&◌, filter, Bool, true, false, Option, Some, None}
use Rattle.std.specs.List.{AllByRecursion}
use Rattle.ca_base.specs.declared.ids.Reason.{Reason}
use Rattle.ca_base.specs.declared.ids.Reason.TheVariants.{Format, Removal, Shutdown}
use Rattle.ca_model.specs.declared.event.DeviceEvent.{DeviceEvent}
use Rattle.ca_model.specs.declared.event.DeviceEvent.TheVariants as device
use Rattle.wave_format.specs.Format.{spelled}
use Rattle.ca_stage.specs.Stage.{Stream, Stage, is_open}
use Rattle.ca_stage.specs.Moves.{added, closed}
use Rattle.ca_stage.proofs.MapMoves.{moves_of}
use Rattle.ca_machine.specs.State.{State, endpoint_at}
use Rattle.ca_machine.specs.Devices.{disconnects, disconnects_if, is_within, leaves_active, shutdown_plan}
use Rattle.ca_machine.specs.Devices.{with_endpoint_format, with_endpoint_state}
use Rattle.ca_machine.specs.Formats.{matches}
use Rattle.ca_machine.specs.Step.{device_plan}
use Rattle.service_core.proofs.PlansFall.{Keeps, keeps_memory, keeps_plain, of_named}
use Rattle.service_core.proofs.StreamsFall.{IsControl, all_still, all_moved}

-- streams that lose their device
moves_control : (reason : Reason) (streams : List Stream) → AllByRecursion IsControl (moves_of (closed reason) streams)
moves_control reason [] = tt
moves_control reason (s ∷ streams) = (tt, moves_control reason streams)

disconnects_control : (reason : Reason) (scope : Option ℕ) (st : Stage) →
    AllByRecursion IsControl (disconnects reason scope st)
disconnects_control reason scope st =
    moves_control reason (filter (λ s. is_within scope s && is_open s) st.streams)

pub if_control : (b : Bool) (reason : Reason) (scope : Option ℕ) (st : Stage) →
    AllByRecursion IsControl (disconnects_if b reason scope st)
if_control false reason scope st = tt
if_control true reason scope st = disconnects_control reason scope st

pub keeps_device : (st : State) (x : DeviceEvent) → Keeps st (device_plan st x)
keeps_device st (device.Add e flow format name) =
    keeps_memory st _ _ (all_moved st.stage (added e.0 ∷ []) (tt, tt))
keeps_device st (device.SetState e state) =
    keeps_plain st _ _ (of_named st (endpoint_at e.0 st) (with_endpoint_state st e.0 state)
    (λ d. all_moved st.stage (disconnects_if (leaves_active state d) Removal (Some e.0) st.stage)
    (if_control (leaves_active state d) Removal (Some e.0) st.stage)))
keeps_device st (device.Remove e) =
    keeps_plain st _ _ (all_moved st.stage (disconnects Removal (Some e.0) st.stage)
    (disconnects_control Removal (Some e.0) st.stage))
keeps_device st (device.SetFormat e format) =
    keeps_memory st _ _ (of_named st (endpoint_at e.0 st) (with_endpoint_format st e.0 format.list)
    (λ d. all_moved st.stage
    (disconnects_if (not (matches d.format (spelled format.list))) Format (Some e.0) st.stage)
    (if_control (not (matches d.format (spelled format.list))) Format (Some e.0) st.stage)))
keeps_device st (device.SetDefault flow role e) = keeps_plain st _ _ (all_still st.stage)
keeps_device st (device.SetExclusive e allow priority) = keeps_plain st _ _ (all_still st.stage)
keeps_device st (device.SetName e name) = keeps_plain st _ _ (all_still st.stage)
keeps_device st (device.Other code rest) = keeps_plain st _ _ (all_still st.stage)

pub keeps_shutdown : (st : State) → Keeps st (shutdown_plan st)
keeps_shutdown st =
    keeps_plain st _ _ (all_moved st.stage (disconnects Shutdown None st.stage)
    (disconnects_control Shutdown None st.stage))
