-- What device events and a shutdown do to the tally: what the streams that they close had pending is dropped.
use Rattle.std.proofs.Common.{◌≡◌, ℕ, ◌&&◌, not, List, [], ◌∷◌, filter, Bool, true, false, Option, Some, None}
use Rattle.std.proofs.Common.{refl, ap, arith, sum_by}
use Rattle.ca_base.specs.declared.ids.Reason.{Reason}
use Rattle.ca_base.specs.declared.ids.Reason.TheVariants.{Format, Removal, Shutdown}
use Rattle.ca_model.specs.declared.event.DeviceEvent.{DeviceEvent}
use Rattle.ca_model.specs.declared.event.DeviceEvent.TheVariants as device
use Rattle.wave_format.specs.Format.{spelled}
use Rattle.device_registry.specs.declared.endpoint.Endpoint.{Endpoint}
use Rattle.ca_stage.specs.Stage.{Stream, is_open}
use Rattle.ca_stage.specs.Moves.{added, closed}
use Rattle.ca_stage.specs.Order.{clients, RisesFrom}
use Rattle.ca_stage.proofs.Clients.{clients_of}
use Rattle.ca_stage.proofs.Counting.{counted_none}
use Rattle.ca_stage.proofs.Lists.{map_same}
use Rattle.ca_stage.proofs.MapMoves.{moves_of_are}
use Rattle.ca_machine.specs.State.{State, endpoint_at}
use Rattle.ca_machine.specs.Plan.{Answer, Outcome, if_found, moved, outcome_of}
use Rattle.ca_machine.specs.Plan.Answer.{out_of_memory}
use Rattle.ca_machine.specs.Devices.{disconnects, disconnects_if, is_within, leaves_active, shutdown_plan}
use Rattle.ca_machine.specs.Devices.{with_endpoint_format, with_endpoint_state, with_named}
use Rattle.ca_machine.specs.Formats.{matches}
use Rattle.ca_machine.specs.Step.{device_plan}
use Rattle.service_core.specs.Counting.{HasCounts}
use Rattle.service_core.proofs.TallyFalls.{closes_count, open_padding, open_pads}
use Rattle.service_core.proofs.TallyOutcomes.{WereDropped, dropped_unless, fallen, none_dropped}

module _ (st : State) (rises : RisesFrom 0 (clients st.stage)) (fits : HasCounts st.tally) where
  -- streams that lose their device
  disconnects_drop : (reason : Reason) (scope : Option ℕ) →
      WereDropped st (moved (disconnects reason scope st.stage) st)
  disconnects_drop reason scope =
      let lost : List Stream = filter (λ s. is_within scope s && is_open s) st.stage.streams in
      closes_count reason (clients_of lost) st.stage st.tally rises fits.dropped (disconnects reason scope st.stage)
      (moves_of_are (closed reason) lost)

  pub drops_if : (b : Bool) (reason : Reason) (scope : Option ℕ) →
      WereDropped st (moved (disconnects_if b reason scope st.stage) st)
  drops_if false reason scope = none_dropped st rises fits
  drops_if true reason scope = disconnects_drop reason scope

  -- an endpoint that comes takes nothing
  added_drops : (number : ℕ) → WereDropped st (moved (added number ∷ []) st)
  added_drops number =
      let same : open_padding (moved (added number ∷ []) st).stage ≡ open_padding st.stage =
      ap (sum_by open_pads) (map_same (λ s. s) (λ s. refl) st.stage.streams) in
      let none : fallen st (moved (added number ∷ []) st) ≡ 0 = omega (arith, same) in
      ap (λ n. record (st.tally) { dropped = n }) (counted_none st.tally.dropped fits.dropped none)

  named_drops : (e : Option Endpoint) (f : Endpoint → Outcome) → ((e : Endpoint) → WereDropped st (f e).after) →
      WereDropped st (with_named st e f).after
  named_drops None f h = none_dropped st rises fits
  named_drops (Some e) f h = h e

  pub memory_drops : (o : Outcome) (given : List Answer) → WereDropped st o.after →
      WereDropped st (if_found st o given).after
  memory_drops o (out_of_memory ∷ given) h = none_dropped st rises fits
  memory_drops o _ h = h

  pub device_outcome : (x : DeviceEvent) (given : List Answer) →
      WereDropped st (outcome_of st (device_plan st x) given).after
  device_outcome (device.Add e flow format name) given =
      dropped_unless st rises fits _ _ (memory_drops _ given (added_drops e.0))
  device_outcome (device.SetState e state) given =
      dropped_unless st rises fits _ _
      (named_drops (endpoint_at e.0 st) (with_endpoint_state st e.0 state)
      (λ d. drops_if (leaves_active state d) Removal (Some e.0)))
  device_outcome (device.Remove e) given =
      dropped_unless st rises fits _ _ (disconnects_drop Removal (Some e.0))
  device_outcome (device.SetFormat e format) given =
      dropped_unless st rises fits _ _
      (memory_drops _ given
      (named_drops (endpoint_at e.0 st) (with_endpoint_format st e.0 format.list)
      (λ d. drops_if (not (matches d.format (spelled format.list))) Format (Some e.0))))
  device_outcome (device.SetDefault flow role e) given = dropped_unless st rises fits _ _ (none_dropped st rises fits)
  device_outcome (device.SetExclusive e allow priority) given =
      dropped_unless st rises fits _ _ (none_dropped st rises fits)
  device_outcome (device.SetName e name) given = dropped_unless st rises fits _ _ (none_dropped st rises fits)
  device_outcome (device.Other code rest) given = dropped_unless st rises fits _ _ (none_dropped st rises fits)

  pub shutdown_outcome : (given : List Answer) → WereDropped st (outcome_of st (shutdown_plan st) given).after
  shutdown_outcome given = dropped_unless st rises fits _ _ (disconnects_drop Shutdown None)
