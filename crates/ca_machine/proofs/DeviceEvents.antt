-- Device events, and the shutdown, uphold the headline.
use Rattle.std.proofs.Common.{◌≡◌, ℕ, ◌<◌, ◌||◌, arith, nat_le, not, Bool, List, [], ◌∷◌, length, true}
use Rattle.std.proofs.Common.{false}
use Rattle.std.proofs.Common.{Some, None, refl}
use Rattle.std.proofs.lemmas.Bool.{or_parts}
use Rattle.std.proofs.lemmas.Bool.Decides.{nat_tests}
use Rattle.ca_base.specs.declared.codes.TheConstants.Hr as hr
use Rattle.ca_base.specs.declared.ids.Reason.TheVariants.{Format, Removal, Shutdown}
use Rattle.ca_base.specs.declared.limits.TheConstants.{ENDPOINTS}
use Rattle.ca_model.specs.declared.event.Event.{Event}
use Rattle.ca_model.specs.declared.event.DeviceEvent.{DeviceEvent}
use Rattle.ca_model.specs.declared.event.DeviceEvent.TheVariants as device
use Rattle.ca_stage.specs.Moves.{Move}
use Rattle.device_registry.specs.declared.endpoint.Endpoint.{Endpoint}
use Rattle.device_registry.specs.Endpoints.{with_state}
use Rattle.wave_format.specs.Format.{spelled}
use Rattle.ca_machine.specs.State.{State, endpoint_at}
use Rattle.ca_machine.specs.Plan.{Answer, granted, outcome_of}
use Rattle.ca_machine.specs.SharedRows.{shut_rows}
use Rattle.ca_machine.specs.Formats.{matches}
use Rattle.ca_machine.specs.Devices.{
  add_plan,
  leaves_active,
  new_endpoint,
  remove_plan,
  set_default_plan,
  set_exclusive_plan,
  set_format_plan,
  set_name_plan,
  set_state_plan,
  shutdown_plan,
  with_exclusive,
  with_format,
  with_name,
}
use Rattle.ca_machine.specs.Step.{unlisted_device_plan, device_plan}
use Rattle.ca_machine.proofs.PresentStage.{PresentLaws, stage_of}
use Rattle.ca_machine.proofs.StateInOrder.{IsInOrder, in_order_added, in_order_changed}
use Rattle.ca_machine.proofs.FramesHanded.{HandsNone, none_by}
use Rattle.ca_machine.proofs.Outcomes.{
  Upholds,
  row_fails,
  upholds_memory,
  upholds_plan,
  upholds_quiet,
  upholds_refused,
  upholds_still,
  upholds_with_named,
}
use Rattle.ca_machine.proofs.Disconnects.{upholds_disconnects, upholds_disconnects_if, upholds_removes}

module _ (laws : PresentLaws) (ms : List Move) (st : State) (h : IsInOrder ms st) (e : Event)
    (given : List Answer)
  where
    -- a change of what isn't on the stage
    pub upholds_changed : (new : State) → HandsNone e → IsInOrder ms new → Upholds ms st e given (granted [] [] new)
    upholds_changed new n k = upholds_still laws ms st h e given hr.S_OK [] new (none_by (stage_of ms) e hr.S_OK n) k

    -- ---- Add

    upholds_add : (number flow : ℕ) (format name : List ℕ) → HandsNone e →
        Upholds ms st e given (outcome_of st (add_plan st number flow format name) given)
    upholds_add number flow format name n =
        let new : Endpoint = new_endpoint number flow format name in
        upholds_plan laws ms st h e given (add_plan st number flow format name) n
        (λ r. upholds_memory laws ms st h e given _ n
        (upholds_quiet laws ms st h e given _ n (refl, tt) refl
        (in_order_added laws ms st new
        (above number st.last_endpoint _
        (row_fails (shut_rows st) (_, hr.E_INVALIDARG)
        ((nat_le ENDPOINTS (length st.endpoints), hr.ENDPOINTS_FULL) ∷ []) r)) h)))
      where
        above : (n last : ℕ) (b : Bool) → (nat_le n last || b) ≡ false → last < n
        above n last b k = below n last (or_parts (nat_le n last) b k).0
          where
            below : (n last : ℕ) → nat_le n last ≡ false → last < n
            below n last k = grind (arith, nat_tests)

    -- ---- events of endpoints that are there

    upholds_set_state : (number state : ℕ) → HandsNone e →
        Upholds ms st e given (outcome_of st (set_state_plan st number state) given)
    upholds_set_state number state n =
        upholds_plan laws ms st h e given (set_state_plan st number state) n
        (λ r. upholds_with_named laws ms st h e given (endpoint_at number st) _ n
        (λ d. upholds_disconnects_if laws ms st h e given _ (leaves_active state d) Removal (Some number) n
        (in_order_changed ms st number (with_state state) (λ d. refl) h)))

    upholds_remove : (number : ℕ) → HandsNone e →
        Upholds ms st e given (outcome_of st (remove_plan st number) given)
    upholds_remove number n =
        upholds_plan laws ms st h e given (remove_plan st number) n
        (λ r. upholds_removes laws ms st h e given Removal number (Some number) n)

    upholds_set_format : (number : ℕ) (bytes : List ℕ) → HandsNone e →
        Upholds ms st e given (outcome_of st (set_format_plan st number bytes) given)
    upholds_set_format number bytes n =
        upholds_plan laws ms st h e given (set_format_plan st number bytes) n
        (λ r. upholds_memory laws ms st h e given _ n
        (upholds_with_named laws ms st h e given (endpoint_at number st) _ n
        (λ d.
        upholds_disconnects_if laws ms st h e given _ (not (matches d.format (spelled bytes))) Format (Some number) n
        (in_order_changed ms st number (with_format bytes) (λ d. refl) h))))

    upholds_set_name : (number : ℕ) (name : List ℕ) → HandsNone e →
        Upholds ms st e given (outcome_of st (set_name_plan st number name) given)
    upholds_set_name number name n =
        upholds_plan laws ms st h e given (set_name_plan st number name) n
        (λ r. upholds_changed _ n (in_order_changed ms st number (with_name name) (λ d. refl) h))

    upholds_set_exclusive : (number allow priority : ℕ) → HandsNone e →
        Upholds ms st e given (outcome_of st (set_exclusive_plan st number allow priority) given)
    upholds_set_exclusive number allow priority n =
        upholds_plan laws ms st h e given (set_exclusive_plan st number allow priority) n
        (λ r. upholds_changed _ n (in_order_changed ms st number (with_exclusive allow priority) (λ d. refl) h))

    upholds_set_default : (flow role number : ℕ) → HandsNone e →
        Upholds ms st e given (outcome_of st (set_default_plan st flow role number) given)
    upholds_set_default flow role number n =
        upholds_plan laws ms st h e given (set_default_plan st flow role number) n
        (λ r. upholds_changed _ n h)

    pub upholds_shutdown : HandsNone e → Upholds ms st e given (outcome_of st (shutdown_plan st) given)
    upholds_shutdown n =
        upholds_plan laws ms st h e given (shutdown_plan st) n
        (λ r. upholds_disconnects laws ms st h e given (record st { is_shut = true }) Shutdown None n h)

    -- ---- every device event

    pub upholds_device : (x : DeviceEvent) → HandsNone e →
        Upholds ms st e given (outcome_of st (device_plan st x) given)
    upholds_device (device.Add d flow format name) n = upholds_add d.0 flow format.list name n
    upholds_device (device.SetState d state) n = upholds_set_state d.0 state n
    upholds_device (device.Remove d) n = upholds_remove d.0 n
    upholds_device (device.SetFormat d format) n = upholds_set_format d.0 format.list n
    upholds_device (device.SetDefault flow role d) n = upholds_set_default flow role d.0 n
    upholds_device (device.SetExclusive d allow priority) n = upholds_set_exclusive d.0 allow priority n
    upholds_device (device.SetName d name) n = upholds_set_name d.0 name n
    upholds_device (device.Other code rest) n =
        upholds_plan laws ms st h e given (unlisted_device_plan st) n
        (λ r. upholds_refused laws ms st h e given hr.E_NOTIMPL (none_by (stage_of ms) e hr.E_NOTIMPL n))
