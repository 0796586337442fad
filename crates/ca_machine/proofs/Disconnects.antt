-- Streams that lose their device are closed by moves that sound and release nothing.
use Rattle.std.proofs.Common.{◌≡◌, ℕ, ◌&&◌, List, [], ◌∷◌, ◌++◌, map, filter, Bool, true, false, Option, refl}
use Rattle.ca_base.specs.declared.codes.TheConstants.Hr as hr
use Rattle.ca_base.specs.declared.ids.Reason.{Reason}
use Rattle.ca_model.specs.declared.event.Event.{Event}
use Rattle.ca_stage.specs.Stage.{Stream, Stage, is_open}
use Rattle.ca_stage.specs.Moves.{Move, of_client, opened, closed, after_move}
use Rattle.ca_stage.specs.Woven.{IsWoven}
use Rattle.ca_machine.specs.State.{State, live_clients}
use Rattle.ca_machine.specs.Plan.{Answer, moved, granted}
use Rattle.ca_machine.specs.Devices.{disconnects, disconnects_if, is_within, with_endpoints}
use Rattle.device_registry.specs.Endpoints.{removed}
use Rattle.ca_stage.specs.Order.{is_among}
use Rattle.ca_machine.proofs.FramesHanded.{HandsNone}
use Rattle.ca_machine.proofs.PlayheadsThere.{AddNone}
use Rattle.ca_machine.proofs.PresentStage.{PresentLaws, stage_of, OpenPresent}
use Rattle.ca_machine.proofs.StateInOrder.{IsInOrder, in_order_moved, in_order_removed}
use Rattle.ca_machine.proofs.Outcomes.{AreQuiet, Upholds, upholds_quiet}

-- the closes of these streams
abbrev pub closes_of : Reason → List Stream → List Move
closes_of reason streams = map (λ s. of_client s.client (closed reason)) streams

pub quiet_of : (reason : Reason) (streams : List Stream) → AreQuiet (closes_of reason streams)
quiet_of reason [] = tt
quiet_of reason (s ∷ streams) = (refl, quiet_of reason streams)

add_none_of : (reason : Reason) (streams : List Stream) → AddNone (closes_of reason streams)
add_none_of reason [] = tt
add_none_of reason (s ∷ streams) = (refl, add_none_of reason streams)

open_none_of : (numbers : List ℕ) (reason : Reason) (streams : List Stream) →
    OpenPresent numbers (closes_of reason streams)
open_none_of numbers reason [] = tt
open_none_of numbers reason (s ∷ streams) = (tt, open_none_of numbers reason streams)

woven_of : (st : Stage) (reason : Reason) (streams : List Stream) → IsWoven st [] (closes_of reason streams)
woven_of st reason [] = tt
woven_of st reason (s ∷ streams) = woven_of (after_move st (of_client s.client (closed reason))) reason streams

module _ (laws : PresentLaws) (ms : List Move) (st : State) (h : IsInOrder ms st) (e : Event)
    (given : List Answer)
  where
    -- a state after closes of some streams
    pub order_closed : (new : State) (reason : Reason) (streams : List Stream) → IsInOrder ms new →
        IsInOrder (ms ++ closes_of reason streams) (moved (closes_of reason streams) new)
    order_closed new reason streams k =
        in_order_moved laws ms (closes_of reason streams) new k
        (open_none_of (live_clients new.clients) reason streams) (add_none_of reason streams)
        (woven_of (stage_of ms) reason streams)

    -- an event that closes streams, and changes what isn't on the stage
    pub upholds_disconnects : (new : State) (reason : Reason) (scope : Option ℕ) → HandsNone e → IsInOrder ms new →
        Upholds ms st e given (granted [] (disconnects reason scope st.stage) new)
    upholds_disconnects new reason scope n k =
        let streams : List Stream = filter (λ s. is_within scope s && is_open s) st.stage.streams in
        upholds_quiet laws ms st h e given (granted [] (closes_of reason streams) new) n (quiet_of reason streams) refl
        (order_closed new reason streams k)

    pub upholds_disconnects_if : (new : State) (b : Bool) (reason : Reason) (scope : Option ℕ) → HandsNone e →
        IsInOrder ms new → Upholds ms st e given (granted [] (disconnects_if b reason scope st.stage) new)
    upholds_disconnects_if new true reason scope n k = upholds_disconnects new reason scope n k
    upholds_disconnects_if new false reason scope n k =
        upholds_quiet laws ms st h e given (granted [] [] new) n tt refl
        (in_order_moved laws ms [] new k tt tt tt)

    -- a stream is opened, after others were closed or not
    pub upholds_opening : (new : State) (b : Bool) (reason : Reason) (scope : Option ℕ) (payload : List ℕ)
        (s : Stream) → HandsNone e → IsInOrder ms new → is_among s.client (live_clients new.clients) ≡ true →
        Upholds ms st e given
        (granted payload (disconnects_if b reason scope new.stage ++ opened s ∷ []) new)
    upholds_opening new b reason scope payload s n k a = go b
      where
        after : List Stream → List Move
        after streams = closes_of reason streams ++ opened s ∷ []

        by_closes : (streams : List Stream) → Upholds ms st e given (granted payload (after streams) new)
        by_closes streams =
            upholds_quiet laws ms st h e given (granted payload (after streams) new) n (quiet_before streams) refl
            (in_order_moved laws ms (after streams) new k (present_before streams) (adds_before streams)
            (woven_before (stage_of ms) streams))
          where
            quiet_before : (streams : List Stream) → AreQuiet (after streams)
            quiet_before [] = (refl, tt)
            quiet_before (x ∷ streams) = (refl, quiet_before streams)

            present_before : (streams : List Stream) → OpenPresent (live_clients new.clients) (after streams)
            present_before [] = (a, tt)
            present_before (x ∷ streams) = (tt, present_before streams)

            adds_before : (streams : List Stream) → AddNone (after streams)
            adds_before [] = (refl, tt)
            adds_before (x ∷ streams) = (refl, adds_before streams)

            woven_before : (st : Stage) (streams : List Stream) → IsWoven st [] (after streams)
            woven_before st [] = tt
            woven_before st (x ∷ streams) =
                woven_before (after_move st (of_client x.client (closed reason))) streams

        go : (b : Bool) → Upholds ms st e given
            (granted payload (disconnects_if b reason scope new.stage ++ opened s ∷ []) new)
        go false = by_closes []
        go true = by_closes (filter (λ s. is_within scope s && is_open s) new.stage.streams)

    -- an event that closes the streams of an endpoint, which is gone then
    pub upholds_removes : (reason : Reason) (number : ℕ) (scope : Option ℕ) → HandsNone e →
        Upholds ms st e given (record {
          result = hr.S_OK;
          payload = [];
          moves = disconnects reason scope st.stage;
          output = [];
          after = with_endpoints (removed number st.endpoints) (moved (disconnects reason scope st.stage) st);
        })
    upholds_removes reason number scope n =
        let streams : List Stream = filter (λ s. is_within scope s && is_open s) st.stage.streams in
        upholds_quiet laws ms st h e given (record {
          result = hr.S_OK;
          payload = [];
          moves = closes_of reason streams;
          output = [];
          after = with_endpoints (removed number st.endpoints) (moved (closes_of reason streams) st);
        })
        n (quiet_of reason streams) refl
        (in_order_removed (ms ++ closes_of reason streams) (moved (closes_of reason streams) st) number
        (order_closed st reason streams h))
