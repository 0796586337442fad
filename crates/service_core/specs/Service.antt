-- What a service shows between events, and what it does at one (this project's own).
use Rattle.std.specs.Prelude.{◌≡◌, ℕ, List, Option}
use Rattle.device_io.specs.DeviceLog.{DeviceLog}
use Rattle.ca_base.specs.declared.codes.Hr.{Hr}
use Rattle.buffer_ring.specs.Kept.{Kept}
use Rattle.buffer_ring.specs.declared.step.EndState.{EndState}
use Rattle.ca_model.specs.declared.event.Event.{Event}
use Rattle.ca_model.specs.declared.reply.Reply.{Reply}
use Rattle.ca_stage.specs.Tally.{Tally}
use Rattle.ca_machine.specs.State.{State}
use Rattle.ca_machine.specs.Plan.{Answer, AreAnswers, Plan}
use Rattle.ca_machine.specs.Step.{asks, event_connection, event_kind, event_tag, step}
use Rattle.ca_machine.specs.View.{AnswersBy, MachineView, Passes, outside}
use Rattle.service_board.specs.InOrder.{InOrder}
use Rattle.service_board.specs.declared.board.Board.{Board}
use Rattle.service_core.specs.Core.{HaveSides, core_state}
use Rattle.service_core.specs.declared.both_ends.BothEnds.{BothEnds}
use Rattle.service_core.specs.declared.tally.Tally.{Tally as Counts}

-- the tally that counts stand for
abbrev pub tally_of : Counts → Tally
tally_of counts = record { rendered = counts.rendered; reset = counts.reset; dropped = counts.dropped }

-- what a service shows: its devices, and the machine's state
abbrev pub core_view : {D F : Type 0} → (F → Kept) → Board D (BothEnds F) → Counts → MachineView D
core_view kept b counts = record { devices = b.devices; state = core_state kept (tally_of counts) b }

-- the board of a service between events: it is in order, and each client's side knows its stream
pub record IsCore {D F : Type 0} (state : F → EndState) (kept : F → Kept) (b : Board D (BothEnds F)) : Type 0 where
  pub order : InOrder (λ ends. state ends.store) b
  pub sides : HaveSides kept b

-- an event was answered by a plan of the machine, with this result and payload
abbrev pub AnswersPlan : {D : Type 0} → (D → ℕ) → (D → Option (List DeviceLog)) → (State → Plan) → Hr → List ℕ →
    MachineView D → MachineView D → Type 0
AnswersPlan faults told plan result payload old new = AnswersBy old.state (plan old.state) result payload new.state
    (outside faults told old.devices) (outside faults told new.devices)

-- an event was answered by the step of the machine, with this result and payload: its notices went to the connections
pub record AnswersStep {D : Type 0} (faults : D → ℕ) (told : D → Option (List DeviceLog)) (e : Event) (result : Hr)
    (payload : List ℕ) (old new : MachineView D) : Type 0 where
  pub given : List Answer
  pub answers : AreAnswers (asks old.state e) given
  pub result_is : result ≡ (step old.state e given).result
  pub payload_is : payload ≡ (step old.state e given).payload
  pub after_is : new.state ≡ (step old.state e given).after
  pub passes : Passes (outside faults told old.devices) (step old.state e given).output given
      (outside faults told new.devices)

-- a reply has the kind, the connection and the tag that its event calls for
pub record HasHead (event : Event) (r : Reply) : Type 0 where
  pub kind : r.kind ≡ event_kind event
  pub connection : r.conn ≡ event_connection event
  pub tag : r.tag ≡ event_tag event
