-- An event that was answered by the machine's step is an entry of the machine's run; a new service stands for the empty
-- state.
use Rattle.std.proofs.Common.{◌≡◌, ℕ, List, Option, ap, refl, subst, sym, ◌∙◌}
use Rattle.std.specs.List.{All}
use Rattle.std.proofs.lemmas.List.Elements.{All-nil}
use Rattle.device_io.specs.DeviceLog.{DeviceLog}
use Rattle.ca_model.specs.declared.event.Event.{Event}
use Rattle.ca_model.specs.declared.reply.Reply.{Reply}
use Rattle.buffer_ring.specs.Kept.{Kept}
use Rattle.buffer_ring.specs.declared.step.EndState.{EndState}
use Rattle.ca_stage.specs.Tally.{Tally, no_tally}
use Rattle.ca_machine.specs.State.{empty_state}
use Rattle.ca_machine.specs.Step.{step}
use Rattle.ca_machine.specs.View.{AnswersEvent, MachineView}
use Rattle.service_board.specs.New.{IsNewBoard}
use Rattle.service_board.specs.declared.board.Board.{Board}
use Rattle.service_core.specs.Core.{HasSide, core_datas, core_state}
use Rattle.service_core.specs.Service.{AnswersStep, HasHead, IsCore}
use Rattle.service_core.specs.declared.both_ends.BothEnds.{BothEnds}

-- the entry has the reply's result and payload, and the moves and the output of the step
pub asked : {D : Type 0} (faults : D → ℕ) (told : D → Option (List DeviceLog)) (old new : MachineView D)
    (event : Event) (reply : Reply) → HasHead event reply →
    AnswersStep faults told event reply.result reply.payload.list old new →
    AnswersEvent faults told old event reply new
asked faults told old new event reply head got = record {
  entry = record {
    event = event;
    answers = got.given;
    result = reply.result;
    payload = reply.payload.list;
    moves = (step old.state event got.given).moves;
    output = (step old.state event got.given).output;
  };
  event_is = refl;
  steps = record {
    answers = got.answers;
    result = got.result_is;
    payload = got.payload_is;
    moves = refl;
    output = refl;
    after = got.after_is;
  };
  replies = record {
    kind = head.kind;
    connection = head.connection;
    tag = head.tag;
    result = refl;
    payload = refl;
  };
  passes = got.passes;
}

pub new_core : {D F : Type 0} (state : F → EndState) (kept : F → Kept) (devices : D) (b : Board D (BothEnds F)) →
    IsNewBoard (λ ends. state ends.store) devices b → IsCore state kept b
new_core state kept devices b new = record {
  order = new.order;
  sides = subst (All (HasSide kept)) (sym new.entries) (All-nil _);
}

pub new_state : {D F : Type 0} (state : F → EndState) (kept : F → Kept) (devices : D) (b : Board D (BothEnds F))
    (tally : Tally) → IsNewBoard (λ ends. state ends.store) devices b → tally ≡ no_tally →
    core_state kept tally b ≡ empty_state
new_state state kept devices b tally new none =
    ap (λ t. core_state kept t b) none ∙ new.empty (core_datas kept b.entries.items)
