use Rattle.ca_machine.specs.Step.{device_plan}
use Rattle.service_board.specs.Does.{AnyData}
use Rattle.reply_payload.specs.Answers.{code_of, payload_of}
use Rattle.service_core.specs.Core.{core_state}
use Rattle.service_core.proofs.CoreCounted.{dropped_ends}
use Rattle.service_core.proofs.DevicesFall.{keeps_device}
use Rattle.service_core.proofs.DeviceOutcomes.{device_outcome}
use Rattle.service_core.proofs.PendingWords.{around_order}
use Rattle.service_core.proofs.counting.counted_device.Goals as goal

pub device-answer-requires : goal.device-answer-requires
device-answer-requires g c = record {
  order = around_order g.F.FrameStore.kept g.F.EngineSide.state g.met.F.FrameStore.whole c.args.board.now
      c.pending-before.new.board c.pending-before.ensures.looked c.requires.order;
}

pub returns : goal.returns
returns g c =
    let ends =
    dropped_ends g.D.Devices.faults g.D.Devices.told g.F.FrameStore.kept g.F.EngineSide.state
    g.met.F.FrameStore.whole g.F.EngineSide.moves g.met.F.FrameStore.exact c.args.board.now c.pending-before.new.board
    c.device-answer.new.self c.fewer_than.new.board c.pending-before.ensures.looked c.fewer_than.ensures.looked
    c.requires c.device-answer.ensures.order c.pending-before.result c.fewer_than.result
    c.pending-before.ensures.count c.fewer_than.ensures.fewer
    (λ st. device_plan st c.args.event.now) (code_of c.device-answer.result) (payload_of c.device-answer.result) AnyData
    c.device-answer.ensures.does
    (tt) (λ st. keeps_device st c.args.event.now)
    (λ tally fits rise gone. device_outcome (core_state g.F.FrameStore.kept tally c.pending-before.new.board) rise fits
    c.args.event.now) in
    record { goes = ends.0; core = ends.1 }
