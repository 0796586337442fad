use Rattle.ca_machine.specs.Devices.{shutdown_plan}
use Rattle.service_board.specs.Does.{AnyData}
use Rattle.reply_payload.specs.Answers.{code_of, payload_of}
use Rattle.service_core.specs.Core.{core_state}
use Rattle.service_core.proofs.CoreCounted.{dropped_ends}
use Rattle.service_core.proofs.DevicesFall.{keeps_shutdown}
use Rattle.service_core.proofs.DeviceOutcomes.{shutdown_outcome}
use Rattle.service_core.proofs.PendingWords.{around_order}
use Rattle.service_core.proofs.counting.counted_shutdown.Goals as goal

pub shutdown-answer-requires : goal.shutdown-answer-requires
shutdown-answer-requires g c = record {
  order = around_order g.F.FrameStore.kept g.F.EngineSide.state g.met.F.FrameStore.whole c.args.board.now
      c.pending-before.new.board c.pending-before.ensures.looked c.requires.order;
}

pub returns : goal.returns
returns g c =
    let ends =
    dropped_ends g.D.Devices.faults g.D.Devices.told g.F.FrameStore.kept g.F.EngineSide.state
    g.met.F.FrameStore.whole g.F.EngineSide.moves g.met.F.FrameStore.exact c.args.board.now c.pending-before.new.board
    c.shutdown-answer.new.self c.fewer_than.new.board c.pending-before.ensures.looked c.fewer_than.ensures.looked
    c.requires c.shutdown-answer.ensures.order c.pending-before.result c.fewer_than.result
    c.pending-before.ensures.count c.fewer_than.ensures.fewer
    (λ st. shutdown_plan st) (code_of c.shutdown-answer.result) (payload_of c.shutdown-answer.result) AnyData
    c.shutdown-answer.ensures.does
    (tt) (λ st. keeps_shutdown st)
    (λ tally fits rise gone. shutdown_outcome (core_state g.F.FrameStore.kept tally c.pending-before.new.board) rise
    fits) in
    record { goes = ends.0; core = ends.1 }
