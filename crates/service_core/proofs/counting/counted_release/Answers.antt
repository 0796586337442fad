use Rattle.ca_model.specs.declared.event.Call.TheVariants as call
use Rattle.ca_model.specs.declared.event.Event.TheVariants as event
use Rattle.ca_machine.specs.Clients.{release_plan}
use Rattle.service_board.specs.Does.{AnyData}
use Rattle.reply_payload.specs.Answers.{code_of, payload_of}
use Rattle.service_core.specs.Core.{core_state}
use Rattle.service_core.proofs.CoreCounted.{dropped_ends}
use Rattle.service_core.proofs.EventsFall.{keeps_event}
use Rattle.service_core.proofs.TallyOutcomes.{release_outcome}
use Rattle.service_core.proofs.PendingWords.{around_order}
use Rattle.service_core.proofs.counting.counted_release.Goals as goal

pub release-answer-requires : goal.release-answer-requires
release-answer-requires g c = record {
  order = around_order g.F.FrameStore.kept g.F.EngineSide.state g.met.F.FrameStore.whole c.args.board.now
      c.pending-before.new.board c.pending-before.ensures.looked c.requires.order;
}

pub returns : goal.returns
returns g c =
    let ends =
    dropped_ends g.D.Devices.faults g.D.Devices.told g.F.FrameStore.kept g.F.EngineSide.state
    g.met.F.FrameStore.whole g.F.EngineSide.moves g.met.F.FrameStore.exact c.args.board.now c.pending-before.new.board
    c.release-answer.new.self c.fewer_than.new.board c.pending-before.ensures.looked c.fewer_than.ensures.looked
    c.requires c.release-answer.ensures.order c.pending-before.result c.fewer_than.result
    c.pending-before.ensures.count c.fewer_than.ensures.fewer
    (λ st. release_plan st c.args.conn.0 c.args.client.0) (code_of c.release-answer.result)
    (payload_of c.release-answer.result) AnyData
    c.release-answer.ensures.does
    (tt) (λ st. keeps_event st (event.Call c.args.conn 0 (call.Release c.args.client)) tt)
    (λ tally fits rise gone. release_outcome (core_state g.F.FrameStore.kept tally c.pending-before.new.board) rise fits
    gone
    c.args.conn.0 c.args.client.0) in
    record { goes = ends.0; core = ends.1 }
