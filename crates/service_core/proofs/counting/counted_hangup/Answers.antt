use Rattle.ca_model.specs.declared.event.Event.TheVariants as event
use Rattle.ca_machine.specs.Clients.{hangup_plan}
use Rattle.service_board.specs.Does.{AnyData}
use Rattle.reply_payload.specs.Answers.{code_of, payload_of}
use Rattle.service_core.specs.Core.{core_state}
use Rattle.service_core.proofs.CoreCounted.{dropped_ends}
use Rattle.service_core.proofs.EventsFall.{keeps_event}
use Rattle.service_core.proofs.TallyOutcomes.{hangup_outcome}
use Rattle.service_core.proofs.PendingWords.{around_order}
use Rattle.service_core.proofs.counting.counted_hangup.Goals as goal

pub hangup-answer-requires : goal.hangup-answer-requires
hangup-answer-requires g c = record {
  order = around_order g.F.FrameStore.kept g.F.EngineSide.state g.met.F.FrameStore.whole c.args.board.now
      c.pending-before.new.board c.pending-before.ensures.looked c.requires.order;
}

pub returns : goal.returns
returns g c =
    let ends =
    dropped_ends g.D.Devices.faults g.D.Devices.told g.F.FrameStore.kept g.F.EngineSide.state
    g.met.F.FrameStore.whole g.F.EngineSide.moves g.met.F.FrameStore.exact c.args.board.now c.pending-before.new.board
    c.hangup-answer.new.self c.fewer_than.new.board c.pending-before.ensures.looked c.fewer_than.ensures.looked
    c.requires c.hangup-answer.ensures.order c.pending-before.result c.fewer_than.result
    c.pending-before.ensures.count c.fewer_than.ensures.fewer
    (λ st. hangup_plan st c.args.conn.0) (code_of c.hangup-answer.result) (payload_of c.hangup-answer.result) AnyData
    c.hangup-answer.ensures.does
    (tt) (λ st. keeps_event st (event.Hangup c.args.conn) tt)
    (λ tally fits rise gone. hangup_outcome (core_state g.F.FrameStore.kept tally c.pending-before.new.board) rise fits
    gone
    c.args.conn.0) in
    record { goes = ends.0; core = ends.1 }
