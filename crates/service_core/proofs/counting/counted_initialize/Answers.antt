use Rattle.reply_payload.specs.Answers.{code_of, payload_of}
use Rattle.service_book.specs.Openings.{arguments, opening_plan}
use Rattle.service_core.specs.Core.{core_state}
use Rattle.service_core.proofs.CoreCounted.{dropped_from}
use Rattle.service_core.proofs.OpeningOutcomes.{initialize_outcome}
use Rattle.service_core.proofs.PendingWords.{around_order, around_sides}
use Rattle.service_core.proofs.counting.counted_initialize.Goals as goal

pub initialize-answer-requires : goal.initialize-answer-requires
initialize-answer-requires g c = record {
  order = around_order g.F.FrameStore.kept g.F.EngineSide.state g.met.F.FrameStore.whole c.args.board.now
      c.pending-before.new.board c.pending-before.ensures.looked c.requires.order;
  sides = around_sides g.F.FrameStore.kept g.F.EngineSide.state g.met.F.FrameStore.whole c.args.board.now
      c.pending-before.new.board c.pending-before.ensures.looked c.requires.sides;
}

pub returns : goal.returns
returns g c =
    let x = c.args.x.now in
    let ends =
    dropped_from g.D.Devices.faults g.D.Devices.told g.F.FrameStore.kept g.F.EngineSide.state
    g.met.F.FrameStore.whole g.F.EngineSide.moves g.met.F.FrameStore.exact c.args.board.now c.pending-before.new.board
    c.initialize-answer.new.board c.fewer_than.new.board c.pending-before.ensures.looked c.fewer_than.ensures.looked
    c.requires c.initialize-answer.ensures.core.order c.pending-before.result c.fewer_than.result
    c.pending-before.ensures.count c.fewer_than.ensures.fewer
    (opening_plan x) (code_of c.initialize-answer.result) (payload_of c.initialize-answer.result)
    c.initialize-answer.ensures.goes c.initialize-answer.ensures.core
    (λ tally fits rise gone. initialize_outcome (core_state g.F.FrameStore.kept tally c.pending-before.new.board) rise
    fits x.conn.0 x.client.0 (arguments x)) in
    record { goes = ends.0; core = ends.1 }
