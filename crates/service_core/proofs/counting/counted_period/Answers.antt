use Rattle.std.proofs.Common.{◌≡◌, ap, subst, ◌∙◌, if◌then◌else◌}
use Rattle.ca_model.specs.declared.event.Event.TheVariants as event
use Rattle.ca_machine.specs.Notices.{noted}
use Rattle.ca_machine.specs.Periods.{period_plan}
use Rattle.service_board.specs.Board.{state_of}
use Rattle.service_board.specs.Does.{AnyData}
use Rattle.service_board.specs.Telling.{has_failed}
use Rattle.reply_payload.specs.Answers.{code_of, payload_of}
use Rattle.service_core.proofs.CoreCounted.{counted_core}
use Rattle.service_core.proofs.EventsFall.{keeps_event}
use Rattle.service_core.proofs.PeriodCounted.{period_counts}
use Rattle.service_core.proofs.PendingWords.{around_order, looked_state}
use Rattle.service_core.proofs.counting.counted_period.Goals as goal

pub period-answer-requires : goal.period-answer-requires
period-answer-requires g c = record {
  order = around_order g.F.FrameStore.kept g.F.EngineSide.state g.met.F.FrameStore.whole c.args.board.now
      c.pending-before.new.board c.pending-before.ensures.looked c.requires.order;
}

pub returns-clause-core : goal.returns-clause-core
returns-clause-core g c =
    counted_core g.D.Devices.faults g.D.Devices.told g.F.FrameStore.kept g.F.EngineSide.state
    g.met.F.FrameStore.whole g.F.EngineSide.moves g.met.F.FrameStore.exact c.args.board.now c.pending-before.new.board
    c.period-answer.new.self c.fewer_than.new.board c.pending-before.ensures.looked c.fewer_than.ensures.looked
    c.requires c.period-answer.ensures.order c.pending-before.result c.fewer_than.result
    c.pending-before.ensures.count c.fewer_than.ensures.fewer
    (λ st. period_plan st c.args.e.0) (code_of c.period-answer.result) (payload_of c.period-answer.result) AnyData
    c.period-answer.ensures.does
    (tt) (λ st. keeps_event st (event.Period c.args.e) tt)

pub returns-clause-goes : goal.returns-clause-goes
returns-clause-goes g c tally fits =
    period_counts g.D.Devices.faults g.D.Devices.told g.F.FrameStore.kept g.F.EngineSide.state
    g.met.F.FrameStore.whole g.F.EngineSide.moves g.met.F.FrameStore.exact c.args.board.now c.pending-before.new.board
    c.period-answer.new.self c.fewer_than.new.board c.pending-before.ensures.looked c.fewer_than.ensures.looked
    c.requires c.period-answer.ensures.order c.pending-before.result c.fewer_than.result
    c.pending-before.ensures.count c.fewer_than.ensures.fewer c.args.e
    c.period-answer.result c.period-answer.ensures.does c.period-answer.ensures.plays tally fits

pub returns-clause-notes : goal.returns-clause-notes
returns-clause-notes g c datas tally =
    subst (λ st. c.fewer_than.new.board.failed
    ≡ (if has_failed c.period-answer.result then noted st else c.args.board.now.failed))
    (looked_state g.F.FrameStore.kept g.F.EngineSide.state g.met.F.FrameStore.whole c.args.board.now
    c.pending-before.new.board c.pending-before.ensures.looked datas tally)
    (ap (λ b. b.failed) c.fewer_than.ensures.looked.same
    ∙ c.period-answer.ensures.notes datas tally
    ∙ ap (λ b. if has_failed c.period-answer.result
    then noted (state_of datas tally c.pending-before.new.board) else b.failed)
    c.pending-before.ensures.looked.same)
