use Rattle.std.proofs.Common.{◌≡◌, subst, sym, arith, if◌then◌else◌}
use Rattle.ca_machine.specs.Notices.{noted}
use Rattle.ca_machine.specs.Periods.{period_plan}
use Rattle.ca_machine.specs.View.{MachineView}
use Rattle.reply_payload.specs.Answers.{code_of, payload_of}
use Rattle.service_board.specs.Telling.{has_failed}
use Rattle.service_core.specs.Core.{GoesTo, core_datas}
use Rattle.service_core.specs.Service.{AnswersPlan, core_view, tally_of}
use Rattle.service_core.proofs.CoreAnswers.{answers_viewed, counts_fit}
use Rattle.service_core.proofs.PeriodSteps.{is_period, period_step}
use Rattle.service_core.proofs.service.Core.step_period.Given.{Over}
use Rattle.service_core.proofs.service.Core.step_period.Goals as goal

-- what the plan of a period answers, before it is told
answered : (g : Over) (c : goal.After-put g) →
    AnswersPlan g.D.Devices.faults g.D.Devices.told (λ st. period_plan st c.args.e.0)
    (code_of c.counted_period-answer.result.0) (payload_of c.counted_period-answer.result.0) c.args.self.now
    (core_view g.F.FrameStore.kept c.counted_period-answer.new.board c.take.new.self)
answered g c =
    let kept = g.F.FrameStore.kept in
    let answer = c.counted_period-answer in
    let counts = c.self.inside.tally in
    answers_viewed g.D.Devices.faults g.D.Devices.told kept (λ st. period_plan st c.args.e.0)
    (code_of answer.result.0) (payload_of answer.result.0) c.self.inside.board answer.new.board
    counts c.take.new.self c.args.self.now c.self.view_is
    (subst (λ t. GoesTo g.D.Devices.faults g.D.Devices.told kept (λ st. period_plan st c.args.e.0)
    (code_of answer.result.0) (payload_of answer.result.0) (tally_of counts) t
    c.self.inside.board answer.new.board) (sym c.take.ensures)
    (answer.ensures.goes (tally_of counts) (counts_fit counts (omega arith, omega arith, omega arith))))

pub returns-clause-answers : goal.returns-clause-answers
returns-clause-answers g c =
    let kept = g.F.FrameStore.kept in
    let answer = c.counted_period-answer in
    let was = c.self.inside.board in
    rw (
      c.tell_failure.ensures.told c.take.new.self,
      c.has_failed.ensures,
      c.put.ensures.code,
      c.put.ensures.payload,
      is_period c.args.ev.now c.args.e c.requires.period,
    )
    (period_step g.D.Devices.faults g.D.Devices.told c.args.e c.args.self.now
    (core_view kept answer.new.board c.take.new.self) was.failed answer.result.0 answer.new.board.failed
    answer.ensures.plays
    (subst (λ (v : MachineView g.row.D.Denot).
    answer.new.board.failed ≡ (if has_failed answer.result.0 then noted v.state else was.failed)) c.self.view_is
    (answer.ensures.notes (core_datas kept was.entries.items) (tally_of c.self.inside.tally)))
    (answered g c))
