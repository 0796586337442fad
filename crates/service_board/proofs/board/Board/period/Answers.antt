use Rattle.std.proofs.Common.{[], Err, None, arith, refl}
use Rattle.std.proofs.lemmas.Result.{err_from_is_err_and}
use Rattle.ca_machine.specs.Periods.{period_plan}
use Rattle.reply_payload.specs.Answers.{code_of, payload_of}
use Rattle.service_board.specs.Does.{AnyData}
use Rattle.service_board.proofs.PlainEvents.{refused_does}
use Rattle.service_board.proofs.PeriodNeeds.{endpoint_within}
use Rattle.service_board.proofs.PeriodNotes.{same_notes}
use Rattle.service_board.proofs.SameStreams.{same_does}
use Rattle.service_board.proofs.board.Board.period.Goals as goal

pub returns-in_err-at-clause-does : goal.returns-in_err-at-clause-does
returns-in_err-at-clause-does g c =
    let p = err_from_is_err_and c.from_residual.result c.from_residual.ensures.1 in
    rw (p.1, p.2) (same_does g.D.Devices.faults g.D.Devices.told g.E.EngineSide.moves None AnyData c.args.self.now
    c.refresh_gains.new.self c.refresh_gains.new.self c.refresh_gains.ensures.same (λ st. period_plan st c.args.e.0)
    c.in_err-at.field-0.0 []
    (refused_does g.D.Devices.faults g.D.Devices.told g.E.EngineSide.moves None AnyData g.met.E.EngineSide.none
    c.refresh_gains.new.self (λ st. period_plan st c.args.e.0) c.in_err-at.field-0.0 c.in_err-at.ensures.refused))

pub returns-in_err-at-clause-notes : goal.returns-in_err-at-clause-notes
returns-in_err-at-clause-notes g c =
    let p = err_from_is_err_and c.from_residual.result c.from_residual.ensures.1 in
    rw p.1 (same_notes c.args.self.now c.refresh_gains.new.self c.refresh_gains.ensures.same
    (Err c.in_err-at.field-0.0) c.refresh_gains.new.self.failed (λ datas tally. refl))

pub endpoint-requires : goal.endpoint-requires
endpoint-requires g c =
    let within =
    endpoint_within g.E.EngineSide.state c.refresh_gains.new.self c.refresh_gains.ensures.order c.args.e.0
    c.in_ok-at.at c.in_ok-at.ensures.found in
    omega arith

pub returns-in-Render-clause-does : goal.returns-in-Render-clause-does
returns-in-Render-clause-does g c =
    same_does g.D.Devices.faults g.D.Devices.told g.E.EngineSide.moves None AnyData c.args.self.now
    c.refresh_gains.new.self c.play_due.new.self c.refresh_gains.ensures.same (λ st. period_plan st c.args.e.0)
    (code_of c.play_due.result) (payload_of c.play_due.result) c.play_due.ensures.does

pub returns-in-Render-clause-notes : goal.returns-in-Render-clause-notes
returns-in-Render-clause-notes g c =
    same_notes c.args.self.now c.refresh_gains.new.self c.refresh_gains.ensures.same c.play_due.result
    c.play_due.new.self.failed c.play_due.ensures.notes

pub returns-in-Capture-clause-does : goal.returns-in-Capture-clause-does
returns-in-Capture-clause-does g c =
    same_does g.D.Devices.faults g.D.Devices.told g.E.EngineSide.moves None AnyData c.args.self.now
    c.refresh_gains.new.self c.record_due.new.self c.refresh_gains.ensures.same (λ st. period_plan st c.args.e.0)
    (code_of c.record_due.result) (payload_of c.record_due.result) c.record_due.ensures.does

pub returns-in-Capture-clause-notes : goal.returns-in-Capture-clause-notes
returns-in-Capture-clause-notes g c =
    same_notes c.args.self.now c.refresh_gains.new.self c.refresh_gains.ensures.same c.record_due.result
    c.record_due.new.self.failed c.record_due.ensures.notes
