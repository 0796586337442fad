use Rattle.std.proofs.Common.{sym, ap, subst, arith}
use Rattle.ca_machine.specs.Devices.{shutdown_plan}
use Rattle.reply_payload.specs.Answers.{code_of, payload_of}
use Rattle.service_core.specs.Core.{GoesTo}
use Rattle.service_core.specs.Service.{tally_of}
use Rattle.service_core.proofs.CoreAnswers.{answers_viewed, counts_fit}
use Rattle.service_core.proofs.service.Core.shutdown.Goals as goal

pub returns : goal.returns
returns g c =
    answers_viewed g.D.Devices.faults g.D.Devices.told g.F.FrameStore.kept (λ st. shutdown_plan st)
    (code_of c.counted_shutdown-answer.result.0) (payload_of c.counted_shutdown-answer.result.0) c.self.inside.board
    c.counted_shutdown-answer.new.board
    c.self.inside.tally c.add_dropped.new.self c.args.self.now c.self.view_is
    (subst (λ t. GoesTo g.D.Devices.faults g.D.Devices.told g.F.FrameStore.kept (λ st. shutdown_plan st)
    (code_of c.counted_shutdown-answer.result.0) (payload_of c.counted_shutdown-answer.result.0)
    (tally_of c.self.inside.tally) t
    c.self.inside.board c.counted_shutdown-answer.new.board) (sym (ap tally_of c.add_dropped.ensures))
    (c.counted_shutdown-answer.ensures.goes (tally_of c.self.inside.tally) (counts_fit c.self.inside.tally
    (omega arith, omega arith, omega arith))))
