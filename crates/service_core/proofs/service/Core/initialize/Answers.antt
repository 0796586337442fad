use Rattle.std.proofs.Common.{sym, ap, subst, arith}
use Rattle.reply_payload.specs.Answers.{code_of, payload_of}
use Rattle.service_book.specs.Openings.{opening_plan}
use Rattle.service_core.specs.Core.{GoesTo}
use Rattle.service_core.specs.Service.{tally_of}
use Rattle.service_core.proofs.CoreAnswers.{answers_viewed, counts_fit}
use Rattle.service_core.proofs.service.Core.initialize.Goals as goal

pub returns : goal.returns
returns g c =
    let answer = c.counted_initialize-answer in
    answers_viewed g.D.Devices.faults g.D.Devices.told g.F.FrameStore.kept (opening_plan c.args.x.now)
    (code_of answer.result.0) (payload_of answer.result.0) c.self.inside.board answer.new.board
    c.self.inside.tally c.add_dropped.new.self c.args.self.now c.self.view_is
    (subst (λ t. GoesTo g.D.Devices.faults g.D.Devices.told g.F.FrameStore.kept (opening_plan c.args.x.now)
    (code_of answer.result.0) (payload_of answer.result.0) (tally_of c.self.inside.tally) t
    c.self.inside.board answer.new.board) (sym (ap tally_of c.add_dropped.ensures))
    (answer.ensures.goes (tally_of c.self.inside.tally) (counts_fit c.self.inside.tally
    (omega arith, omega arith, omega arith))))
