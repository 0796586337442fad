use Rattle.service_core.proofs.ComparedSteps.{compared, compared_step}
use Rattle.service_core.proofs.service.Core.step_compared.Goals as goal

pub answer-code-requires : goal.answer-code-requires
answer-code-requires g c = record {
  other = (compared c.args.ev.now c.requires.compared).other;
  empty = c.requires.empty;
  room = c.requires.room;
}

pub returns-clause-answers : goal.returns-clause-answers
returns-clause-answers g c =
    rw (c.tell.ensures, c.is_granted.ensures, c.noted-before.ensures)
    (compared_step g.D.Devices.faults g.D.Devices.told c.args.ev.now c.answer-code.result
    c.answer-code.new.payload.list c.args.self.now c.answer-code.new.self c.answer-code.ensures.answers
    c.requires.compared)
