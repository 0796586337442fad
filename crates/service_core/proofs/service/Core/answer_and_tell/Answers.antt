use Rattle.std.proofs.Common.{sym, ◌∙◌}
use Rattle.service_core.proofs.ComparedSteps.{nothing_step, untold}
use Rattle.service_core.proofs.service.Core.answer_and_tell.Goals as goal

pub answer-requires : goal.answer-requires
answer-requires g c = record {
  other = (untold c.args.ev.now (sym c.telling_of.ensures ∙ c.in-Nothing.is)).other;
  empty = c.requires.empty;
  room = c.requires.room;
}

pub returns-in-Nothing-clause-answers : goal.returns-in-Nothing-clause-answers
returns-in-Nothing-clause-answers g c =
    nothing_step g.D.Devices.faults g.D.Devices.told c.args.ev.now c.answer.result c.answer.new.payload.list
    c.args.self.now c.answer.new.self c.answer.ensures.answers (sym c.telling_of.ensures ∙ c.in-Nothing.is)
