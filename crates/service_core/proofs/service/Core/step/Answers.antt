use Rattle.service_core.proofs.RunEntries.{asked}
use Rattle.service_core.proofs.service.Core.step.Goals as goal

pub returns-clause-step : goal.returns-clause-step
returns-clause-step g c =
    let head = c.begin.ensures.head in
    asked g.D.Devices.faults g.D.Devices.told c.args.self.now c.answer_and_tell-out.new.self c.args.ev.now _
    (record { kind = head.kind; connection = head.connection; tag = head.tag }) c.answer_and_tell-out.ensures.answers
