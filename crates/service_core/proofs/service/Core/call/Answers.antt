use Rattle.service_core.proofs.service.Core.call.Goals as goal

pub returns-in-Initialize : goal.returns-in-Initialize
returns-in-Initialize g c = rw c.in-Initialize.is (rw c.as_slice-in-Initialize.ensures at c.initialize.ensures)
