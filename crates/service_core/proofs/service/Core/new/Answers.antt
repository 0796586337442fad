use Rattle.std.proofs.Common.{ap}
use Rattle.service_core.specs.Service.{tally_of}
use Rattle.service_core.proofs.RunEntries.{new_core, new_state}
use Rattle.service_core.proofs.service.Core.new.Goals as goal

pub invariant_of-result : goal.invariant_of-result
invariant_of-result g c = new_core g.F.EngineSide.state g.F.FrameStore.kept _ _ c.in-Ok.ensures.new

pub returns-in-Ok-clause-state : goal.returns-in-Ok-clause-state
returns-in-Ok-clause-state g c =
    new_state g.F.EngineSide.state g.F.FrameStore.kept _ _ _ c.in-Ok.ensures.new (ap tally_of c.new-in-Ok.ensures)
