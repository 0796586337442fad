use Rattle.std.proofs.Common.{sym}
use Rattle.device_registry.proofs.Finding.{found_nowhere, found_there}
use Rattle.device_registry.proofs.registry.Registry.get.Goals as goal

pub returns-in-Some-clause-endpoint : goal.returns-in-Some-clause-endpoint
returns-in-Some-clause-endpoint c = rw (← c.self.view_is)
    (sym (found_there c.args.no.0 c.self.inside.endpoints.items c.deref.result.now c.deref.ensures.value c.in-Some.at
    c.index.result.now c.in-Some.ensures c.index.ensures).0)

pub returns-in-None-clause-endpoint : goal.returns-in-None-clause-endpoint
returns-in-None-clause-endpoint c = rw (← c.self.view_is)
    (sym (found_nowhere c.args.no.0 c.self.inside.endpoints.items c.deref.result.now c.deref.ensures.value
    c.in-None.ensures))
