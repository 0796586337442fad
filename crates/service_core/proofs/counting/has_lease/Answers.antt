use Rattle.std.proofs.Common.{◌∙◌}
use Rattle.service_core.proofs.Leases.{lease_none, lease_there}
use Rattle.service_core.proofs.counting.has_lease.Goals as goal

pub returns-in-Some : goal.returns-in-Some
returns-in-Some g c =
    c.is_some.ensures
    ∙ lease_there g.F.FrameStore.kept c.args.board.now.entries.items c.args.client.0 c.in-Some.at c.index.result.now
    c.in-Some.ensures c.index.ensures

pub returns-in-None : goal.returns-in-None
returns-in-None g c =
    lease_none g.F.FrameStore.kept c.args.board.now.entries.items c.args.client.0 c.in-None.ensures
