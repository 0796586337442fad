use Rattle.std.proofs.Common.{not, ap}
use Rattle.std.proofs.lemmas.Bool.{ne_eqb}
use Rattle.ca_base.specs.declared.values.TheConstants.{STATE_ACTIVE}
use Rattle.device_registry.specs.Endpoints.{is_endpoint}
use Rattle.ca_machine.specs.SharedRows.{is_inactive}
use Rattle.service_book.proofs.Finding.{none_at}
use Rattle.service_book.proofs.ActiveEndpoints.{active_there, inactive_there}
use Rattle.service_book.proofs.book.Book.active_endpoint.Goals as goal

pub returns-in_err-at : goal.returns-in_err-at
returns-in_err-at c =
    rw c.from_residual.ensures
    (ap is_inactive (none_at (is_endpoint c.args.e.0) c.args.self.now.registry.list c.in_err-at.ensures))

pub returns-then-endpoint-ne-STATE_ACTIVE : goal.returns-then-endpoint-ne-STATE_ACTIVE
returns-then-endpoint-ne-STATE_ACTIVE c =
    inactive_there c.args.self.now c.args.e.0 c.in_ok-at.at c.endpoint.result.now c.in_ok-at.ensures c.endpoint.ensures
    (ap not (ne_eqb c.endpoint.result.now.state STATE_ACTIVE c.if-endpoint-ne-STATE_ACTIVE.true))

pub returns : goal.returns
returns c =
    active_there c.args.self.now c.args.e.0 c.in_ok-at.at c.endpoint.result.now c.in_ok-at.ensures c.endpoint.ensures
    c.if-endpoint-ne-STATE_ACTIVE.false
