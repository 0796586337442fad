use Rattle.std.proofs.Common.{not, ap, eq-eqb, arith}
use Rattle.std.proofs.lemmas.Bool.{ne_eqb}
use Rattle.std.proofs.lemmas.Bool.Decides.{nat_tests}
use Rattle.std.proofs.lemmas.Result.{err_from_is_err_and}
use Rattle.ca_base.specs.declared.values.TheConstants.{STATE_ACTIVE}
use Rattle.ca_machine.specs.SharedRows.{control_rows}
use Rattle.service_board.proofs.Activating.{free, full, inactive, own_rows, unknown_endpoint, worn, wrong_role}
use Rattle.service_board.proofs.LookingUp.{says_front}
use Rattle.service_board.proofs.board.Board.check_activate.Goals as goal

pub returns-in_err-connected : goal.returns-in_err-connected
returns-in_err-connected g c =
    let p = err_from_is_err_and c.from_residual.result c.from_residual.ensures.1 in
    rw (p.1, p.2) (says_front c.args.self.now (control_rows c.args.conn.0) (own_rows c.args.endpoint.0 c.args.role)
    c.in_err-connected.field-0.0 c.in_err-connected.ensures)

pub returns-in_default : goal.returns-in_default
returns-in_default g c =
    unknown_endpoint c.args.self.now c.args.conn.0 c.args.endpoint.0 c.args.role c.in_ok-connected.ensures
    c.in_default.ensures

pub returns-then-not-is_role : goal.returns-then-not-is_role
returns-then-not-is_role g c =
    wrong_role c.args.self.now c.args.conn.0 c.args.endpoint.0 c.args.role c.in_ok-connected.ensures c.in-Some.place
    c.in-Some.ensures c.if-not-is_role.ensures

pub returns-then-endpoint-ne-STATE_ACTIVE : goal.returns-then-endpoint-ne-STATE_ACTIVE
returns-then-endpoint-ne-STATE_ACTIVE g c =
    inactive c.args.self.now c.args.conn.0 c.args.endpoint.0 c.args.role c.in_ok-connected.ensures c.in-Some.place
    c.endpoint.result.now c.in-Some.ensures c.endpoint.ensures c.if-not-is_role.ensures
    (ap not (ne_eqb c.endpoint.result.now.state STATE_ACTIVE c.if-endpoint-ne-STATE_ACTIVE.true))

pub returns-then-len-ge-CLIENTS : goal.returns-then-len-ge-CLIENTS
returns-then-len-ge-CLIENTS g c =
    full c.args.self.now c.args.conn.0 c.args.endpoint.0 c.args.role c.in_ok-connected.ensures c.in-Some.place
    c.endpoint.result.now c.in-Some.ensures c.endpoint.ensures c.if-not-is_role.ensures
    (ap not (eq-eqb c.endpoint.result.now.state STATE_ACTIVE c.if-endpoint-ne-STATE_ACTIVE.false))
    (grind (arith, nat_tests))

pub returns-then-self-ge-MAX_COUNT : goal.returns-then-self-ge-MAX_COUNT
returns-then-self-ge-MAX_COUNT g c =
    worn c.args.self.now c.args.conn.0 c.args.endpoint.0 c.args.role c.in_ok-connected.ensures c.in-Some.place
    c.endpoint.result.now c.in-Some.ensures c.endpoint.ensures c.if-not-is_role.ensures
    (ap not (eq-eqb c.endpoint.result.now.state STATE_ACTIVE c.if-endpoint-ne-STATE_ACTIVE.false))
    (grind (arith, nat_tests)) (grind (arith, nat_tests))

pub returns : goal.returns
returns g c =
    free c.args.self.now c.args.conn.0 c.args.endpoint.0 c.args.role c.in_ok-connected.ensures c.in-Some.place
    c.endpoint.result.now c.in-Some.ensures c.endpoint.ensures c.if-not-is_role.ensures
    (ap not (eq-eqb c.endpoint.result.now.state STATE_ACTIVE c.if-endpoint-ne-STATE_ACTIVE.false))
    (grind (arith, nat_tests)) (grind (arith, nat_tests))
