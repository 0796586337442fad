use Rattle.std.proofs.Common.{None, ◌+◌, refl, arith}
use Rattle.std.proofs.lemmas.Result.{err_from_is_err_and}
use Rattle.std.specs.Int.{w64, to_le_bytes}
use Rattle.ca_base.specs.declared.codes.TheConstants.Hr as hr
use Rattle.ca_machine.specs.Clients.{activate_plan, new_client}
use Rattle.service_board.specs.Does.{AnyData}
use Rattle.service_board.proofs.PlainEvents.{refused_does}
use Rattle.service_board.proofs.GrantedEvents.{book_does}
use Rattle.service_board.proofs.Activating.{activate_grants, activated_order, client_owned, clients_free, full_levels}
use Rattle.service_board.proofs.board.Board.activate.Goals as goal

pub returns-in_err-check_activate-clause-does : goal.returns-in_err-check_activate-clause-does
returns-in_err-check_activate-clause-does g c =
    let p = err_from_is_err_and c.from_residual.result c.from_residual.ensures.1 in
    rw (p.1, p.2) (refused_does g.D.Devices.faults g.D.Devices.told g.E.EngineSide.moves None AnyData
    g.met.E.EngineSide.none c.args.self.now (λ st. activate_plan st c.args.conn.0 c.args.endpoint.0 c.args.role)
    c.in_err-check_activate.field-0.0 c.in_err-check_activate.ensures)

pub unreachable-requires : goal.unreachable-requires
unreachable-requires g c =
    let free =
    clients_free c.args.self.now c.args.conn.0 c.args.endpoint.0 c.args.role c.in_ok-check_activate.ensures in
    omega (arith, free.0, c.in-Err.ensures.full)

pub returns-clause-does : goal.returns-clause-does
returns-clause-does g c =
    let old = c.args.self.now.book in
    let book = record old { clients = c.push.new.self; clients_made = old.clients_made + 1 } in
    book_does g.D.Devices.faults g.D.Devices.told g.E.EngineSide.moves None AnyData g.met.E.EngineSide.none
    c.args.self.now book (λ st. activate_plan st c.args.conn.0 c.args.endpoint.0 c.args.role) hr.S_OK
    (to_le_bytes w64 (old.clients_made + 1))
    (activate_grants c.args.self.now c.args.conn.0 c.args.endpoint.0 c.args.role c.in_ok-check_activate.ensures book
    refl c.in-Ok.ensures.items)

pub returns-clause-order : goal.returns-clause-order
returns-clause-order g c =
    let old = c.args.self.now.book in
    activated_order g.E.EngineSide.state c.args.self.now c.requires.order (record old { clients = c.push.new.self })
    (new_client (old.clients_made + 1) c.args.conn.0 c.args.endpoint.0 c.args.role) c.in-Ok.ensures.items refl
    c.push.ensures.capacity (full_levels (old.clients_made + 1) c.args.conn.0 c.args.endpoint.0 c.args.role)
    (client_owned c.args.self.now c.args.conn.0 c.args.endpoint.0 c.args.role c.in_ok-check_activate.ensures)
    (clients_free c.args.self.now c.args.conn.0 c.args.endpoint.0 c.args.role c.in_ok-check_activate.ensures)
