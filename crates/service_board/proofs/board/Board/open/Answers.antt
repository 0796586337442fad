use Rattle.std.proofs.Common.{[], None, refl, arith}
use Rattle.std.proofs.lemmas.Result.{err_from_is_err_and}
use Rattle.ca_base.specs.declared.codes.TheConstants.Hr as hr
use Rattle.ca_machine.specs.Clients.{open_plan}
use Rattle.service_board.specs.Does.{AnyData}
use Rattle.service_board.proofs.PlainEvents.{refused_does}
use Rattle.service_board.proofs.GrantedEvents.{book_does}
use Rattle.service_board.proofs.Connecting.{free_to_open, open_grants, open_order}
use Rattle.service_board.proofs.board.Board.open.Goals as goal

pub returns-in_err-check_open-clause-does : goal.returns-in_err-check_open-clause-does
returns-in_err-check_open-clause-does g c =
    let p = err_from_is_err_and c.from_residual.result c.from_residual.ensures.1 in
    rw (p.1, p.2) (refused_does g.D.Devices.faults g.D.Devices.told g.E.EngineSide.moves None AnyData
    g.met.E.EngineSide.none c.args.self.now (λ st. open_plan st c.args.conn.0 c.args.process c.args.name.now)
    c.in_err-check_open.field-0.0 c.in_err-check_open.ensures)

pub unreachable-requires : goal.unreachable-requires
unreachable-requires g c =
    let free = free_to_open c.args.self.now c.args.conn.0 c.args.process c.args.name.now c.in_ok-check_open.ensures
    c.requires.order.book in
    omega (arith, free, c.in-Err.ensures.full)

pub returns-clause-does : goal.returns-clause-does
returns-clause-does g c =
    let book = record (c.args.self.now.book) { connections = c.push.new.self } in
    book_does g.D.Devices.faults g.D.Devices.told g.E.EngineSide.moves None AnyData g.met.E.EngineSide.none
    c.args.self.now book (λ st. open_plan st c.args.conn.0 c.args.process c.args.name.now) hr.S_OK []
    (open_grants c.args.self.now c.args.conn.0 c.args.process c.args.name.now c.in_ok-check_open.ensures book refl
    c.in-Ok.ensures.items)

pub returns-clause-order : goal.returns-clause-order
returns-clause-order g c =
    open_order c.args.self.now c.args.conn.0 c.args.process c.args.name.now c.in_ok-check_open.ensures
    g.E.EngineSide.state c.requires.order (record (c.args.self.now.book) { connections = c.push.new.self })
    c.in-Ok.ensures.items c.push.ensures.capacity
