use Rattle.std.proofs.Common.{◌∙◌, None, sym}
use Rattle.std.proofs.lemmas.Option.{none-some}
use Rattle.std.proofs.lemmas.Result.{err_from_is_err_and}
use Rattle.ca_machine.specs.Devices.{remove_plan}
use Rattle.service_board.specs.Does.{AnyData}
use Rattle.service_board.proofs.PlainEvents.{refused_does}
use Rattle.service_board.proofs.RemovedBoards.{found_passes, remove_does, remove_order}
use Rattle.service_board.proofs.board.Board.remove.Goals as goal

pub returns-in_err-named_endpoint-clause-does : goal.returns-in_err-named_endpoint-clause-does
returns-in_err-named_endpoint-clause-does g c =
    let p = err_from_is_err_and c.from_residual.result c.from_residual.ensures.1 in
    rw (p.1, p.2) (refused_does g.D.Devices.faults g.D.Devices.told g.E.EngineSide.moves None AnyData
    g.met.E.EngineSide.none c.args.self.now (λ st. remove_plan st c.args.e.0) c.in_err-named_endpoint.field-0.0
    c.in_err-named_endpoint.ensures.refused)

pub disconnect-requires : goal.disconnect-requires
disconnect-requires g c = c.requires.order.rested

pub unreachable-requires : goal.unreachable-requires
unreachable-requires g c =
    none-some c.in_default.field-0
    (sym (c.in_default.ensures.says
    ∙ found_passes c.args.e.0 c.args.self.now c.in_ok-named_endpoint.field-0 c.in_ok-named_endpoint.ensures.found))

pub returns-clause-does : goal.returns-clause-does
returns-clause-does g c =
    remove_does g.E.EngineSide.moves g.E.EngineSide.state c.args.self.now c.requires.order c.args.e.0
    c.disconnect.new.entries c.disconnect.ensures c.remove.new.self c.in-Ok.ensures.now c.drop_seat.new.seats
    c.drop_seat.ensures.left c.in_ok-named_endpoint.field-0 c.in_ok-named_endpoint.ensures.found g.D.Devices.faults
    g.D.Devices.told

pub returns-clause-order : goal.returns-clause-order
returns-clause-order g c =
    remove_order g.E.EngineSide.moves g.E.EngineSide.state c.args.self.now c.requires.order c.args.e.0
    c.disconnect.new.entries c.disconnect.ensures c.remove.new.self c.in-Ok.ensures.now c.drop_seat.new.seats
    c.drop_seat.ensures.left c.drop_seat.ensures.room
