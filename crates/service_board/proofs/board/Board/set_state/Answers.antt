use Rattle.std.proofs.Common.{None}
use Rattle.std.proofs.lemmas.Result.{err_from_is_err_and}
use Rattle.ca_machine.specs.Devices.{set_state_plan}
use Rattle.service_board.specs.Does.{AnyData}
use Rattle.service_board.proofs.PlainEvents.{refused_does}
use Rattle.service_board.proofs.NamedDoes.{named_read, state_does, state_order, state_refused}
use Rattle.service_board.proofs.NamedRows.{state_unnamed}
use Rattle.service_board.proofs.board.Board.set_state.Goals as goal

pub returns-in_err-at-clause-does : goal.returns-in_err-at-clause-does
returns-in_err-at-clause-does g c =
    let p = err_from_is_err_and c.from_residual.result c.from_residual.ensures.1 in
    rw (p.1, p.2) (refused_does g.D.Devices.faults g.D.Devices.told g.E.EngineSide.moves None AnyData
    g.met.E.EngineSide.none c.args.self.now (λ st. set_state_plan st c.args.e.0 c.args.state) c.in_err-at.field-0.0
    (state_unnamed c.args.self.now c.args.e.0 c.args.state c.in_err-at.field-0.0 c.in_err-at.ensures.refused))

pub returns-in_err-set_state-clause-does : goal.returns-in_err-set_state-clause-does
returns-in_err-set_state-clause-does g c =
    let p = err_from_is_err_and c.from_residual-in_err-set_state.result c.from_residual-in_err-set_state.ensures.1 in
    rw (p.1, p.2) (state_refused c.args.self.now c.args.e.0 c.in_ok-at.at c.args.state c.in_ok-at.ensures.found
    g.D.Devices.faults g.D.Devices.told g.E.EngineSide.moves c.set_state.new.self g.met.E.EngineSide.none
    c.in_err-set_state.field-0.0 c.in_err-set_state.ensures)

pub disconnect-requires : goal.disconnect-requires
disconnect-requires g c = c.requires.order.rested

pub returns-clause-does : goal.returns-clause-does
returns-clause-does g c =
    let b = c.args.self.now in
    let number = c.args.e.0 in
    let found = c.in_ok-at.ensures.found in
    let read = named_read number b c.in_ok-at.at found c.endpoints.result.now c.endpoints.ensures.list
    c.index-endpoints-at.result c.index-endpoints-at.is in
    state_does b number c.in_ok-at.at c.args.state found g.D.Devices.faults g.D.Devices.told g.E.EngineSide.moves
    c.set_state.new.self g.E.EngineSide.state c.requires.order c.in_ok-set_state.ensures c.disconnect.new.entries
    c.leaves_active-lost.result
    (rw read c.leaves_active-lost.ensures)
    c.disconnect.ensures

pub returns-clause-order : goal.returns-clause-order
returns-clause-order g c =
    state_order c.args.self.now c.args.e.0 c.in_ok-at.at c.args.state c.in_ok-at.ensures.found
    g.D.Devices.faults g.D.Devices.told g.E.EngineSide.moves c.set_state.new.self g.E.EngineSide.state
    c.requires.order c.in_ok-set_state.ensures c.disconnect.new.entries c.leaves_active-lost.result
    c.disconnect.ensures
