use Rattle.std.proofs.lemmas.Result.{err_from_is_err_and}
use Rattle.service_board.proofs.SettingLevels.{gains_stay, sessions_order}
use Rattle.service_board.proofs.SettingSessions.{set_refused, set_unconnected, set_done}
use Rattle.service_board.proofs.board.Board.set_session.Goals as goal

pub returns-in_err-connected-clause-does : goal.returns-in_err-connected-clause-does
returns-in_err-connected-clause-does g c =
    let p = err_from_is_err_and c.from_residual.result c.from_residual.ensures.1 in
    rw (p.1, p.2) (set_unconnected g.D.Devices.faults g.D.Devices.told g.E.EngineSide.moves g.met.E.EngineSide.none
    c.args.self.now c.args.conn.0 c.args.session.0 c.args.change.now c.in_err-connected.field-0.0
    c.in_err-connected.ensures)

pub returns-in_err-set-clause-does : goal.returns-in_err-set-clause-does
returns-in_err-set-clause-does g c =
    let p = err_from_is_err_and c.from_residual-in_err-set.result c.from_residual-in_err-set.ensures.1 in
    rw (p.1, p.2) (set_refused g.D.Devices.faults g.D.Devices.told g.E.EngineSide.moves g.met.E.EngineSide.none
    c.args.self.now c.args.conn.0 c.args.session.0 c.args.change.now c.set.new.self c.in_ok-connected.ensures
    c.in_err-set.field-0.0 c.in_err-set.ensures)

pub returns-clause-does : goal.returns-clause-does
returns-clause-does g c =
    set_done g.D.Devices.faults g.D.Devices.told g.E.EngineSide.moves g.met.E.EngineSide.none
    c.args.self.now c.args.conn.0 c.args.session.0 c.args.change.now c.set.new.self c.in_ok-connected.ensures _
    c.in_ok-set.ensures

pub returns-clause-order : goal.returns-clause-order
returns-clause-order g c =
    rw c.changes_gains.ensures (sessions_order g.E.EngineSide.state c.args.self.now _ c.set.new.self
    (gains_stay c.args.change.now c.args.session.0 c.set.new.self c.args.self.now.book c.in_ok-set.ensures)
    c.requires.order)
