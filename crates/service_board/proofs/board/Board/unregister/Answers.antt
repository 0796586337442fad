use Rattle.std.proofs.lemmas.Result.{err_from_is_err_and}
use Rattle.service_board.proofs.KeptNotices.{queue_order}
use Rattle.service_board.proofs.Registering.{unregister_done, unregister_refused, unregister_unconnected}
use Rattle.service_board.proofs.board.Board.unregister.Goals as goal

pub returns-in_err-at-clause-does : goal.returns-in_err-at-clause-does
returns-in_err-at-clause-does g c =
    let p = err_from_is_err_and c.from_residual.result c.from_residual.ensures.1 in
    rw (p.1, p.2) (unregister_unconnected g.D.Devices.faults g.D.Devices.told g.E.EngineSide.moves
    g.met.E.EngineSide.none c.args.self.now c.args.conn.0 c.args.number c.in_err-at.field-0.0
    c.in_err-at.ensures.refused)

pub returns-in_err-unregister-clause-does : goal.returns-in_err-unregister-clause-does
returns-in_err-unregister-clause-does g c =
    let p = err_from_is_err_and c.from_residual-in_err-unregister.result
    c.from_residual-in_err-unregister.ensures.1 in
    rw (p.1, p.2) (unregister_refused g.D.Devices.faults g.D.Devices.told g.E.EngineSide.moves
    g.met.E.EngineSide.none c.args.self.now c.args.conn.0 c.in_ok-at.at c.index_mut.result.now c.unregister.new.self
    c.in_ok-at.ensures.found c.index_mut.ensures.value c.args.number c.in_err-unregister.field-0.0
    c.in_err-unregister.ensures)

pub returns-in_err-unregister-clause-order : goal.returns-in_err-unregister-clause-order
returns-in_err-unregister-clause-order g c =
    queue_order g.E.EngineSide.state c.args.self.now c.in_ok-at.at c.unregister.new.self c.args.self.now.drafts
    c.requires.order.draft_room c.requires.order

pub returns-clause-does : goal.returns-clause-does
returns-clause-does g c =
    unregister_done g.D.Devices.faults g.D.Devices.told g.E.EngineSide.moves g.met.E.EngineSide.none
    c.args.self.now c.args.conn.0 c.in_ok-at.at c.index_mut.result.now c.unregister.new.self
    c.in_ok-at.ensures.found c.index_mut.ensures.value c.args.number c.in_ok-unregister.ensures

pub returns-clause-order : goal.returns-clause-order
returns-clause-order g c =
    queue_order g.E.EngineSide.state c.args.self.now c.in_ok-at.at c.unregister.new.self c.args.self.now.drafts
    c.requires.order.draft_room c.requires.order
