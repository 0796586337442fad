use Rattle.std.proofs.Common.{Err, subst}
use Rattle.std.proofs.lemmas.Result.{err_from_is_err_and}
use Rattle.event_notices.specs.Calls.{Registers}
use Rattle.service_board.proofs.Registering.{register_done, register_refused, register_unconnected, register_unkept}
use Rattle.service_board.proofs.board.Board.register.Goals as goal

pub returns-in_err-at-clause-does : goal.returns-in_err-at-clause-does
returns-in_err-at-clause-does g c =
    let p = err_from_is_err_and c.from_residual.result c.from_residual.ensures.1 in
    rw (p.1, p.2) (register_unconnected g.D.Devices.faults g.D.Devices.told g.E.EngineSide.moves
    g.met.E.EngineSide.none c.args.self.now c.args.conn.0 c.args.class c.args.subject c.in_err-at.field-0.0
    c.in_err-at.ensures.refused)

pub returns-in-Ok-clause-does : goal.returns-in-Ok-clause-does
returns-in-Ok-clause-does g c =
    register_done g.D.Devices.faults g.D.Devices.told g.E.EngineSide.moves g.met.E.EngineSide.none
    c.args.self.now c.args.conn.0 c.in_ok-at.at c.index_mut.result.now c.register.new.self
    c.in_ok-at.ensures.found c.index_mut.ensures.value c.args.class c.args.subject c.in-Ok.number c.in-Ok.ensures

pub returns-in-Err-Refused-clause-does : goal.returns-in-Err-Refused-clause-does
returns-in-Err-Refused-clause-does g c =
    register_refused g.D.Devices.faults g.D.Devices.told g.E.EngineSide.moves g.met.E.EngineSide.none
    c.args.self.now c.args.conn.0 c.in_ok-at.at c.index_mut.result.now c.register.new.self
    c.in_ok-at.ensures.found c.index_mut.ensures.value c.args.class c.args.subject c.in-Err-Refused.code
    (subst (λ f. Registers c.args.class c.args.subject (Err f) c.index_mut.result.now c.register.new.self)
    c.in-Err-Refused.field-0-is c.in-Err-Refused.ensures)

pub returns-in-Err-NoMemory-clause-does : goal.returns-in-Err-NoMemory-clause-does
returns-in-Err-NoMemory-clause-does g c =
    register_unkept g.D.Devices.faults g.D.Devices.told g.E.EngineSide.moves g.met.E.EngineSide.none
    c.args.self.now c.args.conn.0 c.in_ok-at.at c.index_mut.result.now c.register.new.self
    c.in_ok-at.ensures.found c.index_mut.ensures.value c.args.class c.args.subject
    (subst (λ f. Registers c.args.class c.args.subject (Err f) c.index_mut.result.now c.register.new.self)
    c.in-Err-NoMemory.field-0-is c.in-Err-NoMemory.ensures)
