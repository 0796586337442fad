use Rattle.std.proofs.Common.{[], ◌∷◌, ◌∙◌, ap, is_none, not}
use Rattle.std.proofs.lemmas.Result.{err_from_is_err_and}
use Rattle.ca_base.specs.declared.codes.TheConstants.Hr as hr
use Rattle.ca_machine.specs.Plan.{answered}
use Rattle.ca_machine.specs.Sessions.{numbers_payload}
use Rattle.ca_machine.specs.State.{endpoint_at}
use Rattle.session_manager.specs.Sessions.{numbers_on}
use Rattle.service_board.proofs.TellingSessions.{endpoint_tested, enum_refused, enum_told, told_unconnected}
use Rattle.service_board.proofs.board.Board.enum_sessions.Goals as goal

pub returns-in_err-connected-clause-does : goal.returns-in_err-connected-clause-does
returns-in_err-connected-clause-does g c =
    let p = err_from_is_err_and c.from_residual.result c.from_residual.ensures.1 in
    rw (p.1, p.2, c.requires.empty) (told_unconnected g.D.Devices.faults g.D.Devices.told g.E.EngineSide.moves
    g.met.E.EngineSide.none c.args.self.now c.args.conn.0
    (λ st. (is_none (endpoint_at c.args.e.0 st), hr.E_NOTFOUND) ∷ [])
    (λ st. answered st (numbers_payload (numbers_on c.args.e.0 st.sessions))) c.in_err-connected.field-0.0
    c.in_err-connected.ensures)

pub returns-then-is_none-clause-does : goal.returns-then-is_none-clause-does
returns-then-is_none-clause-does g c =
    rw c.requires.empty (enum_refused g.D.Devices.faults g.D.Devices.told g.E.EngineSide.moves
    g.met.E.EngineSide.none c.args.self.now c.args.conn.0 c.in_ok-connected.ensures c.args.e.0
    (endpoint_tested c.args.e.0 c.args.self.now.book.registry.list c.endpoint_place.result c.endpoint_place.ensures
    ∙ ap not c.if-is_none.ensures))

pub returns-clause-does : goal.returns-clause-does
returns-clause-does g c =
    rw c.put_sessions_of.ensures.list (enum_told g.D.Devices.faults g.D.Devices.told g.E.EngineSide.moves
    g.met.E.EngineSide.none c.args.self.now c.args.conn.0 c.in_ok-connected.ensures c.args.e.0
    (endpoint_tested c.args.e.0 c.args.self.now.book.registry.list c.endpoint_place.result c.endpoint_place.ensures
    ∙ ap not c.if-is_none.ensures))
