use Rattle.std.proofs.Common.{[], ◌∷◌}
use Rattle.std.proofs.lemmas.Result.{err_from_is_err_and}
use Rattle.ca_base.specs.declared.codes.TheConstants.Hr as hr
use Rattle.ca_machine.specs.Endpoints.{enum_endpoints_plan, is_wrong_enumeration}
use Rattle.service_board.proofs.TellingEndpoints.{enum_refused, enum_told}
use Rattle.service_board.proofs.TellingSessions.{told_unconnected}
use Rattle.service_board.proofs.board.Board.enum_endpoints.Goals as goal

pub returns-in_err-connected-clause-does : goal.returns-in_err-connected-clause-does
returns-in_err-connected-clause-does g c =
    let p = err_from_is_err_and c.from_residual.result c.from_residual.ensures.1 in
    rw (p.1, p.2, c.requires.empty) (told_unconnected g.D.Devices.faults g.D.Devices.told g.E.EngineSide.moves
    g.met.E.EngineSide.none c.args.self.now c.args.conn.0
    (λ st. (is_wrong_enumeration c.args.flow c.args.mask, hr.E_INVALIDARG) ∷ [])
    (λ st. (enum_endpoints_plan st c.args.conn.0 c.args.flow c.args.mask).grants []) c.in_err-connected.field-0.0
    c.in_err-connected.ensures)

pub returns-then-is_wrong_enumeration-clause-does : goal.returns-then-is_wrong_enumeration-clause-does
returns-then-is_wrong_enumeration-clause-does g c =
    rw c.requires.empty (enum_refused g.D.Devices.faults g.D.Devices.told g.E.EngineSide.moves
    g.met.E.EngineSide.none c.args.self.now c.args.conn.0 c.in_ok-connected.ensures c.args.flow c.args.mask
    c.if-is_wrong_enumeration.ensures)

pub returns-clause-does : goal.returns-clause-does
returns-clause-does g c =
    rw c.put_matching.ensures.list (rw c.endpoints.ensures.list (enum_told g.D.Devices.faults g.D.Devices.told
    g.E.EngineSide.moves g.met.E.EngineSide.none c.args.self.now c.args.conn.0 c.in_ok-connected.ensures c.args.flow
    c.args.mask c.if-is_wrong_enumeration.ensures))
