use Rattle.std.proofs.Common.{[], ◌∷◌, is_none, sym}
use Rattle.std.proofs.lemmas.Result.{err_from_is_err_and}
use Rattle.ca_base.specs.declared.codes.TheConstants.Hr as hr
use Rattle.ca_machine.specs.Endpoints.{endpoint_told}
use Rattle.ca_machine.specs.State.{endpoint_at}
use Rattle.service_board.proofs.TellingEndpoints.{info_refused, info_told}
use Rattle.service_board.proofs.TellingSessions.{told_unconnected}
use Rattle.service_board.proofs.board.Board.device_info.Goals as goal

pub returns-in_err-connected-clause-does : goal.returns-in_err-connected-clause-does
returns-in_err-connected-clause-does g c =
    let p = err_from_is_err_and c.from_residual.result c.from_residual.ensures.1 in
    rw (p.1, p.2, c.requires.empty) (told_unconnected g.D.Devices.faults g.D.Devices.told g.E.EngineSide.moves
    g.met.E.EngineSide.none c.args.self.now c.args.conn.0
    (λ st. (is_none (endpoint_at c.args.e.0 st), hr.E_NOTFOUND) ∷ [])
    (λ st. endpoint_told st (endpoint_at c.args.e.0 st)) c.in_err-connected.field-0.0
    c.in_err-connected.ensures)

pub returns-in_default-clause-does : goal.returns-in_default-clause-does
returns-in_default-clause-does g c =
    rw c.requires.empty (info_refused g.D.Devices.faults g.D.Devices.told g.E.EngineSide.moves
    g.met.E.EngineSide.none c.args.self.now c.args.conn.0 c.in_ok-connected.ensures c.args.e.0
    (sym c.in_default.ensures.endpoint))

pub returns-clause-does : goal.returns-clause-does
returns-clause-does g c =
    rw c.put_endpoint.ensures.list (info_told g.D.Devices.faults g.D.Devices.told g.E.EngineSide.moves
    g.met.E.EngineSide.none c.args.self.now c.args.conn.0 c.in_ok-connected.ensures c.args.e.0
    c.in-Some.endpoint.now (sym c.in-Some.ensures.endpoint))
