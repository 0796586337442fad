use Rattle.std.proofs.Common.{[], ◌∷◌, true, Some, None, refl}
use Rattle.std.proofs.lemmas.Result.{err_from_is_err_and}
use Rattle.ca_base.specs.declared.codes.TheConstants.Hr as hr
use Rattle.ca_machine.specs.SharedRows.{control_rows}
use Rattle.ca_machine.specs.Step.{unlisted_call_plan}
use Rattle.service_board.specs.Does.{AnyData}
use Rattle.service_board.proofs.PlainEvents.{refused_does}
use Rattle.service_board.proofs.LookingUp.{says_front, says_later}
use Rattle.service_board.proofs.board.Board.unlisted_call.Goals as goal

pub returns-in_err-connected : goal.returns-in_err-connected
returns-in_err-connected g c =
    let p = err_from_is_err_and c.from_residual.result c.from_residual.ensures.1 in
    rw (p.1, p.2) (refused_does g.D.Devices.faults g.D.Devices.told g.E.EngineSide.moves None AnyData
    g.met.E.EngineSide.none c.args.self.now (λ st. unlisted_call_plan st c.args.conn.0) c.in_err-connected.field-0.0
    (says_front c.args.self.now (control_rows c.args.conn.0) (λ st. (true, hr.E_NOTIMPL) ∷ [])
    c.in_err-connected.field-0.0 c.in_err-connected.ensures))

pub returns : goal.returns
returns g c =
    refused_does g.D.Devices.faults g.D.Devices.told g.E.EngineSide.moves None AnyData g.met.E.EngineSide.none
    c.args.self.now (λ st. unlisted_call_plan st c.args.conn.0) hr.E_NOTIMPL
    (says_later c.args.self.now (control_rows c.args.conn.0) (λ st. (true, hr.E_NOTIMPL) ∷ []) (Some hr.E_NOTIMPL)
    c.in_ok-connected.ensures (λ datas tally. refl))
