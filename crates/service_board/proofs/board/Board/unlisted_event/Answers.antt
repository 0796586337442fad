use Rattle.std.proofs.Common.{[], ◌∷◌, None, Some, true}
use Rattle.std.proofs.lemmas.Result.{err_from_is_err_and}
use Rattle.ca_base.specs.declared.codes.TheConstants.Hr as hr
use Rattle.ca_machine.specs.SharedRows.{shut_rows}
use Rattle.ca_machine.specs.Step.{unlisted_device_plan}
use Rattle.service_board.specs.Does.{AnyData}
use Rattle.service_board.proofs.PlainEvents.{refused_does}
use Rattle.service_board.proofs.LookingUp.{says_front, says_later}
use Rattle.service_board.proofs.board.Board.unlisted_event.Goals as goal

pub returns-in_err-runs : goal.returns-in_err-runs
returns-in_err-runs g c =
    let p = err_from_is_err_and c.from_residual.result c.from_residual.ensures.1 in
    rw (p.1, p.2) (refused_does g.D.Devices.faults g.D.Devices.told g.E.EngineSide.moves None AnyData
    g.met.E.EngineSide.none c.args.self.now (λ st. unlisted_device_plan st) c.in_err-runs.field-0.0
    (says_front c.args.self.now shut_rows (λ st. (true, hr.E_NOTIMPL) ∷ []) c.in_err-runs.field-0.0
    c.in_err-runs.ensures))

pub returns : goal.returns
returns g c =
    refused_does g.D.Devices.faults g.D.Devices.told g.E.EngineSide.moves None AnyData g.met.E.EngineSide.none
    c.args.self.now (λ st. unlisted_device_plan st) hr.E_NOTIMPL
    (says_later c.args.self.now shut_rows (λ st. (true, hr.E_NOTIMPL) ∷ []) (Some hr.E_NOTIMPL) c.in_ok-runs.ensures
    (λ datas tally. Rattle.std.proofs.Common.refl))
