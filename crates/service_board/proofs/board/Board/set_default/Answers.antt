use Rattle.std.proofs.Common.{None}
use Rattle.std.proofs.lemmas.Result.{err_from_is_err_and}
use Rattle.ca_base.specs.declared.codes.TheConstants.Hr as hr
use Rattle.ca_machine.specs.Devices.{set_default_plan}
use Rattle.service_board.specs.Does.{AnyData}
use Rattle.service_board.proofs.ChoosingDefaults.{choice_does, choice_missing, wrong_choice}
use Rattle.service_board.proofs.PlainEvents.{refused_does}
use Rattle.service_board.proofs.NamedDoes.{named_read}
use Rattle.service_board.proofs.board.Board.set_default.Goals as goal

pub returns-in_err-at-clause-does : goal.returns-in_err-at-clause-does
returns-in_err-at-clause-does g c =
    let p = err_from_is_err_and c.from_residual.result c.from_residual.ensures.1 in
    rw (p.1, p.2) (refused_does g.D.Devices.faults g.D.Devices.told g.E.EngineSide.moves None AnyData
    g.met.E.EngineSide.none c.args.self.now (λ st. set_default_plan st c.args.flow c.args.role c.args.e.0)
    c.in_err-at.field-0.0
    (choice_missing c.args.self.now c.args.flow c.args.role c.args.e.0 c.in_err-at.field-0.0
    c.in_err-at.ensures.refused))

pub returns-then-is_wrong_choice-clause-does : goal.returns-then-is_wrong_choice-clause-does
returns-then-is_wrong_choice-clause-does g c =
    let found = c.in_ok-at.ensures.found in
    let read = named_read c.args.e.0 c.args.self.now c.in_ok-at.at found c.endpoints.result.now c.endpoints.ensures.list
    c.index-endpoints-at.result c.index-endpoints-at.is in
    refused_does g.D.Devices.faults g.D.Devices.told g.E.EngineSide.moves None AnyData g.met.E.EngineSide.none
    c.args.self.now (λ st. set_default_plan st c.args.flow c.args.role c.args.e.0) hr.E_INVALIDARG
    (wrong_choice c.args.self.now c.args.flow c.args.role c.args.e.0 c.in_ok-at.at found c.index-endpoints-at.result
    read c.if-is_wrong_choice.ensures)

pub returns-clause-does : goal.returns-clause-does
returns-clause-does g c =
    let found = c.in_ok-at.ensures.found in
    let read = named_read c.args.e.0 c.args.self.now c.in_ok-at.at found c.endpoints.result.now c.endpoints.ensures.list
    c.index-endpoints-at.result c.index-endpoints-at.is in
    choice_does c.args.self.now c.args.flow c.args.role c.args.e.0 c.in_ok-at.at found c.index-endpoints-at.result
    read c.if-is_wrong_choice.ensures c.choose.new.self c.choose.ensures g.D.Devices.faults g.D.Devices.told
    g.E.EngineSide.moves g.met.E.EngineSide.none
