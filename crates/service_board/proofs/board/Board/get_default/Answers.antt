use Rattle.std.proofs.lemmas.Result.{err_from_is_err_and}
use Rattle.device_registry.specs.Endpoints.{flow_number}
use Rattle.ca_machine.specs.Endpoints.{default_at, number_told}
use Rattle.service_board.proofs.TellingEndpoints.{default_refused, default_rows, default_told, default_wrong}
use Rattle.service_board.proofs.TellingSessions.{told_unconnected}
use Rattle.service_board.proofs.board.Board.get_default.Goals as goal

pub returns-in_err-connected : goal.returns-in_err-connected
returns-in_err-connected g c =
    let p = err_from_is_err_and c.from_residual.result c.from_residual.ensures.1 in
    rw (p.1, p.2) (record {
      does = told_unconnected g.D.Devices.faults g.D.Devices.told g.E.EngineSide.moves g.met.E.EngineSide.none
          c.args.self.now c.args.conn.0
          (λ st. default_rows c.args.flow c.args.role (default_at c.args.flow c.args.role st))
          (λ st. number_told st (default_at c.args.flow c.args.role st)) c.in_err-connected.field-0.0
          c.in_err-connected.ensures;
    })

pub returns-then-is_wrong_default : goal.returns-then-is_wrong_default
returns-then-is_wrong_default g c = record {
  does = default_wrong g.D.Devices.faults g.D.Devices.told g.E.EngineSide.moves g.met.E.EngineSide.none
      c.args.self.now c.args.conn.0 c.in_ok-connected.ensures c.args.flow c.args.role
      c.if-is_wrong_default.ensures;
}

pub returns-in_err-e : goal.returns-in_err-e
returns-in_err-e g c =
    let p = err_from_is_err_and c.from_residual-in_err-e.result c.from_residual-in_err-e.ensures.1 in
    rw (p.1, p.2) (record {
      does = default_refused g.D.Devices.faults g.D.Devices.told g.E.EngineSide.moves g.met.E.EngineSide.none
          c.args.self.now c.args.conn.0 c.in_ok-connected.ensures c.args.flow c.args.role
          (flow_number c.flow_of.result) c.if-is_wrong_default.ensures c.flow_of.ensures
          c.in_err-e.field-0.0 c.in_err-e.ensures;
    })

pub returns : goal.returns
returns g c = record {
  does = default_told g.D.Devices.faults g.D.Devices.told g.E.EngineSide.moves g.met.E.EngineSide.none
      c.args.self.now c.args.conn.0 c.in_ok-connected.ensures c.args.flow c.args.role
      (flow_number c.flow_of.result) c.if-is_wrong_default.ensures c.flow_of.ensures c.in_ok-e.e
      c.in_ok-e.ensures;
}
