use Rattle.std.proofs.Common.{[], ◌∷◌, is_none}
use Rattle.std.proofs.lemmas.Result.{err_from_is_err_and}
use Rattle.ca_base.specs.declared.codes.TheConstants.Hr as hr
use Rattle.ca_machine.specs.Endpoints.{endpoint_named, get_device_plan}
use Rattle.service_board.proofs.TellingEndpoints.{device_refused, device_told}
use Rattle.service_board.proofs.TellingSessions.{told_unconnected}
use Rattle.service_board.proofs.board.Board.get_device.Goals as goal

pub returns-in_err-connected : goal.returns-in_err-connected
returns-in_err-connected g c =
    let p = err_from_is_err_and c.from_residual.result c.from_residual.ensures.1 in
    rw (p.1, p.2) (record {
      does = told_unconnected g.D.Devices.faults g.D.Devices.told g.E.EngineSide.moves g.met.E.EngineSide.none
          c.args.self.now c.args.conn.0
          (λ st. (is_none (endpoint_named c.args.id.now st), hr.E_NOTFOUND) ∷ [])
          (λ st. (get_device_plan st c.args.conn.0 c.args.id.now).grants []) c.in_err-connected.field-0.0
          c.in_err-connected.ensures;
    })

pub returns-in-Some : goal.returns-in-Some
returns-in-Some g c = record {
  does = device_told g.D.Devices.faults g.D.Devices.told g.E.EngineSide.moves g.met.E.EngineSide.none
      c.args.self.now c.args.conn.0 c.in_ok-connected.ensures c.args.id.now c.in-Some.e
      (rw (← c.endpoints.ensures.list, ← c.as_bytes.ensures.value) c.in-Some.ensures);
}

pub returns-in-None : goal.returns-in-None
returns-in-None g c = record {
  does = device_refused g.D.Devices.faults g.D.Devices.told g.E.EngineSide.moves g.met.E.EngineSide.none
      c.args.self.now c.args.conn.0 c.in_ok-connected.ensures c.args.id.now
      (rw (← c.endpoints.ensures.list, ← c.as_bytes.ensures.value) c.in-None.ensures);
}
