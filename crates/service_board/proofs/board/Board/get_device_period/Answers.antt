use Rattle.std.proofs.Common.{[], Some, None, refl, ◌++◌}
use Rattle.std.specs.Int.{w64, to_le_bytes}
use Rattle.ca_base.specs.declared.limits.TheConstants.{MIN_EXCLUSIVE_PERIOD, SHARED_PERIOD}
use Rattle.std.proofs.lemmas.Result.{err_from_is_err_and}
use Rattle.ca_base.specs.declared.codes.TheConstants.Hr as hr
use Rattle.ca_machine.specs.SharedRows.{control_rows}
use Rattle.ca_machine.specs.Streams.{endpoint_rows, get_device_period_plan}
use Rattle.service_board.specs.Does.{AnyData}
use Rattle.service_board.proofs.PlainEvents.{refused_does}
use Rattle.service_board.proofs.EndpointCalls.{plain_tells}
use Rattle.service_board.proofs.LookingUp.{says_front, says_later}
use Rattle.service_board.proofs.board.Board.get_device_period.Goals as goal

pub returns-in_err-connected : goal.returns-in_err-connected
returns-in_err-connected g c =
    let p = err_from_is_err_and c.from_residual.result c.from_residual.ensures.1 in
    rw (p.1, p.2) (record {
      does = refused_does g.D.Devices.faults g.D.Devices.told g.E.EngineSide.moves None AnyData
          g.met.E.EngineSide.none c.args.self.now (λ st. get_device_period_plan st c.args.conn.0 c.args.client.0)
          c.in_err-connected.field-0.0
          (says_front c.args.self.now (control_rows c.args.conn.0)
          (λ st. endpoint_rows st c.args.conn.0 c.args.client.0) c.in_err-connected.field-0.0
          c.in_err-connected.ensures);
    })

pub returns-in_err-valid_endpoint : goal.returns-in_err-valid_endpoint
returns-in_err-valid_endpoint g c =
    let p = err_from_is_err_and c.from_residual-in_err-valid_endpoint.result
    c.from_residual-in_err-valid_endpoint.ensures.1 in
    rw (p.1, p.2) (record {
      does = refused_does g.D.Devices.faults g.D.Devices.told g.E.EngineSide.moves None AnyData
          g.met.E.EngineSide.none c.args.self.now (λ st. get_device_period_plan st c.args.conn.0 c.args.client.0)
          c.in_err-valid_endpoint.field-0.0
          (says_later c.args.self.now (control_rows c.args.conn.0)
          (λ st. endpoint_rows st c.args.conn.0 c.args.client.0) (Some c.in_err-valid_endpoint.field-0.0)
          c.in_ok-connected.ensures c.in_err-valid_endpoint.ensures.refused);
    })

pub returns : goal.returns
returns g c = record {
  does = plain_tells g.D.Devices.faults g.D.Devices.told g.E.EngineSide.moves None AnyData
      g.met.E.EngineSide.none c.args.self.now
      (λ st. control_rows c.args.conn.0 st ++ endpoint_rows st c.args.conn.0 c.args.client.0)
      (λ st. (get_device_period_plan st c.args.conn.0 c.args.client.0).grants [])
      hr.S_OK (to_le_bytes w64 SHARED_PERIOD ++ to_le_bytes w64 MIN_EXCLUSIVE_PERIOD)
      (says_later c.args.self.now (control_rows c.args.conn.0)
      (λ st. endpoint_rows st c.args.conn.0 c.args.client.0) None
      c.in_ok-connected.ensures c.in_ok-valid_endpoint.ensures.found.says)
      (λ datas tally. refl);
}
