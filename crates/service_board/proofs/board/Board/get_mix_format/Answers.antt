use Rattle.std.proofs.Common.{[], Some, None, ap, ◌∙◌, ◌++◌}
use Rattle.std.proofs.lemmas.Result.{err_from_is_err_and}
use Rattle.ca_base.specs.declared.codes.TheConstants.Hr as hr
use Rattle.ca_machine.specs.Plan.{answered}
use Rattle.ca_machine.specs.SharedRows.{control_rows}
use Rattle.ca_machine.specs.Streams.{endpoint_rows, get_mix_format_plan}
use Rattle.ca_machine.specs.Formats.{format_payload}
use Rattle.service_board.specs.Board.{state_of}
use Rattle.service_board.specs.Does.{AnyData}
use Rattle.service_board.proofs.PlainEvents.{refused_does}
use Rattle.service_board.proofs.EndpointCalls.{endpoint_read, endpoint_there, plain_tells}
use Rattle.service_board.proofs.LookingUp.{says_front, says_later}
use Rattle.service_board.proofs.board.Board.get_mix_format.Goals as goal

pub returns-in_err-connected : goal.returns-in_err-connected
returns-in_err-connected g c =
    let p = err_from_is_err_and c.from_residual.result c.from_residual.ensures.1 in
    rw (p.1, p.2) (record {
      does = refused_does g.D.Devices.faults g.D.Devices.told g.E.EngineSide.moves None AnyData
          g.met.E.EngineSide.none c.args.self.now (λ st. get_mix_format_plan st c.args.conn.0 c.args.client.0)
          c.in_err-connected.field-0.0
          (says_front c.args.self.now (control_rows c.args.conn.0)
          (λ st. endpoint_rows st c.args.conn.0 c.args.client.0) c.in_err-connected.field-0.0
          c.in_err-connected.ensures);
    })

pub returns-in_err-at : goal.returns-in_err-at
returns-in_err-at g c =
    let p = err_from_is_err_and c.from_residual-in_err-at.result c.from_residual-in_err-at.ensures.1 in
    rw (p.1, p.2) (record {
      does = refused_does g.D.Devices.faults g.D.Devices.told g.E.EngineSide.moves None AnyData
          g.met.E.EngineSide.none c.args.self.now (λ st. get_mix_format_plan st c.args.conn.0 c.args.client.0)
          c.in_err-at.field-0.0
          (says_later c.args.self.now (control_rows c.args.conn.0)
          (λ st. endpoint_rows st c.args.conn.0 c.args.client.0) (Some c.in_err-at.field-0.0)
          c.in_ok-connected.ensures c.in_err-at.ensures.refused);
    })

pub returns : goal.returns
returns g c =
    let f = c.in_ok-at.ensures.found in
    record {
      does = plain_tells g.D.Devices.faults g.D.Devices.told g.E.EngineSide.moves None AnyData
          g.met.E.EngineSide.none c.args.self.now
          (λ st. control_rows c.args.conn.0 st ++ endpoint_rows st c.args.conn.0 c.args.client.0)
          (λ st. (get_mix_format_plan st c.args.conn.0 c.args.client.0).grants [])
          hr.S_OK (format_payload c.endpoint.result.now.format)
          (says_later c.args.self.now (control_rows c.args.conn.0)
          (λ st. endpoint_rows st c.args.conn.0 c.args.client.0) None
          c.in_ok-connected.ensures f.says)
          (λ datas tally.
          endpoint_there c.args.self.now c.args.conn.0 c.args.client.0 c.in_ok-at.at f
          (λ st e. answered st (format_payload e.format)) datas tally
          ∙ ap (λ e. answered (state_of datas tally c.args.self.now) (format_payload e.format))
          (endpoint_read c.args.self.now.book f.named.endpoint.0 c.in_ok-at.at c.endpoint.result.now f.active
          c.endpoint.ensures));
    }
