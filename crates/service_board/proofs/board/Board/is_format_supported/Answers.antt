use Rattle.std.proofs.Common.{None}
use Rattle.std.proofs.lemmas.Result.{err_from_is_err_and}
use Rattle.ca_machine.specs.Streams.{is_format_supported_plan}
use Rattle.service_board.specs.Does.{AnyData}
use Rattle.service_board.proofs.PlainEvents.{refused_does}
use Rattle.service_board.proofs.FormatRows.{tells_support, unconnected, unusable}
use Rattle.service_board.proofs.board.Board.is_format_supported.Goals as goal

pub returns-in_err-connected : goal.returns-in_err-connected
returns-in_err-connected g c =
    let p = err_from_is_err_and c.from_residual.result c.from_residual.ensures.1 in
    rw (p.1, p.2) (record {
      does = refused_does g.D.Devices.faults g.D.Devices.told g.E.EngineSide.moves None AnyData
          g.met.E.EngineSide.none c.args.self.now
          (λ st. is_format_supported_plan st c.args.conn.0 c.args.client.0 c.args.share c.args.format.now)
          c.in_err-connected.field-0.0
          (unconnected c.args.self.now c.args.conn.0 c.args.client.0 c.args.share c.args.format.now
          c.in_err-connected.field-0.0 c.in_err-connected.ensures);
    })

pub returns-in_err-at : goal.returns-in_err-at
returns-in_err-at g c =
    let p = err_from_is_err_and c.from_residual-in_err-at.result c.from_residual-in_err-at.ensures.1 in
    rw (p.1, p.2) (record {
      does = refused_does g.D.Devices.faults g.D.Devices.told g.E.EngineSide.moves None AnyData
          g.met.E.EngineSide.none c.args.self.now
          (λ st. is_format_supported_plan st c.args.conn.0 c.args.client.0 c.args.share c.args.format.now)
          c.in_err-at.field-0.0
          (unusable c.args.self.now c.args.conn.0 c.args.client.0 c.args.share c.args.format.now
          c.in_ok-connected.ensures c.in_err-at.field-0.0 c.in_err-at.ensures.refused);
    })

pub returns : goal.returns
returns g c = record {
  does = tells_support g.D.Devices.faults g.D.Devices.told g.E.EngineSide.moves
      g.met.E.EngineSide.none c.args.self.now c.args.conn.0 c.args.client.0 c.args.share c.args.format.now
      c.in_ok-connected.ensures c.in_ok-at.at c.in_ok-at.ensures.found c.endpoint.result.now c.endpoint.ensures
      c.support.result c.support.ensures;
}
