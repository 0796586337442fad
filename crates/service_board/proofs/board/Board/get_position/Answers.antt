use Rattle.std.proofs.Common.{refl, sym, ap}
use Rattle.std.proofs.lemmas.Result.{err_from_is_err_and}
use Rattle.std.proofs.Common.{◌++◌}
use Rattle.std.specs.Int.{w64, to_le_bytes}
use Rattle.ca_machine.specs.Plan.{answered}
use Rattle.ca_machine.specs.SharedRows.{no_rows}
use Rattle.ca_machine.specs.Streams.{position_of}
use Rattle.service_board.specs.Does.{AnyData}
use Rattle.service_board.proofs.StreamRows.{opened_there, own_told, stream_refused}
use Rattle.service_board.proofs.board.Board.get_position.Goals as goal

pub returns-in_err-at : goal.returns-in_err-at
returns-in_err-at g c =
    let p = err_from_is_err_and c.from_residual.result c.from_residual.ensures.1 in
    rw (p.1, p.2) (record {
      does = stream_refused g.D.Devices.faults g.D.Devices.told g.E.EngineSide.moves g.met.E.EngineSide.none
          c.args.self.now c.args.conn.0 c.args.client.0 no_rows
          (λ st s. answered st (to_le_bytes w64 (position_of s) ++ to_le_bytes w64 s.rate)) AnyData
          c.in_err-at.field-0.0 c.in_err-at.ensures.refused;
    })

pub returns : goal.returns
returns g c = record {
  does = own_told g.D.Devices.faults g.D.Devices.told g.E.EngineSide.moves g.met.E.EngineSide.none
      c.args.self.now c.args.conn.0 c.args.client.0 no_rows
      (λ st s. answered st (to_le_bytes w64 (position_of s) ++ to_le_bytes w64 s.rate)) AnyData
      c.in_ok-at.at c.index-entry.result.now
      (opened_there c.args.conn.0 c.args.client.0 c.args.self.now c.in_ok-at.at c.index-entry.result.now
      c.in_ok-at.ensures.found c.index-entry.ensures)
      (to_le_bytes w64 c.position_of.result ++ to_le_bytes w64 c.index-entry.result.now.rate)
      (λ datas knows. refl)
      (λ st datas. ap (λ n. answered st (to_le_bytes w64 n ++ to_le_bytes w64 c.index-entry.result.now.rate))
      (sym (c.position_of.ensures (datas c.index-entry.result.now.client.0))));
}
