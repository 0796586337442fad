use Rattle.std.proofs.lemmas.Result.{err_from_is_err_and}
use Rattle.ca_machine.specs.SharedRows.{stream_rows}
use Rattle.ca_machine.specs.Streams.{get_stream_level_rows}
use Rattle.ca_stage.specs.Moves.{stream_at}
use Rattle.service_board.specs.Does.{AnyData}
use Rattle.service_board.specs.Lookups.{client_control_rows}
use Rattle.service_board.proofs.LookingUp.{says_front}
use Rattle.service_board.proofs.ChangedClients.{named_there}
use Rattle.service_board.proofs.StreamLevels.{get_refused, get_told, tells_level}
use Rattle.service_board.proofs.StreamRows.{opened_there, stream_refused}
use Rattle.service_board.proofs.board.Board.get_stream_level.Goals as goal

pub returns-in_err-place : goal.returns-in_err-place
returns-in_err-place g c =
    let p = err_from_is_err_and c.from_residual.result c.from_residual.ensures.1 in
    rw (p.1, p.2) (record {
      does = stream_refused g.D.Devices.faults g.D.Devices.told g.E.EngineSide.moves g.met.E.EngineSide.none
          c.args.self.now c.args.conn.0 c.args.client.0 (get_stream_level_rows c.args.channel)
          (tells_level c.args.conn.0 c.args.client.0 c.args.channel) AnyData c.in_err-place.field-0.0
          (says_front c.args.self.now (client_control_rows c.args.conn.0 c.args.client.0)
          (λ st. stream_rows (stream_at c.args.client.0 st.stage)) c.in_err-place.field-0.0
          c.in_err-place.ensures.refused);
    })

pub returns-in_err-at : goal.returns-in_err-at
returns-in_err-at g c =
    let p = err_from_is_err_and c.from_residual-in_err-at.result c.from_residual-in_err-at.ensures.1 in
    rw (p.1, p.2) (record {
      does = stream_refused g.D.Devices.faults g.D.Devices.told g.E.EngineSide.moves g.met.E.EngineSide.none
          c.args.self.now c.args.conn.0 c.args.client.0 (get_stream_level_rows c.args.channel)
          (tells_level c.args.conn.0 c.args.client.0 c.args.channel) AnyData c.in_err-at.field-0.0
          c.in_err-at.ensures.refused;
    })

pub returns-then-channel-index : goal.returns-then-channel-index
returns-then-channel-index g c = record {
  does = get_refused g.D.Devices.faults g.D.Devices.told g.E.EngineSide.moves g.met.E.EngineSide.none
      c.args.self.now c.args.conn.0 c.args.client.0 c.args.channel c.in_ok-at.at c.index.result.now
      (opened_there c.args.conn.0 c.args.client.0 c.args.self.now c.in_ok-at.at c.index.result.now
      c.in_ok-at.ensures.found c.index.ensures)
      c.if-channel-index.true;
}

pub returns : goal.returns
returns g c = record {
  does = get_told g.D.Devices.faults g.D.Devices.told g.E.EngineSide.moves g.met.E.EngineSide.none
      c.args.self.now c.args.conn.0 c.args.client.0 c.args.channel c.in_ok-at.at c.index.result.now
      (opened_there c.args.conn.0 c.args.client.0 c.args.self.now c.in_ok-at.at c.index.result.now
      c.in_ok-at.ensures.found c.index.ensures)
      c.if-channel-index.false c.in_ok-place.place c.index-2.result.now
      (named_there c.args.self.now c.args.conn.0 c.args.client.0 c.in_ok-place.place c.index-2.result.now
      c.in_ok-place.ensures.found.0 c.index-2.ensures);
}
