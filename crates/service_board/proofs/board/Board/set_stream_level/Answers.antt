use Rattle.std.proofs.lemmas.Result.{err_from_is_err_and}
use Rattle.ca_machine.specs.SharedRows.{stream_rows}
use Rattle.ca_machine.specs.Streams.{set_stream_level_rows}
use Rattle.ca_stage.specs.Moves.{stream_at}
use Rattle.service_board.specs.Does.{AnyData}
use Rattle.service_board.specs.Lookups.{client_control_rows}
use Rattle.service_board.proofs.LookingUp.{says_front}
use Rattle.service_board.proofs.ChangedClients.{named_there}
use Rattle.service_board.proofs.SettingLevels.{leveled_order}
use Rattle.service_board.proofs.StreamLevels.{right_level, set_does, set_refused, sets_level, wrong_level}
use Rattle.service_board.proofs.StreamRows.{opened_there, stream_refused}
use Rattle.service_board.proofs.board.Board.set_stream_level.Goals as goal

pub returns-in_err-place-clause-does : goal.returns-in_err-place-clause-does
returns-in_err-place-clause-does g c =
    let p = err_from_is_err_and c.from_residual.result c.from_residual.ensures.1 in
    rw (p.1, p.2) (stream_refused g.D.Devices.faults g.D.Devices.told g.E.EngineSide.moves g.met.E.EngineSide.none
    c.args.self.now c.args.conn.0 c.args.client.0 (set_stream_level_rows c.args.channel c.args.level)
    (sets_level c.args.conn.0 c.args.client.0 c.args.channel c.args.level) AnyData c.in_err-place.field-0.0
    (says_front c.args.self.now (client_control_rows c.args.conn.0 c.args.client.0)
    (λ st. stream_rows (stream_at c.args.client.0 st.stage)) c.in_err-place.field-0.0
    c.in_err-place.ensures.refused))

pub returns-in_err-at-clause-does : goal.returns-in_err-at-clause-does
returns-in_err-at-clause-does g c =
    let p = err_from_is_err_and c.from_residual-in_err-at.result c.from_residual-in_err-at.ensures.1 in
    rw (p.1, p.2) (stream_refused g.D.Devices.faults g.D.Devices.told g.E.EngineSide.moves g.met.E.EngineSide.none
    c.args.self.now c.args.conn.0 c.args.client.0 (set_stream_level_rows c.args.channel c.args.level)
    (sets_level c.args.conn.0 c.args.client.0 c.args.channel c.args.level) AnyData c.in_err-at.field-0.0
    c.in_err-at.ensures.refused)

pub returns-then-channel-index-clause-does : goal.returns-then-channel-index-clause-does
returns-then-channel-index-clause-does g c =
    set_refused g.D.Devices.faults g.D.Devices.told g.E.EngineSide.moves g.met.E.EngineSide.none
    c.args.self.now c.args.conn.0 c.args.client.0 c.args.channel c.in_ok-at.at c.index.result.now
    (opened_there c.args.conn.0 c.args.client.0 c.args.self.now c.in_ok-at.at c.index.result.now
    c.in_ok-at.ensures.found c.index.ensures)
    c.args.level
    (wrong_level c.index.result.now.channels c.args.channel c.args.level c.then-channel-index.either)

pub returns-clause-does : goal.returns-clause-does
returns-clause-does g c =
    set_does g.D.Devices.faults g.D.Devices.told g.E.EngineSide.moves g.met.E.EngineSide.none
    c.args.self.now c.args.conn.0 c.args.client.0 c.args.channel c.in_ok-at.at c.index.result.now
    (opened_there c.args.conn.0 c.args.client.0 c.args.self.now c.in_ok-at.at c.index.result.now
    c.in_ok-at.ensures.found c.index.ensures)
    c.args.level
    (right_level c.index.result.now.channels c.args.channel c.args.level c.if-channel-index.false
    c.if-level-gt-MAX_LEVEL.false)
    c.in_ok-place.place c.index_mut.result.now
    (named_there c.args.self.now c.args.conn.0 c.args.client.0 c.in_ok-place.place c.index_mut.result.now
    c.in_ok-place.ensures.found.0 c.index_mut.ensures.value)
    c.requires.order.book.clients

pub returns-clause-order : goal.returns-clause-order
returns-clause-order g c =
    leveled_order g.E.EngineSide.state c.args.self.now c.args.conn.0 c.args.client.0 c.args.channel c.args.level
    c.in_ok-place.place c.index_mut.result.now
    (named_there c.args.self.now c.args.conn.0 c.args.client.0 c.in_ok-place.place c.index_mut.result.now
    c.in_ok-place.ensures.found.0 c.index_mut.ensures.value)
    c.if-level-gt-MAX_LEVEL.false c.requires.order
