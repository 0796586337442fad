use Rattle.std.proofs.Common.{◌&&◌, ◌==◌, true, refl, sym, ap, ◌∙◌}
use Rattle.std.proofs.lemmas.Result.{err_from_is_err_and}
use Rattle.ca_base.specs.declared.codes.TheConstants.Hr as hr
use Rattle.ca_machine.specs.SharedRows.{stream_rows}
use Rattle.ca_stage.specs.Moves.{started, stream_at}
use Rattle.service_board.specs.Does.{AnyData}
use Rattle.service_board.specs.Lookups.{client_control_rows}
use Rattle.service_board.proofs.ChangedClients.{named_there}
use Rattle.service_board.proofs.LookingUp.{says_front}
use Rattle.service_board.proofs.RunningStreams.{runs_does, runs_order}
use Rattle.service_board.proofs.StartedStreams.{by_start, row_lacks, row_runs, rows_here, rows_pass, starts}
use Rattle.service_board.proofs.StreamMoves.{same_read}
use Rattle.service_board.proofs.StreamRows.{opened_there, own_refused, stream_refused}
use Rattle.service_board.proofs.board.Board.start.Goals as goal

pub returns-in_err-place-clause-does : goal.returns-in_err-place-clause-does
returns-in_err-place-clause-does g c =
    let p = err_from_is_err_and c.from_residual.result c.from_residual.ensures.1 in
    rw (p.1, p.2) (by_start c.args.self.now c.args.conn.0 c.args.client.0 g.D.Devices.faults g.D.Devices.told
    g.E.EngineSide.moves c.args.self.now c.in_err-place.field-0.0
    (stream_refused g.D.Devices.faults g.D.Devices.told g.E.EngineSide.moves g.met.E.EngineSide.none
    c.args.self.now c.args.conn.0 c.args.client.0 (rows_here c.args.self.now c.args.conn.0 c.args.client.0)
    (starts c.args.self.now c.args.conn.0 c.args.client.0) AnyData c.in_err-place.field-0.0
    (says_front c.args.self.now (client_control_rows c.args.conn.0 c.args.client.0)
    (λ st. stream_rows (stream_at c.args.client.0 st.stage)) c.in_err-place.field-0.0
    c.in_err-place.ensures.refused)))

pub returns-in_err-at-clause-does : goal.returns-in_err-at-clause-does
returns-in_err-at-clause-does g c =
    let p = err_from_is_err_and c.from_residual-in_err-at.result c.from_residual-in_err-at.ensures.1 in
    rw (p.1, p.2) (by_start c.args.self.now c.args.conn.0 c.args.client.0 g.D.Devices.faults g.D.Devices.told
    g.E.EngineSide.moves c.args.self.now c.in_err-at.field-0.0
    (stream_refused g.D.Devices.faults g.D.Devices.told g.E.EngineSide.moves g.met.E.EngineSide.none
    c.args.self.now c.args.conn.0 c.args.client.0 (rows_here c.args.self.now c.args.conn.0 c.args.client.0)
    (starts c.args.self.now c.args.conn.0 c.args.client.0) AnyData c.in_err-at.field-0.0
    c.in_err-at.ensures.refused))

pub returns-then-index-clause-does : goal.returns-then-index-clause-does
returns-then-index-clause-does g c =
    by_start c.args.self.now c.args.conn.0 c.args.client.0 g.D.Devices.faults g.D.Devices.told g.E.EngineSide.moves
    c.args.self.now hr.NOT_STOPPED
    (own_refused g.D.Devices.faults g.D.Devices.told g.E.EngineSide.moves g.met.E.EngineSide.none
    c.args.self.now c.args.conn.0 c.args.client.0 (rows_here c.args.self.now c.args.conn.0 c.args.client.0)
    (starts c.args.self.now c.args.conn.0 c.args.client.0) AnyData c.in_ok-at.at c.index.result.now
    (opened_there c.args.conn.0 c.args.client.0 c.args.self.now c.in_ok-at.at c.index.result.now
    c.in_ok-at.ensures.found c.index.ensures)
    hr.NOT_STOPPED
    (λ datas knows. row_runs c.args.self.now c.args.conn.0 c.args.client.0 c.index.result.now (datas c.index.result.now.client.0)
    c.if-index.true))

pub returns-then-lacks_handle-clause-does : goal.returns-then-lacks_handle-clause-does
returns-then-lacks_handle-clause-does g c =
    let read = opened_there c.args.conn.0 c.args.client.0 c.args.self.now c.in_ok-at.at c.index.result.now
    c.in_ok-at.ensures.found c.index.ensures in
    let there = opened_there c.args.conn.0 c.args.client.0 c.args.self.now c.in_ok-at.at c.index-2.result.now
    c.in_ok-at.ensures.found c.index-2.ensures in
    let same = same_read c.args.conn.0 c.args.client.0 c.args.self.now c.in_ok-at.at c.index-2.result.now
    c.index.result.now there read in
    by_start c.args.self.now c.args.conn.0 c.args.client.0 g.D.Devices.faults g.D.Devices.told g.E.EngineSide.moves
    c.args.self.now hr.EVENTHANDLE_NOT_SET
    (own_refused g.D.Devices.faults g.D.Devices.told g.E.EngineSide.moves g.met.E.EngineSide.none
    c.args.self.now c.args.conn.0 c.args.client.0 (rows_here c.args.self.now c.args.conn.0 c.args.client.0)
    (starts c.args.self.now c.args.conn.0 c.args.client.0) AnyData c.in_ok-at.at c.index-2.result.now there
    hr.EVENTHANDLE_NOT_SET
    (λ datas knows. row_lacks c.args.self.now c.args.conn.0 c.args.client.0 c.index-2.result.now c.in_ok-place.place
    c.index-3.result.now
    (named_there c.args.self.now c.args.conn.0 c.args.client.0 c.in_ok-place.place c.index-3.result.now
    c.in_ok-place.ensures.found.0 c.index-3.ensures)
    (datas c.index-2.result.now.client.0) (ap (λ e. e.running) same ∙ c.if-index.false) (sym c.if-lacks_handle.ensures)))

pub returns-clause-does : goal.returns-clause-does
returns-clause-does g c =
    let self = c.args.self.now in
    let read = opened_there c.args.conn.0 c.args.client.0 self c.in_ok-at.at c.index.result.now
    c.in_ok-at.ensures.found c.index.ensures in
    let asked = opened_there c.args.conn.0 c.args.client.0 self c.in_ok-at.at c.index-2.result.now
    c.in_ok-at.ensures.found c.index-2.ensures in
    let there = opened_there c.args.conn.0 c.args.client.0 self c.in_ok-at.at c.index_mut.result.now
    c.in_ok-at.ensures.found c.index_mut.ensures.value in
    let same = same_read c.args.conn.0 c.args.client.0 self c.in_ok-at.at c.index_mut.result.now
    c.index.result.now there read in
    let same' = same_read c.args.conn.0 c.args.client.0 self c.in_ok-at.at c.index_mut.result.now
    c.index-2.result.now there asked in
    by_start self c.args.conn.0 c.args.client.0 g.D.Devices.faults g.D.Devices.told g.E.EngineSide.moves _ hr.S_OK
    (runs_does true self c.args.conn.0 c.args.client.0 c.in_ok-at.at c.index_mut.result.now there
    g.E.EngineSide.state c.requires.order g.D.Devices.faults g.D.Devices.told g.E.EngineSide.moves
    g.met.E.EngineSide.none (rows_here self c.args.conn.0 c.args.client.0) started
    (λ d. rows_pass self c.args.conn.0 c.args.client.0 c.index_mut.result.now c.in_ok-place.place c.index-3.result.now
    (named_there self c.args.conn.0 c.args.client.0 c.in_ok-place.place c.index-3.result.now
    c.in_ok-place.ensures.found.0 c.index-3.ensures)
    d (ap (λ e. e.running) same ∙ c.if-index.false)
    (ap (λ e. e.event && c.index-3.result.now.handle == 0) same' ∙ sym c.if-lacks_handle.ensures))
    (λ d. refl))

pub returns-clause-order : goal.returns-clause-order
returns-clause-order g c =
    runs_order true c.args.self.now c.args.conn.0 c.args.client.0 c.in_ok-at.at c.index_mut.result.now
    (opened_there c.args.conn.0 c.args.client.0 c.args.self.now c.in_ok-at.at c.index_mut.result.now
    c.in_ok-at.ensures.found c.index_mut.ensures.value)
    g.E.EngineSide.state c.requires.order
