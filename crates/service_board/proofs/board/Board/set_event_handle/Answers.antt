use Rattle.std.proofs.Common.{◌==◌, not, None, ap, eq-eqb}
use Rattle.std.proofs.lemmas.Bool.{ne_eqb}
use Rattle.std.proofs.lemmas.Result.{err_from_is_err_and}
use Rattle.ca_base.specs.declared.codes.TheConstants.Hr as hr
use Rattle.ca_machine.specs.SharedRows.{stream_rows}
use Rattle.ca_machine.specs.Streams.{set_event_handle_rows}
use Rattle.ca_stage.specs.Moves.{stream_at}
use Rattle.service_book.proofs.Rows.{row_holds, row_passes}
use Rattle.service_board.specs.Does.{AnyData}
use Rattle.service_board.specs.Lookups.{client_control_rows}
use Rattle.service_board.proofs.ChangedClients.{named_there}
use Rattle.service_board.proofs.EventHandles.{handle_does, handle_order, sets_handle}
use Rattle.service_board.proofs.LookingUp.{says_front}
use Rattle.service_board.proofs.StreamRows.{opened_there, own_refused, stream_refused}
use Rattle.service_board.proofs.board.Board.set_event_handle.Goals as goal

pub returns-in_err-place-clause-does : goal.returns-in_err-place-clause-does
returns-in_err-place-clause-does g c =
    let p = err_from_is_err_and c.from_residual.result c.from_residual.ensures.1 in
    rw (p.1, p.2) (stream_refused g.D.Devices.faults g.D.Devices.told g.E.EngineSide.moves g.met.E.EngineSide.none
    c.args.self.now c.args.conn.0 c.args.client.0 (set_event_handle_rows c.args.handle)
    (sets_handle c.args.conn.0 c.args.client.0 c.args.handle) AnyData c.in_err-place.field-0.0
    (says_front c.args.self.now (client_control_rows c.args.conn.0 c.args.client.0)
    (λ st. stream_rows (stream_at c.args.client.0 st.stage)) c.in_err-place.field-0.0
    c.in_err-place.ensures.refused))

pub returns-in_err-at-clause-does : goal.returns-in_err-at-clause-does
returns-in_err-at-clause-does g c =
    let p = err_from_is_err_and c.from_residual-in_err-at.result c.from_residual-in_err-at.ensures.1 in
    rw (p.1, p.2) (stream_refused g.D.Devices.faults g.D.Devices.told g.E.EngineSide.moves g.met.E.EngineSide.none
    c.args.self.now c.args.conn.0 c.args.client.0 (set_event_handle_rows c.args.handle)
    (sets_handle c.args.conn.0 c.args.client.0 c.args.handle) AnyData c.in_err-at.field-0.0
    c.in_err-at.ensures.refused)

pub returns-then-not-index-clause-does : goal.returns-then-not-index-clause-does
returns-then-not-index-clause-does g c =
    own_refused g.D.Devices.faults g.D.Devices.told g.E.EngineSide.moves g.met.E.EngineSide.none
    c.args.self.now c.args.conn.0 c.args.client.0 (set_event_handle_rows c.args.handle)
    (sets_handle c.args.conn.0 c.args.client.0 c.args.handle) AnyData c.in_ok-at.at c.index.result.now
    (opened_there c.args.conn.0 c.args.client.0 c.args.self.now c.in_ok-at.at c.index.result.now
    c.in_ok-at.ensures.found c.index.ensures)
    hr.EVENTHANDLE_NOT_EXPECTED
    (λ datas knows. row_holds (not c.index.result.now.event) hr.EVENTHANDLE_NOT_EXPECTED _ (ap not c.if-not-index.true))

pub returns-then-handle-eq0-clause-does : goal.returns-then-handle-eq0-clause-does
returns-then-handle-eq0-clause-does g c =
    own_refused g.D.Devices.faults g.D.Devices.told g.E.EngineSide.moves g.met.E.EngineSide.none
    c.args.self.now c.args.conn.0 c.args.client.0 (set_event_handle_rows c.args.handle)
    (sets_handle c.args.conn.0 c.args.client.0 c.args.handle) AnyData c.in_ok-at.at c.index.result.now
    (opened_there c.args.conn.0 c.args.client.0 c.args.self.now c.in_ok-at.at c.index.result.now
    c.in_ok-at.ensures.found c.index.ensures)
    hr.E_INVALIDARG
    (λ datas knows. row_passes (not c.index.result.now.event) hr.EVENTHANDLE_NOT_EXPECTED _
    (ap not c.if-not-index.false) (row_holds (c.args.handle == 0) hr.E_INVALIDARG None (eq-eqb c.args.handle 0 c.if-handle-eq0.true)))

pub returns-clause-does : goal.returns-clause-does
returns-clause-does g c =
    handle_does c.args.self.now c.args.conn.0 c.args.client.0 c.args.handle c.in_ok-place.place c.index_mut.result.now
    (named_there c.args.self.now c.args.conn.0 c.args.client.0 c.in_ok-place.place c.index_mut.result.now
    c.in_ok-place.ensures.found.0 c.index_mut.ensures.value)
    g.D.Devices.faults g.D.Devices.told g.E.EngineSide.moves g.met.E.EngineSide.none c.in_ok-at.at c.index.result.now
    (opened_there c.args.conn.0 c.args.client.0 c.args.self.now c.in_ok-at.at c.index.result.now
    c.in_ok-at.ensures.found c.index.ensures)
    c.if-not-index.false (ne_eqb c.args.handle 0 c.if-handle-eq0.false) c.requires.order.book.clients

pub returns-clause-order : goal.returns-clause-order
returns-clause-order g c =
    handle_order c.args.self.now c.args.conn.0 c.args.client.0 c.args.handle c.in_ok-place.place
    c.index_mut.result.now
    (named_there c.args.self.now c.args.conn.0 c.args.client.0 c.in_ok-place.place c.index_mut.result.now
    c.in_ok-place.ensures.found.0 c.index_mut.ensures.value)
    g.E.EngineSide.state c.requires.order
