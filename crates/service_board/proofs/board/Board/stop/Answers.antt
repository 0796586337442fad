use Rattle.std.proofs.Common.{[], ◌∷◌, false, not, Some, None, refl, ap, ◌∙◌, if◌then◌else◌}
use Rattle.std.proofs.lemmas.Result.{err_from_is_err_and}
use Rattle.ca_base.specs.declared.codes.TheConstants.Hr as hr
use Rattle.ca_stage.specs.Moves.{of_client, stopped}
use Rattle.ca_machine.specs.Plan.{granted}
use Rattle.ca_machine.specs.Streams.{stop_rows}
use Rattle.service_board.specs.Does.{AnyData}
use Rattle.service_board.proofs.RunningStreams.{runs_does, runs_order}
use Rattle.service_board.proofs.StreamMoves.{same_read}
use Rattle.service_board.proofs.StreamRows.{opened_there, own_refused, stream_refused}
use Rattle.service_board.proofs.board.Board.stop.Goals as goal

pub returns-in_err-at-clause-does : goal.returns-in_err-at-clause-does
returns-in_err-at-clause-does g c =
    let p = err_from_is_err_and c.from_residual.result c.from_residual.ensures.1 in
    rw (p.1, p.2) (stream_refused g.D.Devices.faults g.D.Devices.told g.E.EngineSide.moves g.met.E.EngineSide.none
    c.args.self.now c.args.conn.0 c.args.client.0 stop_rows
    (λ st s. granted [] (of_client c.args.client.0 stopped ∷ []) st) AnyData
    c.in_err-at.field-0.0 c.in_err-at.ensures.refused)

pub returns-then-not-index-clause-does : goal.returns-then-not-index-clause-does
returns-then-not-index-clause-does g c =
    own_refused g.D.Devices.faults g.D.Devices.told g.E.EngineSide.moves g.met.E.EngineSide.none
    c.args.self.now c.args.conn.0 c.args.client.0 stop_rows
    (λ st s. granted [] (of_client c.args.client.0 stopped ∷ []) st) AnyData c.in_ok-at.at c.index.result.now
    (opened_there c.args.conn.0 c.args.client.0 c.args.self.now c.in_ok-at.at c.index.result.now
    c.in_ok-at.ensures.found c.index.ensures)
    hr.S_FALSE (λ datas knows. ap (λ b. if not b then Some hr.S_FALSE else None) c.if-not-index.true)

pub returns-clause-does : goal.returns-clause-does
returns-clause-does g c =
    let read = opened_there c.args.conn.0 c.args.client.0 c.args.self.now c.in_ok-at.at c.index.result.now
    c.in_ok-at.ensures.found c.index.ensures in
    let there = opened_there c.args.conn.0 c.args.client.0 c.args.self.now c.in_ok-at.at c.index_mut.result.now
    c.in_ok-at.ensures.found c.index_mut.ensures.value in
    let same = same_read c.args.conn.0 c.args.client.0 c.args.self.now c.in_ok-at.at c.index_mut.result.now
    c.index.result.now there read in
    runs_does false c.args.self.now c.args.conn.0 c.args.client.0 c.in_ok-at.at c.index_mut.result.now there
    g.E.EngineSide.state c.requires.order g.D.Devices.faults g.D.Devices.told g.E.EngineSide.moves
    g.met.E.EngineSide.none stop_rows stopped
    (λ d. ap (λ e. if not e.running then Some hr.S_FALSE else None) same
    ∙ ap (λ b. if not b then Some hr.S_FALSE else None) c.if-not-index.false)
    (λ d. refl)

pub returns-clause-order : goal.returns-clause-order
returns-clause-order g c =
    runs_order false c.args.self.now c.args.conn.0 c.args.client.0 c.in_ok-at.at c.index_mut.result.now
    (opened_there c.args.conn.0 c.args.client.0 c.args.self.now c.in_ok-at.at c.index_mut.result.now
    c.in_ok-at.ensures.found c.index_mut.ensures.value)
    g.E.EngineSide.state c.requires.order
