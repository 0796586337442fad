use Rattle.std.proofs.lemmas.Result.{err_from_is_err_and}
use Rattle.ca_machine.specs.SharedRows.{stream_rows}
use Rattle.ca_stage.specs.Moves.{stream_at}
use Rattle.service_board.specs.Lookups.{client_control_rows}
use Rattle.service_board.proofs.LookingUp.{closed_stream, finds_stream, says_front, unknown_stream}
use Rattle.service_board.proofs.board.Board.open_stream.Goals as goal

pub returns-in_err-control_client-clause-refused : goal.returns-in_err-control_client-clause-refused
returns-in_err-control_client-clause-refused g c =
    let p = err_from_is_err_and c.from_residual.result c.from_residual.ensures.1 in
    rw (p.1, p.2) (says_front c.args.self.now (client_control_rows c.args.conn.0 c.args.client.0)
    (λ st. stream_rows (stream_at c.args.client.0 st.stage)) c.in_err-control_client.field-0.0
    c.in_err-control_client.ensures.refused)

pub returns-in_default-clause-refused : goal.returns-in_default-clause-refused
returns-in_default-clause-refused g c =
    unknown_stream c.args.self.now c.args.conn.0 c.args.client.0 c.in_ok-control_client.ensures.found.1
    c.in_default.ensures

pub returns-in-Some-gate_refusal-clause-refused : goal.returns-in-Some-gate_refusal-clause-refused
returns-in-Some-gate_refusal-clause-refused g c =
    closed_stream c.args.self.now c.args.conn.0 c.args.client.0 c.in_ok-control_client.ensures.found.1 c.in-Some.at
    c.index.result.now c.in-Some-gate_refusal.code c.in-Some.ensures c.index.ensures c.in-Some-gate_refusal.ensures

pub returns-in-None-clause-found : goal.returns-in-None-clause-found
returns-in-None-clause-found g c =
    finds_stream c.args.self.now c.args.conn.0 c.args.client.0 c.in_ok-control_client.ensures.found.1 c.in-Some.at
    c.index.result.now c.in-Some.ensures c.index.ensures c.in-None.ensures
