use Rattle.std.proofs.Common.{◌≡◌, false}
use Rattle.std.proofs.lemmas.Result.{err_from_is_err_and}
use Rattle.ca_machine.specs.SharedRows.{client_rows, control_rows}
use Rattle.service_board.proofs.LookingUp.{connected_runs, control_found, control_refused, says_front}
use Rattle.service_board.proofs.board.Board.control_client.Goals as goal
use Rattle.service_board.proofs.board.Board.control_client.Goals.{then-self+in_ok-connected, else-self}

pub returns-in_err-connected-clause-refused : goal.returns-in_err-connected-clause-refused
returns-in_err-connected-clause-refused g c =
    let p = err_from_is_err_and c.from_residual.result c.from_residual.ensures.1 in
    rw (p.1, p.2) (says_front c.args.self.now (control_rows c.args.conn.0) (client_rows c.args.conn.0 c.args.client.0)
    c.in_err-connected.field-0.0 c.in_err-connected.ensures)

pub returns-clause-refused : goal.returns-clause-refused
returns-clause-refused g c =
    let runs : c.args.self.now.book.is_shut ≡ false =
    elim c.if-self.branch [
      | then-self+in_ok-connected w ↦
          connected_runs c.args.self.now c.args.conn.0 c.args.client.0 w.in_ok-connected.ensures
      | else-self w ↦ w.if-self.false
    ] in
    control_refused c.args.self.now c.args.conn.0 c.args.client.0 runs c.live_client.result
    c.live_client.ensures.refused

pub returns-clause-found : goal.returns-clause-found
returns-clause-found g c =
    let runs : c.args.self.now.book.is_shut ≡ false =
    elim c.if-self.branch [
      | then-self+in_ok-connected w ↦
          connected_runs c.args.self.now c.args.conn.0 c.args.client.0 w.in_ok-connected.ensures
      | else-self w ↦ w.if-self.false
    ] in
    control_found c.args.self.now c.args.conn.0 c.args.client.0 runs c.live_client.result c.live_client.ensures.found
