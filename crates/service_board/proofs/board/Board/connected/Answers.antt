use Rattle.std.proofs.lemmas.Result.{err_from_is_err_and}
use Rattle.std.specs.Result.{result_err}
use Rattle.ca_machine.specs.SharedRows.{connection_rows, shut_rows}
use Rattle.service_board.proofs.LookingUp.{says_front, says_later}
use Rattle.service_board.proofs.board.Board.connected.Goals as goal

pub returns-in_err-known : goal.returns-in_err-known
returns-in_err-known g c =
    let p = err_from_is_err_and c.from_residual.result c.from_residual.ensures.1 in
    rw (p.1, p.2) (says_front c.args.self.now (connection_rows c.args.conn.0) shut_rows c.in_err-known.field-0.0
    c.in_err-known.ensures)

pub returns : goal.returns
returns g c =
    says_later c.args.self.now (connection_rows c.args.conn.0) shut_rows (result_err c.runs.result)
    c.in_ok-known.ensures c.runs.ensures
