use Rattle.std.proofs.Common.{None, Some}
use Rattle.std.proofs.lemmas.Result.{err_from_is_err_and}
use Rattle.ca_machine.specs.SharedRows.{connection_rows, shut_rows}
use Rattle.service_board.proofs.LookingUp.{says_front, says_later}
use Rattle.service_board.proofs.board.Board.control_notices.Goals as goal

pub returns-in_err-at-clause-refused : goal.returns-in_err-at-clause-refused
returns-in_err-at-clause-refused g c =
    let p = err_from_is_err_and c.from_residual.result c.from_residual.ensures.1 in
    rw (p.1, p.2) (says_front c.args.self.now (connection_rows c.args.conn.0) shut_rows c.in_err-at.field-0.0
    c.in_err-at.ensures.refused)

pub returns-in_err-runs-clause-refused : goal.returns-in_err-runs-clause-refused
returns-in_err-runs-clause-refused g c =
    let p = err_from_is_err_and c.from_residual-in_err-runs.result c.from_residual-in_err-runs.ensures.1 in
    rw (p.1, p.2) (says_later c.args.self.now (connection_rows c.args.conn.0) shut_rows
    (Some c.in_err-runs.field-0.0) c.in_ok-at.ensures.found.says c.in_err-runs.ensures)

pub returns-clause-found : goal.returns-clause-found
returns-clause-found g c =
    let found = c.in_ok-at.ensures.found in
    record {
      place = found.place;
      within = found.within;
      says = says_later c.args.self.now (connection_rows c.args.conn.0) shut_rows None found.says
          c.in_ok-runs.ensures;
    }
