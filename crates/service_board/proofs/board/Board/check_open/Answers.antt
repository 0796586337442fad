use Rattle.std.proofs.Common.{None, Some, refl, sym}
use Rattle.std.proofs.lemmas.Result.{err_from_is_err_and}
use Rattle.ca_base.specs.declared.codes.TheConstants.Hr as hr
use Rattle.ca_machine.specs.SharedRows.{shut_rows}
use Rattle.service_book.proofs.Rows.{row_holds, row_passes}
use Rattle.service_board.proofs.Connecting.{own_open_rows}
use Rattle.service_board.proofs.LookingUp.{says_front, says_later}
use Rattle.service_board.proofs.board.Board.check_open.Goals as goal

pub returns-in_err-runs : goal.returns-in_err-runs
returns-in_err-runs g c =
    let p = err_from_is_err_and c.from_residual.result c.from_residual.ensures.1 in
    rw (p.1, p.2) (says_front c.args.self.now shut_rows
    (own_open_rows c.args.conn.0 c.args.process c.args.name.now) c.in_err-runs.field-0.0 c.in_err-runs.ensures)

pub returns-then-is_wrong_open : goal.returns-then-is_wrong_open
returns-then-is_wrong_open g c =
    says_later c.args.self.now shut_rows (own_open_rows c.args.conn.0 c.args.process c.args.name.now)
    (Some hr.E_INVALIDARG) c.in_ok-runs.ensures
    (λ datas tally. row_holds _ hr.E_INVALIDARG _ (sym c.if-is_wrong_open.ensures))

pub returns : goal.returns
returns g c =
    says_later c.args.self.now shut_rows (own_open_rows c.args.conn.0 c.args.process c.args.name.now) None
    c.in_ok-runs.ensures
    (λ datas tally. row_passes _ hr.E_INVALIDARG _ (sym c.if-is_wrong_open.ensures) refl)
