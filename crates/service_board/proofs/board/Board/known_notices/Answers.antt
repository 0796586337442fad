use Rattle.std.proofs.lemmas.Result.{err_from_is_err_and}
use Rattle.service_board.proofs.Connecting.{known_within}
use Rattle.service_board.proofs.KeptNotices.{finds_notices}
use Rattle.service_board.proofs.board.Board.known_notices.Goals as goal

pub returns-in_err-known-clause-refused : goal.returns-in_err-known-clause-refused
returns-in_err-known-clause-refused g c =
    let p = err_from_is_err_and c.from_residual.result c.from_residual.ensures.1 in
    rw (p.1, p.2) c.in_err-known.ensures

pub overflow_sub-result : goal.overflow_sub-result
overflow_sub-result g c =
    (known_within c.args.self.now c.args.conn.0 c.requires.order.book c.in_ok-known.ensures).0

pub returns-clause-found : goal.returns-clause-found
returns-clause-found g c =
    finds_notices c.args.self.now c.args.conn.0 c.requires.order.book c.in_ok-known.ensures
