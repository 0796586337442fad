use Rattle.std.proofs.lemmas.Result.{err_from_is_err_and}
use Rattle.service_board.proofs.NamedRows.{finds_named, missing_says, shut_says}
use Rattle.service_board.proofs.board.Board.named_endpoint.Goals as goal

pub returns-in_err-runs-clause-refused : goal.returns-in_err-runs-clause-refused
returns-in_err-runs-clause-refused g c =
    let p = err_from_is_err_and c.from_residual.result c.from_residual.ensures.1 in
    rw (p.1, p.2) (shut_says c.args.self.now c.args.e.0 c.in_err-runs.field-0.0 c.in_err-runs.ensures)

pub returns-in-None-clause-refused : goal.returns-in-None-clause-refused
returns-in-None-clause-refused g c =
    missing_says c.args.self.now c.args.e.0 c.in_ok-runs.ensures c.in-None.ensures

pub returns-in-Some-clause-found : goal.returns-in-Some-clause-found
returns-in-Some-clause-found g c =
    finds_named c.args.self.now c.args.e.0 c.in_ok-runs.ensures c.in-Some.at c.in-Some.ensures
