use Rattle.std.proofs.Common.{◌≡◌, length, nat_le, false, true, sym, arith}
use Rattle.std.proofs.lemmas.Result.{err_from_is_err_and}
use Rattle.std.proofs.lemmas.Bool.Decides.{nat_tests}
use Rattle.ca_base.specs.declared.limits.TheConstants.{ENDPOINTS}
use Rattle.ca_machine.specs.SharedRows.{shut_rows}
use Rattle.service_board.proofs.AddRows.{faulty_says, free_says, full_says, own_add_rows, wrong_says}
use Rattle.service_board.proofs.LookingUp.{runs_by, says_front}
use Rattle.service_board.proofs.board.Board.check_add.Goals as goal

pub returns-in_err-runs-clause-refused : goal.returns-in_err-runs-clause-refused
returns-in_err-runs-clause-refused g c =
    let p = err_from_is_err_and c.from_residual.result c.from_residual.ensures.1 in
    rw (p.1, p.2) (says_front c.args.self.now shut_rows
    (λ st. own_add_rows st c.args.number.0 c.args.flow c.args.format.now c.args.name.now)
    c.in_err-runs.field-0.0 c.in_err-runs.ensures)

pub returns-then-is_wrong_add-clause-refused : goal.returns-then-is_wrong_add-clause-refused
returns-then-is_wrong_add-clause-refused g c =
    let runs = runs_by c.args.self.now c.in_ok-runs.ensures in
    wrong_says c.args.self.now c.args.number.0 c.args.flow c.args.format.now c.args.name.now runs
    c.if-is_wrong_add.ensures

pub returns-in_default-clause-refused : goal.returns-in_default-clause-refused
returns-in_default-clause-refused g c =
    let runs = runs_by c.args.self.now c.in_ok-runs.ensures in
    faulty_says c.args.self.now c.args.number.0 c.args.flow c.args.format.now c.args.name.now runs c.in_default.field-0
    c.in_default.ensures

pub returns-then-endpoints-ge-ENDPOINTS-clause-refused :
    goal.returns-then-endpoints-ge-ENDPOINTS-clause-refused
returns-then-endpoints-ge-ENDPOINTS-clause-refused g c =
    let runs = runs_by c.args.self.now c.in_ok-runs.ensures in
    let full : nat_le ENDPOINTS (length c.args.self.now.book.registry.list) ≡ true = grind (arith, nat_tests) in
    full_says c.args.self.now c.args.number.0 c.args.flow c.args.format.now c.args.name.now runs
    c.if-is_wrong_add.ensures c.in-Ok.format (sym c.in-Ok.ensures) full

pub returns-clause-free : goal.returns-clause-free
returns-clause-free g c =
    let runs = runs_by c.args.self.now c.in_ok-runs.ensures in
    let free : nat_le ENDPOINTS (length c.args.self.now.book.registry.list) ≡ false = grind (arith, nat_tests) in
    free_says c.args.self.now c.args.number.0 c.args.flow c.args.format.now c.args.name.now runs
    c.if-is_wrong_add.ensures c.in-Ok.format (sym c.in-Ok.ensures) free
