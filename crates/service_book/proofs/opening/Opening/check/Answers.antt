use Rattle.std.proofs.Common.{Some, ◌++◌, ◌∙◌}
use Rattle.std.proofs.lemmas.Result.{err_from_is_err_and}
use Rattle.ca_machine.specs.Openings.{format_rows, size_rows, use_rows}
use Rattle.service_book.specs.Openings.{arguments}
use Rattle.service_book.proofs.Finding.{first_front, first_later}
use Rattle.service_book.proofs.opening.Opening.check.Goals as goal

pub returns-in_err-format-clause-says : goal.returns-in_err-format-clause-says
returns-in_err-format-clause-says c =
    let p = err_from_is_err_and c.from_residual-in_err-format.result c.from_residual-in_err-format.ensures.1 in
    let e = Some c.args.endpoint.now in
    let x = arguments c.args.self.now in
    rw (p.1, p.2) (first_later (use_rows e x) (format_rows e x ++ size_rows x) c.in_ok-check_use.ensures
    ∙ first_front (format_rows e x) (size_rows x) c.in_err-format.field-0.0 c.in_err-format.ensures.says)

pub returns-in_err-check_sizes-clause-says : goal.returns-in_err-check_sizes-clause-says
returns-in_err-check_sizes-clause-says c =
    let p = err_from_is_err_and c.from_residual-in_err-check_sizes.result c.from_residual-in_err-check_sizes.ensures.1
    in
    let e = Some c.args.endpoint.now in
    let x = arguments c.args.self.now in
    rw (p.1, p.2) (first_later (use_rows e x) (format_rows e x ++ size_rows x) c.in_ok-check_use.ensures
    ∙ first_later (format_rows e x) (size_rows x) c.in_ok-format.ensures.says ∙ c.in_err-check_sizes.ensures.says)
