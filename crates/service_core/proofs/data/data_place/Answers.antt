use Rattle.std.proofs.lemmas.Result.{err_from_is_err_and}
use Rattle.service_core.proofs.DataPlaces.{finds_entry, refuses_data, without_entry}
use Rattle.service_core.proofs.data.data_place.Goals as goal

pub returns-in_err-live_client-clause-refused : goal.returns-in_err-live_client-clause-refused
returns-in_err-live_client-clause-refused g c =
    let p = err_from_is_err_and c.from_residual.result c.from_residual.ensures.1 in
    rw (p.1, p.2) (refuses_data c.args.board.now c.args.conn.0 c.args.client.0 c.in_err-live_client.field-0.0
    c.in_err-live_client.ensures.refused)

pub returns-in-Some-clause-found : goal.returns-in-Some-clause-found
returns-in-Some-clause-found g c =
    finds_entry c.args.board.now c.args.conn.0 c.args.client.0 c.in_ok-live_client.ensures.found.says c.in-Some.at
    c.in-Some.ensures

pub returns-in-None-clause-refused : goal.returns-in-None-clause-refused
returns-in-None-clause-refused g c =
    without_entry c.args.board.now c.args.conn.0 c.args.client.0 c.in_ok-live_client.ensures.found.says
    c.in-None.ensures
