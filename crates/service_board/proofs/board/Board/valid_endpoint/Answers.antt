use Rattle.service_board.proofs.ValidEndpoints.{client_there, disconnected_says, finds_endpoint, inactive_says}
use Rattle.service_board.proofs.ValidEndpoints.{no_client_says}
use Rattle.ca_machine.specs.State.{is_client_of}
use Rattle.service_book.proofs.Finding.{found_at}
use Rattle.service_board.proofs.board.Board.valid_endpoint.Goals as goal

pub returns-in_default-clause-refused : goal.returns-in_default-clause-refused
returns-in_default-clause-refused g c =
    no_client_says c.args.self.now c.args.conn.0 c.args.client.0 c.in_default.ensures

pub returns-then-is_disconnected-clause-refused : goal.returns-then-is_disconnected-clause-refused
returns-then-is_disconnected-clause-refused g c =
    let f = found_at (is_client_of c.args.conn.0 c.args.client.0) c.args.self.now.book.clients.items c.in-Some.place
    c.in-Some.ensures in
    disconnected_says c.args.self.now c.args.conn.0 c.args.client.0 f.member f.found c.if-is_disconnected.ensures

pub returns-in-Some-active_endpoint-clause-found : goal.returns-in-Some-active_endpoint-clause-found
returns-in-Some-active_endpoint-clause-found g c =
    finds_endpoint c.args.self.now c.args.conn.0 c.args.client.0 c.index.result.now
    (client_there c.args.self.now.book c.args.conn.0 c.args.client.0 c.in-Some.place c.index.result.now
    c.in-Some.ensures c.index.ensures)
    c.in-Some-active_endpoint.at c.if-is_disconnected.ensures c.in-Some-active_endpoint.ensures

pub returns-in-None-clause-refused : goal.returns-in-None-clause-refused
returns-in-None-clause-refused g c =
    inactive_says c.args.self.now c.args.conn.0 c.args.client.0 c.index.result.now
    (client_there c.args.self.now.book c.args.conn.0 c.args.client.0 c.in-Some.place c.index.result.now
    c.in-Some.ensures c.index.ensures)
    c.if-is_disconnected.ensures c.in-None.ensures
