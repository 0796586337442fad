use Rattle.service_board.proofs.LookingUp.{finds_client, unknown_client}
use Rattle.service_board.proofs.board.Board.live_client.Goals as goal

pub returns-in-Some-clause-found : goal.returns-in-Some-clause-found
returns-in-Some-clause-found g c =
    finds_client c.args.self.now c.args.conn.0 c.args.client.0 c.requires.order.book.owned c.in-Some.place
    c.in-Some.ensures

pub returns-in-None-clause-refused : goal.returns-in-None-clause-refused
returns-in-None-clause-refused g c =
    unknown_client c.args.self.now c.args.conn.0 c.args.client.0 c.in-None.ensures
