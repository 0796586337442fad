use Rattle.std.proofs.Common.{arith}
use Rattle.service_board.proofs.NewBoards.{new_board}
use Rattle.service_board.proofs.board.Board.new.Goals as goal

pub returns-clause-new : goal.returns-clause-new
returns-clause-new g c =
    new_board g.E.EngineSide.state
    (record {
      devices = c.args.devices;
      book = c.in-Ok.book;
      seats = c.in-Ok-with_capacity.seats;
      entries = c.in-Ok-with_capacity-2.entries;
      drafts = c.in-Ok-with_capacity-3.drafts;
      failed = c.new-2.result;
    })
    c.in-Ok.ensures c.in-Ok-with_capacity.ensures.items c.in-Ok-with_capacity-2.ensures.items
    (omega (arith, c.in-Ok-with_capacity.ensures.exact)) (omega (arith, c.in-Ok-with_capacity-2.ensures.exact))
    (omega (arith, c.in-Ok-with_capacity-3.ensures.exact))
