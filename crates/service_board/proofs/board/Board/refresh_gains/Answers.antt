use Rattle.std.proofs.Common.{refl}
use Rattle.service_board.proofs.FreshGains.{fresh_order, have_clients, regained_same, regained_there}
use Rattle.service_board.proofs.SameStreams.{same_entries}
use Rattle.service_board.proofs.board.Board.refresh_gains.Goals as goal

pub returns-then-not-self-clause-same : goal.returns-then-not-self-clause-same
returns-then-not-self-clause-same g c =
    record { same = refl; entries = same_entries c.args.self.now.entries.items; room = refl }

pub regain-requires-clause-clients : goal.regain-requires-clause-clients
regain-requires-clause-clients g c =
    rw c.deref_mut.ensures.value (have_clients c.args.self.now.book c.args.self.now.seats.items
    c.args.self.now.entries.items c.requires.order.belong)

pub returns-clause-order : goal.returns-clause-order
returns-clause-order g c =
    fresh_order g.E.EngineSide.state c.args.self.now _ c.requires.order refl refl refl refl
    (regained_there c.args.self.now c.deref_mut.result.now c.regain.new.entries c.deref_mut.ensures.value
    c.regain.auto.entries c.regain.ensures)

pub returns-clause-same : goal.returns-clause-same
returns-clause-same g c = record {
  same = refl;
  entries =
      regained_same c.args.self.now.book c.args.self.now.entries.items _
      (regained_there c.args.self.now c.deref_mut.result.now c.regain.new.entries c.deref_mut.ensures.value
      c.regain.auto.entries c.regain.ensures);
  room = refl;
}
