use Rattle.std.proofs.Common.{arith}
use Rattle.session_manager.proofs.Limits.{list_kept}
use Rattle.session_manager.proofs.book.SessionBook.keep.Goals as goal

pub invariant_of-self : goal.invariant_of-self
invariant_of-self g c = record {
  list = list_kept c.retain.ensures.filtered.0 c.self.inside.sessions.items c.retain.new.self.items
      c.self.inside.made c.self.invariant.list c.retain.ensures.filtered.4;
  room = let room = c.self.invariant.room in omega (arith, c.retain.ensures.capacity);
}
