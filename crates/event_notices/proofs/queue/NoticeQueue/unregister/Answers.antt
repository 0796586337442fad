use Rattle.std.proofs.Common.{not, sym, subst}
use Rattle.event_notices.specs.Notices.{is_numbered}
use Rattle.event_notices.specs.Queue.{Rise}
use Rattle.event_notices.proofs.Numbers.{rise_filter}
use Rattle.event_notices.proofs.queue.NoticeQueue.unregister.Goals as goal

pub invariant_of-self : goal.invariant_of-self
invariant_of-self c =
    let old = c.self.invariant.notices in
    record {
      notices = record {
        rise = subst (Rise 0 c.self.inside.made) (sym c.remove_numbered.ensures)
            (rise_filter (λ r. not (is_numbered c.args.no r)) 0 c.self.inside.made c.self.inside.registrations.items
            old.rise);
        made = old.made;
        few = old.few;
        lost = old.lost;
      };
      room = c.self.invariant.room;
    }
