use Rattle.std.proofs.Common.{◌≡◌, ◌+◌, ◌++◌, ◌∷◌, [], arith, refl, sym, subst}
use Rattle.event_notices.specs.declared.notice.Registration.{Registration}
use Rattle.event_notices.specs.Queue.{Rise}
use Rattle.event_notices.proofs.Numbers.{rise_push}
use Rattle.event_notices.proofs.queue.NoticeQueue.register.Goals as goal

pub invariant_of-self : goal.invariant_of-self
invariant_of-self c =
    let old = c.self.invariant.notices in
    let made = c.self.inside.made in
    let all = c.self.inside.registrations.items in
    let new : Registration = record { no = made + 1; class = c.args.class; subject = c.args.subject } in
    let all_new : c.push.new.self.items ≡ all ++ new ∷ [] = c.in-Ok.ensures.items in
    record {
      notices = record {
        rise = subst (Rise 0 (made + 1)) (sym all_new) (rise_push 0 made all new refl old.rise);
        made = omega arith;
        few = old.few;
        lost = old.lost;
      };
      room = c.self.invariant.room;
    }
