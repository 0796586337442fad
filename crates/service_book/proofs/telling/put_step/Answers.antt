use Rattle.step_notices.specs.Changes.{device_notices, session_notices}
use Rattle.ca_machine.specs.Notices.{property_notices}
use Rattle.service_book.proofs.AddedNotices.{three_added}
use Rattle.service_book.proofs.telling.put_step.Goals as goal

pub returns-clause-items : goal.returns-clause-items
returns-clause-items c =
    let before = c.args.before.now in
    let after = c.args.after.now in
    three_added (device_notices before after) (property_notices c.args.ev.now) (session_notices before after)
    c.clear.new.self.items c.put_device_notices.new.out.items c.put_property.new.out.items
    c.put_session_notices.new.out.items c.clear.ensures.items c.put_device_notices.ensures.items
    c.put_property.ensures.items c.put_session_notices.ensures.items
