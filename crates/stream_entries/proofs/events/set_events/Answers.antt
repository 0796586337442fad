use Rattle.std.proofs.Common.{sym}
use Rattle.stream_entries.proofs.EventsLeft.{none_changed}
use Rattle.stream_entries.proofs.events.set_events.Goals as goal

pub returns-else-any_signaled : goal.returns-else-any_signaled
returns-else-any_signaled g c =
    none_changed c.args.e.0 c.args.all.now c.args.clients.now (sym c.if-any_signaled.ensures)
