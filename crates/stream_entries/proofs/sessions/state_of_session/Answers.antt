use Rattle.std.proofs.Common.{true, false, refl, sym}
use Rattle.stream_entries.proofs.SessionStates.{state_by}
use Rattle.stream_entries.proofs.sessions.state_of_session.Goals as goal

pub returns-then-is_running : goal.returns-then-is_running
returns-then-is_running g c =
    state_by c.args.session.0 c.args.entries.now true _ (sym c.if-is_running.ensures) refl

pub returns-then-is_in_use : goal.returns-then-is_in_use
returns-then-is_in_use g c =
    state_by c.args.session.0 c.args.entries.now false true (sym c.if-is_running.ensures) (sym c.if-is_in_use.ensures)

pub returns-else-is_in_use : goal.returns-else-is_in_use
returns-else-is_in_use g c =
    state_by c.args.session.0 c.args.entries.now false false (sym c.if-is_running.ensures) (sym c.if-is_in_use.ensures)
