use Rattle.std.proofs.Common.{◌≡◌, ◌+◌, ◌≤◌, length, drop}
use Rattle.session_manager.specs.Sessions.{numbers_on}
use Rattle.reply_payload.proofs.sessions.count_on.Given as goal

abbrev pub invariant-sessions : goal.invariant-sessions
invariant-sessions l = record {
  count : l.count + length (numbers_on l.e.0 (drop l.s-index l.list)) ≡ length (numbers_on l.e.0 l.list);
  few : l.count ≤ l.s-index;
}
