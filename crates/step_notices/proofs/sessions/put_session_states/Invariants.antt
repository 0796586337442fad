use Rattle.std.proofs.Common.{◌≡◌, ◌+◌, ◌-◌, ◌≤◌, ◌++◌, length, drop, vec_capacity}
use Rattle.ca_base.specs.declared.limits.TheConstants.{SESSIONS}
use Rattle.step_notices.specs.Changes.{session_state_notices}
use Rattle.step_notices.proofs.sessions.put_session_states.Given as goal

abbrev pub invariant-sessions : goal.invariant-sessions
invariant-sessions l = record {
  items : l.out.items ++ session_state_notices (record l.before { sessions = drop l.s-index l.sessions }) l.after
      ≡ l.initial.out.items ++ session_state_notices l.before l.after;
  few : length l.out.items + (length l.sessions - l.s-index) ≤ length l.initial.out.items + SESSIONS;
  room : vec_capacity l.out ≡ vec_capacity l.initial.out;
}
