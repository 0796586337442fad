-- What holds of notes at any time (this project's own).
use Rattle.std.specs.Prelude.{◌≤◌, length}
use Rattle.ca_base.specs.declared.limits.TheConstants.{CLIENTS, ENDPOINTS, SESSIONS}
use Rattle.step_notices.specs.declared.noted.Noted.TheInside.{Inside}

-- no more is noted than there may be
pub record IsNoted (n : Inside) : Type 0 where
  pub endpoints : length n.endpoints.items ≤ ENDPOINTS
  pub sessions : length n.sessions.items ≤ SESSIONS
  pub streams : length n.streams.items ≤ CLIENTS
