-- What is noted of the state of the service at one moment (this project's own).
use Rattle.std.specs.Prelude.{ℕ, List, [], ◌∷◌}
use Rattle.step_notices.specs.declared.records.NotedEndpoint.{NotedEndpoint}
use Rattle.step_notices.specs.declared.records.NotedSession.{NotedSession}
use Rattle.step_notices.specs.declared.records.NotedStream.{NotedStream}

-- the endpoints, the number of each default's endpoint (by flow * 3 + role, 0 for none), the sessions and the streams
pub record Notes : Type 0 where
  pub endpoints : List NotedEndpoint
  pub defaults : List ℕ
  pub sessions : List NotedSession
  pub streams : List NotedStream

-- nothing, and no default of the six
abbrev pub no_notes : Notes
no_notes = record {
  endpoints = [];
  defaults = 0 ∷ 0 ∷ 0 ∷ 0 ∷ 0 ∷ 0 ∷ [];
  sessions = [];
  streams = [];
}
