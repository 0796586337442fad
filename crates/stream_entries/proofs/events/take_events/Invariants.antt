use Rattle.std.proofs.Common.{◌≡◌}
use Rattle.ca_machine.specs.Registrations.{unflagged}
use Rattle.period_engine.proofs.Passes.{Passed, Alone}
use Rattle.stream_entries.proofs.events.take_events.Given as goal

-- each client so far
abbrev pub invariant-loop-client : goal.invariant-loop-client
invariant-loop-client l =
    Passed (Alone (λ a b. b ≡ unflagged l.conn.0 a)) l.initial.clients l.clients l.client-index 0 0
