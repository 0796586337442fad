use Rattle.std.proofs.Common.{◌≡◌}
use Rattle.stream_entries.specs.Events.{with_event}
use Rattle.period_engine.proofs.Passes.{Passed, Alone}
use Rattle.stream_entries.proofs.events.signal_each.Given as goal

-- each client so far
abbrev pub invariant-loop-client : goal.invariant-loop-client
invariant-loop-client g l =
    Passed (Alone (λ a b. b ≡ with_event l.e.0 l.all a)) l.initial.clients l.clients l.client-index 0 0
