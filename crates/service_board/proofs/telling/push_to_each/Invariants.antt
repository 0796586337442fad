use Rattle.std.proofs.Common.{◌≡◌}
use Rattle.event_notices.specs.Notices.{pushed_all}
use Rattle.period_engine.proofs.Passes.{Passed, Alone}
use Rattle.service_board.proofs.telling.push_to_each.Given as goal

-- to the queues so far they were pushed
abbrev pub invariant-loop-q : goal.invariant-loop-q
invariant-loop-q l =
    Passed (Alone (λ a b. b ≡ pushed_all l.ns a)) l.initial.queues l.queues l.q-index 0 0
