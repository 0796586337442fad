use Rattle.std.proofs.Common.{◌≡◌, drop}
use Rattle.step_notices.specs.Changes.{first_reason}
use Rattle.step_notices.proofs.disconnects.first_reason.Given as goal

abbrev pub invariant-streams : goal.invariant-streams
invariant-streams l =
    first_reason l.before (drop l.s-index l.after) l.session.0 ≡ first_reason l.before l.after l.session.0
