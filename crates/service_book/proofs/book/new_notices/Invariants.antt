use Rattle.std.proofs.Common.{ℕ, ◌≡◌, ◌≤◌, ◌-◌, length, replicate}
use Rattle.std.specs.Vec.{vec_capacity}
use Rattle.ca_base.specs.declared.limits.TheConstants.{CONNECTIONS}
use Rattle.event_notices.specs.Notices.{no_notices}
use Rattle.service_book.proofs.book.new_notices.Given as goal

-- all so far are empty, and there is room for the rest
abbrev pub invariant-all : goal.invariant-all
invariant-all l = record {
  count : ℕ;
  items : l.all.items ≡ replicate count no_notices;
  few : count ≤ CONNECTIONS;
  room : CONNECTIONS ≤ vec_capacity l.all;
}

abbrev pub decreases-all : goal.decreases-all
decreases-all l = CONNECTIONS - length l.all.items
