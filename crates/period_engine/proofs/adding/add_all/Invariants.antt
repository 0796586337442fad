use Rattle.std.proofs.Common.{ℕ, ◌*◌, ◌≤◌, pos, length, replicate, unsigned_abs}
use Rattle.volume_stack.specs.Sums.{sample_limit}
use Rattle.period_engine.specs.Added.{AddsEntry, sum_at}
use Rattle.period_engine.proofs.Passes.{Passed}
use Rattle.period_engine.proofs.adding.add_all.Given as goal

-- what was picked of the entries so far was added, to sums that were 0
abbrev pub invariant-loop-entry : goal.invariant-loop-entry
invariant-loop-entry g l = record {
  adds : Passed (AddsEntry g.E.EngineSide.moves g.E.EngineSide.state l.channels) l.fn.all l.all l.entry-index
      (replicate (length l.fn.sums) (pos 0)) l.sums;
  near : (k : ℕ) → unsigned_abs (sum_at l.sums k) ≤ l.entry-index * sample_limit;
}
