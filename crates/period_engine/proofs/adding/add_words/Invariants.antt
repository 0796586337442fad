use Rattle.std.proofs.Common.{◌≤◌, ◌-◌}
use Rattle.period_engine.specs.Added.{AddsStore}
use Rattle.period_engine.proofs.adding.add_words.Given as goal

-- the words so far were read and added
abbrev pub invariant-loop-place : goal.invariant-loop-place
invariant-loop-place g l = record {
  adds : AddsStore g.E.EngineSide.moves g.E.EngineSide.state l.gains l.channels l.place l.fn.store l.store l.fn.sums
      l.sums;
  within : l.place ≤ l.count;
}

abbrev pub decreases-loop-place : goal.decreases-loop-place
decreases-loop-place g l = l.count - l.place
