use Rattle.std.proofs.Common.{◌≡◌, ◌*◌, take}
use Rattle.period_engine.specs.Added.{AddsWords}
use Rattle.period_engine.proofs.adding.add_block.Given as goal

-- the words so far were added
abbrev pub invariant-loop-place : goal.invariant-loop-place
invariant-loop-place l = record {
  adds : AddsWords l.gains l.channels (take l.place l.words) l.fn.sums l.sums;
  at_is : l.at ≡ l.channels * l.place;
}
