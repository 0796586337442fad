use Rattle.period_engine.specs.Added.{AddsWord}
use Rattle.period_engine.proofs.adding.add_word.Given as goal

-- the samples of the channels so far were added
abbrev pub invariant-loop-channel : goal.invariant-loop-channel
invariant-loop-channel l = AddsWord l.gains l.channel l.word l.at l.fn.sums l.sums
