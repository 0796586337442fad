use Rattle.std.proofs.Common.{◌≡◌, length, drop}
use Rattle.period_engine.specs.Feeds.{is_fed}
use Rattle.period_engine.proofs.FedEntries.{Feeds}
use Rattle.period_engine.proofs.Passes.{Passed, Alone}
use Rattle.period_engine.proofs.feeding.feed_all.Given as goal

-- the entries so far were offered the packet, whose head alone may have changed
abbrev pub invariant-loop-entry : goal.invariant-loop-entry
invariant-loop-entry g l = record {
  passed : Passed
      (Alone (Feeds g.E.EngineSide.moves g.E.EngineSide.state (is_fed l.kind l.e.0) (drop 1 l.initial.words)))
      l.initial.all l.all l.entry-index 0 0;
  rest : drop 1 l.words ≡ drop 1 l.initial.words;
  size : length l.words ≡ length l.initial.words;
}
