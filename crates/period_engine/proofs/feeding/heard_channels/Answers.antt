use Rattle.std.proofs.Common.{refl, sym, ◌∙◌}
use Rattle.period_engine.specs.Entries.{is_heard}
use Rattle.period_engine.proofs.FedEntries.{none_more}
use Rattle.period_engine.proofs.feeding.heard_channels.Goals as goal

pub returns-then-is_heard-clause-some : goal.returns-then-is_heard-clause-some
returns-then-is_heard-clause-some g c = (
  c.loop-entry.entry-index,
  c.entry-item.result,
  c.loop-entry-test.true,
  sym c.entry-item.is,
  (sym c.is_heard.ensures ∙ c.if-is_heard.true, refl),
)

pub loop-entry-preserved : goal.loop-entry-preserved
loop-entry-preserved g c =
    none_more (is_heard c.args.e.0) c.args.all.now c.loop-entry.entry-index c.entry-item.result
    c.loop-entry.invariant c.loop-entry-test.true c.entry-item.is (sym c.is_heard.ensures ∙ c.if-is_heard.false)
