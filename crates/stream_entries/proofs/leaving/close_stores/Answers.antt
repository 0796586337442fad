use Rattle.period_engine.specs.Entries.{IsRested}
use Rattle.period_engine.proofs.Passes.{next_has, one_passed, all_passed, all_zip}
use Rattle.stream_entries.specs.Leaving.{Parts}
use Rattle.stream_entries.proofs.leaving.close_stores.Goals as goal

pub close_unless_live-requires : goal.close_unless_live-requires
close_unless_live-requires g c =
    next_has c.loop-entry.invariant (IsRested g.E.EngineSide.state) c.entry-item.result c.loop-entry-test.true
    c.requires

pub loop-entry-preserved : goal.loop-entry-preserved
loop-entry-preserved g c =
    one_passed c.loop-entry.invariant c.entry-item.result c.close_unless_live.new.entry 0 c.loop-entry-test.true
    c.loop-entry.auto.entries c.close_unless_live.ensures

pub returns : goal.returns
returns g c =
    all_zip (Parts g.E.EngineSide.moves c.args.clients.now) (Parts g.E.EngineSide.moves c.args.clients.now)
    (λ a b parts. parts) c.args.entries.now c.loop-entry.entries 0 0
    (all_passed c.loop-entry.invariant c.loop-entry-test.false c.loop-entry.auto.entries)
