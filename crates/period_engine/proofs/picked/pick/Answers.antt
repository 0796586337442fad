use Rattle.period_engine.specs.Entries.{HasRoom, IsRested, IsPicked}
use Rattle.period_engine.specs.SubSteps.{Turned, picks_on}
use Rattle.period_engine.proofs.Passes.{Alone, next_has, one_passed, all_passed, all_zip, all_after}
use Rattle.period_engine.proofs.picked.pick.Invariants.{Picks}
use Rattle.period_engine.proofs.picked.pick.Goals as goal

pub pick-requires-clause-rested : goal.pick-requires-clause-rested
pick-requires-clause-rested g c =
    next_has c.loop-entry.invariant (IsRested g.E.EngineSide.state) c.entry-item.result c.loop-entry-test.true
    c.requires.rested

pub pick-requires-clause-counts : goal.pick-requires-clause-counts
pick-requires-clause-counts g c =
    next_has c.loop-entry.invariant (HasRoom c.args.e.0 c.args.p) c.entry-item.result c.loop-entry-test.true
    c.requires.counts

pub loop-entry-preserved : goal.loop-entry-preserved
loop-entry-preserved g c =
    one_passed c.loop-entry.invariant c.entry-item.result c.pick.new.self 0 c.loop-entry-test.true c.loop-entry.auto.all
    (c.pick.ensures.turned, c.pick.ensures.picked)

pub returns-clause-turned : goal.returns-clause-turned
returns-clause-turned g c =
    all_zip (Picks g.E.EngineSide.moves g.E.EngineSide.state c.args.e.0 c.args.p)
    (Turned g.E.EngineSide.moves (picks_on c.args.e.0 c.args.p)) (λ a b picks. picks.0) c.args.all.now c.loop-entry.all
    0 0 (all_passed c.loop-entry.invariant c.loop-entry-test.false c.loop-entry.auto.all)

pub returns-clause-picked : goal.returns-clause-picked
returns-clause-picked g c =
    all_after (Alone (Picks g.E.EngineSide.moves g.E.EngineSide.state c.args.e.0 c.args.p))
    (IsPicked g.E.EngineSide.state c.args.e.0 c.args.p) (λ a b old new picks. picks.1) c.args.all.now c.loop-entry.all
    0 0 (all_passed c.loop-entry.invariant c.loop-entry-test.false c.loop-entry.auto.all)
