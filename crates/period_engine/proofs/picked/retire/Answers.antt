use Rattle.period_engine.specs.Entries.{IsRested, IsPicked}
use Rattle.period_engine.specs.SubSteps.{Turned, retires_on}
use Rattle.period_engine.proofs.Passes.{Alone, next_has, one_passed, all_passed, all_zip, all_after}
use Rattle.period_engine.proofs.picked.retire.Invariants.{Retires}
use Rattle.period_engine.proofs.picked.retire.Goals as goal

pub retire-requires : goal.retire-requires
retire-requires g c =
    let p = c.requires.0 in (
      p,
      next_has c.loop-entry.invariant (IsPicked g.E.EngineSide.state c.args.e.0 p) c.entry-item.result
          c.loop-entry-test.true c.requires.1,
    )

pub loop-entry-preserved : goal.loop-entry-preserved
loop-entry-preserved g c =
    one_passed c.loop-entry.invariant c.entry-item.result c.retire.new.self 0 c.loop-entry-test.true
    c.loop-entry.auto.all (c.retire.ensures.turned, c.retire.ensures.rested)

pub returns-clause-turned : goal.returns-clause-turned
returns-clause-turned g c =
    all_zip (Retires g.E.EngineSide.moves g.E.EngineSide.state c.args.e.0)
    (Turned g.E.EngineSide.moves (retires_on c.args.e.0)) (λ a b retires. retires.0) c.args.all.now c.loop-entry.all 0 0
    (all_passed c.loop-entry.invariant c.loop-entry-test.false c.loop-entry.auto.all)

pub returns-clause-rested : goal.returns-clause-rested
returns-clause-rested g c =
    all_after (Alone (Retires g.E.EngineSide.moves g.E.EngineSide.state c.args.e.0)) (IsRested g.E.EngineSide.state)
    (λ a b old new retires. retires.1) c.args.all.now c.loop-entry.all 0 0
    (all_passed c.loop-entry.invariant c.loop-entry-test.false c.loop-entry.auto.all)
