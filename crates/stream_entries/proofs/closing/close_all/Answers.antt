use Rattle.period_engine.specs.Entries.{IsRested}
use Rattle.period_engine.specs.SubSteps.{Turned}
use Rattle.period_engine.proofs.Passes.{Alone, next_has, one_passed, all_passed, all_zip, all_after}
use Rattle.stream_entries.specs.Closing.{IsClosable, closes_within, scope_of}
use Rattle.stream_entries.proofs.closing.close_all.Invariants.{Closes}
use Rattle.stream_entries.proofs.closing.close_all.Goals as goal

pub close-requires : goal.close-requires
close-requires g c =
    next_has c.loop-entry.invariant (IsClosable g.E.EngineSide.state (scope_of c.args.scope)) c.entry-item.result
    c.loop-entry-test.true c.requires

pub loop-entry-preserved : goal.loop-entry-preserved
loop-entry-preserved g c =
    one_passed c.loop-entry.invariant c.entry-item.result c.close.new.entry 0 c.loop-entry-test.true
    c.loop-entry.auto.all (c.close.ensures.turned, c.close.ensures.rested)

pub returns-clause-turned : goal.returns-clause-turned
returns-clause-turned g c =
    all_zip (Closes g.E.EngineSide.moves g.E.EngineSide.state c.args.reason (scope_of c.args.scope))
    (Turned g.E.EngineSide.moves (closes_within c.args.reason (scope_of c.args.scope))) (λ a b closes. closes.0)
    c.args.all.now c.loop-entry.all
    0 0 (all_passed c.loop-entry.invariant c.loop-entry-test.false c.loop-entry.auto.all)

pub returns-clause-rested : goal.returns-clause-rested
returns-clause-rested g c =
    all_after (Alone (Closes g.E.EngineSide.moves g.E.EngineSide.state c.args.reason (scope_of c.args.scope)))
    (IsRested g.E.EngineSide.state) (λ a b old new closes. closes.1) c.args.all.now c.loop-entry.all
    0 0 (all_passed c.loop-entry.invariant c.loop-entry-test.false c.loop-entry.auto.all)
