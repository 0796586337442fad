use Rattle.std.proofs.Common.{◌≡◌, pos, length, replicate, arith}
use Rattle.volume_stack.specs.Sums.{sum_limit}
use Rattle.period_engine.specs.Added.{AddsEntry, IsAddable, most_sum}
use Rattle.period_engine.proofs.Passes.{none_passed, next_has, one_passed, all_passed}
use Rattle.period_engine.proofs.SumSteps.{zeros_near, all_near, near_more}
use Rattle.period_engine.proofs.adding.add_all.Goals as goal

pub loop-entry-init : goal.loop-entry-init
loop-entry-init g c =
    let R = AddsEntry g.E.EngineSide.moves g.E.EngineSide.state c.args.channels in
    let zeros : c.fill.new.self ≡ replicate (length c.args.sums.now) (pos 0) = c.fill.ensures.after (λ y h. h) in
    rw zeros (record {
      adds = none_passed R c.args.all.now (replicate (length c.args.sums.now) (pos 0));
      near = zeros_near (length c.args.sums.now);
    })

pub add_picked-requires-clause-addable : goal.add_picked-requires-clause-addable
add_picked-requires-clause-addable g c =
    let size : length c.loop-entry.sums ≡ length c.args.sums.now = omega arith in
    rw size (next_has c.loop-entry.invariant.adds
    (IsAddable g.E.EngineSide.state c.args.channels (length c.args.sums.now)) c.entry-item.result
    c.loop-entry-test.true c.requires.addable)

pub add_picked-requires-clause-sums : goal.add_picked-requires-clause-sums
add_picked-requires-clause-sums g c =
    all_near c.loop-entry.entry-index most_sum c.loop-entry.sums (omega arith) c.loop-entry.invariant.near

pub loop-entry-preserved : goal.loop-entry-preserved
loop-entry-preserved g c = record {
  adds = one_passed c.loop-entry.invariant.adds c.entry-item.result c.add_picked.new.self c.add_picked.new.sums
      c.loop-entry-test.true c.loop-entry.auto.all c.add_picked.ensures;
  near = near_more c.loop-entry.entry-index c.loop-entry.sums c.add_picked.new.sums c.add_picked.ensures.adds.stay
      c.loop-entry.invariant.near;
}

pub returns-clause-adds : goal.returns-clause-adds
returns-clause-adds g c = all_passed c.loop-entry.invariant.adds c.loop-entry-test.false c.loop-entry.auto.all

pub returns-clause-within : goal.returns-clause-within
returns-clause-within g c =
    all_near c.loop-entry.entry-index sum_limit c.loop-entry.sums (omega arith) c.loop-entry.invariant.near
