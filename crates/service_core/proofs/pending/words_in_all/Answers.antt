use Rattle.std.proofs.Common.{◌+◌, ◌∙◌, ap, arith, zero-add}
use Rattle.period_engine.proofs.Passes.{all_passed, one_passed}
use Rattle.service_core.specs.Core.{words_in}
use Rattle.service_core.proofs.PendingWords.{all_added, all_looked}
use Rattle.service_core.proofs.pending.words_in_all.Goals as goal

pub loop-entry-preserved : goal.loop-entry-preserved
loop-entry-preserved g c =
    record {
      adds = one_passed c.loop-entry.invariant.adds c.entry-item.result c.words_in.new.entry
          (c.loop-entry.sum + c.words_in.result) c.loop-entry-test.true c.loop-entry.auto.all
          (c.words_in.ensures.looked, ap (λ n. c.loop-entry.sum + n) c.words_in.ensures.count);
      fits = omega arith;
    }

pub returns-clause-count : goal.returns-clause-count
returns-clause-count g c =
    all_added g.F.FrameStore.kept (words_in g.F.FrameStore.kept c.args.streams) c.args.all.now c.loop-entry.all 0
    c.loop-entry.sum (all_passed c.loop-entry.invariant.adds c.loop-entry-test.false c.loop-entry.auto.all)
    ∙ zero-add _

pub returns-clause-looked : goal.returns-clause-looked
returns-clause-looked g c =
    all_looked g.F.FrameStore.kept (words_in g.F.FrameStore.kept c.args.streams) c.args.all.now c.loop-entry.all 0
    c.loop-entry.sum (all_passed c.loop-entry.invariant.adds c.loop-entry-test.false c.loop-entry.auto.all)
