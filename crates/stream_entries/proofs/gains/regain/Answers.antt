use Rattle.period_engine.proofs.Passes.{next_has, none_passed, one_passed, all_passed, all_zip, Alone}
use Rattle.stream_entries.specs.Gains.{HasClient, Regains}
use Rattle.stream_entries.proofs.gains.regain.Goals as goal

pub loop-entry-init : goal.loop-entry-init
loop-entry-init g c = none_passed (Alone (Regains c.args.book.now)) c.args.entries.now 0

pub gains_of-entry-requires-clause-client : goal.gains_of-entry-requires-clause-client
gains_of-entry-requires-clause-client g c =
    next_has c.loop-entry.invariant (HasClient c.args.book.now) c.entry-item.result c.loop-entry-test.true
    c.requires.clients

pub loop-entry-preserved : goal.loop-entry-preserved
loop-entry-preserved g c =
    one_passed c.loop-entry.invariant c.entry-item.result _ 0 c.loop-entry-test.true c.loop-entry.auto.entries
    c.gains_of-entry.ensures

pub returns : goal.returns
returns g c =
    all_zip (Regains c.args.book.now) (Regains c.args.book.now) (λ a b regains. regains) c.args.entries.now
    c.loop-entry.entries 0 0 (all_passed c.loop-entry.invariant c.loop-entry-test.false c.loop-entry.auto.entries)
