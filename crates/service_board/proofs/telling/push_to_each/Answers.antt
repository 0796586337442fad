use Rattle.std.proofs.Common.{◌≡◌}
use Rattle.event_notices.specs.Notices.{pushed_all}
use Rattle.period_engine.proofs.Passes.{Alone, none_passed, one_passed}
use Rattle.stream_entries.proofs.MappedLists.{mapped}
use Rattle.service_board.proofs.telling.push_to_each.Goals as goal

pub loop-q-init : goal.loop-q-init
loop-q-init c = none_passed (Alone (λ a b. b ≡ pushed_all c.args.ns.now a)) c.args.queues.now 0

pub loop-q-preserved : goal.loop-q-preserved
loop-q-preserved c =
    one_passed c.loop-q.invariant c.q-item.result c.push_all.new.self 0 c.loop-q-test.true c.loop-q.auto.queues
    c.push_all.ensures

pub returns : goal.returns
returns c =
    mapped (pushed_all c.args.ns.now) c.args.queues.now c.loop-q.queues c.loop-q.q-index c.loop-q.invariant
    c.loop-q-test.false c.loop-q.auto.queues
