use Rattle.std.proofs.Common.{◌≡◌}
use Rattle.stream_entries.specs.Events.{with_event}
use Rattle.period_engine.proofs.Passes.{Alone, none_passed, one_passed}
use Rattle.stream_entries.proofs.MappedLists.{mapped}
use Rattle.stream_entries.proofs.events.signal_each.Goals as goal

pub loop-client-init : goal.loop-client-init
loop-client-init g c = none_passed (Alone (λ a b. b ≡ with_event c.args.e.0 c.args.all.now a)) c.args.clients.now 0

pub loop-client-preserved : goal.loop-client-preserved
loop-client-preserved g c =
    one_passed c.loop-client.invariant _ c.signal.new.client 0 c.loop-client-test.true
    c.loop-client.auto.clients c.signal.ensures

pub returns : goal.returns
returns g c =
    mapped (with_event c.args.e.0 c.args.all.now) c.args.clients.now c.loop-client.clients c.loop-client.client-index c.loop-client.invariant
    c.loop-client-test.false c.loop-client.auto.clients
