use Rattle.std.proofs.Common.{◌≡◌}
use Rattle.ca_machine.specs.Registrations.{unflagged}
use Rattle.period_engine.proofs.Passes.{Alone, none_passed, one_passed}
use Rattle.stream_entries.proofs.MappedLists.{mapped}
use Rattle.stream_entries.proofs.events.take_events.Goals as goal

pub loop-client-init : goal.loop-client-init
loop-client-init c = none_passed (Alone (λ a b. b ≡ unflagged c.args.conn.0 a)) c.args.clients.now 0

pub loop-client-preserved : goal.loop-client-preserved
loop-client-preserved c =
    one_passed c.loop-client.invariant _ c.take_event.new.client 0 c.loop-client-test.true
    c.loop-client.auto.clients c.take_event.ensures

pub returns : goal.returns
returns c =
    mapped (unflagged c.args.conn.0) c.args.clients.now c.loop-client.clients c.loop-client.client-index c.loop-client.invariant
    c.loop-client-test.false c.loop-client.auto.clients
