use Rattle.std.proofs.Common.{sym}
use Rattle.ca_model.specs.declared.event.Call.TheVariants as call
use Rattle.ca_model.specs.declared.event.Event.TheVariants as event
use Rattle.ca_machine.specs.Streams.{reset_plan}
use Rattle.service_board.specs.StreamCalls.{IsKnown}
use Rattle.reply_payload.specs.Answers.{code_of, payload_of}
use Rattle.service_core.specs.Core.{core_state}
use Rattle.service_core.proofs.CoreCounted.{counted_core, counted_reset}
use Rattle.service_core.proofs.Leases.{kind_there}
use Rattle.service_core.proofs.EventsFall.{keeps_event}
use Rattle.service_core.proofs.TallyOutcomes.{reset_outcome}
use Rattle.service_core.proofs.PendingWords.{around_order}
use Rattle.service_core.proofs.counting.counted_reset.Goals as goal

pub has_lease-leased-requires : goal.has_lease-leased-requires
has_lease-leased-requires g c =
    around_order g.F.FrameStore.kept g.F.EngineSide.state g.met.F.FrameStore.whole c.args.board.now
    c.pending-before.new.board c.pending-before.ensures.looked c.requires.order

pub reset-answer-requires : goal.reset-answer-requires
reset-answer-requires g c = record {
  order = around_order g.F.FrameStore.kept g.F.EngineSide.state g.met.F.FrameStore.whole c.args.board.now
      c.pending-before.new.board c.pending-before.ensures.looked c.requires.order;
}

pub returns-clause-core : goal.returns-clause-core
returns-clause-core g c =
    counted_core g.D.Devices.faults g.D.Devices.told g.F.FrameStore.kept g.F.EngineSide.state
    g.met.F.FrameStore.whole g.F.EngineSide.moves g.met.F.FrameStore.exact c.args.board.now c.pending-before.new.board
    c.reset-answer.new.self c.fewer_than.new.board c.pending-before.ensures.looked c.fewer_than.ensures.looked
    c.requires c.reset-answer.ensures.order c.pending-before.result c.fewer_than.result
    c.pending-before.ensures.count c.fewer_than.ensures.fewer
    (λ st. reset_plan st c.args.conn.0 c.args.client.0) (code_of c.reset-answer.result)
    (payload_of c.reset-answer.result)
    (IsKnown c.args.client.0 c.has_lease-leased.result c.pending-before.new.board.entries.items)
    c.reset-answer.ensures.does
    (record {
      leased = sym c.has_lease-leased.ensures;
      kind = kind_there g.F.FrameStore.kept c.pending-before.new.board.entries.items c.args.client.0;
    }) (λ st. keeps_event st (event.Call c.args.conn 0 (call.Reset c.args.client)) tt)

pub returns-clause-goes : goal.returns-clause-goes
returns-clause-goes g c tally fits =
    counted_reset g.D.Devices.faults g.D.Devices.told g.F.FrameStore.kept g.F.EngineSide.state
    g.met.F.FrameStore.whole g.F.EngineSide.moves g.met.F.FrameStore.exact c.args.board.now c.pending-before.new.board
    c.reset-answer.new.self c.fewer_than.new.board c.pending-before.ensures.looked c.fewer_than.ensures.looked
    c.requires c.reset-answer.ensures.order c.pending-before.result c.fewer_than.result
    c.pending-before.ensures.count c.fewer_than.ensures.fewer
    (λ st. reset_plan st c.args.conn.0 c.args.client.0) (code_of c.reset-answer.result)
    (payload_of c.reset-answer.result)
    (IsKnown c.args.client.0 c.has_lease-leased.result c.pending-before.new.board.entries.items)
    c.reset-answer.ensures.does
    (record {
      leased = sym c.has_lease-leased.ensures;
      kind = kind_there g.F.FrameStore.kept c.pending-before.new.board.entries.items c.args.client.0;
    }) (λ st. keeps_event st (event.Call c.args.conn 0 (call.Reset c.args.client)) tt)
    tally
    (λ rise. reset_outcome (core_state g.F.FrameStore.kept tally c.pending-before.new.board) rise fits c.args.conn.0
    c.args.client.0)
