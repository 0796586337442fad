use Rattle.std.proofs.Common.{◌≡◌, ◌+◌, ◌*◌, ◌≤◌, [], ◌∷◌, length, Some, sym, ap, subst, ◌∙◌, arith}
use Rattle.std.proofs.lemmas.List.{get_or-set_same}
use Rattle.std.proofs.lemmas.Result.{err_from_is_err_and}
use Rattle.ca_stage.specs.Moves.{leased, of_client}
use Rattle.ca_machine.specs.Plan.{granted}
use Rattle.ca_machine.specs.Data.{first_packet}
use Rattle.client_state.specs.declared.check.DataCall.TheVariants as data_call
use Rattle.period_engine.specs.Entries.{IsRested}
use Rattle.reply_payload.specs.declared.payload.TheConstants.{REPLY_ROOM}
use Rattle.service_core.specs.Core.{HasSide, IsLooked, IsTouched}
use Rattle.service_core.proofs.PacketCalls.{same_packet, touched_looked}
use Rattle.service_core.proofs.EntrySets.{entry_set, entry_set_twice}
use Rattle.service_core.proofs.DataSteps.{data_refused}
use Rattle.service_core.proofs.DataBoards.{looked_core, packet_core, packet_goes, packet_there, refused_goes}
use Rattle.service_core.proofs.data.capture_get_buffer.Given.{Over}
use Rattle.service_core.proofs.data.capture_get_buffer.Goals as goal

pub returns-in_err-at-clause-goes : goal.returns-in_err-at-clause-goes
returns-in_err-at-clause-goes g c tally =
    let p = err_from_is_err_and c.from_residual.result c.from_residual.ensures.1 in
    rw (p.1, p.2, c.requires.reply.empty) (
    data_refused g.D.Devices.faults g.D.Devices.told g.F.FrameStore.kept c.args.conn.0
    c.args.client.0 data_call.CaptureGet
    (λ st s. granted (first_packet s.buffer_data.packets) (of_client c.args.client.0 (leased s.period) ∷ []) st)
    tally c.args.board.now c.in_err-at.field-0.0 c.in_err-at.ensures.refused)

pub returns-in_err-lease_packet-clause-goes : goal.returns-in_err-lease_packet-clause-goes
returns-in_err-lease_packet-clause-goes g c tally =
    let p = err_from_is_err_and c.from_residual-in_err-lease_packet.result
    c.from_residual-in_err-lease_packet.ensures.1 in
    rw (p.1, p.2, c.requires.reply.empty) (
    refused_goes g.D.Devices.faults g.D.Devices.told g.F.FrameStore.kept g.F.EngineSide.state
    g.met.F.FrameStore.whole c.args.conn.0 c.args.client.0 c.args.board.now _ c.in_ok-at.at c.index_mut.result.now
    c.lease_packet.new.entry c.requires.core c.in_ok-at.ensures.found c.index_mut.ensures.value
    (entry_set c.args.board.now c.in_ok-at.at c.lease_packet.new.entry)
    c.in_err-lease_packet.ensures.refused.same
    c.in_err-lease_packet.ensures.refused
    data_call.CaptureGet
    (λ st s. granted (first_packet s.buffer_data.packets) (of_client c.args.client.0 (leased s.period) ∷ []) st)
    c.in_err-lease_packet.field-0.0 c.in_err-lease_packet.ensures.row tally)

pub returns-in_err-lease_packet-clause-core : goal.returns-in_err-lease_packet-clause-core
returns-in_err-lease_packet-clause-core g c =
    looked_core g.D.Devices.faults g.D.Devices.told g.F.FrameStore.kept g.F.EngineSide.state g.met.F.FrameStore.whole
    c.args.conn.0 c.args.client.0 c.args.board.now _ c.in_ok-at.at c.index_mut.result.now c.lease_packet.new.entry
    c.requires.core c.in_ok-at.ensures.found c.index_mut.ensures.value
    (entry_set c.args.board.now c.in_ok-at.at c.lease_packet.new.entry)
    c.in_err-lease_packet.ensures.refused.same
    c.in_err-lease_packet.ensures.refused

pub put_packet-requires : goal.put_packet-requires
put_packet-requires g c =
    let leased = c.in_ok-lease_packet.ensures.leased in
    let is : c.index_mut-2.result.now ≡ c.lease_packet.new.entry =
    c.index_mut-2.ensures.value
    ∙ get_or-set_same c.args.board.now.entries.items c.in_ok-at.at c.lease_packet.new.entry c.index_mut-2.result.now
    c.in_ok-at.ensures.found.within in
    let has = subst (HasSide g.F.FrameStore.kept) (sym c.index_mut.ensures.value)
    (c.requires.core.sides c.in_ok-at.at c.index_mut.result.now c.in_ok-at.ensures.found.within) in
    let rested = subst (IsRested (λ ends. g.F.EngineSide.state ends.store)) (sym c.index_mut.ensures.value)
    (c.requires.core.order.rested c.in_ok-at.at c.index_mut.result.now c.in_ok-at.ensures.found.within) in
    let there = packet_there g.D.Devices.faults g.D.Devices.told g.F.FrameStore.kept g.F.EngineSide.state
    g.met.F.FrameStore.whole c.args.conn.0 c.args.client.0 c.args.board.now _ c.in_ok-at.at c.index_mut.result.now
    c.lease_packet.new.entry c.requires.core c.in_ok-at.ensures.found c.index_mut.ensures.value
    (entry_set c.args.board.now c.in_ok-at.at c.lease_packet.new.entry) leased.same leased
    c.in_ok-lease_packet.ensures.row in
    let period : c.index_mut-2.result.now.period ≡ c.index_mut.result.now.period =
    ap (λ e. e.period) (is ∙ leased.same) in
    let channels : c.index_mut-2.result.now.channels ≡ c.index_mut.result.now.channels =
    ap (λ e. e.channels) (is ∙ leased.same) in
    let store = ap (λ e. g.F.FrameStore.kept e.store.store) is ∙ leased.store in
    record {
      packet = record {
        whole = omega (arith, period, ap (λ k. length k.words) store, there);
        some_channel = subst (λ n. 1 ≤ n) (sym channels) rested.fits.some_channel;
        few_channels = subst (λ n. n ≤ 4) (sym channels) rested.fits.few_channels;
        fits = subst (λ n. 16 + n * 8 ≤ REPLY_ROOM) (sym period) has.reply;
      };
      reply = c.requires.reply;
    }

-- the entry that is read has been leased
leased_there : (g : Over) (c : goal.After-board-2-1 g) → c.index_mut-2.result.now ≡ c.lease_packet.new.entry
leased_there g c =
    c.index_mut-2.ensures.value
    ∙ get_or-set_same c.args.board.now.entries.items c.in_ok-at.at c.lease_packet.new.entry c.index_mut-2.result.now
    c.in_ok-at.ensures.found.within

-- after both, nothing but the lease is new
touched : (g : Over) (c : goal.After-board-2-1 g) →
    IsTouched g.F.FrameStore.kept
    (record (c.index_mut.result.now.store.side) { lease = Some c.index_mut.result.now.store.side.period })
    (g.F.FrameStore.kept c.index_mut.result.now.store.store) c.index_mut.result.now c.put_packet.new.entry
touched g c =
    touched_looked g.F.FrameStore.kept
    (record (c.index_mut.result.now.store.side) { lease = Some c.index_mut.result.now.store.side.period })
    (g.F.FrameStore.kept c.index_mut.result.now.store.store) c.index_mut.result.now c.lease_packet.new.entry
    c.put_packet.new.entry c.in_ok-lease_packet.ensures.leased
    (subst (λ e. IsLooked g.F.FrameStore.kept e c.put_packet.new.entry) (leased_there g c) c.put_packet.ensures.looked)

pub returns-clause-goes : goal.returns-clause-goes
returns-clause-goes g c tally =
    let leased = c.in_ok-lease_packet.ensures.leased in
    rw (c.put_packet.ensures.list
    ∙ same_packet g.F.FrameStore.kept c.index_mut.result.now c.lease_packet.new.entry c.index_mut-2.result.now
    (leased_there g c) leased.same leased.store) (
    packet_goes g.D.Devices.faults g.D.Devices.told g.F.FrameStore.kept g.F.EngineSide.state
    g.met.F.FrameStore.whole c.args.conn.0 c.args.client.0 c.args.board.now _ c.in_ok-at.at c.index_mut.result.now
    c.put_packet.new.entry c.requires.core c.in_ok-at.ensures.found c.index_mut.ensures.value
    (entry_set_twice c.args.board.now c.in_ok-at.at c.lease_packet.new.entry c.put_packet.new.entry)
    (touched g c).same (touched g c) c.in_ok-lease_packet.ensures.row tally)

pub returns-clause-core : goal.returns-clause-core
returns-clause-core g c =
    packet_core g.D.Devices.faults g.D.Devices.told g.F.FrameStore.kept g.F.EngineSide.state
    g.met.F.FrameStore.whole c.args.conn.0 c.args.client.0 c.args.board.now _ c.in_ok-at.at c.index_mut.result.now
    c.put_packet.new.entry c.requires.core c.in_ok-at.ensures.found c.index_mut.ensures.value
    (entry_set_twice c.args.board.now c.in_ok-at.at c.lease_packet.new.entry c.put_packet.new.entry)
    (touched g c).same (touched g c) c.in_ok-lease_packet.ensures.row
