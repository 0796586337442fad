use Rattle.std.proofs.Common.{[], ◌∷◌}
use Rattle.std.proofs.lemmas.Result.{err_from_is_err_and}
use Rattle.ca_stage.specs.Moves.{read, of_client}
use Rattle.ca_machine.specs.Plan.{granted}
use Rattle.ca_machine.specs.Data.{packets_read}
use Rattle.client_state.specs.declared.check.DataCall.TheVariants as data_call
use Rattle.service_core.proofs.EntrySets.{entry_set}
use Rattle.service_core.proofs.DataSteps.{data_refused}
use Rattle.service_core.proofs.DataBoards.{looked_core, read_core, read_goes, refused_goes}
use Rattle.service_core.proofs.data.capture_release_buffer.Goals as goal

pub returns-in_err-at-clause-goes : goal.returns-in_err-at-clause-goes
returns-in_err-at-clause-goes g c tally =
    let p = err_from_is_err_and c.from_residual.result c.from_residual.ensures.1 in
    rw (p.1, p.2) (data_refused g.D.Devices.faults g.D.Devices.told g.F.FrameStore.kept c.args.conn.0 c.args.client.0
    (data_call.CaptureRelease c.args.frames)
    (λ st s. granted [] (of_client c.args.client.0 (read (packets_read c.args.frames)) ∷ []) st)
    tally c.args.board.now c.in_err-at.field-0.0 c.in_err-at.ensures.refused)

pub returns-in_err-release_packet-clause-goes : goal.returns-in_err-release_packet-clause-goes
returns-in_err-release_packet-clause-goes g c tally =
    let p =
    err_from_is_err_and
    c.from_residual-in_err-release_packet.result
    c.from_residual-in_err-release_packet.ensures.1
    in
    rw (p.1, p.2) (refused_goes g.D.Devices.faults g.D.Devices.told g.F.FrameStore.kept g.F.EngineSide.state
    g.met.F.FrameStore.whole c.args.conn.0 c.args.client.0 c.args.board.now _ c.in_ok-at.at c.index_mut.result.now
    c.release_packet.new.entry c.requires.core c.in_ok-at.ensures.found c.index_mut.ensures.value
    (entry_set c.args.board.now c.in_ok-at.at c.release_packet.new.entry)
    c.in_err-release_packet.ensures.refused.same
    c.in_err-release_packet.ensures.refused
    (data_call.CaptureRelease c.args.frames)
    (λ st s. granted [] (of_client c.args.client.0 (read (packets_read c.args.frames)) ∷ []) st)
    c.in_err-release_packet.field-0.0 c.in_err-release_packet.ensures.row tally)

pub returns-in_err-release_packet-clause-core : goal.returns-in_err-release_packet-clause-core
returns-in_err-release_packet-clause-core g c =
    looked_core g.D.Devices.faults g.D.Devices.told g.F.FrameStore.kept g.F.EngineSide.state g.met.F.FrameStore.whole
    c.args.conn.0 c.args.client.0 c.args.board.now _ c.in_ok-at.at c.index_mut.result.now c.release_packet.new.entry
    c.requires.core c.in_ok-at.ensures.found c.index_mut.ensures.value
    (entry_set c.args.board.now c.in_ok-at.at c.release_packet.new.entry)
    c.in_err-release_packet.ensures.refused.same
    c.in_err-release_packet.ensures.refused

pub returns-clause-goes : goal.returns-clause-goes
returns-clause-goes g c tally =
    read_goes g.D.Devices.faults g.D.Devices.told g.F.FrameStore.kept g.F.EngineSide.state g.met.F.FrameStore.whole
    c.args.conn.0 c.args.client.0 c.args.board.now _ c.in_ok-at.at c.index_mut.result.now c.release_packet.new.entry
    c.requires.core c.in_ok-at.ensures.found c.index_mut.ensures.value
    (entry_set c.args.board.now c.in_ok-at.at c.release_packet.new.entry)
    c.in_ok-release_packet.ensures.read.same
    c.args.frames c.in_ok-release_packet.ensures.read c.in_ok-release_packet.ensures.row tally

pub returns-clause-core : goal.returns-clause-core
returns-clause-core g c =
    read_core g.D.Devices.faults g.D.Devices.told g.F.FrameStore.kept g.F.EngineSide.state g.met.F.FrameStore.whole
    c.args.conn.0 c.args.client.0 c.args.board.now _ c.in_ok-at.at c.index_mut.result.now c.release_packet.new.entry
    c.requires.core c.in_ok-at.ensures.found c.index_mut.ensures.value
    (entry_set c.args.board.now c.in_ok-at.at c.release_packet.new.entry)
    c.in_ok-release_packet.ensures.read.same
    c.args.frames c.in_ok-release_packet.ensures.read c.in_ok-release_packet.ensures.row
