use Rattle.std.proofs.Common.{[], ◌∷◌, arith, length}
use Rattle.std.proofs.lemmas.Result.{err_from_is_err_and}
use Rattle.ca_stage.specs.Moves.{released, of_client}
use Rattle.ca_machine.specs.Plan.{granted}
use Rattle.ca_machine.specs.Data.{frames_released}
use Rattle.client_state.specs.declared.check.DataCall.TheVariants as data_call
use Rattle.service_core.proofs.EntrySets.{entry_set}
use Rattle.service_core.proofs.DataSteps.{data_refused}
use Rattle.service_core.proofs.DataBoards.{looked_core, refused_goes, released_core, released_goes}
use Rattle.service_core.proofs.data.release_buffer.Goals as goal

pub returns-in_err-at-clause-goes : goal.returns-in_err-at-clause-goes
returns-in_err-at-clause-goes g c tally =
    let p = err_from_is_err_and c.from_residual.result c.from_residual.ensures.1 in
    rw (p.1, p.2) (data_refused g.D.Devices.faults g.D.Devices.told g.F.FrameStore.kept c.args.conn.0 c.args.client.0
    (data_call.Release c.args.frames c.args.flags (length c.args.bytes.now)) (λ st s.
    granted [] (of_client c.args.client.0 (released (frames_released c.args.frames c.args.flags c.args.bytes.now
    s.channels)) ∷ []) st) tally c.args.board.now c.in_err-at.field-0.0
    c.in_err-at.ensures.refused)

pub returns-in_err-release_frames-clause-goes : goal.returns-in_err-release_frames-clause-goes
returns-in_err-release_frames-clause-goes g c tally =
    let p = err_from_is_err_and c.from_residual-in_err-release_frames.result
    c.from_residual-in_err-release_frames.ensures.1 in
    rw (p.1, p.2) (refused_goes g.D.Devices.faults g.D.Devices.told g.F.FrameStore.kept g.F.EngineSide.state
    g.met.F.FrameStore.whole
    c.args.conn.0 c.args.client.0 c.args.board.now _ c.in_ok-at.at c.index_mut.result.now c.release_frames.new.entry
    c.requires.core c.in_ok-at.ensures.found c.index_mut.ensures.value
    (entry_set c.args.board.now c.in_ok-at.at c.release_frames.new.entry)
    c.in_err-release_frames.ensures.refused.same
    c.in_err-release_frames.ensures.refused
    (data_call.Release c.args.frames c.args.flags (length c.args.bytes.now))
    (λ st s. granted [] (of_client c.args.client.0
    (released (frames_released c.args.frames c.args.flags c.args.bytes.now s.channels)) ∷ []) st)
    c.in_err-release_frames.field-0.0 c.in_err-release_frames.ensures.row tally)

pub returns-in_err-release_frames-clause-core : goal.returns-in_err-release_frames-clause-core
returns-in_err-release_frames-clause-core g c =
    looked_core g.D.Devices.faults g.D.Devices.told g.F.FrameStore.kept g.F.EngineSide.state g.met.F.FrameStore.whole
    c.args.conn.0 c.args.client.0 c.args.board.now _ c.in_ok-at.at c.index_mut.result.now c.release_frames.new.entry
    c.requires.core c.in_ok-at.ensures.found c.index_mut.ensures.value
    (entry_set c.args.board.now c.in_ok-at.at c.release_frames.new.entry)
    c.in_err-release_frames.ensures.refused.same
    c.in_err-release_frames.ensures.refused

pub returns-clause-goes : goal.returns-clause-goes
returns-clause-goes g c tally =
    released_goes g.D.Devices.faults g.D.Devices.told g.F.FrameStore.kept g.F.EngineSide.state g.met.F.FrameStore.whole
    c.args.conn.0 c.args.client.0 c.args.board.now _ c.in_ok-at.at c.index_mut.result.now c.release_frames.new.entry
    c.requires.core c.in_ok-at.ensures.found c.index_mut.ensures.value
    (entry_set c.args.board.now c.in_ok-at.at c.release_frames.new.entry)
    c.in_ok-release_frames.ensures.released.same
    (frames_released c.args.frames c.args.flags c.args.bytes.now) c.args.frames c.args.flags
    (length c.args.bytes.now) (omega arith) c.in_ok-release_frames.ensures.released
    c.in_ok-release_frames.ensures.row tally

pub returns-clause-core : goal.returns-clause-core
returns-clause-core g c =
    released_core g.D.Devices.faults g.D.Devices.told g.F.FrameStore.kept g.F.EngineSide.state g.met.F.FrameStore.whole
    c.args.conn.0 c.args.client.0 c.args.board.now _ c.in_ok-at.at c.index_mut.result.now c.release_frames.new.entry
    c.requires.core c.in_ok-at.ensures.found c.index_mut.ensures.value
    (entry_set c.args.board.now c.in_ok-at.at c.release_frames.new.entry)
    c.in_ok-release_frames.ensures.released.same
    (frames_released c.args.frames c.args.flags c.args.bytes.now) c.args.frames c.args.flags
    (length c.args.bytes.now) (omega arith) c.in_ok-release_frames.ensures.released c.in_ok-release_frames.ensures.row
