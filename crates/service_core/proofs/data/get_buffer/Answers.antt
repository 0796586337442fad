use Rattle.std.proofs.Common.{[], ◌∷◌}
use Rattle.std.proofs.lemmas.Result.{err_from_is_err_and}
use Rattle.ca_stage.specs.Moves.{leased, of_client}
use Rattle.ca_machine.specs.Plan.{granted}
use Rattle.client_state.specs.declared.check.DataCall.TheVariants as data_call
use Rattle.service_core.proofs.EntrySets.{entry_set}
use Rattle.service_core.proofs.DataSteps.{data_refused}
use Rattle.service_core.proofs.DataBoards.{leased_core, leased_goes, looked_core, refused_goes}
use Rattle.service_core.proofs.data.get_buffer.Goals as goal

pub returns-in_err-at-clause-goes : goal.returns-in_err-at-clause-goes
returns-in_err-at-clause-goes g c tally =
    let p = err_from_is_err_and c.from_residual.result c.from_residual.ensures.1 in
    rw (p.1, p.2) (data_refused g.D.Devices.faults g.D.Devices.told g.F.FrameStore.kept c.args.conn.0 c.args.client.0
    (data_call.Get c.args.frames) (λ st s. granted [] (of_client c.args.client.0 (leased c.args.frames) ∷ []) st)
    tally c.args.board.now c.in_err-at.field-0.0
    c.in_err-at.ensures.refused)

pub returns-in_err-lease-clause-goes : goal.returns-in_err-lease-clause-goes
returns-in_err-lease-clause-goes g c tally =
    let p = err_from_is_err_and c.from_residual-in_err-lease.result c.from_residual-in_err-lease.ensures.1 in
    rw (p.1, p.2) (refused_goes g.D.Devices.faults g.D.Devices.told g.F.FrameStore.kept g.F.EngineSide.state
    g.met.F.FrameStore.whole
    c.args.conn.0 c.args.client.0 c.args.board.now _ c.in_ok-at.at c.index_mut.result.now c.lease.new.entry
    c.requires.core c.in_ok-at.ensures.found c.index_mut.ensures.value
    (entry_set c.args.board.now c.in_ok-at.at c.lease.new.entry)
    c.in_err-lease.ensures.refused.same
    c.in_err-lease.ensures.refused (data_call.Get c.args.frames)
    (λ st s. granted [] (of_client c.args.client.0 (leased c.args.frames) ∷ []) st)
    c.in_err-lease.field-0.0 c.in_err-lease.ensures.row tally)

pub returns-in_err-lease-clause-core : goal.returns-in_err-lease-clause-core
returns-in_err-lease-clause-core g c =
    looked_core g.D.Devices.faults g.D.Devices.told g.F.FrameStore.kept g.F.EngineSide.state g.met.F.FrameStore.whole
    c.args.conn.0 c.args.client.0 c.args.board.now _ c.in_ok-at.at c.index_mut.result.now c.lease.new.entry
    c.requires.core c.in_ok-at.ensures.found c.index_mut.ensures.value
    (entry_set c.args.board.now c.in_ok-at.at c.lease.new.entry)
    c.in_err-lease.ensures.refused.same
    c.in_err-lease.ensures.refused

pub returns-clause-goes : goal.returns-clause-goes
returns-clause-goes g c tally =
    leased_goes g.D.Devices.faults g.D.Devices.told g.F.FrameStore.kept g.F.EngineSide.state g.met.F.FrameStore.whole
    c.args.conn.0 c.args.client.0 c.args.board.now _ c.in_ok-at.at c.index_mut.result.now c.lease.new.entry
    c.requires.core c.in_ok-at.ensures.found c.index_mut.ensures.value
    (entry_set c.args.board.now c.in_ok-at.at c.lease.new.entry)
    c.in_ok-lease.ensures.leased.same
    c.args.frames c.in_ok-lease.ensures.leased c.in_ok-lease.ensures.row tally

pub returns-clause-core : goal.returns-clause-core
returns-clause-core g c =
    leased_core g.D.Devices.faults g.D.Devices.told g.F.FrameStore.kept g.F.EngineSide.state g.met.F.FrameStore.whole
    c.args.conn.0 c.args.client.0 c.args.board.now _ c.in_ok-at.at c.index_mut.result.now c.lease.new.entry
    c.requires.core c.in_ok-at.ensures.found c.index_mut.ensures.value
    (entry_set c.args.board.now c.in_ok-at.at c.lease.new.entry)
    c.in_ok-lease.ensures.leased.same
    c.args.frames c.in_ok-lease.ensures.leased c.in_ok-lease.ensures.row
