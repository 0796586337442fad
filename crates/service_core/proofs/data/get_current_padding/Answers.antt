use Rattle.std.proofs.Common.{ap, ◌∙◌}
use Rattle.std.proofs.lemmas.List.{get_or-set_same}
use Rattle.client_state.specs.Rows.{padding_of}
use Rattle.std.proofs.lemmas.Result.{err_from_is_err_and}
use Rattle.std.specs.Int.{w32, to_le_bytes}
use Rattle.ca_stage.specs.Stage.{frames_waiting}
use Rattle.ca_machine.specs.Plan.{answered}
use Rattle.client_state.specs.declared.check.DataCall.TheVariants as data_call
use Rattle.service_core.proofs.EntrySets.{entry_set}
use Rattle.service_core.proofs.DataSteps.{data_refused}
use Rattle.service_core.proofs.DataBoards.{looked_core, padding_goes, refused_goes}
use Rattle.service_core.proofs.data.get_current_padding.Goals as goal

pub returns-in_err-at-clause-goes : goal.returns-in_err-at-clause-goes
returns-in_err-at-clause-goes g c tally =
    let p = err_from_is_err_and c.from_residual.result c.from_residual.ensures.1 in
    rw (p.1, p.2) (data_refused g.D.Devices.faults g.D.Devices.told g.F.FrameStore.kept c.args.conn.0 c.args.client.0
    (data_call.Padding) (λ st s. answered st (to_le_bytes w32 (frames_waiting s))) tally c.args.board.now
    c.in_err-at.field-0.0 c.in_err-at.ensures.refused)

pub returns-in_err-words-clause-goes : goal.returns-in_err-words-clause-goes
returns-in_err-words-clause-goes g c tally =
    let p = err_from_is_err_and c.from_residual-in_err-words.result c.from_residual-in_err-words.ensures.1 in
    rw (p.1, p.2) (refused_goes g.D.Devices.faults g.D.Devices.told g.F.FrameStore.kept g.F.EngineSide.state
    g.met.F.FrameStore.whole
    c.args.conn.0 c.args.client.0 c.args.board.now _ c.in_ok-at.at c.index_mut.result.now c.check.new.entry
    c.requires.core c.in_ok-at.ensures.found c.index_mut.ensures.value
    (entry_set c.args.board.now c.in_ok-at.at c.check.new.entry)
    c.in_err-words.ensures.looked.same
    c.in_err-words.ensures.looked (data_call.Padding) (λ st s. answered st (to_le_bytes w32 (frames_waiting s)))
    c.in_err-words.field-0.0 c.in_err-words.ensures.row tally)

pub returns-in_err-words-clause-core : goal.returns-in_err-words-clause-core
returns-in_err-words-clause-core g c =
    looked_core g.D.Devices.faults g.D.Devices.told g.F.FrameStore.kept g.F.EngineSide.state g.met.F.FrameStore.whole
    c.args.conn.0 c.args.client.0 c.args.board.now _ c.in_ok-at.at c.index_mut.result.now c.check.new.entry
    c.requires.core c.in_ok-at.ensures.found c.index_mut.ensures.value
    (entry_set c.args.board.now c.in_ok-at.at c.check.new.entry)
    c.in_err-words.ensures.looked.same
    c.in_err-words.ensures.looked

pub returns-clause-goes : goal.returns-clause-goes
returns-clause-goes g c tally =
    let entry =
    c.index.ensures
    ∙ get_or-set_same c.args.board.now.entries.items c.in_ok-at.at c.check.new.entry c.index.result.now
    c.in_ok-at.ensures.found.within in
    rw (c.padding.ensures, ap (λ e. padding_of e.store.side c.in_ok-words.words) entry) (
    padding_goes g.D.Devices.faults g.D.Devices.told g.F.FrameStore.kept g.F.EngineSide.state g.met.F.FrameStore.whole
    c.args.conn.0 c.args.client.0 c.args.board.now _ c.in_ok-at.at c.index_mut.result.now c.check.new.entry
    c.requires.core c.in_ok-at.ensures.found c.index_mut.ensures.value
    (entry_set c.args.board.now c.in_ok-at.at c.check.new.entry)
    c.in_ok-words.ensures.looked.same
    c.in_ok-words.ensures.looked c.in_ok-words.words c.in_ok-words.ensures.count c.in_ok-words.ensures.row tally)

pub returns-clause-core : goal.returns-clause-core
returns-clause-core g c =
    looked_core g.D.Devices.faults g.D.Devices.told g.F.FrameStore.kept g.F.EngineSide.state g.met.F.FrameStore.whole
    c.args.conn.0 c.args.client.0 c.args.board.now _ c.in_ok-at.at c.index_mut.result.now c.check.new.entry
    c.requires.core c.in_ok-at.ensures.found c.index_mut.ensures.value
    (entry_set c.args.board.now c.in_ok-at.at c.check.new.entry)
    c.in_ok-words.ensures.looked.same
    c.in_ok-words.ensures.looked
