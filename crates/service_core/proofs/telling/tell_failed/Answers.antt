use Rattle.ca_machine.specs.Notices.{noted}
use Rattle.service_book.specs.Telling.{step_notices}
use Rattle.service_core.specs.Core.{core_datas, core_state}
use Rattle.service_core.specs.Service.{tally_of}
use Rattle.service_core.proofs.TellingBoards.{told_view}
use Rattle.service_core.proofs.telling.tell_failed.Goals as goal

pub returns-clause-told : goal.returns-clause-told
returns-clause-told g c counts =
    let kept = g.F.FrameStore.kept in
    let old = c.args.board.now in
    let tally = tally_of counts in
    told_view kept old c.tell_failed.new.self c.tell_failed.ensures.told counts
    (step_notices old.failed c.args.ev.now (noted (core_state kept tally old)))
    (c.tell_failed.ensures.notices (core_datas kept old.entries.items) tally)
