use Rattle.std.proofs.Common.{◌≡◌, true, subst}
use Rattle.ca_machine.specs.Notices.{noted}
use Rattle.ca_machine.specs.View.{MachineView}
use Rattle.service_book.specs.Telling.{step_notices}
use Rattle.service_core.specs.Core.{core_datas, core_state}
use Rattle.service_core.specs.Service.{core_view, tally_of}
use Rattle.service_core.specs.Telling.{after_telling}
use Rattle.service_core.proofs.TellingBoards.{told_core, told_view}
use Rattle.service_core.proofs.service.Core.tell.Goals as goal

pub invariant_of-self : goal.invariant_of-self
invariant_of-self g c =
    told_core g.F.FrameStore.kept c.self.inside.board c.tell.new.self c.tell.ensures.told g.F.EngineSide.state
    c.tell.ensures.order c.self.invariant

pub returns-then-granted : goal.returns-then-granted
returns-then-granted g c =
    let kept = g.F.FrameStore.kept in
    let old = c.self.inside.board in
    let tally = tally_of c.self.inside.tally in
    rw c.if-granted.true (subst
    (λ (v : MachineView g.row.D.Denot). core_view kept c.tell.new.self c.self.inside.tally
    ≡ after_telling true (step_notices c.args.before.now c.args.ev.now (noted v.state)) v) c.self.view_is
    (told_view kept old c.tell.new.self c.tell.ensures.told c.self.inside.tally
    (step_notices c.args.before.now c.args.ev.now (noted (core_state kept tally old)))
    (c.tell.ensures.notices (core_datas kept old.entries.items) tally)))
