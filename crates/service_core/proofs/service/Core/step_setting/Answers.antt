use Rattle.std.proofs.Common.{◌≡◌, subst}
use Rattle.ca_machine.specs.Notices.{noted, volume_at}
use Rattle.ca_machine.specs.View.{MachineView}
use Rattle.service_board.specs.Board.{stage_with}
use Rattle.service_core.specs.Core.{core_datas}
use Rattle.service_core.specs.Service.{tally_of}
use Rattle.service_core.proofs.ApartNotes.{AreApart, notes_apart}
use Rattle.service_core.proofs.SettingSteps.{setting_step}
use Rattle.service_core.proofs.service.Core.step_setting.Goals as goal

pub returns-clause-answers : goal.returns-clause-answers
returns-clause-answers g c =
    let kept = g.F.FrameStore.kept in
    let board = c.self.inside.board in
    let tally = tally_of c.self.inside.tally in
    rw (c.in-Call.is, c.tell_setting.ensures, c.is_granted.ensures)
    (setting_step c.same_devices_are_quiet.ensures c.same_sessions_are_quiet.ensures g.D.Devices.faults
    g.D.Devices.told c.in-Call.conn c.in-Call.tag c.in-Call.call c.args.session c.answer_call-code.result
    c.answer_call-code.new.payload.list c.args.self.now c.answer_call-code.new.self c.volume_of-was.result
    (rw c.in-Call.is at c.requires.sets)
    (subst (λ (v : MachineView g.row.D.Denot). AreApart (noted v.state)) c.self.view_is
    (notes_apart kept g.F.EngineSide.state board tally c.self.invariant.order))
    (subst (λ (v : MachineView g.row.D.Denot). c.volume_of-was.result ≡ volume_at c.args.session.0 v.state)
    c.self.view_is (c.volume_of-was.ensures
    (stage_with (core_datas kept board.entries.items) board.seats.items board.entries.items) tally))
    c.answer_call-code.ensures.answers)
