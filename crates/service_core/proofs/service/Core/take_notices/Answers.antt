use Rattle.ca_model.specs.declared.event.Call.TheVariants as call
use Rattle.ca_model.specs.declared.event.Event.TheVariants as event
use Rattle.ca_machine.specs.Registrations.{take_notices_plan}
use Rattle.reply_payload.specs.Answers.{told_code}
use Rattle.service_board.specs.Does.{AnyData}
use Rattle.service_core.specs.Service.{tally_of}
use Rattle.service_core.proofs.CoreAnswers.{answers_viewed, board_core, board_still}
use Rattle.service_core.proofs.EventsFall.{keeps_event}
use Rattle.service_core.proofs.TallyStays.{tally_of_notices}
use Rattle.service_core.proofs.service.Core.take_notices.Goals as goal

pub invariant_of-self : goal.invariant_of-self
invariant_of-self g c =
    board_core g.D.Devices.faults g.D.Devices.told g.F.FrameStore.kept g.F.EngineSide.state
    g.F.EngineSide.moves g.met.F.FrameStore.exact c.self.inside.board c.take_notices.new.self c.self.invariant
    c.take_notices.ensures.order (λ st. take_notices_plan st c.args.conn.0 c.args.max)
    (told_code c.take_notices.result) c.take_notices.new.out.list
    (λ st. keeps_event st (event.Call c.args.conn 0 (call.TakeNotices c.args.max)) tt)
    AnyData c.take_notices.ensures.does tt

pub returns-clause-answers : goal.returns-clause-answers
returns-clause-answers g c =
    rw c.told_code.ensures (
    answers_viewed g.D.Devices.faults g.D.Devices.told g.F.FrameStore.kept
    (λ st. take_notices_plan st c.args.conn.0 c.args.max)
    (told_code c.take_notices.result) c.take_notices.new.out.list c.self.inside.board c.take_notices.new.self
    c.self.inside.tally c.self.inside.tally c.args.self.now c.self.view_is
    (board_still g.D.Devices.faults g.D.Devices.told g.F.FrameStore.kept g.F.EngineSide.state
    g.F.EngineSide.moves g.met.F.FrameStore.exact c.self.inside.board c.take_notices.new.self c.self.invariant
    c.take_notices.ensures.order (λ st. take_notices_plan st c.args.conn.0 c.args.max)
    (told_code c.take_notices.result) c.take_notices.new.out.list
    (λ st. keeps_event st (event.Call c.args.conn 0 (call.TakeNotices c.args.max)) tt)
    AnyData c.take_notices.ensures.does tt
    (λ st. tally_of_notices st c.args.conn.0 c.args.max) (tally_of c.self.inside.tally)))
