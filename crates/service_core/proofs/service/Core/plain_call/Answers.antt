use Rattle.ca_model.specs.declared.event.Event.TheVariants as event
use Rattle.ca_machine.specs.Step.{call_plan}
use Rattle.reply_payload.specs.Answers.{code_of, payload_of}
use Rattle.service_board.specs.Does.{AnyData}
use Rattle.service_core.specs.Service.{tally_of}
use Rattle.service_core.proofs.CoreAnswers.{answers_viewed, board_core, board_still}
use Rattle.service_core.proofs.EventsFall.{keeps_event}
use Rattle.service_core.proofs.TallyStays.{plain_control, tally_of_call}
use Rattle.service_core.proofs.service.Core.plain_call.Goals as goal

pub invariant_of-self : goal.invariant_of-self
invariant_of-self g c =
    board_core g.D.Devices.faults g.D.Devices.told g.F.FrameStore.kept g.F.EngineSide.state
    g.F.EngineSide.moves g.met.F.FrameStore.exact c.self.inside.board c.plain_call.new.self c.self.invariant
    c.plain_call.ensures.order (λ st. call_plan st c.args.conn.0 c.args.call.now) (code_of c.plain_call.result)
    (payload_of c.plain_call.result) (λ st. keeps_event st (event.Call c.args.conn 0 c.args.call.now)
    (plain_control c.args.call.now c.requires)) AnyData c.plain_call.ensures.does tt

pub returns : goal.returns
returns g c =
    answers_viewed g.D.Devices.faults g.D.Devices.told g.F.FrameStore.kept
    (λ st. call_plan st c.args.conn.0 c.args.call.now)
    (code_of c.plain_call.result) (payload_of c.plain_call.result) c.self.inside.board c.plain_call.new.self
    c.self.inside.tally c.self.inside.tally c.args.self.now c.self.view_is
    (board_still g.D.Devices.faults g.D.Devices.told g.F.FrameStore.kept g.F.EngineSide.state
    g.F.EngineSide.moves g.met.F.FrameStore.exact c.self.inside.board c.plain_call.new.self c.self.invariant
    c.plain_call.ensures.order (λ st. call_plan st c.args.conn.0 c.args.call.now) (code_of c.plain_call.result)
    (payload_of c.plain_call.result) (λ st. keeps_event st (event.Call c.args.conn 0 c.args.call.now)
    (plain_control c.args.call.now c.requires)) AnyData c.plain_call.ensures.does tt
    (λ st. tally_of_call st c.args.conn.0 c.args.call.now c.requires) (tally_of c.self.inside.tally))
