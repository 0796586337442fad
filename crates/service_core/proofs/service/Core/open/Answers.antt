use Rattle.ca_model.specs.declared.event.Event.TheVariants as event
use Rattle.ca_machine.specs.Clients.{open_plan}
use Rattle.reply_payload.specs.Answers.{code_of, payload_of}
use Rattle.service_board.specs.Does.{AnyData}
use Rattle.service_core.specs.Service.{tally_of}
use Rattle.service_core.proofs.CoreAnswers.{answers_viewed, board_core, board_still}
use Rattle.service_core.proofs.EventsFall.{keeps_event}
use Rattle.service_core.proofs.TallyStays.{tally_of_open}
use Rattle.service_core.proofs.service.Core.open.Goals as goal

pub invariant_of-self : goal.invariant_of-self
invariant_of-self g c =
    board_core g.D.Devices.faults g.D.Devices.told g.F.FrameStore.kept g.F.EngineSide.state
    g.F.EngineSide.moves g.met.F.FrameStore.exact c.self.inside.board c.open.new.self c.self.invariant
    c.open.ensures.order (λ st. open_plan st c.args.conn.0 c.args.process c.args.name.now) (code_of c.open.result)
    (payload_of c.open.result) (λ st. keeps_event st (event.Open c.args.conn c.args.process c.args.name.now) tt)
    AnyData c.open.ensures.does tt

pub returns : goal.returns
returns g c =
    answers_viewed g.D.Devices.faults g.D.Devices.told g.F.FrameStore.kept
    (λ st. open_plan st c.args.conn.0 c.args.process c.args.name.now)
    (code_of c.open.result) (payload_of c.open.result) c.self.inside.board c.open.new.self
    c.self.inside.tally c.self.inside.tally c.args.self.now c.self.view_is
    (board_still g.D.Devices.faults g.D.Devices.told g.F.FrameStore.kept g.F.EngineSide.state
    g.F.EngineSide.moves g.met.F.FrameStore.exact c.self.inside.board c.open.new.self c.self.invariant
    c.open.ensures.order (λ st. open_plan st c.args.conn.0 c.args.process c.args.name.now) (code_of c.open.result)
    (payload_of c.open.result) (λ st. keeps_event st (event.Open c.args.conn c.args.process c.args.name.now) tt)
    AnyData c.open.ensures.does tt
    (λ st. tally_of_open st c.args.conn.0 c.args.process c.args.name.now) (tally_of c.self.inside.tally))
