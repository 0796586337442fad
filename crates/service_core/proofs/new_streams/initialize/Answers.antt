use Rattle.std.proofs.Common.{[]}
use Rattle.std.proofs.lemmas.Result.{err_from_is_err_and}
use Rattle.std.specs.Option.{option_map}
use Rattle.ca_model.specs.declared.event.Call.TheVariants as call
use Rattle.ca_model.specs.declared.event.Event.TheVariants as event
use Rattle.ca_stage.specs.Tally.{no_tally}
use Rattle.ca_machine.specs.State.{State}
use Rattle.service_book.specs.declared.opening.Opening.{Opening}
use Rattle.reply_payload.specs.Answers.{code_of, payload_of}
use Rattle.service_book.specs.Openings.{opening_plan}
use Rattle.service_board.specs.Does.{AnyData}
use Rattle.service_board.specs.Openings.{IsFresh}
use Rattle.service_core.specs.BothEnds.{MovesStore}
use Rattle.service_core.proofs.CoreAnswers.{board_goes}
use Rattle.service_core.proofs.CoreSteps.{core_goes, core_sides}
use Rattle.service_core.proofs.EventsFall.{keeps_event}
use Rattle.service_core.proofs.PlansFall.{Keeps}
use Rattle.service_core.proofs.NewSides.{came_has_side, made_ends, made_is_fresh, made_is_new, no_entry_data}
use Rattle.service_core.proofs.new_streams.initialize.Goals as goal

-- an Initialize opens a stream, and leaves the others with no more than they had
keeps : (x : Opening) (st : State) → Keeps st (opening_plan x st)
keeps x st =
    keeps_event st (event.Call x.conn 0
    (call.Initialize x.client x.share x.flags x.duration x.period (record { list = x.format.now; capacity = 0 })
    x.session)) tt

pub returns-in_err-plan-clause-goes : goal.returns-in_err-plan-clause-goes
returns-in_err-plan-clause-goes g c tally =
    let x = c.args.x.now in
    let board = c.args.board.now in
    let code = c.in_err-plan.field-0.0 in
    let p = err_from_is_err_and c.from_residual.result c.from_residual.ensures.1 in
    rw (p.1, p.2)
    (board_goes g.D.Devices.faults g.D.Devices.told g.F.FrameStore.kept g.F.EngineSide.state g.F.EngineSide.moves
    g.met.F.FrameStore.exact board board c.requires c.requires.order (opening_plan x) code [] (keeps x) AnyData
    c.in_err-plan.ensures.refused tt tally)

pub initialize-requires-clause-made : goal.initialize-requires-clause-made
initialize-requires-clause-made g c =
    made_is_new g.F.FrameStore.kept c.in_ok-plan.plan g.F.EngineSide.state g.met.F.FrameStore.whole
    c.new_stream-made.result c.new_stream-made.ensures

pub returns-clause-goes : goal.returns-clause-goes
returns-clause-goes g c tally =
    let x = c.args.x.now in
    let old = c.args.board.now in
    let plan = c.in_ok-plan.plan in
    core_goes g.D.Devices.faults g.D.Devices.told g.F.FrameStore.kept g.F.EngineSide.moves g.met.F.FrameStore.exact
    (option_map (λ m. m.store) c.new_stream-made.result) (IsFresh x.client.0) old c.initialize.new.self
    (opening_plan x) (code_of c.initialize.result) (payload_of c.initialize.result) tally
    c.initialize.ensures.does c.requires.order.order c.initialize.ensures.order.order (keeps x)
    (no_entry_data g.F.FrameStore.kept x.client.0 old.entries.items c.in_ok-plan.ensures.planned.fresh)
    (made_is_fresh g.F.FrameStore.kept plan c.new_stream-made.result c.new_stream-made.ensures) c.requires.sides

pub returns-clause-core : goal.returns-clause-core
returns-clause-core g c =
    let x = c.args.x.now in
    let old = c.args.board.now in
    let new = c.initialize.new.self in
    let plan = c.in_ok-plan.plan in
    let given = option_map (λ m. m.store) c.new_stream-made.result in
    record {
      order = c.initialize.ensures.order;
      sides = core_sides g.D.Devices.faults g.D.Devices.told g.F.FrameStore.kept g.F.EngineSide.moves
          g.met.F.FrameStore.exact given (IsFresh x.client.0) old new (opening_plan x)
          (code_of c.initialize.result) (payload_of c.initialize.result) no_tally
          c.initialize.ensures.does c.requires.order.order c.initialize.ensures.order.order (keeps x)
          (no_entry_data g.F.FrameStore.kept x.client.0 old.entries.items c.in_ok-plan.ensures.planned.fresh)
          (made_is_fresh g.F.FrameStore.kept plan c.new_stream-made.result c.new_stream-made.ensures) c.requires.sides
          (λ e was is_now from. came_has_side g.F.FrameStore.kept (MovesStore g.F.EngineSide.moves) x plan given
          (made_ends g.F.FrameStore.kept plan c.new_stream-made.result c.new_stream-made.ensures)
          c.in_ok-plan.ensures.planned.names.sizes.most c.in_ok-plan.ensures.planned.names.sizes.longest
          old new c.initialize.result c.initialize.ensures.enters c.initialize.ensures.stays e was is_now);
    }
