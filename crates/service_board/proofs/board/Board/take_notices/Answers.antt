use Rattle.std.proofs.Common.{map, None, ap, ◌∙◌, arith}
use Rattle.std.proofs.lemmas.Result.{err_from_is_err_and}
use Rattle.ca_machine.specs.Registrations.{take_notices_plan, unflagged}
use Rattle.service_board.specs.Does.{AnyData}
use Rattle.service_board.proofs.PlainEvents.{refused_does}
use Rattle.service_board.proofs.TakingNotices.{take_done, take_order}
use Rattle.service_board.proofs.board.Board.take_notices.Goals as goal

pub returns-in_err-at-clause-does : goal.returns-in_err-at-clause-does
returns-in_err-at-clause-does g c =
    let p = err_from_is_err_and c.from_residual.result c.from_residual.ensures.1 in
    rw (p.1, p.2, c.requires.empty) (refused_does g.D.Devices.faults g.D.Devices.told g.E.EngineSide.moves None AnyData
    g.met.E.EngineSide.none c.args.self.now (λ st. take_notices_plan st c.args.conn.0 c.args.max)
    c.in_err-at.field-0.0 c.in_err-at.ensures.refused)

pub returns-clause-does : goal.returns-clause-does
returns-clause-does g c =
    rw (c.put_notices.ensures.list, c.deref.ensures.value, c.deref_mut-clients.ensures.value)
    (take_done c.args.self.now c.args.conn.0 c.in_ok-at.at c.take-lost.new.self c.take-lost.new.out
    c.take_events.new.clients
    (c.take_events.ensures ∙ ap (map (unflagged c.args.conn.0)) c.deref_mut-clients.ensures.value)
    g.D.Devices.faults g.D.Devices.told g.E.EngineSide.moves g.met.E.EngineSide.none c.args.max
    c.index_mut.result.now c.in_ok-at.ensures.found c.index_mut.ensures.value c.take-lost.result
    c.take-lost.ensures.lost c.take-lost.ensures.notices c.take-lost.ensures.after)

pub returns-clause-order : goal.returns-clause-order
returns-clause-order g c =
    let room = c.requires.order.draft_room in
    let keeps = c.take-lost.ensures.keeps in
    take_order c.args.self.now c.args.conn.0 c.in_ok-at.at c.take-lost.new.self c.take-lost.new.out
    c.take_events.new.clients
    (c.take_events.ensures ∙ ap (map (unflagged c.args.conn.0)) c.deref_mut-clients.ensures.value)
    g.E.EngineSide.state (omega (arith, c.clear.ensures.capacity)) c.requires.order
