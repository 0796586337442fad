use Rattle.std.proofs.Common.{[], None, filter, not, refl, ap}
use Rattle.std.proofs.lemmas.List.Elements.{All-filter}
use Rattle.std.proofs.lemmas.Result.{err_from_is_err_and}
use Rattle.ca_base.specs.declared.codes.TheConstants.Hr as hr
use Rattle.ca_stage.specs.Tally.{tally_after}
use Rattle.ca_machine.specs.State.{is_client_of}
use Rattle.ca_machine.specs.Clients.{closes, release_plan}
use Rattle.service_book.specs.InOrder.{IsOwned}
use Rattle.service_board.specs.Does.{AnyData}
use Rattle.service_board.proofs.PlainEvents.{refused_does}
use Rattle.service_board.proofs.GrantedEvents.{granted_does}
use Rattle.service_board.proofs.LeavingState.{are_closed, leaving_made, leaving_packed, leaving_steps}
use Rattle.service_board.proofs.LeavingState.{none_closed, state_left}
use Rattle.service_board.proofs.LeavingOrder.{order_left}
use Rattle.service_board.proofs.board.Board.release.Goals as goal

pub returns-in_err-live_client-clause-does : goal.returns-in_err-live_client-clause-does
returns-in_err-live_client-clause-does g c =
    let p = err_from_is_err_and c.from_residual.result c.from_residual.ensures.1 in
    rw (p.1, p.2) (refused_does g.D.Devices.faults g.D.Devices.told g.E.EngineSide.moves None AnyData
    g.met.E.EngineSide.none c.args.self.now (λ st. release_plan st c.args.conn.0 c.args.client.0)
    c.in_err-live_client.field-0.0 c.in_err-live_client.ensures.refused)

pub returns-in_err-live_client-clause-closed : goal.returns-in_err-live_client-clause-closed
returns-in_err-live_client-clause-closed g c = none_closed g.E.EngineSide.moves c.args.self.now.entries.items

pub returns-clause-does : goal.returns-clause-does
returns-clause-does g c =
    let old = c.args.self.now in
    let new = c.forget_gone.new.self in
    let book = record (old.book) { clients = c.drop_client.new.clients } in
    let test = is_client_of c.args.conn.0 c.args.client.0 in
    let moves = g.E.EngineSide.moves in
    let forgets = c.forget_gone.ensures in
    let left = c.drop_client.ensures.left in
    let rises = c.requires.order.book.clients in
    granted_does g.D.Devices.faults g.D.Devices.told moves None AnyData old new
    (λ st. release_plan st c.args.conn.0 c.args.client.0) hr.S_OK []
    (leaving_steps moves old new book test forgets left rises)
    (λ st. tally_after st.tally st.stage (closes (filter test old.book.clients.items)))
    (leaving_made moves old new book test forgets left rises None g.met.E.EngineSide.none)
    (leaving_packed moves old new book test forgets left rises)
    (ap (λ b. b.devices) forgets.rest)
    (λ datas tally. record {
      passes = c.in_ok-live_client.ensures.found.says datas tally;
      asks = refl;
      output = refl;
      result_is = refl;
      payload_is = refl;
      after_is = state_left moves old new book test forgets left rises datas tally old.book.connections.items
          old.book.notices.items refl refl;
    })

pub returns-clause-order : goal.returns-clause-order
returns-clause-order g c =
    let old = c.args.self.now in
    order_left g.E.EngineSide.state g.E.EngineSide.moves old c.forget_gone.new.self
    (record (old.book) { clients = c.drop_client.new.clients }) c.requires.order
    (is_client_of c.args.conn.0 c.args.client.0) c.forget_gone.ensures c.drop_client.ensures.left
    c.drop_client.ensures.room refl refl c.requires.order.book.apart c.requires.order.book.opens
    (All-filter (λ x. not (is_client_of c.args.conn.0 c.args.client.0 x)) (IsOwned old.book.connections.items)
    old.book.clients.items c.requires.order.book.owned)

pub returns-clause-closed : goal.returns-clause-closed
returns-clause-closed g c =
    are_closed g.E.EngineSide.moves c.drop_client.new.clients.items c.args.self.now.entries.items
    c.forget_gone.new.self.entries.items c.forget_gone.ensures.streams
