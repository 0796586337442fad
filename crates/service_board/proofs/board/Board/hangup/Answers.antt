use Rattle.std.proofs.Common.{◌≡◌, ℕ, List, [], ◌-◌, ◌∙◌, None, filter, length, map, nat_eq, not, refl, slice_set, sym}
use Rattle.std.proofs.Common.{ap, subst, arith}
use Rattle.event_notices.specs.Notices.{Notices, no_notices}
use Rattle.std.proofs.lemmas.List.{length-set, with_items_is}
use Rattle.std.proofs.lemmas.List.Elements.{All-filter}
use Rattle.std.specs.List.{All, IsDistinct}
use Rattle.std.proofs.lemmas.Result.{err_from_is_err_and}
use Rattle.std.specs.Vec.{with_items}
use Rattle.ca_base.specs.declared.codes.TheConstants.Hr as hr
use Rattle.ca_stage.specs.Tally.{tally_after}
use Rattle.ca_machine.specs.declared.state.Connection.{Connection}
use Rattle.ca_machine.specs.State.{is_connection}
use Rattle.ca_machine.specs.Clients.{closes, hangup_plan, is_client_on}
use Rattle.service_book.specs.InOrder.{IsOpen, IsOwned}
use Rattle.service_board.specs.Does.{AnyData}
use Rattle.service_board.specs.declared.board.Board.{Board}
use Rattle.service_board.proofs.PlainEvents.{refused_does}
use Rattle.service_board.proofs.GrantedEvents.{granted_does}
use Rattle.service_board.proofs.LeavingState.{are_closed, leaving_made, leaving_packed, leaving_steps}
use Rattle.service_board.proofs.LeavingState.{none_closed, state_left}
use Rattle.service_board.proofs.LeavingOrder.{apart_left, order_left, owned_left}
use Rattle.service_board.proofs.Connecting.{known_within}
use Rattle.service_board.proofs.board.Board.hangup.Goals as goal

-- the lists of notices, of which that of the connection is empty
cleared : {D E : Type 0} (b : Board D E) (new was : List Notices) (at : ℕ) → was ≡ b.book.notices.items →
    new ≡ slice_set was at no_notices →
    (with_items b.book.notices new).items ≡ slice_set b.book.notices.items at no_notices
cleared b new was at is set =
    let same : new ≡ slice_set b.book.notices.items at no_notices =
    set ∙ ap (λ qs. slice_set qs at no_notices) is in
    with_items_is b.book.notices new
    (ap length same ∙ length-set b.book.notices.items at no_notices ∙ sym b.book.notices.ok.0)
    ∙ same

pub drop_notices-requires-clause-least : goal.drop_notices-requires-clause-least
drop_notices-requires-clause-least g c =
    (known_within c.args.self.now c.args.conn.0 c.requires.order.book c.in_ok-known.ensures).0

pub drop_notices-requires-clause-most : goal.drop_notices-requires-clause-most
drop_notices-requires-clause-most g c =
    let within = known_within c.args.self.now c.args.conn.0 c.requires.order.book c.in_ok-known.ensures in
    let all = c.requires.order.book.rooms.notices in
    omega (arith, within.1)

pub returns-in_err-known-clause-does : goal.returns-in_err-known-clause-does
returns-in_err-known-clause-does g c =
    let p = err_from_is_err_and c.from_residual.result c.from_residual.ensures.1 in
    rw (p.1, p.2) (refused_does g.D.Devices.faults g.D.Devices.told g.E.EngineSide.moves None AnyData
    g.met.E.EngineSide.none c.args.self.now (λ st. hangup_plan st c.args.conn.0) c.in_err-known.field-0.0
    c.in_err-known.ensures)

pub returns-in_err-known-clause-closed : goal.returns-in_err-known-clause-closed
returns-in_err-known-clause-closed g c = none_closed g.E.EngineSide.moves c.args.self.now.entries.items

pub returns-clause-does : goal.returns-clause-does
returns-clause-does g c =
    let old = c.args.self.now in
    let new = c.forget_gone.new.self in
    let book = record (old.book) {
      connections = c.drop_connection.new.connections;
      clients = c.drop_clients.new.clients;
      notices = with_items old.book.notices c.drop_notices.new.all;
    } in
    let test = is_client_on c.args.conn.0 in
    let moves = g.E.EngineSide.moves in
    let forgets = c.forget_gone.ensures in
    let left = c.drop_clients.ensures.left in
    let rises = c.requires.order.book.clients in
    let told = cleared c.args.self.now c.drop_notices.new.all c.deref_mut.result.now
    (c.args.conn.0 - 1) c.deref_mut.ensures.value c.drop_notices.ensures in
    granted_does g.D.Devices.faults g.D.Devices.told moves None AnyData old new (λ st. hangup_plan st c.args.conn.0)
    hr.S_OK [] (leaving_steps moves old new book test forgets left rises)
    (λ st. tally_after st.tally st.stage (closes (filter test old.book.clients.items)))
    (leaving_made moves old new book test forgets left rises None g.met.E.EngineSide.none)
    (leaving_packed moves old new book test forgets left rises)
    (ap (λ b. b.devices) forgets.rest)
    (λ datas tally. record {
      passes = c.in_ok-known.ensures datas tally;
      asks = refl;
      output = refl;
      result_is = refl;
      payload_is = refl;
      after_is =
          state_left moves old new book test forgets left rises datas tally
          (filter (λ x. not (is_connection c.args.conn.0 x)) old.book.connections.items)
          (slice_set old.book.notices.items (c.args.conn.0 - 1) no_notices) c.drop_connection.ensures.left told;
    })

pub returns-clause-order : goal.returns-clause-order
returns-clause-order g c =
    let old = c.args.self.now in
    let book = record (old.book) {
      connections = c.drop_connection.new.connections;
      clients = c.drop_clients.new.clients;
      notices = with_items old.book.notices c.drop_notices.new.all;
    } in
    let others = λ (x : Connection). not (is_connection c.args.conn.0 x) in
    let left = c.drop_connection.ensures.left in
    let told = cleared c.args.self.now c.drop_notices.new.all c.deref_mut.result.now
    (c.args.conn.0 - 1) c.deref_mut.ensures.value c.drop_notices.ensures in
    order_left g.E.EngineSide.state g.E.EngineSide.moves old c.forget_gone.new.self book c.requires.order
    (is_client_on c.args.conn.0) c.forget_gone.ensures c.drop_clients.ensures.left c.drop_clients.ensures.room
    c.drop_connection.ensures.room (ap length told ∙ length-set old.book.notices.items (c.args.conn.0 - 1) no_notices)
    (subst (λ cs. IsDistinct nat_eq (map (λ (x : Connection). x.conn.0) cs)) (sym left)
    (apart_left others old.book.connections.items c.requires.order.book.apart))
    (subst (All IsOpen) (sym left)
    (All-filter others IsOpen old.book.connections.items c.requires.order.book.opens))
    (subst (λ cs. All (IsOwned cs) (filter (λ x. not (is_client_on c.args.conn.0 x)) old.book.clients.items)) (sym left)
    (owned_left c.args.conn.0 old.book.connections.items old.book.clients.items c.requires.order.book.owned))

pub returns-clause-closed : goal.returns-clause-closed
returns-clause-closed g c =
    are_closed g.E.EngineSide.moves c.drop_clients.new.clients.items c.args.self.now.entries.items
    c.forget_gone.new.self.entries.items c.forget_gone.ensures.streams
