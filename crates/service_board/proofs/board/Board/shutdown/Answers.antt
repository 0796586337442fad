use Rattle.std.proofs.Common.{[], None, true, refl, ap}
use Rattle.std.proofs.lemmas.Bool.{true≢false}
use Rattle.std.proofs.lemmas.Result.{err_from_is_err_and}
use Rattle.ca_base.specs.declared.ids.Reason.TheVariants.{Shutdown}
use Rattle.ca_stage.specs.Tally.{tally_after}
use Rattle.ca_machine.specs.Devices.{shutdown_plan}
use Rattle.service_book.specs.BookState.{book_state}
use Rattle.service_board.specs.Does.{AnyData}
use Rattle.service_board.proofs.Disconnecting.{close_moves, disconnects_does, stage_before, stage_moved}
use Rattle.service_board.proofs.DisconnectedOrder.{disconnected_order, other_book}
use Rattle.service_board.proofs.PlainEvents.{not_asked, refused_does}
use Rattle.service_board.proofs.board.Board.shutdown.Goals as goal

pub returns-in_err-runs-clause-does : goal.returns-in_err-runs-clause-does
returns-in_err-runs-clause-does g c =
    let p = err_from_is_err_and c.from_residual.result c.from_residual.ensures.1 in
    rw (p.1, p.2) (refused_does g.D.Devices.faults g.D.Devices.told g.E.EngineSide.moves None AnyData
    g.met.E.EngineSide.none c.args.self.now (λ st. shutdown_plan st) c.in_err-runs.field-0.0 c.in_err-runs.ensures)

pub disconnect-requires : goal.disconnect-requires
disconnect-requires g c = c.requires.order.rested

pub returns-clause-does : goal.returns-clause-does
returns-clause-does g c =
    let b = c.args.self.now in
    let moves = g.E.EngineSide.moves in
    let state = g.E.EngineSide.state in
    let entries = c.disconnect.new.entries in
    let loses = c.disconnect.ensures in
    let book = record (b.book) { is_shut = true } in
    disconnects_does moves state b c.requires.order true Shutdown None entries loses book b.seats
    g.D.Devices.faults g.D.Devices.told (λ st. shutdown_plan st) [] c.in_ok-runs.ensures not_asked
    (λ datas tally. refl)
    (λ datas tally. record {
      result = refl;
      payload = refl;
      output = refl;
      after_is =
          ap (λ stage. book_state book stage
          (tally_after tally (stage_before moves state b c.requires.order true Shutdown None entries loses datas)
          (close_moves moves state b c.requires.order true Shutdown None entries loses datas)))
          (stage_moved moves state b c.requires.order true Shutdown None entries loses b.seats.items datas refl);
    })

pub returns-clause-order : goal.returns-clause-order
returns-clause-order g c =
    let b = c.args.self.now in
    let order = c.requires.order in
    disconnected_order g.E.EngineSide.moves g.E.EngineSide.state b order true Shutdown None c.disconnect.new.entries
    c.disconnect.ensures (record (b.book) { is_shut = true }) b.seats refl refl refl
    (λ e left on. absurd (true≢false left)) order.seats
    (other_book b.book b.book.registry b.book.choices true order.book.endpoints order.book.added order.book)
    order.seat_room
