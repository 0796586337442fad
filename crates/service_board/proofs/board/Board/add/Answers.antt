use Rattle.std.proofs.Common.{◌≡◌, ◌∙◌, ap₂, sym, None, arith, refl}
use Rattle.std.proofs.lemmas.Option.{none-some}
use Rattle.std.proofs.lemmas.Result.{err_from_is_err_and}
use Rattle.ca_machine.specs.Devices.{add_plan, new_endpoint}
use Rattle.wave_format.specs.declared.format.Format.{Format}
use Rattle.wave_format.proofs.FormatLaws.{read-valid}
use Rattle.device_registry.specs.declared.endpoint.Endpoint.{Endpoint}
use Rattle.service_board.specs.Does.{AnyData}
use Rattle.service_board.specs.declared.board.Seat.{Seat}
use Rattle.service_board.proofs.AddDoes.{add_does, added_order, flow_is, free_to_add, no_memory, seat_made}
use Rattle.service_board.proofs.AddRows.{free_rows, read_is}
use Rattle.service_board.proofs.PlainEvents.{refused_does}
use Rattle.service_board.proofs.DuePeriods.{seats_length}
use Rattle.service_board.proofs.board.Board.add.Goals as goal

pub returns-in_err-format-clause-does : goal.returns-in_err-format-clause-does
returns-in_err-format-clause-does g c =
    let p = err_from_is_err_and c.from_residual.result c.from_residual.ensures.1 in
    rw (p.1, p.2) (refused_does g.D.Devices.faults g.D.Devices.told g.E.EngineSide.moves None AnyData
    g.met.E.EngineSide.none c.args.self.now
    (λ st. add_plan st c.args.number.0 c.args.flow c.args.format.now c.args.name.now) c.in_err-format.field-0.0
    c.in_err-format.ensures.refused)

pub returns-in_default-clause-does : goal.returns-in_default-clause-does
returns-in_default-clause-does g c =
    no_memory g.E.EngineSide.state c.args.self.now c.requires.order c.args.number.0 c.args.flow c.args.format.now
    c.args.name.now c.in_ok-format.ensures.free g.D.Devices.faults g.D.Devices.told g.E.EngineSide.moves
    g.met.E.EngineSide.none

pub flow_of-requires : goal.flow_of-requires
flow_of-requires g c =
    (free_to_add g.E.EngineSide.state c.args.self.now c.requires.order c.args.number.0 c.args.flow c.args.format.now
    c.args.name.now c.in_ok-format.ensures.free).2

pub add-requires-clause-format : goal.add-requires-clause-format
add-requires-clause-format g c = read-valid c.args.format.now c.in_ok-format.format c.in_ok-format.ensures.format

pub unreachable-requires : goal.unreachable-requires
unreachable-requires g c =
    let b = c.args.self.now in
    let free =
    free_to_add g.E.EngineSide.state b c.requires.order c.args.number.0 c.args.flow c.args.format.now c.args.name.now
    c.in_ok-format.ensures.free in
    none-some c.in_default-add.field-0
    (sym (c.in_default-add.ensures.says
    ∙ free_rows b.book.registry c.args.number.0 (free.0, free.1)))

pub push_reserved-requires : goal.push_reserved-requires
push_reserved-requires g c =
    let free =
    free_to_add g.E.EngineSide.state c.args.self.now c.requires.order c.args.number.0 c.args.flow c.args.format.now
    c.args.name.now c.in_ok-format.ensures.free in
    let room = c.requires.order.seat_room in
    let same =
    seats_length c.args.self.now.seats.items c.args.self.now.book.registry.list c.requires.order.seats in
    omega (arith, free.0)

pub returns : goal.returns
returns g c =
    let b = c.args.self.now in
    let number = c.args.number.0 in
    let bytes = c.args.format.now in
    let format = c.in_ok-format.format in
    let asked : Endpoint = new_endpoint number c.args.flow bytes c.args.name.now in
    let endpoint : Endpoint = record asked { format = format; flow = c.flow_of.result } in
    let seat : Seat = record { endpoint = c.args.number; next = 0; block = c.in-Ok.block } in
    let new = record b { book = record (b.book) { registry = c.add.new.self }; seats = c.push_reserved.new.self } in
    let same : endpoint ≡ asked =
    ap₂ (λ (f : Format) flow. record asked { format = f; flow = flow })
    (read_is bytes format c.in_ok-format.ensures.format).1
    (flow_is c.flow_of.result c.args.flow c.flow_of.ensures) in
    record {
      does = add_does g.E.EngineSide.state b c.requires.order number c.args.flow bytes c.args.name.now
          c.in_ok-format.ensures.free new endpoint seat c.in-Ok-add.ensures.now c.push_reserved.ensures.items same refl
          g.D.Devices.faults g.D.Devices.told g.E.EngineSide.moves g.met.E.EngineSide.none;
      order = added_order g.E.EngineSide.state b c.requires.order number c.args.flow bytes c.args.name.now
          c.in_ok-format.ensures.free new endpoint seat c.in-Ok-add.ensures.now c.push_reserved.ensures.items same refl
          c.push_reserved.ensures.capacity
          (seat_made seat endpoint refl (omega arith) c.shared_frames.result
          (let frames = c.shared_frames.ensures in omega arith) c.in-Ok.ensures
          (read-valid bytes format c.in_ok-format.ensures.format));
    }
