use Rattle.std.proofs.Common.{◌∙◌, None, arith, sym}
use Rattle.std.proofs.lemmas.Option.{none-some}
use Rattle.std.proofs.lemmas.Result.{err_from_is_err_and}
use Rattle.ca_machine.specs.Devices.{set_format_plan}
use Rattle.service_board.specs.Does.{AnyData}
use Rattle.service_board.proofs.PlainEvents.{refused_does}
use Rattle.service_board.proofs.DuePeriods.{seats_length}
use Rattle.service_board.proofs.FormatDoes.{format_faulty, format_no_memory, format_unnamed}
use Rattle.service_board.proofs.FormatMade.{made_ends, made_passes, made_valid}
use Rattle.service_board.proofs.board.Board.set_format.Goals as goal

pub returns-in_err-at-clause-does : goal.returns-in_err-at-clause-does
returns-in_err-at-clause-does g c =
    let p = err_from_is_err_and c.from_residual.result c.from_residual.ensures.1 in
    rw (p.1, p.2) (refused_does g.D.Devices.faults g.D.Devices.told g.E.EngineSide.moves None AnyData
    g.met.E.EngineSide.none c.args.self.now (λ st. set_format_plan st c.args.e.0 c.args.format.now)
    c.in_err-at.field-0.0
    (format_unnamed c.args.self.now c.args.e.0 c.args.format.now c.in_err-at.field-0.0 c.in_err-at.ensures.refused))

pub returns-in_default-clause-does : goal.returns-in_default-clause-does
returns-in_default-clause-does g c =
    refused_does g.D.Devices.faults g.D.Devices.told g.E.EngineSide.moves None AnyData g.met.E.EngineSide.none
    c.args.self.now (λ st. set_format_plan st c.args.e.0 c.args.format.now) _
    (format_faulty c.args.self.now c.args.e.0 c.args.format.now c.in_ok-at.at c.in_ok-at.ensures.found
    c.in_default.field-0 c.in_default.ensures)

pub returns-in_default-new-clause-does : goal.returns-in_default-new-clause-does
returns-in_default-new-clause-does g c =
    format_no_memory c.args.self.now c.args.e.0 c.args.format.now c.in_ok-at.at c.in_ok-at.ensures.found
    c.in-Ok.format (sym c.in-Ok.ensures) g.D.Devices.faults g.D.Devices.told g.E.EngineSide.moves
    g.met.E.EngineSide.none

pub replace-requires : goal.replace-requires
replace-requires g c =
    made_valid c.args.self.now c.args.e.0 c.in_ok-at.at c.args.format.now c.endpoints.result.now
    c.index-endpoints-at.result c.with_format-endpoint.result c.in-Ok.format
    (record {
      found = c.in_ok-at.ensures.found;
      list-is = c.endpoints.ensures.list;
      old-read = c.index-endpoints-at.is;
      spells = sym c.in-Ok.ensures;
      made-is = c.with_format-endpoint.ensures;
    })

pub unreachable-requires : goal.unreachable-requires
unreachable-requires g c =
    none-some c.in_default-replace.field-0
    (sym (c.in_default-replace.ensures.says
    ∙ made_passes c.args.self.now c.args.e.0 c.in_ok-at.at c.args.format.now c.endpoints.result.now
    c.index-endpoints-at.result c.with_format-endpoint.result c.in-Ok.format
    (record {
      found = c.in_ok-at.ensures.found;
      list-is = c.endpoints.ensures.list;
      old-read = c.index-endpoints-at.is;
      spells = sym c.in-Ok.ensures;
      made-is = c.with_format-endpoint.ensures;
    })))

pub index-requires : goal.index-requires
index-requires g c =
    let within = c.in_ok-at.ensures.found.within in
    let same = seats_length c.args.self.now.seats.items c.args.self.now.book.registry.list c.requires.order.seats in
    omega arith

pub index_mut-requires : goal.index_mut-requires
index_mut-requires g c =
    let within = c.in_ok-at.ensures.found.within in
    let same = seats_length c.args.self.now.seats.items c.args.self.now.book.registry.list c.requires.order.seats in
    omega arith

pub returns : goal.returns
returns g c =
    let ends =
    made_ends c.args.self.now c.args.e.0 c.in_ok-at.at c.args.format.now c.endpoints.result.now
    c.index-endpoints-at.result c.with_format-endpoint.result c.in-Ok.format
    (record {
      found = c.in_ok-at.ensures.found;
      list-is = c.endpoints.ensures.list;
      old-read = c.index-endpoints-at.is;
      spells = sym c.in-Ok.ensures;
      made-is = c.with_format-endpoint.ensures;
    })
    g.E.EngineSide.moves g.E.EngineSide.state c.requires.order c.disconnect.new.entries c.matches-lost.result
    c.matches-lost.ensures c.disconnect.ensures c.replace.new.self c.in-Ok-replace.ensures.now c.index_mut.result.now
    c.index_mut.ensures.value c.index.result.now c.index.ensures
    (let within = c.in_ok-at.ensures.found.within in
    let same = seats_length c.args.self.now.seats.items c.args.self.now.book.registry.list c.requires.order.seats in
    omega arith)
    c.max-frames.result
    (let most = c.max-frames.ensures in let shared = c.shared_frames.ensures in omega arith)
    (let most = c.max-frames.ensures in let frames = c.frames.ensures in omega arith)
    c.in-Ok-new.block c.in-Ok-new.ensures
    g.D.Devices.faults g.D.Devices.told in
    record { does = ends.0; order = ends.1 }
