use Rattle.std.proofs.Common.{ℕ, not, List, ◌∷◌, [], None, refl, sym, ap, ◌∙◌}
use Rattle.std.specs.Str.{is_utf8}
use Rattle.std.proofs.lemmas.Result.{err_from_is_err_and}
use Rattle.ca_base.specs.declared.codes.Hr.{Hr}
use Rattle.ca_base.specs.declared.codes.TheConstants.Hr as hr
use Rattle.ca_base.specs.Rows.{Row}
use Rattle.ca_machine.specs.Devices.{set_name_plan, with_name}
use Rattle.service_book.proofs.Rows.{row_holds, row_passes}
use Rattle.service_board.specs.Does.{AnyData}
use Rattle.service_board.proofs.NamedDoes.{named_read}
use Rattle.service_board.proofs.NamedRows.{own_says, unnamed_says}
use Rattle.service_board.proofs.PlainEvents.{refused_does}
use Rattle.service_board.proofs.ReplacedEndpoints.{KeepsUse, changing_does, changing_order, is_there}
use Rattle.service_board.proofs.board.Board.set_name.Goals as goal

-- the row of the name
abbrev name_row : List ℕ → List (Row Hr)
name_row name = (not (is_utf8 name), hr.E_INVALIDARG) ∷ []

keeps : (name : List ℕ) → KeepsUse (with_name name)
keeps name = record { replaces = λ e. refl; format = λ e. refl }

pub returns-in_err-at-clause-does : goal.returns-in_err-at-clause-does
returns-in_err-at-clause-does g c =
    let p = err_from_is_err_and c.from_residual.result c.from_residual.ensures.1 in
    rw (p.1, p.2) (refused_does g.D.Devices.faults g.D.Devices.told g.E.EngineSide.moves None AnyData
    g.met.E.EngineSide.none c.args.self.now (λ st. set_name_plan st c.args.e.0 c.args.name.now) c.in_err-at.field-0.0
    (unnamed_says c.args.self.now c.args.e.0 (λ st. name_row c.args.name.now) c.in_err-at.field-0.0
    c.in_err-at.ensures.refused))

pub returns-then-not-is_text-clause-does : goal.returns-then-not-is_text-clause-does
returns-then-not-is_text-clause-does g c =
    refused_does g.D.Devices.faults g.D.Devices.told g.E.EngineSide.moves None AnyData g.met.E.EngineSide.none
    c.args.self.now (λ st. set_name_plan st c.args.e.0 c.args.name.now) hr.E_INVALIDARG
    (own_says c.args.self.now c.args.e.0 c.in_ok-at.at c.in_ok-at.ensures.found (λ st. name_row c.args.name.now) _
    (λ datas tally. row_holds (not (is_utf8 c.args.name.now)) hr.E_INVALIDARG None
    (ap not (sym (c.if-not-is_text.ensures ∙ ap is_utf8 c.as_bytes.ensures.value)))))

pub unreachable-requires : goal.unreachable-requires
unreachable-requires g c =
    let found = c.in_ok-at.ensures.found in
    let read = named_read c.args.e.0 c.args.self.now c.in_ok-at.at found c.endpoints.result.now c.endpoints.ensures.list
    c.index-endpoints-at.result c.index-endpoints-at.is in
    is_there c.args.self.now c.args.e.0 c.in_ok-at.at found (with_name c.args.name.now) (keeps c.args.name.now)
    c.with_name-endpoint.result (c.with_name-endpoint.ensures ∙ sym (ap (with_name c.args.name.now) read))
    c.replace.new.self c.in_default.field-0 c.in_default.ensures

pub returns : goal.returns
returns g c =
    let found = c.in_ok-at.ensures.found in
    let read = named_read c.args.e.0 c.args.self.now c.in_ok-at.at found c.endpoints.result.now c.endpoints.ensures.list
    c.index-endpoints-at.result c.index-endpoints-at.is in
    let is = c.with_name-endpoint.ensures ∙ sym (ap (with_name c.args.name.now) read) in
    record {
      does = changing_does c.args.self.now c.args.e.0 c.in_ok-at.at found (with_name c.args.name.now)
          (keeps c.args.name.now) c.with_name-endpoint.result is c.replace.new.self
          c.requires.order.book.endpoints c.in-Ok.ensures g.D.Devices.faults g.D.Devices.told g.E.EngineSide.moves
          g.met.E.EngineSide.none (λ st. name_row c.args.name.now)
          (λ datas tally. row_passes (not (is_utf8 c.args.name.now)) hr.E_INVALIDARG None
          (ap not (sym (c.if-not-is_text.ensures ∙ ap is_utf8 c.as_bytes.ensures.value))) refl);
      order = changing_order c.args.self.now c.args.e.0 c.in_ok-at.at found (with_name c.args.name.now)
          (keeps c.args.name.now) c.with_name-endpoint.result is c.replace.new.self
          c.requires.order.book.endpoints c.in-Ok.ensures g.E.EngineSide.moves g.met.E.EngineSide.none
          g.E.EngineSide.state c.requires.order;
    }
