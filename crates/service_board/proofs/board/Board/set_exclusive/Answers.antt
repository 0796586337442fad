use Rattle.std.proofs.Common.{ℕ, ◌||◌, nat_lt, List, ◌∷◌, [], None, refl, sym, ap, ◌∙◌}
use Rattle.std.proofs.lemmas.Result.{err_from_is_err_and}
use Rattle.ca_base.specs.declared.codes.Hr.{Hr}
use Rattle.ca_base.specs.declared.codes.TheConstants.Hr as hr
use Rattle.ca_base.specs.Rows.{Row}
use Rattle.ca_machine.specs.Devices.{set_exclusive_plan, with_exclusive}
use Rattle.service_book.proofs.Rows.{row_holds, row_passes}
use Rattle.service_board.specs.Does.{AnyData}
use Rattle.service_board.proofs.NamedDoes.{named_read}
use Rattle.service_board.proofs.NamedRows.{own_says, unnamed_says}
use Rattle.service_board.proofs.PlainEvents.{refused_does}
use Rattle.service_board.proofs.ReplacedEndpoints.{KeepsUse, changing_does, changing_order, is_there}
use Rattle.service_board.proofs.board.Board.set_exclusive.Goals as goal

-- the row of the values
abbrev values_row : ℕ → ℕ → List (Row Hr)
values_row allow priority = (nat_lt 1 allow || nat_lt 1 priority, hr.E_INVALIDARG) ∷ []

keeps : (allow priority : ℕ) → KeepsUse (with_exclusive allow priority)
keeps allow priority = record { replaces = λ e. refl; format = λ e. refl }

pub returns-in_err-at-clause-does : goal.returns-in_err-at-clause-does
returns-in_err-at-clause-does g c =
    let p = err_from_is_err_and c.from_residual.result c.from_residual.ensures.1 in
    rw (p.1, p.2) (refused_does g.D.Devices.faults g.D.Devices.told g.E.EngineSide.moves None AnyData
    g.met.E.EngineSide.none c.args.self.now (λ st. set_exclusive_plan st c.args.e.0 c.args.allow c.args.priority) c.in_err-at.field-0.0
    (unnamed_says c.args.self.now c.args.e.0 (λ st. values_row c.args.allow c.args.priority) c.in_err-at.field-0.0
    c.in_err-at.ensures.refused))

pub returns-then-is_wrong_use-clause-does : goal.returns-then-is_wrong_use-clause-does
returns-then-is_wrong_use-clause-does g c =
    refused_does g.D.Devices.faults g.D.Devices.told g.E.EngineSide.moves None AnyData g.met.E.EngineSide.none
    c.args.self.now (λ st. set_exclusive_plan st c.args.e.0 c.args.allow c.args.priority) hr.E_INVALIDARG
    (own_says c.args.self.now c.args.e.0 c.in_ok-at.at c.in_ok-at.ensures.found (λ st. values_row c.args.allow c.args.priority) _
    (λ datas tally. row_holds (nat_lt 1 c.args.allow || nat_lt 1 c.args.priority) hr.E_INVALIDARG None
    (sym c.if-is_wrong_use.ensures)))

pub unreachable-requires : goal.unreachable-requires
unreachable-requires g c =
    let found = c.in_ok-at.ensures.found in
    let read = named_read c.args.e.0 c.args.self.now c.in_ok-at.at found c.endpoints.result.now c.endpoints.ensures.list
    c.index-endpoints-at.result c.index-endpoints-at.is in
    is_there c.args.self.now c.args.e.0 c.in_ok-at.at found (with_exclusive c.args.allow c.args.priority) (keeps c.args.allow c.args.priority)
    c.with_exclusive-endpoint.result (c.with_exclusive-endpoint.ensures ∙ sym (ap (with_exclusive c.args.allow c.args.priority) read))
    c.replace.new.self c.in_default.field-0 c.in_default.ensures

pub returns : goal.returns
returns g c =
    let found = c.in_ok-at.ensures.found in
    let read = named_read c.args.e.0 c.args.self.now c.in_ok-at.at found c.endpoints.result.now c.endpoints.ensures.list
    c.index-endpoints-at.result c.index-endpoints-at.is in
    let is = c.with_exclusive-endpoint.ensures ∙ sym (ap (with_exclusive c.args.allow c.args.priority) read) in
    record {
      does = changing_does c.args.self.now c.args.e.0 c.in_ok-at.at found (with_exclusive c.args.allow c.args.priority)
          (keeps c.args.allow c.args.priority) c.with_exclusive-endpoint.result is c.replace.new.self
          c.requires.order.book.endpoints c.in-Ok.ensures g.D.Devices.faults g.D.Devices.told g.E.EngineSide.moves
          g.met.E.EngineSide.none (λ st. values_row c.args.allow c.args.priority)
          (λ datas tally. row_passes (nat_lt 1 c.args.allow || nat_lt 1 c.args.priority) hr.E_INVALIDARG None
          (sym c.if-is_wrong_use.ensures) refl);
      order = changing_order c.args.self.now c.args.e.0 c.in_ok-at.at found (with_exclusive c.args.allow c.args.priority)
          (keeps c.args.allow c.args.priority) c.with_exclusive-endpoint.result is c.replace.new.self
          c.requires.order.book.endpoints c.in-Ok.ensures g.E.EngineSide.moves g.met.E.EngineSide.none
          g.E.EngineSide.state c.requires.order;
    }
