-- The rows of an event that names an endpoint.
use Rattle.std.proofs.Common.{◌≡◌, ℕ, List, [], ◌∷◌, ◌++◌, Option, Some, None, is_none, ap, eqb-true}
use Rattle.std.proofs.Common.{not, if◌then◌else◌}
use Rattle.std.specs.List.{position}
use Rattle.ca_base.specs.declared.codes.Hr.{Hr}
use Rattle.ca_base.specs.declared.codes.TheConstants.Hr as hr
use Rattle.ca_base.specs.Rows.{Row}
use Rattle.device_registry.specs.Endpoints.{is_endpoint, is_state}
use Rattle.ca_machine.specs.State.{State, endpoint_at}
use Rattle.ca_machine.specs.Devices.{missing_rows, set_state_plan}
use Rattle.ca_machine.specs.SharedRows.{shut_rows}
use Rattle.service_book.proofs.Finding.{found_at, none_at}
use Rattle.service_board.specs.Lookups.{Says}
use Rattle.service_board.specs.NamedEndpoints.{FindsNamed}
use Rattle.service_board.specs.declared.board.Board.{Board}
use Rattle.service_board.proofs.LookingUp.{says_front, says_later}

module _ {D E : Type 0} (b : Board D E) (number : ℕ) where
  abbrev missing_row : State → List (Row Hr)
  missing_row st = (is_none (endpoint_at number st), hr.E_NOTFOUND) ∷ []

  pub shut_says : (code : Hr) → Says b shut_rows (Some code) → Says b (λ st. missing_rows st number) (Some code)
  shut_says code says = says_front b shut_rows missing_row code says

  pub missing_says : Says b shut_rows None → None ≡ position (is_endpoint number) b.book.registry.list →
      Says b (λ st. missing_rows st number) (Some hr.E_NOTFOUND)
  missing_says runs none =
      says_later b shut_rows missing_row (Some hr.E_NOTFOUND) runs
      (λ datas tally. ap (λ o. if is_none o then Some hr.E_NOTFOUND else None)
      (none_at (is_endpoint number) b.book.registry.list none))

  pub finds_named : Says b shut_rows None → (at : ℕ) →
      Some at ≡ position (is_endpoint number) b.book.registry.list → FindsNamed number b at
  finds_named runs at there =
      let f = found_at (is_endpoint number) b.book.registry.list at there in
      record {
        within = f.within;
        endpoint = f.member;
        here = f.here;
        found = f.found;
        number_is = eqb-true f.member.no.0 number f.passes;
        says =
            says_later b shut_rows missing_row None runs
            (λ datas tally. ap (λ o. if is_none o then Some hr.E_NOTFOUND else None) f.found);
      }

  -- rows of an event's own behind them
  pub own_says : (at : ℕ) → FindsNamed number b at → (rows : State → List (Row Hr)) (verdict : Option Hr) →
      Says b rows verdict → Says b (λ st. missing_rows st number ++ rows st) verdict
  own_says at found rows verdict says = says_later b (λ st. missing_rows st number) rows verdict found.says says

  pub unnamed_says : (rows : State → List (Row Hr)) (code : Hr) →
      Says b (λ st. missing_rows st number) (Some code) →
      Says b (λ st. missing_rows st number ++ rows st) (Some code)
  unnamed_says rows code says = says_front b (λ st. missing_rows st number) rows code says

  pub state_unnamed : (to : ℕ) (code : Hr) → Says b (λ st. missing_rows st number) (Some code) →
      Says b (λ st. (set_state_plan st number to).rows) (Some code)
  state_unnamed to code says = unnamed_says (λ st. (not (is_state to), hr.E_INVALIDARG) ∷ []) code says
