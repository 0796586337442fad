-- The endpoint at a place, as it is read there.
use Rattle.std.proofs.Common.{◌≡◌, ℕ, true, Some, sym, ap, ◌∙◌}
use Rattle.std.proofs.Common.{get_or}
use Rattle.std.proofs.Common.{eqb-true}
use Rattle.std.specs.List.{position}
use Rattle.std.proofs.lemmas.Option.{get_or_from_slice_get}
use Rattle.ca_base.specs.declared.values.TheConstants.{STATE_ACTIVE}
use Rattle.device_registry.specs.declared.endpoint.Endpoint.{Endpoint}
use Rattle.device_registry.specs.Endpoints.{is_endpoint}
use Rattle.ca_machine.specs.SharedRows.{is_inactive}
use Rattle.service_book.specs.Lookups.{IsActiveAt, LacksActive}
use Rattle.service_book.specs.declared.book.Book.{Book}
use Rattle.service_book.proofs.Finding.{FoundAt, found_at}

-- the endpoint at a place, as it is read there
module _ (book : Book) (number at : ℕ) (e : Endpoint)
    (there : Some at ≡ position (is_endpoint number) book.registry.list)
    (read : e ≡ get_or book.registry.list at e) where
  read_is : (f : FoundAt (is_endpoint number) book.registry.list at) → f.member ≡ e
  read_is f = sym (get_or_from_slice_get book.registry.list at f.member e f.here) ∙ sym read

  pub active_there : e.state ≡ STATE_ACTIVE → IsActiveAt number book at
  active_there active =
      let f = found_at (is_endpoint number) book.registry.list at there in
      record {
        within = f.within;
        endpoint = f.member;
        here = f.here;
        found = f.found;
        number_is = eqb-true f.member.no.0 number f.passes;
        active = ap (λ x. x.state) (read_is f) ∙ active;
      }

  pub inactive_there : is_inactive (Some e) ≡ true → LacksActive number book
  inactive_there other =
      let f = found_at (is_endpoint number) book.registry.list at there in
      ap is_inactive (f.found ∙ ap (λ x. Some x) (read_is f)) ∙ other
