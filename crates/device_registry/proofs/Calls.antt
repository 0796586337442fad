-- What calls that change the list answer, and what they leave.
use Rattle.std.proofs.Common.{◌≡◌, ℕ, List, Bool, true, false, refl, sym, ap, ◌∙◌, Option, Some, None, Ok, Err}
use Rattle.std.proofs.Common.{is_none, not, set, if◌then◌else◌}
use Rattle.std.specs.List.{slice_get}
use Rattle.ca_base.specs.declared.codes.TheConstants.Hr as hr
use Rattle.ca_base.specs.Rows.{first}
use Rattle.ca_base.proofs.Numbered.{changed_there}
use Rattle.device_registry.specs.declared.endpoint.Endpoint.{Endpoint}
use Rattle.device_registry.specs.Changes.{Sets, with_changed}
use Rattle.device_registry.specs.Endpoints.{EndpointList, endpoint_at, is_state, number_of}
use Rattle.device_registry.specs.Registry.{IsList}
use Rattle.device_registry.specs.Rows.{found_rows, state_rows}
use Rattle.device_registry.proofs.Finding.{found_number}

-- a call of an endpoint that isn't there
pub not_found : (after book : EndpointList) (o : Option Endpoint) → is_none o ≡ true →
    Sets (found_rows o) after (Err hr.E_NOTFOUND) book book
not_found after book o e = record { says = sym (ap (λ b. if b then Some hr.E_NOTFOUND else None) e); now = refl }

-- a call of one that is
pub found : (after book : EndpointList) (o : Option Endpoint) (new : EndpointList) → is_none o ≡ false →
    new ≡ after → Sets (found_rows o) after (Ok tt) book new
found after book o new e n = record {
  says = sym (ap (λ b. if b then Some hr.E_NOTFOUND else None) e);
  now = n;
}

-- the same of calls that set a state
module _ (state : ℕ) (after book : EndpointList) (o : Option Endpoint) where
  says_of : (none right : Bool) → is_none o ≡ none → is_state state ≡ right →
      first (state_rows state o)
      ≡ (if none then Some hr.E_NOTFOUND else if not right then Some hr.E_INVALIDARG else None)
  says_of none right p q =
      ap (λ b. if b then Some hr.E_NOTFOUND else if not (is_state state) then Some hr.E_INVALIDARG else None) p
      ∙ ap (λ b. if none then Some hr.E_NOTFOUND else if not b then Some hr.E_INVALIDARG else None) q

  pub no_endpoint : is_none o ≡ true → Sets (state_rows state o) after (Err hr.E_NOTFOUND) book book
  no_endpoint p = record { says = sym (says_of true (is_state state) p refl); now = refl }

  pub no_state : is_none o ≡ false → is_state state ≡ false →
      Sets (state_rows state o) after (Err hr.E_INVALIDARG) book book
  no_state p q = record { says = sym (says_of false false p q); now = refl }

  pub state_set : (new : EndpointList) → is_none o ≡ false → is_state state ≡ true → new ≡ after →
      Sets (state_rows state o) after (Ok tt) book new
  state_set new p q n = record { says = sym (says_of false true p q); now = n }

-- the endpoint at its place is changed
pub changed_at : (number at : ℕ) (f : Endpoint → Endpoint) (book : EndpointList) (e : Endpoint) → IsList book →
    endpoint_at number book.list ≡ Some e → slice_get book.list at ≡ Some e →
    record { list = set book.list at (f e); last = book.last } ≡ with_changed number f book
changed_at number at f book e h there here =
    ap (λ (list : List Endpoint). record { list = list; last = book.last })
    (changed_there number_of f 0 book.last at book.list e h.rise here)
    ∙ ap (λ n. with_changed n f book) (found_number number book.list e there)
