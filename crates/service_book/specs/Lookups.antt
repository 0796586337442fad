-- What look-ups in the book find (this project's own).
use Rattle.std.specs.Prelude.{◌≡◌, ℕ, ◌<◌, length, true, Some}
use Rattle.std.specs.Prelude.{slice_get}
use Rattle.std.specs.List.{find}
use Rattle.ca_base.specs.declared.values.TheConstants.{STATE_ACTIVE}
use Rattle.device_registry.specs.declared.endpoint.Endpoint.{Endpoint}
use Rattle.device_registry.specs.Endpoints.{is_endpoint}
use Rattle.ca_machine.specs.SharedRows.{is_inactive}
use Rattle.service_book.specs.declared.book.Book.{Book}

-- an endpoint isn't there, or isn't ACTIVE
abbrev pub LacksActive : ℕ → Book → Type 0
LacksActive number book = is_inactive (find (is_endpoint number) book.registry.list) ≡ true

-- at this place stands an endpoint, which is ACTIVE
pub record IsActiveAt (number : ℕ) (book : Book) (at : ℕ) : Type 0 where
  pub within : at < length book.registry.list
  pub endpoint : Endpoint
  pub here : slice_get book.registry.list at ≡ Some endpoint
  pub found : find (is_endpoint number) book.registry.list ≡ Some endpoint
  pub number_is : endpoint.no.0 ≡ number
  pub active : endpoint.state ≡ STATE_ACTIVE
