-- The endpoint that a device event names (this project's own).
use Rattle.std.specs.Prelude.{◌≡◌, ℕ, ◌<◌, length, None, Some, slice_get}
use Rattle.std.specs.List.{find}
use Rattle.device_registry.specs.declared.endpoint.Endpoint.{Endpoint}
use Rattle.device_registry.specs.Endpoints.{is_endpoint}
use Rattle.ca_machine.specs.Devices.{missing_rows}
use Rattle.service_board.specs.Lookups.{Says}
use Rattle.service_board.specs.declared.board.Board.{Board}

-- at this place stands the endpoint of this number, and no row refuses the event that names it
pub record FindsNamed {D E : Type 0} (number : ℕ) (b : Board D E) (at : ℕ) : Type 0 where
  pub within : at < length b.book.registry.list
  pub endpoint : Endpoint
  pub here : slice_get b.book.registry.list at ≡ Some endpoint
  pub found : find (is_endpoint number) b.book.registry.list ≡ Some endpoint
  pub number_is : endpoint.no.0 ≡ number
  pub says : Says b (λ st. missing_rows st number) None
