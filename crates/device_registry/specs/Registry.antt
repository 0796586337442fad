-- What holds of endpoints at any time (this project's own).
use Rattle.std.specs.Prelude.{◌≡◌, ◌≤◌, length, true}
use Rattle.std.specs.List.{AllByRecursion}
use Rattle.std.specs.Vec.{vec_capacity}
use Rattle.ca_base.specs.declared.limits.TheConstants.{ENDPOINTS}
use Rattle.ca_base.specs.Numbered.{Rise}
use Rattle.wave_format.specs.Format.{IsValid}
use Rattle.device_registry.specs.declared.endpoint.Endpoint.{Endpoint}
use Rattle.device_registry.specs.declared.registry.Registry.TheInside.{Inside}
use Rattle.device_registry.specs.Endpoints.{EndpointList, is_state, number_of}

-- an endpoint's state is one of the four (DEVICE_STATE_XXX), and bytes can spell its format
pub record IsEndpoint (e : Endpoint) : Type 0 where
  pub state : is_state e.state ≡ true
  pub format : IsValid e.format

-- the numbers rise from above 0 up to the greatest one ever added, and the endpoints are few
pub record IsList (book : EndpointList) : Type 0 where
  pub rise : Rise number_of 0 book.last book.list
  pub each : AllByRecursion IsEndpoint book.list
  pub few : length book.list ≤ ENDPOINTS

-- the list, and memory for as many endpoints as there may be
pub record IsRegistry (r : Inside) : Type 0 where
  pub list : IsList (record { list = r.endpoints.items; last = r.last })
  pub room : ENDPOINTS ≤ vec_capacity r.endpoints
