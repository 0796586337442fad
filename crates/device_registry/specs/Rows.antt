-- What refuses changes of the list of endpoints (the order of the rows is this project's own).
use Rattle.std.specs.Prelude.{ℕ, nat_le, not, List, [], ◌∷◌, ◌++◌, length, Option, is_none}
use Rattle.ca_base.specs.declared.codes.Hr.{Hr}
use Rattle.ca_base.specs.declared.codes.TheConstants.Hr as hr
use Rattle.ca_base.specs.declared.limits.TheConstants.{ENDPOINTS}
use Rattle.ca_base.specs.Rows.{Row}
use Rattle.device_registry.specs.declared.endpoint.Endpoint.{Endpoint}
use Rattle.device_registry.specs.Endpoints.{EndpointList, is_state}

-- an endpoint would be added: its number isn't above all that were ever added, or all places are taken
abbrev pub add_rows : ℕ → EndpointList → List (Row Hr)
add_rows number book =
    (nat_le number book.last, hr.E_INVALIDARG) ∷ (nat_le ENDPOINTS (length book.list), hr.ENDPOINTS_FULL) ∷ []

-- the endpoint that a call names isn't there
abbrev pub found_rows : Option Endpoint → List (Row Hr)
found_rows e = (is_none e, hr.E_NOTFOUND) ∷ []

-- or it is, and the state that it would have is none
abbrev pub state_rows : ℕ → Option Endpoint → List (Row Hr)
state_rows state e = found_rows e ++ (not (is_state state), hr.E_INVALIDARG) ∷ []
