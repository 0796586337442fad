-- Calls that change the list of endpoints (this project's own).
use Rattle.std.specs.Prelude.{◌≡◌, ℕ, List, Result, is_ok, if◌then◌else◌}
use Rattle.std.specs.Result.{result_err}
use Rattle.ca_base.specs.declared.codes.Hr.{Hr}
use Rattle.ca_base.specs.Rows.{Row, first}
use Rattle.device_registry.specs.declared.endpoint.Endpoint.{Endpoint}
use Rattle.device_registry.specs.Endpoints.{EndpointList, changed, removed}

-- the one of this number is changed, if it is there
abbrev pub with_changed : ℕ → (Endpoint → Endpoint) → EndpointList → EndpointList
with_changed number f book = record book { list = changed number f book.list }

-- the one of this number is gone: the greatest number that was ever added stays
abbrev pub without : ℕ → EndpointList → EndpointList
without number book = record book { list = removed number book.list }

-- a call answers the first row that holds, and changes nothing then
pub record Sets (rows : List (Row Hr)) (after : EndpointList) (result : Result (Unit {0}) Hr)
    (old new : EndpointList) : Type 0 where
  pub says : result_err result ≡ first rows
  pub now : new ≡ (if is_ok result then after else old)
