-- How devices in memory keep one endpoint. This project's own.
use Rattle.std.specs.Prelude.{ℕ, ◌==◌, ◌≤◌, Bool, List, length, drop, map}
use Rattle.ca_base.specs.WithinCapacity.{WithinCapacity}
use Rattle.device_io.specs.DeviceLog.{DeviceLog}
use Rattle.device_io.specs.declared.endpoints.MemEndpoint.{MemEndpoint}

-- the log of an endpoint in memory
abbrev pub log_of : MemEndpoint → DeviceLog
log_of m = record { endpoint = m.endpoint.0; written = m.written.list; left = drop m.given m.left.list }

-- the logs of endpoints in memory
abbrev pub logs_of : List MemEndpoint → List DeviceLog
logs_of endpoints = map log_of endpoints

-- whether an endpoint in memory has this number
abbrev pub is_of : ℕ → MemEndpoint → Bool
is_of e m = e == m.endpoint.0

-- an endpoint gave at most what there was, and what was written to it is within the capacity that it has taken
pub record IsSound (capacity : ℕ) (m : MemEndpoint) : Type 0 where
  pub given : m.given ≤ length m.left.list
  pub written : WithinCapacity m.written capacity
