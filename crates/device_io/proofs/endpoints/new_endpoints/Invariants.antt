use Rattle.std.proofs.Common.{◌≡◌, map}
use Rattle.std.specs.List.{All}
use Rattle.device_io.specs.MemEndpoints.{logs_of, IsSound}
use Rattle.device_io.specs.Memory.{new_log}
use Rattle.device_io.proofs.endpoints.new_endpoints.Given as goal

-- the endpoints so far are those of the pairs so far
abbrev pub invariant-loop-number : goal.invariant-loop-number
invariant-loop-number l = record {
  logs : logs_of l.endpoints.items ≡ map (λ p. new_log p.0.0 p.1.list) l.yielded;
  sound : All (IsSound l.capacity) l.endpoints.items;
}
