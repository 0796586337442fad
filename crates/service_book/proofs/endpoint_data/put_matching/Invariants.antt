use Rattle.std.proofs.Common.{◌≡◌, ◌≤◌, ◌++◌, length, drop, map, take}
use Rattle.ca_base.specs.declared.limits.TheConstants.{ENDPOINTS}
use Rattle.device_registry.specs.Endpoints.{matching}
use Rattle.service_book.proofs.endpoint_data.put_matching.Given as goal

-- the numbers so far, and those that are to come
abbrev pub invariant-endpoints : goal.invariant-endpoints
invariant-endpoints l = record {
  numbers : take l.count l.numbers ++ map (λ e. e.no) (matching l.flow l.mask (drop l.e-index l.list))
      ≡ map (λ e. e.no) (matching l.flow l.mask l.list);
  few : l.count ≤ l.e-index;
  whole : length l.numbers ≡ ENDPOINTS;
}
