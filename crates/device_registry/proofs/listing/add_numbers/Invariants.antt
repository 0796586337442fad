use Rattle.std.proofs.Common.{◌≡◌, ◌+◌, ◌-◌, ◌≤◌, ◌++◌, length, drop, map, vec_len, vec_capacity}
use Rattle.device_registry.specs.Endpoints.{matching}
use Rattle.device_registry.proofs.listing.add_numbers.Given as goal

abbrev pub invariant-endpoints : goal.invariant-endpoints
invariant-endpoints l = record {
  numbers : l.out.items ++ map (λ e. e.no) (matching l.flow l.mask (drop l.e-index l.list))
      ≡ l.initial.out.items ++ map (λ e. e.no) (matching l.flow l.mask l.list);
  room : vec_len l.out + (length l.list - l.e-index) ≤ vec_capacity l.out;
  keeps : vec_capacity l.out ≡ vec_capacity l.initial.out;
}
