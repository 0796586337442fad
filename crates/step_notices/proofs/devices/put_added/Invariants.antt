use Rattle.std.proofs.Common.{◌≡◌, ◌+◌, ◌-◌, ◌≤◌, ◌++◌, length, drop, vec_capacity}
use Rattle.ca_base.specs.declared.limits.TheConstants.{ENDPOINTS}
use Rattle.step_notices.specs.Changes.{added_notices}
use Rattle.step_notices.proofs.devices.put_added.Given as goal

abbrev pub invariant-endpoints : goal.invariant-endpoints
invariant-endpoints l = record {
  items : l.out.items ++ added_notices l.before (record l.after { endpoints = drop l.e-index l.endpoints })
      ≡ l.initial.out.items ++ added_notices l.before l.after;
  few : length l.out.items + (length l.endpoints - l.e-index) ≤ length l.initial.out.items + ENDPOINTS;
  room : vec_capacity l.out ≡ vec_capacity l.initial.out;
}
