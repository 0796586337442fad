use Rattle.std.proofs.Common.{◌≡◌, ◌+◌, ◌-◌, ◌≤◌, ◌++◌, length, vec_capacity}
use Rattle.step_notices.specs.declared.records.TheConstants.{DEFAULTS}
use Rattle.step_notices.specs.Changes.{default_notices}
use Rattle.step_notices.proofs.Places.{from_place}
use Rattle.step_notices.proofs.devices.put_defaults.Given as goal

abbrev pub invariant-places : goal.invariant-places
invariant-places l = record {
  items : l.out.items ++ from_place l.before l.after l.place ≡ l.initial.out.items ++ default_notices l.before l.after;
  few : length l.out.items + (DEFAULTS - l.place) ≤ length l.initial.out.items + DEFAULTS;
  room : vec_capacity l.out ≡ vec_capacity l.initial.out;
}
