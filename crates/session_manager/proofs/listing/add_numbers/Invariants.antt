use Rattle.std.proofs.Common.{◌≡◌, ◌+◌, ◌-◌, ◌*◌, ◌≤◌, ◌++◌, length, drop}
use Rattle.session_manager.specs.Sessions.{number_bytes, numbers_on}
use Rattle.session_manager.proofs.listing.add_numbers.Given as goal

abbrev pub invariant-sessions : goal.invariant-sessions
invariant-sessions l = record {
  list : l.out.list ++ number_bytes (numbers_on l.e.0 (drop l.s-index l.list))
      ≡ l.initial.out.list ++ number_bytes (numbers_on l.e.0 l.list);
  room : length l.out.list + 8 * (length l.list - l.s-index) ≤ l.out.capacity;
  keeps : l.initial.out.capacity ≤ l.out.capacity;
}
