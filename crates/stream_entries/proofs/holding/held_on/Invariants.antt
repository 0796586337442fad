use Rattle.std.proofs.Common.{◌≡◌, ◌≤◌, ◌++◌, length, drop}
use Rattle.stream_entries.specs.Holding.{held_on}
use Rattle.stream_entries.proofs.holding.held_on.Given as goal

-- those of the entries so far, ahead of those of the rest, are all; and there are no more than entries so far
abbrev pub invariant-entries : goal.invariant-entries
invariant-entries g l = record {
  list : l.held.items ++ held_on l.e.0 (drop l.entry-index l.entries) ≡ held_on l.e.0 l.entries;
  few : length l.held.items ≤ l.entry-index;
}
