use Rattle.std.proofs.Common.{◌≡◌, ◌+◌, ◌*◌, ◌≤◌, ◌++◌, flat_map, length, drop}
use Rattle.std.specs.Int.{w32, to_le_bytes}
use Rattle.reply_payload.proofs.sessions.put_levels.Given as goal

abbrev pub invariant-levels : goal.invariant-levels
invariant-levels l = record {
  list : l.out.list ++ flat_map (to_le_bytes w32) (drop l.level-index l.levels)
      ≡ l.initial.out.list ++ flat_map (to_le_bytes w32) l.levels;
  length : length l.out.list ≡ length l.initial.out.list + 4 * l.level-index;
  keeps : l.initial.out.capacity ≤ l.out.capacity;
}
