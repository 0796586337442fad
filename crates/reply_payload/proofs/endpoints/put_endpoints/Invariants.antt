use Rattle.std.proofs.Common.{◌≡◌, ◌+◌, ◌*◌, ◌≤◌, ◌++◌, flat_map, length, drop}
use Rattle.std.specs.Int.{w32, to_le_bytes}
use Rattle.reply_payload.proofs.endpoints.put_endpoints.Given as goal

abbrev pub invariant-numbers : goal.invariant-numbers
invariant-numbers l = record {
  list : l.out.list ++ flat_map (λ n. to_le_bytes w32 n.0) (drop l.number-index l.numbers)
      ≡ l.initial.out.list ++ flat_map (λ n. to_le_bytes w32 n.0) l.numbers;
  length : length l.out.list ≡ length l.initial.out.list + 4 * l.number-index;
  keeps : l.initial.out.capacity ≤ l.out.capacity;
}
