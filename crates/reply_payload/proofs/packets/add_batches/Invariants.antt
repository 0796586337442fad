use Rattle.std.proofs.Common.{◌≡◌, ◌+◌, ◌*◌, ◌/◌, ◌≤◌, ◌++◌, length}
use Rattle.reply_payload.specs.Packets.{frames_bytes}
use Rattle.reply_payload.proofs.packets.add_batches.Given as goal

-- the frames added so far and those of the words that are left are all
abbrev pub invariant-loop-rest : goal.invariant-loop-rest
invariant-loop-rest g l = record {
  list : l.out.list ++ frames_bytes (g.row.N / 2) l.rest ≡ l.initial.out.list ++ frames_bytes (g.row.N / 2) l.words;
  length : length l.out.list + length l.rest * g.row.N ≡ length l.initial.out.list + length l.words * g.row.N;
  keeps : l.initial.out.capacity ≤ l.out.capacity;
}

abbrev pub decreases-loop-rest : goal.decreases-loop-rest
decreases-loop-rest g l = length l.rest
