use Rattle.std.proofs.Common.{◌≡◌, ◌*◌, ◌/◌, take}
use Rattle.reply_payload.specs.Packets.{frames_bytes}
use Rattle.reply_payload.proofs.packets.write_frames.Given as goal

-- the frames of the words so far were written
abbrev pub invariant-loop-i : goal.invariant-loop-i
invariant-loop-i g l = take (l.i * g.row.N) l.bytes ≡ frames_bytes (g.row.N / 2) (take l.i l.words)
