use Rattle.std.proofs.Common.{◌≡◌, ◌+◌, ◌-◌, ◌*◌, ◌/◌, ◌%◌, ◌==◌, ◌≤◌, ◌++◌, length, take, drop, slice_get, Some}
use Rattle.reply_payload.specs.Packets.{frames_bytes, packet_head}
use Rattle.service_core.specs.Core.{IsLooked}
use Rattle.service_core.proofs.packets.put_packet.Given as goal

-- the head and the frames so far are put
abbrev pub invariant-loop-place : goal.invariant-loop-place
invariant-loop-place g l = record {
  looked : IsLooked g.F.FrameStore.kept l.fn.entry l.entry;
  within : l.place ≤ l.entry.period;
  head : slice_get (g.F.FrameStore.kept l.fn.entry.store.store).words 0 ≡ Some l.head;
  list : l.out.list ≡ packet_head l.fn.entry.period (l.head % 2 == 1) (l.head / 2)
      ++ frames_bytes l.fn.entry.channels
      (take l.place (drop 1 (g.F.FrameStore.kept l.fn.entry.store.store).words));
  size : length l.out.list ≡ 16 + l.place * (l.fn.entry.channels * 2);
  room : l.fn.out.capacity ≤ l.out.capacity;
}

abbrev pub decreases-loop-place : goal.decreases-loop-place
decreases-loop-place g l = l.entry.period - l.place
