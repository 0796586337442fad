-- Packets that go into a reply (this project's own).
use Rattle.std.specs.Prelude.{◌≡◌, ℕ, suc, ◌+◌, ◌*◌, ◌≤◌, [], length}
use Rattle.buffer_ring.specs.Kept.{Kept}
use Rattle.ca_base.specs.declared.bytes.Bytes.{Bytes}
use Rattle.period_engine.specs.declared.entry.StreamEntry.{StreamEntry}
use Rattle.reply_payload.specs.declared.payload.TheConstants.{REPLY_ROOM}
use Rattle.service_core.specs.declared.both_ends.BothEnds.{BothEnds}

-- the first packet of an entry's store is whole, has 1 to 4 channels, and fits in a reply behind its head
pub record HasPacket {F : Type 0} (kept : F → Kept) (e : StreamEntry (BothEnds F)) : Type 0 where
  pub whole : suc e.period ≤ length (kept e.store.store).words
  pub some_channel : 1 ≤ e.channels
  pub few_channels : e.channels ≤ 4
  pub fits : 16 + e.period * 8 ≤ REPLY_ROOM

-- a reply's payload has nothing yet, and the room of the longest
pub record IsReplyRoom (payload : Bytes) : Type 0 where
  pub empty : payload.list ≡ []
  pub room : REPLY_ROOM ≤ payload.capacity
