use Rattle.std.proofs.Common.{◌≡◌, ◌+◌, ◌*◌, ◌≤◌, ◌++◌, flat_map, length, drop}
use Rattle.event_notices.specs.Bytes.{notice_bytes}
use Rattle.reply_payload.specs.declared.payload.TheConstants.{LONGEST_NOTICE}
use Rattle.reply_payload.proofs.notices.put_each.Given as goal

abbrev pub invariant-notices : goal.invariant-notices
invariant-notices l = record {
  list : l.out.list ++ flat_map notice_bytes (drop l.notice-index l.notices)
      ≡ l.initial.out.list ++ flat_map notice_bytes l.notices;
  length : length l.out.list ≤ length l.initial.out.list + LONGEST_NOTICE * l.notice-index;
  keeps : l.initial.out.capacity ≤ l.out.capacity;
}
