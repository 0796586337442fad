use Rattle.std.proofs.Common.{sym, append_assoc}
use Rattle.std.specs.Int.{w64, to_le_bytes}
use Rattle.reply_payload.proofs.notices.put_event.Goals as goal

pub returns-then-is_flagged_on-clause-list : goal.returns-then-is_flagged_on-clause-list
returns-then-is_flagged_on-clause-list c =
    rw (
      c.append_reserved-then-is_flagged_on.ensures.list,
      c.append_reserved.ensures.list,
      c.to_le_bytes.ensures,
      c.to_le_bytes-then-is_flagged_on.ensures,
      sym c.if-is_flagged_on.ensures,
    ) (append_assoc c.args.out.now.list (to_le_bytes w64 c.args.client.now.client.0)
    (to_le_bytes w64 c.args.client.now.handle))
