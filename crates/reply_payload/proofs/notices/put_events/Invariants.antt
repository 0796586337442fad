use Rattle.std.proofs.Common.{◌≡◌, ◌+◌, ◌*◌, ◌≤◌, ◌++◌, flat_map, length, drop}
use Rattle.ca_machine.specs.Registrations.{event_bytes, flagged_on}
use Rattle.reply_payload.specs.declared.payload.TheConstants.{EVENT_SIZE}
use Rattle.reply_payload.proofs.notices.put_events.Given as goal

abbrev pub invariant-clients : goal.invariant-clients
invariant-clients l = record {
  list : l.out.list ++ flat_map event_bytes (flagged_on l.conn.0 (drop l.client-index l.clients))
      ≡ l.initial.out.list ++ flat_map event_bytes (flagged_on l.conn.0 l.clients);
  length : length l.out.list ≤ length l.initial.out.list + EVENT_SIZE * l.client-index;
  keeps : l.initial.out.capacity ≤ l.out.capacity;
}
