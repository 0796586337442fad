use Rattle.std.proofs.Common.{◌≡◌, ◌+◌, ◌≤◌, length, drop}
use Rattle.ca_machine.specs.Registrations.{flagged_on}
use Rattle.reply_payload.proofs.notices.count_events.Given as goal

abbrev pub invariant-clients : goal.invariant-clients
invariant-clients l = record {
  count : l.count + length (flagged_on l.conn.0 (drop l.client-index l.clients))
      ≡ length (flagged_on l.conn.0 l.clients);
  few : l.count ≤ l.client-index;
}
