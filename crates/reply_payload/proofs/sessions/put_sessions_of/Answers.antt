use Rattle.std.proofs.Common.{◌≡◌}
use Rattle.session_manager.specs.Sessions.{numbers_on}
use Rattle.ca_machine.specs.Sessions.{numbers_payload}
use Rattle.reply_payload.proofs.Lengths.{enum_within}
use Rattle.reply_payload.proofs.sessions.put_sessions_of.Goals as goal

-- the payload that it puts
payload_is : (c : goal.After-enumerate) →
    c.enumerate.new.out.list ≡ numbers_payload (numbers_on c.args.e.0 c.args.sessions.now.list)
payload_is c =
    rw (
      c.enumerate.ensures.list,
      c.append_reserved.ensures.list,
      c.requires.empty,
      c.to_le_bytes.ensures,
      c.count_on.ensures,
      c.sessions.ensures.list,
    )

pub returns-clause-within : goal.returns-clause-within
returns-clause-within c =
    enum_within c.args.e.0 c.args.sessions.now.list c.enumerate.new.out.list c.sessions.ensures.holds.few
    (payload_is c)
