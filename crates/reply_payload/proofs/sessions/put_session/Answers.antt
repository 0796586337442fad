use Rattle.reply_payload.proofs.sessions.put_session.Goals as goal

pub returns-clause-list : goal.returns-clause-list
returns-clause-list c =
    rw (
      c.put_text-4.ensures.list,
      c.put_text-3.ensures.list,
      c.put_text-2.ensures.list,
      c.put_text.ensures.list,
      c.put_numbers.ensures.list,
      c.instance.ensures,
      c.identifier.ensures,
    )
