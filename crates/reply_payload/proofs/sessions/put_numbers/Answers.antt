use Rattle.reply_payload.proofs.sessions.put_numbers.Goals as goal

pub returns-clause-list : goal.returns-clause-list
returns-clause-list c =
    rw (
      c.append_reserved-8.ensures.list,
      c.append_reserved-7.ensures.list,
      c.append_reserved-6.ensures.list,
      c.put_levels.ensures.list,
      c.append_reserved-5.ensures.list,
      c.append_reserved-4.ensures.list,
      c.append_reserved-3.ensures.list,
      c.append_reserved-2.ensures.list,
      c.append_reserved.ensures.list,
      c.requires.empty,
      c.to_le_bytes.ensures,
      c.to_le_bytes-2.ensures,
      c.to_le_bytes-3.ensures,
      c.to_le_bytes-4.ensures,
      c.to_be_bytes.ensures,
      c.flag.ensures,
      c.flag-2.ensures,
    )
