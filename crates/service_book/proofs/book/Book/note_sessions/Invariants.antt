use Rattle.std.proofs.Common.{◌≡◌, map, take}
use Rattle.ca_machine.specs.Notices.{noted_session}
use Rattle.service_book.proofs.book.Book.note_sessions.Given as goal

-- the sessions so far are noted
abbrev pub invariant-sessions : goal.invariant-sessions
invariant-sessions l = l.n ≡ record l.initial.n { sessions = map noted_session (take l.s-index l.sessions) }
