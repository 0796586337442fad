use Rattle.std.proofs.Common.{sym}
use Rattle.ca_base.proofs.FoundPlaces.{found_nowhere, found_there}
use Rattle.session_manager.specs.Sessions.{is_session}
use Rattle.session_manager.proofs.book.SessionBook.get.Goals as goal

pub returns-in-Some-clause-session : goal.returns-in-Some-clause-session
returns-in-Some-clause-session c = rw (← c.self.view_is)
    (sym (found_there (is_session c.args.s.0) c.self.inside.sessions.items c.deref.result.now c.in-Some.at
    c.index.result.now c.deref.ensures.value c.in-Some.ensures c.index.ensures).0)

pub returns-in-None-clause-session : goal.returns-in-None-clause-session
returns-in-None-clause-session c = rw (← c.self.view_is)
    (sym (found_nowhere (is_session c.args.s.0) c.self.inside.sessions.items c.deref.result.now c.deref.ensures.value
    c.in-None.ensures))
