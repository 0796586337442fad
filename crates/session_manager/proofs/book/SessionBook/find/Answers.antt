use Rattle.std.proofs.Common.{sym, ap}
use Rattle.std.specs.Option.{option_map}
use Rattle.session_manager.proofs.Finding.{named_nowhere, named_there}
use Rattle.session_manager.proofs.book.SessionBook.find.Goals as goal

pub returns-in-Some : goal.returns-in-Some
returns-in-Some c =
    rw (← c.self.view_is)
    (sym (ap (option_map (λ s. s.no))
    (named_there c.args.key.now c.self.inside.sessions.items c.deref.result.now c.deref.ensures.value c.in-Some.at
    c.index.result.now c.in-Some.ensures c.index.ensures).0))

pub returns-in-None : goal.returns-in-None
returns-in-None c =
    rw (← c.self.view_is)
    (sym (ap (option_map (λ s. s.no))
    (named_nowhere c.args.key.now c.self.inside.sessions.items c.deref.result.now c.deref.ensures.value
    c.in-None.ensures)))
