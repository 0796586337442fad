use Rattle.std.proofs.Common.{◌≡◌}
use Rattle.service_book.proofs.NotedDefaults.{defaults_to}
use Rattle.service_book.proofs.book.Book.note_defaults.Given as goal

-- the defaults so far are noted
abbrev pub invariant-places : goal.invariant-places
invariant-places l = l.n ≡ record l.initial.n { defaults = defaults_to l.place l.self }
