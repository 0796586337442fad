-- The state that a book stands for, with any stage and tally (this project's own).
use Rattle.ca_stage.specs.Stage.{Stage}
use Rattle.ca_stage.specs.Tally.{Tally}
use Rattle.ca_machine.specs.State.{State}
use Rattle.service_book.specs.declared.book.Book.{Book}

-- the state of a book, with a stage and a tally
abbrev pub book_state : Book → Stage → Tally → State
book_state book stage tally = record {
  stage = stage;
  tally = tally;
  connections = book.connections.items;
  clients = book.clients.items;
  endpoints = book.registry.list;
  sessions = book.sessions.list;
  choices = book.choices;
  notices = book.notices.items;
  is_shut = book.is_shut;
  last_endpoint = book.registry.last;
  clients_made = book.clients_made;
  sessions_made = book.sessions.made;
}
