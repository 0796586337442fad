-- What is noted of a book and of entries (this project's own).
use Rattle.std.specs.Prelude.{List, map}
use Rattle.step_notices.specs.declared.records.NotedStream.{NotedStream}
use Rattle.step_notices.specs.Notes.{Notes}
use Rattle.ca_machine.specs.Notices.{noted_endpoint, noted_session}
use Rattle.period_engine.specs.declared.entry.StreamEntry.{StreamEntry}
use Rattle.service_book.specs.declared.book.Book.{Book}
use Rattle.service_book.specs.Telling.{defaults_of}

-- the stream of an entry
abbrev pub noted_entry : {E : Type 0} → StreamEntry E → NotedStream
noted_entry e = record { client = e.client; session = e.session; running = e.running; gate = e.gate }

-- a book, with the streams of these entries
abbrev pub noted_with : {E : Type 0} → Book → List (StreamEntry E) → Notes
noted_with book entries = record {
  endpoints = map noted_endpoint book.registry.list;
  defaults = defaults_of book;
  sessions = map noted_session book.sessions.list;
  streams = map noted_entry entries;
}
