-- The gains of entries, by the levels of their clients and sessions (this project's own).
use Rattle.std.specs.Prelude.{◌≡◌, ◌≤◌, ◌==◌, Some}
use Rattle.std.specs.List.{All, find}
use Rattle.volume_stack.specs.Scaling.{unit_gain}
use Rattle.session_manager.specs.Sessions.{session_at}
use Rattle.ca_machine.specs.declared.state.Client.{Client}
use Rattle.period_engine.specs.declared.entry.StreamEntry.{StreamEntry}
use Rattle.service_book.specs.Gains.{gains_if}
use Rattle.service_book.specs.declared.book.Book.{Book}

-- an entry's client is live
pub record HasClient {E : Type 0} (book : Book) (e : StreamEntry E) : Type 0 where
  pub client : Client
  pub live : find (λ c. c.client.0 == e.client.0) book.clients.items ≡ Some client

-- an entry is as it was, but that its gains are those of the levels of its client and its session
pub record Regains {E : Type 0} (book : Book) (a b : StreamEntry E) : Type 0 where
  pub same : b ≡ record a { gains = b.gains }
  pub within : All (λ gain. gain ≤ unit_gain) b.gains
  pub gains : (c : Client) → find (λ c. c.client.0 == a.client.0) book.clients.items ≡ Some c →
      b.gains ≡ gains_if a.exclusive c.levels (session_at a.session.0 book.sessions.list)
