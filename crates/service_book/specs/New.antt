-- A book in which nothing stands (this project's own).
use Rattle.std.specs.Prelude.{◌≡◌, [], replicate, false}
use Rattle.ca_base.specs.declared.limits.TheConstants.{CONNECTIONS}
use Rattle.device_registry.specs.Endpoints.{no_endpoints}
use Rattle.role_defaults.specs.Defaults.{no_choices}
use Rattle.event_notices.specs.Notices.{no_notices}
use Rattle.session_manager.specs.Sessions.{no_sessions}
use Rattle.service_book.specs.InOrder.{HasRooms}
use Rattle.service_book.specs.declared.book.Book.{Book}

-- nothing stands in a book, and its tables have the room of their limits
pub record IsEmptyBook (b : Book) : Type 0 where
  pub rooms : HasRooms b
  pub connections : b.connections.items ≡ []
  pub clients : b.clients.items ≡ []
  pub registry : b.registry ≡ no_endpoints
  pub choices : b.choices ≡ no_choices
  pub notices : b.notices.items ≡ replicate CONNECTIONS no_notices
  pub shut : b.is_shut ≡ false
  pub sessions : b.sessions ≡ no_sessions
  pub clients_made : b.clients_made ≡ 0
