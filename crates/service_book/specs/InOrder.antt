-- What holds of a book between events (this project's own).
use Rattle.std.specs.Prelude.{◌≡◌, ◌≤◌, nat_eq, List, length, map, true}
use Rattle.std.specs.List.{All, IsDistinct, list_any}
use Rattle.std.specs.Vec.{vec_capacity}
use Rattle.ca_base.specs.declared.limits.TheConstants.{CLIENTS, CONNECTIONS, MAX_CONNECTION_NAME, MAX_COUNT, MAX_LEVEL}
use Rattle.ca_stage.specs.Order.{RisesFrom}
use Rattle.ca_machine.specs.declared.state.Client.{Client}
use Rattle.ca_machine.specs.declared.state.Connection.{Connection}
use Rattle.ca_machine.specs.State.{is_connection, live_clients}
use Rattle.service_book.specs.declared.book.Book.{Book}

-- the tables have the room of their limits, and there is one list of notices for each number of a connection
pub record HasRooms (b : Book) : Type 0 where
  pub connections : CONNECTIONS ≤ vec_capacity b.connections
  pub clients : CLIENTS ≤ vec_capacity b.clients
  pub notices : length b.notices.items ≡ CONNECTIONS

-- a connection has a number that there may be, and a name that fits
pub record IsOpen (c : Connection) : Type 0 where
  pub least : 1 ≤ c.conn.0
  pub most : c.conn.0 ≤ CONNECTIONS
  pub name : length c.name ≤ MAX_CONNECTION_NAME

-- levels of channels are in range
abbrev pub HasLevels : Client → Type 0
HasLevels c = All (λ level. level ≤ MAX_LEVEL) c.levels

-- the connection of a client is one of these
abbrev pub IsOwned : List Connection → Client → Type 0
IsOwned connections c = list_any (is_connection c.conn.0) connections ≡ true

-- no two connections have one number, and those of clients are open; numbers of clients and endpoints rise, up to the
-- last one given; and counts and levels are in range
pub record IsBook (b : Book) : Type 0 where
  pub rooms : HasRooms b
  pub apart : IsDistinct nat_eq (map (λ c. c.conn.0) b.connections.items)
  pub opens : All IsOpen b.connections.items
  pub clients : RisesFrom 0 (live_clients b.clients.items)
  pub few_clients : length b.clients.items ≤ CLIENTS
  pub made : All (λ c. c.client.0 ≤ b.clients_made) b.clients.items
  pub clients_made : b.clients_made ≤ MAX_COUNT
  pub endpoints : RisesFrom 0 (map (λ e. e.no.0) b.registry.list)
  pub added : All (λ e. e.no.0 ≤ b.registry.last) b.registry.list
  pub levels : All HasLevels b.clients.items
  pub owned : All (IsOwned b.connections.items) b.clients.items
