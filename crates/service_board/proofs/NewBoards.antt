-- A board of empty tables is in order, and stands for the empty state.
use Rattle.std.proofs.Common.{◌≡◌, ◌≤◌, nat_eq, [], map, refl, sym, subst, arith}
use Rattle.std.specs.List.{All, AllZip, IsDistinct}
use Rattle.std.specs.Vec.{vec_capacity}
use Rattle.std.proofs.lemmas.List.Elements.{All-nil}
use Rattle.ca_base.specs.declared.limits.TheConstants.{CLIENTS, ENDPOINTS, NOTICES}
use Rattle.buffer_ring.specs.declared.step.EndState.{EndState}
use Rattle.ca_stage.specs.Order.{RisesFrom}
use Rattle.ca_machine.specs.State.{live_clients}
use Rattle.device_registry.specs.Endpoints.{EndpointList}
use Rattle.period_engine.specs.Entries.{AreInOrder, IsRested}
use Rattle.service_book.specs.InOrder.{HasLevels, IsBook, IsOpen, IsOwned}
use Rattle.service_book.specs.New.{IsEmptyBook}
use Rattle.service_book.specs.declared.book.Book.{Book}
use Rattle.service_board.specs.InOrder.{AreAlike, Belongs, Seats}
use Rattle.service_board.specs.New.{IsNewBoard}
use Rattle.service_board.specs.declared.board.Board.{Board}

none_apart : IsDistinct nat_eq []
unfolding IsDistinct
none_apart = tt

empty_book : (b : Book) → IsEmptyBook b → IsBook b
empty_book b empty = record {
  rooms = empty.rooms;
  apart = subst (λ xs. IsDistinct nat_eq (map (λ c. c.conn.0) xs)) (sym empty.connections) none_apart;
  opens = subst (All IsOpen) (sym empty.connections) (All-nil _);
  clients = subst (λ xs. RisesFrom 0 (live_clients xs)) (sym empty.clients) tt;
  few_clients = rw empty.clients (omega arith);
  made = subst (All (λ c. c.client.0 ≤ b.clients_made)) (sym empty.clients) (All-nil _);
  clients_made = rw empty.clients_made (omega arith);
  endpoints = subst (λ (r : EndpointList). RisesFrom 0 (map (λ e. e.no.0) r.list)) (sym empty.registry) tt;
  added = subst (λ (r : EndpointList). All (λ e. e.no.0 ≤ r.last) r.list) (sym empty.registry) (All-nil _);
  levels = subst (All HasLevels) (sym empty.clients) (All-nil _);
  owned = subst (All (IsOwned b.connections.items)) (sym empty.clients) (All-nil _);
}

pub new_board : {D E : Type 0} (state : E → EndState) (b : Board D E) → IsEmptyBook b.book → b.seats.items ≡ [] →
    b.entries.items ≡ [] → ENDPOINTS ≤ vec_capacity b.seats → CLIENTS ≤ vec_capacity b.entries →
    NOTICES ≤ vec_capacity b.drafts → IsNewBoard state b.devices b
new_board state b empty seats entries seat_room room draft_room = record {
  order = record {
    order = subst AreInOrder (sym entries) tt;
    rested = subst (All (IsRested state)) (sym entries) (All-nil _);
    belong = subst (All (Belongs b.book b.seats.items)) (sym entries) (All-nil _);
    alike = subst AreAlike (sym entries) (All-nil _);
    seats =
        subst (λ xs. AllZip Seats xs b.book.registry.list) (sym seats)
        (subst (λ (r : EndpointList). AllZip Seats [] r.list) (sym empty.registry) tt);
    book = empty_book b.book empty;
    room = room;
    seat_room = seat_room;
    draft_room = draft_room;
  };
  devices_are = refl;
  entries = entries;
  empty = λ datas. rw (
    seats,
    entries,
    empty.connections,
    empty.clients,
    empty.registry,
    empty.choices,
    empty.notices,
    empty.shut,
    empty.sessions,
    empty.clients_made,
  ) refl;
}
