-- Events that a period sets: over the entries of a board they are those of the machine, and the board stays in order.
use Rattle.std.proofs.Common.{◌≡◌, ℕ, ◌==◌, ◌||◌, ◌&&◌, List, [], ◌∷◌, length, map, Bool, true, false, refl, sym, ap}
use Rattle.std.proofs.Common.{subst, ◌∙◌, if◌then◌else◌}
use Rattle.std.specs.Global.{Vec}
use Rattle.std.specs.List.{list_any}
use Rattle.std.specs.Vec.{with_items}
use Rattle.std.proofs.lemmas.List.{length-map, with_items_is}
use Rattle.buffer_ring.specs.declared.step.EndState.{EndState}
use Rattle.ca_stage.specs.Stage.{BufferData}
use Rattle.ca_stage.proofs.Lists.{all_of, map_alike, map_same}
use Rattle.ca_machine.specs.declared.state.Client.{Client}
use Rattle.ca_machine.specs.Periods.{is_signaled}
use Rattle.ca_machine.specs.Periods as machine
use Rattle.period_engine.specs.declared.entry.StreamEntry.{StreamEntry}
use Rattle.period_engine.specs.Entries.{streams_of}
use Rattle.stream_entries.specs.Events.{is_signaled_entry, with_event}
use Rattle.service_board.specs.InOrder.{InOrder}
use Rattle.service_board.specs.declared.board.Board.{Board}
use Rattle.service_board.proofs.ChangedClients.{ChangesClients, clients_order, flag_if, flags_change, with_clients}

-- the streams of entries set the events that the entries set
module _ {E : Type 0} (number : ℕ) (datas : ℕ → BufferData) where
  any_stream : (c : Client) (ys : List (StreamEntry E)) →
      list_any (λ s. s.client == c.client.0 && is_signaled number s) (streams_of datas ys)
      ≡ list_any (λ x. x.client.0 == c.client.0 && is_signaled_entry number x) ys
  any_stream c [] = refl
  any_stream c (y ∷ ys) =
      ap (λ v. (y.client.0 == c.client.0 && is_signaled_entry number y) || v) (any_stream c ys)

  pub events_alike : (ys : List (StreamEntry E)) (clients : List Client) →
      map (with_event number ys) clients ≡ map (machine.with_event number (streams_of datas ys)) clients
  events_alike ys clients =
      map_alike (with_event number ys) (machine.with_event number (streams_of datas ys)) clients
      (all_of _ (λ c. ap (λ v. if v then record c { flagged = true } else c) (sym (any_stream c ys))) clients)

-- the clients of a board whose events were set, or not
abbrev pub clients_then : {D E : Type 0} → Board D E → List Client → Vec Client
clients_then b cs = with_items b.book.clients cs

module _ {D E : Type 0} (b : Board D E) (number : ℕ) (all : List (StreamEntry E)) (none : Bool) (cs : List Client)
    (is : cs ≡ (if none then b.book.clients.items else map (with_event number all) b.book.clients.items)) where
  abbrev set_if : Client → Client
  set_if c = if none then c else with_event number all c

  same_items : (v : Bool) → (if v then b.book.clients.items else map (with_event number all) b.book.clients.items)
      ≡ map (λ c. if v then c else with_event number all c) b.book.clients.items
  same_items true = sym (map_same (λ c. c) (λ c. refl) b.book.clients.items)
  same_items false = refl

  pub clients_are : (clients_then b cs).items ≡ cs
  clients_are =
      with_items_is b.book.clients cs
      (ap length (is ∙ same_items none) ∙ length-map b.book.clients.items set_if ∙ sym b.book.clients.ok.0)

  flags_alone : (v : Bool) (c : Client) → (if v then c else with_event number all c)
      ≡ record c { flagged = (if v then c else with_event number all c).flagged }
  flags_alone true c = refl
  flags_alone false c =
      flag_if (list_any (λ x. x.client.0 == c.client.0 && is_signaled_entry number x) all) true c

  pub events_change : ChangesClients set_if b.book (clients_then b cs) b.book.levels_changed
  events_change =
      flags_change set_if b.book (clients_then b cs) (flags_alone none) (clients_are ∙ is ∙ same_items none) refl

-- a board of these clients in order stays in order with their events set
pub events_order : {D E : Type 0} (state : E → EndState) (b new : Board D E) (number : ℕ) (all : List (StreamEntry E))
    (none : Bool) (cs : List Client) →
    cs ≡ (if none then b.book.clients.items else map (with_event number all) b.book.clients.items) →
    new.book ≡ b.book → InOrder state new →
    InOrder state (record new { book = with_clients (clients_then b cs) b.book.levels_changed new.book })
events_order state b new number all none cs is same order =
    clients_order state new (set_if b number all none cs is) (clients_then b cs) b.book.levels_changed
    (subst (λ k. ChangesClients (set_if b number all none cs is) k (clients_then b cs) b.book.levels_changed)
    (sym same) (events_change b number all none cs is)) order
