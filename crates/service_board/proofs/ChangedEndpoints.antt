-- A book one of whose endpoints was changed, and kept its number.
use Rattle.std.proofs.Common.{◌≡◌, ℕ, ◌≤◌, List, [], ◌∷◌, map, Some, refl, sym, ap, ap₂, ◌∙◌, subst}
use Rattle.std.proofs.Common.{if◌then◌else◌}
use Rattle.std.specs.List.{All, AllByRecursion, AllZip, find}
use Rattle.std.specs.Option.{option_map}
use Rattle.std.proofs.lemmas.List.Elements.{All-from_recursion, recursion_from_All}
use Rattle.ca_stage.specs.Order.{RisesFrom}
use Rattle.ca_stage.proofs.Lists.{chosen, find_map}
use Rattle.device_registry.specs.declared.endpoint.Endpoint.{Endpoint}
use Rattle.device_registry.specs.Endpoints.{EndpointList, changed, is_endpoint}
use Rattle.device_registry.specs.Changes.{with_changed}
use Rattle.service_book.specs.InOrder.{IsBook}
use Rattle.service_book.specs.declared.book.Book.{Book}
use Rattle.service_board.specs.InOrder.{Seats}
use Rattle.service_board.specs.declared.board.Seat.{Seat}

-- an endpoint that was found is found, with its format
pub record KeepsFormat (old new : List Endpoint) (n : ℕ) (e : Endpoint) : Type 0 where
  pub endpoint : Endpoint
  pub found : find (is_endpoint n) new ≡ Some endpoint
  pub format : endpoint.format ≡ e.format

module _ (number : ℕ) (f : Endpoint → Endpoint) (same : (e : Endpoint) → (f e).no ≡ e.no) where
  abbrev one : Endpoint → Endpoint
  one e = if is_endpoint number e then f e else e

  one_number : (e : Endpoint) → (one e).no.0 ≡ e.no.0
  one_number e =
      chosen (λ (y : Endpoint). y.no.0 ≡ e.no.0) (is_endpoint number e) (f e) e (ap (λ n. n.0) (same e)) refl

  pub numbers_changed : (endpoints : List Endpoint) →
      map (λ (e : Endpoint). e.no.0) (changed number f endpoints) ≡ map (λ (e : Endpoint). e.no.0) endpoints
  numbers_changed [] = refl
  numbers_changed (e ∷ endpoints) = ap₂ (λ n ns. n ∷ ns) (one_number e) (numbers_changed endpoints)

  -- what is found of another number, or of this one, is what was found, changed
  pub found_changed : (n : ℕ) (endpoints : List Endpoint) →
      find (is_endpoint n) (changed number f endpoints) ≡ option_map one (find (is_endpoint n) endpoints)
  found_changed n endpoints =
      find_map (is_endpoint n) one (λ e. ap (λ k. Rattle.std.proofs.Common.eqb k n) (one_number e)) endpoints

  all_within : (last : ℕ) (endpoints : List Endpoint) → AllByRecursion (λ (e : Endpoint). e.no.0 ≤ last) endpoints →
      AllByRecursion (λ (e : Endpoint). e.no.0 ≤ last) (changed number f endpoints)
  all_within last [] h = tt
  all_within last (e ∷ endpoints) h =
      (subst (λ n. n ≤ last) (sym (one_number e)) h.0, all_within last endpoints h.1)

  -- the book is one still
  pub book_changed : (book : Book) (registry : EndpointList) → registry ≡ with_changed number f book.registry →
      IsBook book → IsBook (record book { registry = registry })
  book_changed book registry is h = record {
    rooms = record {
      connections = h.rooms.connections;
      clients = h.rooms.clients;
      notices = h.rooms.notices;
    };
    apart = h.apart;
    opens = h.opens;
    clients = h.clients;
    few_clients = h.few_clients;
    made = h.made;
    clients_made = h.clients_made;
    endpoints =
        subst (λ (r : EndpointList). RisesFrom 0 (map (λ (e : Endpoint). e.no.0) r.list)) (sym is)
        (subst (RisesFrom 0) (sym (numbers_changed book.registry.list)) h.endpoints);
    added =
        subst (λ (r : EndpointList). All (λ (e : Endpoint). e.no.0 ≤ r.last) r.list) (sym is)
        (All-from_recursion (λ (e : Endpoint). e.no.0 ≤ book.registry.last) (changed number f book.registry.list)
        (all_within book.registry.last book.registry.list
        (recursion_from_All (λ (e : Endpoint). e.no.0 ≤ book.registry.last) book.registry.list h.added)));
    levels = h.levels;
    owned = h.owned;
  }

  -- with the format of each
  pub keeps_format : ((e : Endpoint) → (f e).format ≡ e.format) → (endpoints new : List Endpoint) →
      new ≡ changed number f endpoints → (n : ℕ) (e : Endpoint) → find (is_endpoint n) endpoints ≡ Some e →
      KeepsFormat endpoints new n e
  keeps_format k endpoints new is n e found = record {
    endpoint = one e;
    found = ap (find (is_endpoint n)) is ∙ found_changed n endpoints ∙ ap (option_map one) found;
    format = chosen (λ (y : Endpoint). y.format ≡ e.format) (is_endpoint number e) (f e) e (k e) refl;
  }

-- the seats still go with the endpoints
pub zip_changed : (number : ℕ) (f : Endpoint → Endpoint) (seats : List Seat) (endpoints : List Endpoint) →
    ((s : Seat) (e : Endpoint) → Seats s e → Seats s (f e)) → AllZip Seats seats endpoints →
    AllZip Seats seats (changed number f endpoints)
zip_changed number f [] [] keeps h = tt
zip_changed number f (s ∷ seats) (e ∷ endpoints) keeps h = (
  chosen (Seats s) (is_endpoint number e) (f e) e (keeps s e h.0) h.0,
  zip_changed number f seats endpoints keeps h.1,
)
zip_changed number f [] (e ∷ endpoints) keeps h = absurd h
zip_changed number f (s ∷ seats) [] keeps h = absurd h
