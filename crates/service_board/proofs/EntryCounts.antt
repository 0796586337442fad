-- A board has no more entries than live clients.
use Rattle.std.proofs.Common.{◌≡◌, ℕ, suc, ◌<◌, ◌≤◌, ◌==◌, ◌||◌, List, [], ◌∷◌, length, Bool, true, false, Some, refl}
use Rattle.std.proofs.Common.{sym, ap, ◌∙◌, arith, ◌⊎◌, inl, inr, if◌then◌else◌}
use Rattle.std.specs.List.{AllByRecursion, find}
use Rattle.std.proofs.lemmas.Bool.{cases_lt, false≢true}
use Rattle.std.proofs.lemmas.Bool.Decides.{nat_tests}
use Rattle.std.proofs.lemmas.Option.{none-some}
use Rattle.std.proofs.lemmas.List.{length-map}
use Rattle.std.proofs.lemmas.List.Elements.{recursion_from_All}
use Rattle.buffer_ring.specs.declared.step.EndState.{EndState}
use Rattle.ca_stage.specs.Order.{RisesFrom, is_among}
use Rattle.ca_stage.proofs.Clients.{lower_without}
use Rattle.ca_machine.specs.declared.state.Client.{Client}
use Rattle.ca_machine.specs.State.{live_clients}
use Rattle.period_engine.specs.declared.entry.StreamEntry.{StreamEntry}
use Rattle.period_engine.specs.Entries.{AreEntries}
use Rattle.service_book.specs.declared.book.Book.{Book}
use Rattle.service_board.specs.InOrder.{Belongs, InOrder}
use Rattle.service_board.specs.declared.board.Board.{Board}
use Rattle.service_board.specs.declared.board.Seat.{Seat}
use Rattle.service_board.proofs.ByClient.{clients_of}

-- a number that is among numbers that rise from a lowest one isn't below it
above_lowest : (n low : ℕ) (ns : List ℕ) → RisesFrom low ns → is_among n ns ≡ true → low ≤ n
above_lowest n low ns rises there = by (cases_lt n low)
  where
    by : ((n < low) ⊎ (low ≤ n)) → low ≤ n
    by (inl lt) = absurd (false≢true (sym (lower_without n low ns lt rises) ∙ there))
    by (inr le) = le

-- greater numbers than one that is there are among the rest
among_rest : (x y low : ℕ) (xs ys : List ℕ) → RisesFrom low xs → x < low → y ≤ x →
    AllByRecursion (λ n. is_among n (y ∷ ys) ≡ true) xs → AllByRecursion (λ n. is_among n ys ≡ true) xs
among_rest x y low [] ys rises lt le there = tt
among_rest x y low (n ∷ xs) ys rises lt le there =
    let above = rises.0 in
    let other : (y == n) ≡ false = grind (arith, nat_tests) in (
      sym (ap (λ b. b || is_among n ys) other) ∙ there.0,
      among_rest x y (suc n) xs ys rises.1 (omega arith) le there.1,
    )

-- of two lists of rising numbers the one whose numbers are all in the other isn't longer
pub fewer : (low low' : ℕ) (xs ys : List ℕ) → RisesFrom low xs → RisesFrom low' ys →
    AllByRecursion (λ n. is_among n ys ≡ true) xs → length xs ≤ length ys
fewer low low' [] ys rises rises' there = omega arith
fewer low low' (x ∷ xs) [] rises rises' there = absurd (false≢true there.0)
fewer low low' (x ∷ xs) (y ∷ ys) rises rises' there =
    let le : y ≤ x = above_lowest x y (y ∷ ys) (omega arith, rises'.1) there.0 in
    let rest = fewer (suc x) (suc y) xs ys rises.1 rises'.1
    (among_rest x y (suc x) xs ys rises.1 (omega arith) le there.1) in
    omega arith

-- a client that is found is among the live ones
found_among : (n : ℕ) (clients : List Client) (client : Client) →
    find (λ c. c.client.0 == n) clients ≡ Some client → is_among n (live_clients clients) ≡ true
found_among n [] client e = absurd (none-some client e)
found_among n (c ∷ clients) client e = by (c.client.0 == n) e (found_among n clients client)
  where
    by : (b : Bool) → (if b then Some c else find (λ c. c.client.0 == n) clients) ≡ Some client →
        (find (λ c. c.client.0 == n) clients ≡ Some client → is_among n (live_clients clients) ≡ true) →
        (b || is_among n (live_clients clients)) ≡ true
    by true e rest = refl
    by false e rest = rest e

all_among : {E : Type 0} (book : Book) (seats : List Seat) (xs : List (StreamEntry E)) →
    AllByRecursion (Belongs book seats) xs →
    AllByRecursion (λ n. is_among n (live_clients book.clients.items) ≡ true) (clients_of xs)
all_among book seats [] h = tt
all_among book seats (x ∷ xs) h =
    (found_among x.client.0 book.clients.items h.0.client h.0.live, all_among book seats xs h.1)

pub are_entries : {D E : Type 0} (state : E → EndState) (b : Board D E) → InOrder state b → AreEntries b.entries.items
are_entries state b order =
    let few = order.book.few_clients in
    let fewer_clients =
    fewer 0 0 (clients_of b.entries.items) (live_clients b.book.clients.items) order.order order.book.clients
    (all_among b.book b.seats.items b.entries.items
    (recursion_from_All (Belongs b.book b.seats.items) b.entries.items order.belong)) in
    record {
      order = order.order;
      count = omega (
        arith,
        length-map b.entries.items (λ e. e.client.0),
        length-map b.book.clients.items (λ c. c.client.0),
      );
    }
