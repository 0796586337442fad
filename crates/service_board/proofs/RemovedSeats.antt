-- The seats and the endpoints that are left when an endpoint is taken away.
use Rattle.std.proofs.Common.{◌≡◌, ℕ, ◌==◌, ◌&&◌, ◌||◌, not, List, [], ◌∷◌, map, filter, Bool, true, false, cond}
use Rattle.std.proofs.Common.{Some, refl, sym, ap, ap₂, ◌∙◌, subst, find, eqb-true, eq-eqb}
use Rattle.std.proofs.Math.Bool.{and-false}
use Rattle.std.proofs.lemmas.Bool.{false≢true, or_right}
use Rattle.std.specs.List.{AllByRecursion, AllZip}
use Rattle.ca_stage.specs.Stage.{Playhead}
use Rattle.ca_stage.specs.Order.{is_among}
use Rattle.ca_stage.proofs.Lists.{all_weaker}
use Rattle.device_registry.specs.declared.endpoint.Endpoint.{Endpoint}
use Rattle.device_registry.specs.Endpoints.{removed}
use Rattle.ca_machine.specs.State.{endpoint_numbers}
use Rattle.service_board.specs.Board.{playhead_of}
use Rattle.service_board.specs.InOrder.{Seats, is_seat}
use Rattle.service_board.specs.declared.board.Seat.{Seat}

-- a test that passes only members that are left finds among them what it finds among all
pub find_left : {A : Type 0} (test stays : A → Bool) → ((a : A) → test a ≡ true → stays a ≡ true) → (xs : List A) →
    find test (filter stays xs) ≡ find test xs
find_left test stays h [] = refl
find_left test stays h (x ∷ xs) = one (test x) refl (stays x) (h x) (find_left test stays h xs)
  where
    one : (t : Bool) → test x ≡ t → (k : Bool) → (t ≡ true → k ≡ true) →
        find test (filter stays xs) ≡ find test xs →
        find test (cond k (x ∷ filter stays xs) (filter stays xs)) ≡ cond t (Some x) (find test xs)
    one t e true h rest = ap₂ (λ v o. cond v (Some x) o) e rest
    one true e false h rest = absurd (false≢true (h refl))
    one false e false h rest = rest

-- the seats that are left
abbrev pub seats_left : ℕ → List Seat → List Seat
seats_left number seats = filter (λ s. not (is_seat number s)) seats

-- they go with the endpoints that are left
pub zip_left : (number : ℕ) (seats : List Seat) (list : List Endpoint) → AllZip Seats seats list →
    AllZip Seats (seats_left number seats) (removed number list)
zip_left number [] [] h = tt
zip_left number (s ∷ seats) (e ∷ list) h =
    subst (λ k. AllZip Seats (seats_left number (s ∷ seats))
    (cond (not (k == number)) (e ∷ removed number list) (removed number list))) h.0.number
    (both (not (is_seat number s)) (zip_left number seats list h.1))
  where
    both : (v : Bool) → AllZip Seats (seats_left number seats) (removed number list) →
        AllZip Seats (cond v (s ∷ seats_left number seats) (seats_left number seats))
        (cond v (e ∷ removed number list) (removed number list))
    both true rest = (h.0, rest)
    both false rest = rest
zip_left number [] (e ∷ list) h = absurd h
zip_left number (s ∷ seats) [] h = absurd h

-- a number is among those of the endpoints that are left if it was among them, and isn't the one that is gone
among_left : (n number : ℕ) (list : List Endpoint) →
    is_among n (endpoint_numbers (removed number list))
    ≡ (is_among n (endpoint_numbers list) && not (n == number))
among_left n number [] = refl
among_left n number (e ∷ list) =
    one (e.no.0 == number) refl (e.no.0 == n) refl (among_left n number list)
  where
    one : (gone : Bool) → (e.no.0 == number) ≡ gone → (own : Bool) → (e.no.0 == n) ≡ own →
        is_among n (endpoint_numbers (removed number list))
        ≡ (is_among n (endpoint_numbers list) && not (n == number)) →
        is_among n (endpoint_numbers (cond (not gone) (e ∷ removed number list) (removed number list)))
        ≡ ((own || is_among n (endpoint_numbers list)) && not (n == number))
    one true here true own rest =
        let same : (n == number) ≡ true = ap (λ k. k == number) (sym (eqb-true e.no.0 n own)) ∙ here in
        rest
        ∙ ap (λ v. is_among n (endpoint_numbers list) && not v) same
        ∙ and-false (is_among n (endpoint_numbers list))
        ∙ sym (ap not same)
    one true here false own rest = rest
    one false there true own rest =
        let other : (n == number) ≡ false = ap (λ k. k == number) (sym (eqb-true e.no.0 n own)) ∙ there in
        ap (λ v. v || is_among n (endpoint_numbers (removed number list))) own ∙ sym (ap not other)
    one false there false own rest =
        ap (λ v. v || is_among n (endpoint_numbers (removed number list))) own ∙ rest

-- the number of each seat is among those of the endpoints
seats_among : (seats : List Seat) (list : List Endpoint) → AllZip Seats seats list →
    AllByRecursion (λ s. is_among s.endpoint.0 (endpoint_numbers list) ≡ true) seats
seats_among [] [] h = tt
seats_among (s ∷ seats) (e ∷ list) h = (
  ap (λ v. v || is_among s.endpoint.0 (endpoint_numbers list)) (eq-eqb e.no.0 s.endpoint.0 (sym h.0.number)),
  all_weaker (λ (t : Seat). is_among t.endpoint.0 (endpoint_numbers list) ≡ true)
      (λ (t : Seat). is_among t.endpoint.0 (endpoint_numbers (e ∷ list)) ≡ true)
      (λ t k. or_right (e.no.0 == t.endpoint.0) (is_among t.endpoint.0 (endpoint_numbers list)) k) seats
      (seats_among seats list h.1),
)
seats_among [] (e ∷ list) h = absurd h
seats_among (s ∷ seats) [] h = absurd h

heads_among : (number : ℕ) (numbers : List ℕ) (seats : List Seat) →
    AllByRecursion (λ s. is_among s.endpoint.0 numbers ≡ not (is_seat number s)) seats →
    filter (λ (p : Playhead). is_among p.number numbers) (map playhead_of seats)
    ≡ map playhead_of (seats_left number seats)
heads_among number numbers [] h = refl
heads_among number numbers (s ∷ seats) h =
    ap₂ (λ v ps. cond v (playhead_of s ∷ ps) ps) h.0 (heads_among number numbers seats h.1)
    ∙ one (not (is_seat number s))
  where
    one : (v : Bool) →
        cond v (playhead_of s ∷ map playhead_of (seats_left number seats)) (map playhead_of (seats_left number seats))
        ≡ map playhead_of (cond v (s ∷ seats_left number seats) (seats_left number seats))
    one true = refl
    one false = refl

-- the playheads of the endpoints that are left are those of the seats that are left
pub heads_left : (number : ℕ) (seats : List Seat) (list : List Endpoint) → AllZip Seats seats list →
    filter (λ (p : Playhead). is_among p.number (endpoint_numbers (removed number list))) (map playhead_of seats)
    ≡ map playhead_of (seats_left number seats)
heads_left number seats list h =
    heads_among number (endpoint_numbers (removed number list)) seats
    (all_weaker (λ (s : Seat). is_among s.endpoint.0 (endpoint_numbers list) ≡ true)
    (λ (s : Seat). is_among s.endpoint.0 (endpoint_numbers (removed number list)) ≡ not (is_seat number s))
    (λ s k. among_left s.endpoint.0 number list ∙ ap (λ v. v && not (is_seat number s)) k) seats
    (seats_among seats list h))
