-- Remove: the board without an endpoint, whose streams are closed.
use Rattle.std.proofs.Common.{◌≡◌, ℕ, ◌≤◌, ◌==◌, not, List, [], map, filter, Bool, true, false, Option, Some, None}
use Rattle.std.proofs.Common.{refl, sym, ap, ◌∙◌, subst, eqb-true}
use Rattle.std.specs.Global.{Vec}
use Rattle.std.specs.List.{All, AllZip, find}
use Rattle.std.specs.Option.{option_map_or}
use Rattle.std.specs.Vec.{vec_capacity}
use Rattle.std.proofs.lemmas.List.Elements.{All-filter}
use Rattle.device_io.specs.DeviceLog.{DeviceLog}
use Rattle.ca_base.specs.declared.codes.TheConstants.Hr as hr
use Rattle.ca_base.specs.declared.ids.Reason.TheVariants.{Removal}
use Rattle.ca_base.specs.declared.limits.TheConstants.{ENDPOINTS}
use Rattle.ca_base.specs.Rows.{first}
use Rattle.buffer_ring.specs.declared.step.EndState.{EndState}
use Rattle.buffer_ring.specs.declared.step.StoreStep.{StoreStep}
use Rattle.ca_stage.specs.Stage.{BufferData, Playhead}
use Rattle.ca_stage.specs.Moves.{after_moves}
use Rattle.ca_stage.specs.Order.{RisesFrom, is_among}
use Rattle.ca_stage.specs.Tally.{tally_after}
use Rattle.device_registry.specs.declared.endpoint.Endpoint.{Endpoint}
use Rattle.device_registry.specs.Changes.{without}
use Rattle.device_registry.specs.Endpoints.{EndpointList, endpoint_at, is_endpoint, removed}
use Rattle.device_registry.specs.Rows.{found_rows}
use Rattle.ca_machine.specs.Devices.{remove_plan}
use Rattle.ca_machine.specs.Seats.{with_playheads}
use Rattle.ca_machine.specs.State.{endpoint_numbers}
use Rattle.period_engine.specs.declared.entry.StreamEntry.{StreamEntry}
use Rattle.service_book.specs.BookState.{book_state}
use Rattle.service_book.specs.InOrder.{IsBook}
use Rattle.service_book.specs.declared.book.Book.{Book}
use Rattle.service_board.specs.Board.{playhead_of}
use Rattle.stream_entries.specs.Closing.{Disconnects}
use Rattle.service_board.specs.Does.{AnyData, Does}
use Rattle.service_board.specs.InOrder.{InOrder, IsOn, Seats, is_seat, next_at, scratch_at}
use Rattle.service_board.specs.NamedEndpoints.{FindsNamed}
use Rattle.service_board.specs.declared.board.Board.{Board}
use Rattle.service_board.specs.declared.board.Seat.{Seat}
use Rattle.service_board.proofs.Disconnecting.{close_moves, disconnects_does, heads_stay, stage_after, stage_before}
use Rattle.service_board.proofs.DisconnectedOrder.{disconnected_order, other_book}
use Rattle.service_board.proofs.PlainEvents.{not_asked}
use Rattle.service_board.proofs.KeptEntries.{rises_kept}
use Rattle.service_board.proofs.RemovedSeats.{find_left, heads_left, seats_left, zip_left}

-- the registry refuses nothing of an endpoint that is there
pub found_passes : {D E : Type 0} (number : ℕ) (b : Board D E) (at : ℕ) → FindsNamed number b at →
    first (found_rows (endpoint_at number b.book.registry.list)) ≡ None
found_passes number b at found = ap (λ o. first (found_rows o)) found.found

-- a number that isn't the one that is gone is left
is_left : (n number m : ℕ) → (n == number) ≡ false → (m == n) ≡ true → not (m == number) ≡ true
is_left n number m other own =
    ap (λ k. not (k == number)) (eqb-true m n own) ∙ ap not other

module _ {D E : Type 0} (moves : E → List StoreStep → E → Type 0) (state : E → EndState) (b : Board D E)
    (order : InOrder state b) (number : ℕ) (entries : Vec (StreamEntry E))
    (loses : Disconnects moves state true Removal (Some number) b.entries entries) (registry : EndpointList)
    (is : registry ≡ without number b.book.registry) (seats : Vec Seat)
    (left : seats.items ≡ seats_left number b.seats.items) where
  abbrev removed_book : Book
  removed_book = record (b.book) { registry = registry }

  abbrev pub removed_board : Board D E
  removed_board = record b { book = removed_book; seats = seats; entries = entries }

  -- ---- what the machine does

  abbrev is_there : Playhead → Bool
  is_there p = is_among p.number (endpoint_numbers (removed number b.book.registry.list))

  -- the stage after the closes, with the playheads of the endpoints that are left
  stage_left : (datas : ℕ → BufferData) →
      stage_after moves state b order true Removal (Some number) entries loses seats.items datas
      ≡ with_playheads (endpoint_numbers (removed number b.book.registry.list))
      (after_moves (stage_before moves state b order true Removal (Some number) entries loses datas)
      (close_moves moves state b order true Removal (Some number) entries loses datas))
  stage_left datas =
      let before = stage_before moves state b order true Removal (Some number) entries loses datas in
      let after =
      after_moves before (close_moves moves state b order true Removal (Some number) entries loses datas) in
      ap (λ heads. record { playheads = heads; streams = after.streams })
      (ap (map playhead_of) left
      ∙ sym (heads_left number b.seats.items b.book.registry.list order.seats)
      ∙ ap (filter is_there) (sym (heads_stay true Removal (Some number) before)))

  pub remove_does : (at : ℕ) → FindsNamed number b at → (faults : D → ℕ) (told : D → Option (List DeviceLog)) →
      Does faults told moves None AnyData b removed_board (λ st. remove_plan st number) hr.S_OK []
  remove_does at found faults told =
      disconnects_does moves state b order true Removal (Some number) entries loses removed_book seats faults told
      (λ st. remove_plan st number) [] found.says not_asked (λ datas tally. refl)
      (λ datas tally.
      let after =
      tally_after tally (stage_before moves state b order true Removal (Some number) entries loses datas)
      (close_moves moves state b order true Removal (Some number) entries loses datas) in
      record {
        result = refl;
        payload = refl;
        output = refl;
        after_is =
            ap (λ (r : EndpointList). book_state (record (b.book) { registry = r })
            (stage_after moves state b order true Removal (Some number) entries loses seats.items datas) after) is
            ∙ ap (λ stage. book_state (record (b.book) { registry = without number b.book.registry }) stage after)
            (stage_left datas);
      })

  -- ---- the order of the board

  -- the other endpoints are there still
  next_left : (n : ℕ) → (n == number) ≡ false → next_at n seats.items ≡ next_at n b.seats.items
  next_left n other =
      ap (λ (o : Option Seat). option_map_or (λ s. s.next) o 0)
      (ap (find (is_seat n)) left
      ∙ find_left (is_seat n) (λ s. not (is_seat number s)) (λ s own. is_left n number s.endpoint.0 other own)
      b.seats.items)

  scratch_left : (n : ℕ) → (n == number) ≡ false → scratch_at n seats.items ≡ scratch_at n b.seats.items
  scratch_left n other =
      ap (λ (o : Option Seat). option_map_or (λ s. s.block.frames) o 0)
      (ap (find (is_seat n)) left
      ∙ find_left (is_seat n) (λ s. not (is_seat number s)) (λ s own. is_left n number s.endpoint.0 other own)
      b.seats.items)

  keeps_on : (e : StreamEntry E) → (e.endpoint.0 == number) ≡ false →
      IsOn e b.book.registry.list b.seats.items → IsOn e registry.list seats.items
  keeps_on e other on =
      let next = next_left e.endpoint.0 other in
      record {
        endpoint = on.endpoint;
        there =
            ap (λ (r : EndpointList). find (is_endpoint e.endpoint.0) r.list) is
            ∙ find_left (is_endpoint e.endpoint.0) (λ x. not (is_endpoint number x))
            (λ x own. is_left e.endpoint.0 number x.no.0 other own) b.book.registry.list
            ∙ on.there;
        fits = on.fits;
        some = on.some;
        longest = on.longest;
        lasts = on.lasts;
        holds = subst (λ k. e.period ≤ k) (sym (scratch_left e.endpoint.0 other)) on.holds;
        suited = on.suited;
        behind = subst (λ k. e.position ≤ k) (sym next) on.behind;
        hears = λ loopback. subst (λ k. e.ever ≤ k) (sym next) (on.hears loopback);
      }

  still_book : IsBook removed_book
  still_book =
      other_book b.book registry b.book.choices b.book.is_shut
      (subst (λ (r : EndpointList). RisesFrom 0 (endpoint_numbers r.list)) (sym is)
      (rises_kept (λ (e : Endpoint). e.no.0) (λ e. not (is_endpoint number e)) 0 b.book.registry.list
      order.book.endpoints))
      (subst (λ (r : EndpointList). All (λ (e : Endpoint). e.no.0 ≤ r.last) r.list) (sym is)
      (All-filter (λ e. not (is_endpoint number e)) (λ (e : Endpoint). e.no.0 ≤ b.book.registry.last)
      b.book.registry.list order.book.added))
      order.book

  pub remove_order : vec_capacity seats ≡ vec_capacity b.seats → InOrder state removed_board
  remove_order room =
      disconnected_order moves state b order true Removal (Some number) entries loses removed_book seats refl refl refl
      keeps_on
      (subst (λ ss. AllZip Seats ss registry.list) (sym left)
      (subst (λ (r : EndpointList). AllZip Seats (seats_left number b.seats.items) r.list) (sym is)
      (zip_left number b.seats.items b.book.registry.list order.seats)))
      still_book (subst (λ n. ENDPOINTS ≤ n) (sym room) order.seat_room)
