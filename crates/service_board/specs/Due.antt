-- What the look-up of a period finds (this project's own).
use Rattle.std.specs.Prelude.{◌≡◌, ℕ, ◌+◌, ◌≤◌, ◌&&◌, nat_lt, Bool, true, false, Some, None, slice_get}
use Rattle.std.specs.List.{All, find}
use Rattle.ca_base.specs.declared.ids.Flow.{Flow}
use Rattle.ca_base.specs.declared.ids.Flow.TheVariants as flow
use Rattle.ca_base.specs.declared.limits.TheConstants.{MAX_COUNT}
use Rattle.ca_machine.specs.Periods.{period_plan}
use Rattle.device_registry.specs.declared.endpoint.Endpoint.{Endpoint}
use Rattle.period_engine.specs.declared.entry.StreamEntry.{StreamEntry}
use Rattle.period_engine.specs.Entries.{is_recorded}
use Rattle.service_book.specs.declared.book.Book.{Book}
use Rattle.service_book.specs.Lookups.{IsActiveAt}
use Rattle.stream_entries.specs.Holding.{period_frames}
use Rattle.service_board.specs.InOrder.{Seats, is_seat}
use Rattle.service_board.specs.Lookups.{Says}
use Rattle.service_board.specs.declared.board.Board.{Board}
use Rattle.service_board.specs.declared.board.Seat.{Seat}

-- the endpoint at a place has this flow
abbrev pub HasFlow : Flow → Book → ℕ → Type 0
HasFlow flow book at = (e : Endpoint) → slice_get book.registry.list at ≡ Some e → e.flow ≡ flow

abbrev pub is_capture_flow : Flow → Bool
is_capture_flow flow.Render = false
is_capture_flow flow.Capture = true

-- a stream that records an endpoint can't count `frames` frames more
abbrev pub is_worn_entry : {E : Type 0} → ℕ → ℕ → StreamEntry E → Bool
is_worn_entry number frames e = is_recorded number e && nat_lt MAX_COUNT (e.ever + frames)

-- at this place stands an endpoint, which is ACTIVE, and its seat, whose scratch and next place have room for a period,
-- and so have the counts of those that record the endpoint; and no row of the period holds
pub record FindsDue {D E : Type 0} (number : ℕ) (b : Board D E) (at : ℕ) : Type 0 where
  pub active : IsActiveAt number b.book at
  pub seat : Seat
  pub seat_here : slice_get b.seats.items at ≡ Some seat
  pub seat_found : find (is_seat number) b.seats.items ≡ Some seat
  pub seats : Seats seat active.endpoint
  pub fits : period_frames active.endpoint b.entries.items ≤ seat.block.frames
  pub room : seat.next + period_frames active.endpoint b.entries.items ≤ MAX_COUNT
  pub ever : All (λ e. is_recorded number e ≡ true → e.ever + period_frames active.endpoint b.entries.items ≤ MAX_COUNT)
      b.entries.items
  pub says : Says b (λ st. (period_plan st number).rows) None
