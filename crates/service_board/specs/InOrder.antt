-- What holds of a board between events (this project's own).
use Rattle.std.specs.Prelude.{◌≡◌, ℕ, ◌*◌, ◌≤◌, ◌==◌, not, List, length, Bool, false, true}
use Rattle.std.specs.Prelude.{Some}
use Rattle.std.specs.List.{All, AllZip, find}
use Rattle.std.specs.Option.{option_map_or}
use Rattle.std.specs.Vec.{vec_capacity}
use Rattle.ca_base.specs.declared.ids.Gate.TheVariants as gate
use Rattle.ca_base.specs.declared.ids.Flow.{Flow}
use Rattle.ca_base.specs.declared.ids.Flow.TheVariants as flow
use Rattle.ca_base.specs.declared.ids.StreamKind.{StreamKind}
use Rattle.ca_base.specs.declared.limits.TheConstants.{CLIENTS, ENDPOINTS, MAX_COUNT, NOTICES}
use Rattle.wave_format.specs.Format.{IsValid}
use Rattle.volume_stack.specs.Scaling.{unit_gain}
use Rattle.buffer_ring.specs.declared.step.EndState.{EndState}
use Rattle.session_manager.specs.Sessions.{session_at}
use Rattle.ca_stage.specs.Stage.{is_capture, is_loopback}
use Rattle.ca_machine.specs.declared.state.Client.{Client}
use Rattle.device_registry.specs.declared.endpoint.Endpoint.{Endpoint}
use Rattle.device_registry.specs.Endpoints.{is_endpoint}
use Rattle.ca_machine.specs.Periods.{shared_frames}
use Rattle.period_engine.specs.declared.entry.StreamEntry.{StreamEntry}
use Rattle.period_engine.specs.Entries.{AreInOrder, IsRested}
use Rattle.period_engine.specs.Sounds.{BlockState}
use Rattle.reply_payload.specs.declared.packets.TheConstants.{MOST_FRAMES}
use Rattle.service_book.specs.declared.book.Book.{Book}
use Rattle.service_book.specs.InOrder.{IsBook}
use Rattle.service_book.specs.Gains.{gains_if}
use Rattle.stream_entries.specs.Holding.{is_exclusive_entry, is_open_entry}
use Rattle.service_board.specs.declared.board.Board.{Board}
use Rattle.service_board.specs.declared.board.Seat.{Seat}

-- scratch is for frames of this many channels: it has samples and bytes for each of its frames
pub record IsScratch (channels : ℕ) (block : BlockState) : Type 0 where
  pub samples : block.samples ≡ block.frames * channels
  pub bytes : length block.bytes ≡ 2 * (block.frames * channels)

-- a seat is that of an endpoint: its next place is in range, and a period of shared streams fits in its scratch
pub record Seats (seat : Seat) (e : Endpoint) : Type 0 where
  pub number : seat.endpoint.0 ≡ e.no.0
  pub next : seat.next ≤ MAX_COUNT
  pub block : IsScratch e.format.channels seat.block
  pub fits : shared_frames e ≤ seat.block.frames
  pub format : IsValid e.format

-- a seat of an endpoint's number
abbrev pub is_seat : ℕ → Seat → Bool
is_seat number s = s.endpoint.0 == number

-- the next place of an endpoint's seat
abbrev pub next_at : ℕ → List Seat → ℕ
next_at number seats = option_map_or (λ s. s.next) (find (is_seat number) seats) 0

-- the frames that fit in the scratch of an endpoint's seat
abbrev pub scratch_at : ℕ → List Seat → ℕ
scratch_at number seats = option_map_or (λ s. s.block.frames) (find (is_seat number) seats) 0

-- streams that play, and those that hear what is played, are on endpoints that play; those that record on ones that do
abbrev pub suits : Flow → StreamKind → Bool
suits flow.Render kind = not (is_capture kind)
suits flow.Capture kind = is_capture kind

-- an entry's endpoint is there with its channels, and suits its kind; its period has a frame and fits in the endpoint's
-- scratch, and is that of shared streams unless it is exclusive; its position isn't beyond the endpoint's next place,
-- nor, if it hears what is played, is what it was offered
pub record IsOn {E : Type 0} (e : StreamEntry E) (endpoints : List Endpoint) (seats : List Seat) : Type 0 where
  pub endpoint : Endpoint
  pub there : find (is_endpoint e.endpoint.0) endpoints ≡ Some endpoint
  pub fits : e.channels ≡ endpoint.format.channels
  pub some : 1 ≤ e.period
  pub longest : e.period ≤ MOST_FRAMES
  pub lasts : e.exclusive ≡ false → e.period ≡ shared_frames endpoint
  pub holds : e.period ≤ scratch_at e.endpoint.0 seats
  pub suited : suits endpoint.flow e.kind ≡ true
  pub behind : e.position ≤ next_at e.endpoint.0 seats
  pub hears : is_loopback e.kind ≡ true → e.ever ≤ next_at e.endpoint.0 seats

-- an entry is that of a live client, on the client's endpoint; if it is open, it is on the endpoint; its gains are in
-- range, and unless levels have changed they are those of the levels
pub record Belongs {E : Type 0} (book : Book) (seats : List Seat) (e : StreamEntry E) : Type 0 where
  pub client : Client
  pub live : find (λ c. c.client.0 == e.client.0) book.clients.items ≡ Some client
  pub on : client.endpoint.0 ≡ e.endpoint.0
  pub opens : e.gate ≡ gate.Open → IsOn e book.registry.list seats
  pub within : All (λ gain. gain ≤ unit_gain) e.gains
  pub gains : book.levels_changed ≡ false →
      e.gains ≡ gains_if e.exclusive client.levels (session_at e.session.0 book.sessions.list)

-- while an exclusive stream is open, what is open on its endpoint has its period: nothing else is
abbrev pub IsAlike : {E : Type 0} → StreamEntry E → StreamEntry E → Type 0
IsAlike x y =
    is_exclusive_entry x.endpoint.0 x ≡ true → is_open_entry x.endpoint.0 y ≡ true → y.period ≡ x.period

abbrev pub AreAlike : {E : Type 0} → List (StreamEntry E) → Type 0
AreAlike entries = All (λ x. All (IsAlike x) entries) entries

-- a board between events: entries stand in rising order of their clients' numbers, nothing is picked, and the tables
-- fit one another
pub record InOrder {D E : Type 0} (state : E → EndState) (b : Board D E) : Type 0 where
  pub order : AreInOrder b.entries.items
  pub rested : All (IsRested state) b.entries.items
  pub belong : All (Belongs b.book b.seats.items) b.entries.items
  pub alike : AreAlike b.entries.items
  pub seats : AllZip Seats b.seats.items b.book.registry.list
  pub book : IsBook b.book
  pub room : CLIENTS ≤ vec_capacity b.entries
  pub seat_room : ENDPOINTS ≤ vec_capacity b.seats
  pub draft_room : NOTICES ≤ vec_capacity b.drafts
