-- What an Initialize asks for and opens, as the code has it (this project's own).
use Rattle.std.specs.Prelude.{◌≡◌, ℕ, nat_le, nat_lt, List, [], ◌∷◌, Bool, false, Option, Some, None}
use Rattle.std.specs.Prelude.{if◌then◌else◌}
use Rattle.std.specs.List.{AllZip, find, insert, position}
use Rattle.ca_base.specs.declared.ids.Gate.TheVariants as gate
use Rattle.ca_base.specs.declared.ids.SessionNo.{SessionNo}
use Rattle.ca_base.specs.Rows.{first}
use Rattle.volume_stack.specs.Scaling.{unit_gain}
use Rattle.ca_base.specs.declared.ids.Reason.TheVariants.{Override}
use Rattle.buffer_ring.specs.declared.step.EndState.{EndState}
use Rattle.buffer_ring.specs.declared.step.StoreStep.{StoreStep}
use Rattle.session_manager.specs.Rows.{join_rows}
use Rattle.ca_stage.specs.Stage.{BufferData, no_data}
use Rattle.ca_machine.specs.declared.state.Client.{Client}
use Rattle.device_registry.specs.declared.endpoint.Endpoint.{Endpoint}
use Rattle.ca_machine.specs.declared.state.Connection.{Connection}
use Rattle.ca_machine.specs.State.{is_client_of, is_connection}
use Rattle.device_registry.specs.Endpoints.{is_endpoint}
use Rattle.ca_machine.specs.Data.{dir_of}
use Rattle.exclusive_mode.specs.declared.claims.Claim.{Claim}
use Rattle.exclusive_mode.specs.Claims.{claim, is_refused, is_takeover}
use Rattle.ca_machine.specs.Formats.{is_exclusive}
use Rattle.ca_machine.specs.Openings.{has_event, initialize_rows, kind_opened}
use Rattle.period_engine.specs.declared.block.Block.{Block}
use Rattle.period_engine.specs.Sounds.{IsBlockFor}
use Rattle.period_engine.specs.declared.entry.StreamEntry.{StreamEntry}
use Rattle.service_book.specs.declared.book.Book.{Book}
use Rattle.service_book.specs.declared.opening.Opening.{Opening as Asked}
use Rattle.service_book.specs.declared.opening.OpeningPlan.{OpeningPlan}
use Rattle.service_book.specs.Openings.{AreSizes, HasFormat, arguments, key_by}
use Rattle.period_engine.specs.SubSteps.{Turned}
use Rattle.stream_entries.specs.Closing.{closes_if}
use Rattle.stream_entries.specs.Holding.{held_on}
use Rattle.service_board.specs.InOrder.{scratch_at}
use Rattle.service_board.specs.declared.board.NewStream.{NewStream}
use Rattle.service_board.specs.declared.board.Seat.{Seat}
use Rattle.service_board.specs.Lookups.{Says}
use Rattle.stream_entries.specs.Search.{is_entry_of}
use Rattle.service_board.specs.declared.board.Board.{Board}

-- the entry of a stream as it is opened
abbrev pub new_entry : {E : Type 0} → Asked → OpeningPlan → SessionNo → E → StreamEntry E
new_entry x plan session store = record {
  client = x.client;
  endpoint = plan.endpoint;
  kind = plan.kind;
  exclusive = plan.exclusive;
  event = plan.event;
  channels = plan.format.channels;
  rate = plan.format.rate;
  buffer = plan.sizes.buffer;
  period = plan.sizes.period;
  store = store;
  room = plan.sizes.words;
  latency = plan.sizes.latency;
  session = session;
  gate = gate.Open;
  running = false;
  picked = 0;
  position = 0;
  offered = 0;
  ever = 0;
  after_gap = false;
  gains = unit_gain ∷ unit_gain ∷ unit_gain ∷ unit_gain ∷ [];
}

-- an entry of a greater client number
abbrev pub is_above : {E : Type 0} → ℕ → StreamEntry E → Bool
is_above client e = nat_lt client e.client.0

-- the frames that the scratch of an endpoint's seat is to have for periods of this many, if it has fewer
abbrev pub scratch_for : ℕ → ℕ → List Seat → Option ℕ
scratch_for number frames seats = if nat_le frames (scratch_at number seats) then None else Some frames

-- what a plan names of a book: the client of the call, on its endpoint, which has the format; what names the session,
-- which its connection gives; and the kind and the sizes of the stream
pub record Names (x : Asked) (book : Book) (plan : OpeningPlan) : Type 0 where
  pub named : Client
  pub found : find (is_client_of x.conn.0 x.client.0) book.clients.items ≡ Some named
  pub client_is : named.client.0 ≡ x.client.0
  pub on : named.endpoint.0 ≡ plan.endpoint.0
  pub endpoint : Endpoint
  pub there : find (is_endpoint plan.endpoint.0) book.registry.list ≡ Some endpoint
  pub connection : Connection
  pub connected : find (is_connection x.conn.0) book.connections.items ≡ Some connection
  pub key : plan.key ≡ key_by x connection plan.endpoint
  pub format : HasFormat endpoint.format x plan.format
  pub kind : plan.kind ≡ kind_opened endpoint.flow x.flags
  pub exclusive : plan.exclusive ≡ is_exclusive x.share
  pub event : plan.event ≡ has_event x.flags
  pub sizes : AreSizes x plan.kind plan.sizes
  pub joins : first (join_rows plan.key book.sessions) ≡ None

-- what an Initialize opens that no row but that of memory refuses: the client has no stream yet, what is claimed of the
-- endpoint is granted, and its seat is to have other scratch if it has too little
pub record Plans {D E : Type 0} (x : Asked) (b : Board D E) (plan : OpeningPlan) : Type 0 where
  pub names : Names x b.book plan
  pub fresh : find (is_entry_of x.client.0) b.entries.items ≡ None
  pub claimed : Claim
  pub claims : claimed ≡ claim plan.exclusive (held_on plan.endpoint.0 b.entries.items) names.endpoint.priority
  pub granted : is_refused claimed ≡ false
  pub takes_over : plan.takes_over ≡ is_takeover claimed
  pub scratch : plan.scratch ≡ scratch_for plan.endpoint.0 plan.sizes.period b.seats.items
  pub says : Says b (λ st. initialize_rows st x.conn.0 x.client.0 (arguments x)) None

-- the engine's end of the new store that was planned: its gate is open, and nothing was seen there
abbrev pub IsNewStore : {E : Type 0} → (E → EndState) → OpeningPlan → E → Type 0
IsNewStore state plan store =
    state store ≡ record { cap = plan.sizes.words; dir = dir_of plan.kind; gate = gate.Open; seen = 0 }

-- the scratch that was planned, of this many channels; there is none if none was
abbrev pub IsNewBlock : Option ℕ → ℕ → Option Block → Type 0
IsNewBlock None channels None = Unit {0}
IsNewBlock (Some frames) channels (Some block) = IsBlockFor frames channels block
IsNewBlock None channels (Some block) = ⊥
IsNewBlock (Some frames) channels None = ⊥

-- all that was planned
pub record IsNewStream {E : Type 0} (state : E → EndState) (plan : OpeningPlan) (made : NewStream E) : Type 0 where
  pub store : IsNewStore state plan made.store
  pub block : IsNewBlock plan.scratch plan.format.channels made.block

-- a seat with other scratch, if there is some
abbrev pub with_scratch : Option Block → Seat → Seat
with_scratch None seat = seat
with_scratch (Some block) seat = record seat { block = block }

-- nothing was ever released for a client
abbrev pub IsFresh : ℕ → (ℕ → BufferData) → Type 0
IsFresh client datas = datas client ≡ no_data

-- the entries with that of a stream as it is opened, in the store that was given, after those were closed that it takes
-- the endpoint from
pub record Enters {E : Type 0} (moves : E → List StoreStep → E → Type 0) (x : Asked) (plan : OpeningPlan)
    (given : Option E) (old new : List (StreamEntry E)) : Type 0
  where
    pub mid : List (StreamEntry E)
    pub turned : AllZip (Turned moves (closes_if plan.takes_over Override (Some plan.endpoint.0))) old mid
    pub place : ℕ
    pub session : SessionNo
    pub store : E
    pub given_is : given ≡ Some store
    pub entries : new ≡ insert mid place (new_entry x plan session store)
