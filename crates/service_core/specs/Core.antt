-- The state of a service that holds both ends of each stream (this project's own).
use Rattle.std.specs.Prelude.{
  ◌≡◌,
  ℕ,
  suc,
  ◌+◌,
  ◌-◌,
  ◌*◌,
  ◌≤◌,
  true,
  false,
  ◌==◌,
  ◌&&◌,
  List,
  [],
  ◌∷◌,
  ◌++◌,
  length,
  drop,
  Option,
  Some,
  None,
  IfSome,
}
use Rattle.std.specs.Prelude.{if◌then◌else◌}
use Rattle.std.specs.List.{All, AllZip}
use Rattle.std.specs.Vec.{vec_capacity}
use Rattle.device_io.specs.DeviceLog.{DeviceLog}
use Rattle.ca_base.specs.declared.codes.Hr.{Hr}
use Rattle.ca_base.specs.declared.ids.Seen.{Seen}
use Rattle.ca_base.specs.declared.limits.TheConstants.{MAX_STORE_WORDS}
use Rattle.buffer_ring.specs.Kept.{Kept, new_store}
use Rattle.client_state.specs.declared.side.ClientSide.{ClientSide}
use Rattle.client_state.specs.Frames.{frames_in}
use Rattle.ca_stage.specs.Stage.{BufferData, Frame, is_open_gate, is_render, no_data}
use Rattle.ca_stage.specs.Tally.{Tally}
use Rattle.ca_machine.specs.State.{State}
use Rattle.ca_machine.specs.Plan.{Plan}
use Rattle.ca_machine.specs.View.{AnswersBy, outside}
use Rattle.ca_machine.specs.Data.{dir_of, side_of}
use Rattle.period_engine.specs.declared.entry.StreamEntry.{StreamEntry}
use Rattle.period_engine.specs.Agreement.{Layout, layout_of}
use Rattle.period_engine.specs.Entries.{stream_with}
use Rattle.period_engine.specs.Packed.{packets_in}
use Rattle.reply_payload.specs.declared.payload.TheConstants.{REPLY_ROOM}
use Rattle.service_book.specs.declared.opening.OpeningPlan.{OpeningPlan}
use Rattle.service_board.specs.Board.{state_of}
use Rattle.service_board.specs.Openings.{IsNewBlock}
use Rattle.service_board.specs.declared.board.Board.{Board}
use Rattle.service_board.specs.declared.board.NewStream.{NewStream}
use Rattle.service_core.specs.Putting.{TookMore}
use Rattle.service_core.specs.declared.both_ends.BothEnds.{BothEnds}
use Rattle.service_core.specs.declared.pending.Streams.{Streams}
use Rattle.service_core.specs.declared.pending.Streams.TheVariants as streams

-- a client's data by the words of its store: frames that are to be played, or packets
abbrev pub data_in : Layout → List ℕ → ℕ → Option ℕ → BufferData
data_in l words released lease = record {
  pending = if l.plays then frames_in l.channels words else [];
  packets = if l.plays then [] else packets_in l.channels l.period words;
  released = released;
  lease = lease;
}

-- the data of an entry's client: the words of its store, and what its side counts and leases
abbrev pub core_data : {F : Type 0} → (F → Kept) → StreamEntry (BothEnds F) → BufferData
core_data kept e =
    data_in (layout_of e) (kept e.store.store).words e.store.side.released e.store.side.lease

-- the same by the client's number; none if the client has no entry
abbrev pub core_datas : {F : Type 0} → (F → Kept) → List (StreamEntry (BothEnds F)) → ℕ → BufferData
core_datas kept [] client = no_data
core_datas kept (e ∷ entries) client =
    if e.client.0 == client then core_data kept e else core_datas kept entries client

-- the state that a board stands for with these data, and a tally
abbrev pub core_state : {D F : Type 0} → (F → Kept) → Tally → Board D (BothEnds F) → State
core_state kept tally b = state_of (core_datas kept b.entries.items) tally b

-- the words of a store are whole packets, if it has packets
abbrev pub ArePackets : Layout → List ℕ → Type 0
ArePackets l words = l.plays ≡ false → (k : ℕ) × (length words ≡ k * suc l.period)

-- a client's side knows its stream; its store is of a size that stores have, has room for the frames that it leased to
-- be released, and its words are whole packets if it has packets; a packet fits a reply, whatever its channels
pub record HasSide {F : Type 0} (kept : F → Kept) (e : StreamEntry (BothEnds F)) : Type 0 where
  pub side : e.store.side ≡ side_of (Some (stream_with (core_data kept e) e))
  pub room : is_render e.kind ≡ true → IfSome e.store.side.lease (λ n. n ≤ e.room - length (kept e.store.store).words)
  pub packed : ArePackets (layout_of e) (kept e.store.store).words
  pub small : e.room ≤ MAX_STORE_WORDS
  pub reply : 16 + e.period * 8 ≤ REPLY_ROOM

abbrev pub HaveSides : {D F : Type 0} → (F → Kept) → Board D (BothEnds F) → Type 0
HaveSides kept b = All (HasSide kept) b.entries.items

-- both ends of a stream of which nothing was used yet
pub record IsFresh {F : Type 0} (kept : F → Kept) (ends : BothEnds F) : Type 0 where
  pub empty : (kept ends.store).words ≡ []
  pub unleased : ends.side.lease ≡ None
  pub unreleased : ends.side.released ≡ 0

-- an event on a service that holds both ends, by a plan of the machine: some tally goes with the new board
pub record Goes {D F : Type 0} (faults : D → ℕ) (told : D → Option (List DeviceLog)) (kept : F → Kept)
    (plan : State → Plan)
    (result : Hr) (payload : List ℕ) (before : Tally) (old new : Board D (BothEnds F)) : Type 0
  where
    pub tally : Tally
    pub answers : AnswersBy (core_state kept before old) (plan (core_state kept before old)) result payload
        (core_state kept tally new) (outside faults told old.devices) (outside faults told new.devices)

-- an entry as it was, but for its store: the client's side and the words are these
pub record IsTouched {F : Type 0} (kept : F → Kept) (knows : ClientSide) (holds : Kept) (a b : StreamEntry (BothEnds F))
    : Type 0 where
  pub same : b ≡ record a { store = b.store }
  pub side : b.store.side ≡ knows
  pub store : kept b.store.store ≡ holds

-- only a look was taken
abbrev pub IsLooked : {F : Type 0} → (F → Kept) → StreamEntry (BothEnds F) → StreamEntry (BothEnds F) → Type 0
IsLooked kept a b = IsTouched kept a.store.side (kept a.store.store) a b

-- what a look finds
abbrev pub seen_in : Kept → Seen
seen_in k = record { words = length k.words; gate = k.gate }

-- frames were released: the client's side counts them, and has no lease any more
pub record Releases {F : Type 0} (kept : F → Kept) (frames : List Frame) (count : ℕ) (a b : StreamEntry (BothEnds F))
    : Type 0 where
  pub same : b ≡ record a { store = b.store }
  pub side : b.store.side ≡ record (a.store.side) { lease = None; released = a.store.side.released + count }
  pub puts : frames_in a.channels (kept b.store.store).words
      ≡ frames_in a.channels (kept a.store.store).words ++ frames
  pub took : TookMore count (kept a.store.store) (kept b.store.store)

-- packets were taken off the front of a store, and the client has no lease any more
pub record Reads {F : Type 0} (kept : F → Kept) (count : ℕ) (a b : StreamEntry (BothEnds F)) : Type 0 where
  pub same : b ≡ record a { store = b.store }
  pub side : b.store.side ≡ record (a.store.side) { lease = None }
  pub taken : packets_in a.channels a.period (kept b.store.store).words
      ≡ drop count (packets_in a.channels a.period (kept a.store.store).words)
  pub packed : ArePackets (layout_of b) (kept b.store.store).words
  pub state : record (kept b.store.store) { words = [] } ≡ record (kept a.store.store) { words = [] }

-- how many frames that are to be played an entry's store has; none if its stream is none of these
abbrev pub words_in : {F : Type 0} → (F → Kept) → Streams → StreamEntry (BothEnds F) → ℕ
words_in kept streams.All e = if is_render e.kind then length (kept e.store.store).words else 0
words_in kept streams.Open e =
    if is_render e.kind && is_open_gate e.gate then length (kept e.store.store).words else 0

-- looks were taken at the stores, and nothing was changed
pub record LooksAround {D F : Type 0} (kept : F → Kept) (old new : Board D (BothEnds F)) : Type 0 where
  pub same : new ≡ record old { entries = new.entries }
  pub looked : AllZip (IsLooked kept) old.entries.items new.entries.items
  pub room : vec_capacity new.entries ≡ vec_capacity old.entries

-- the same, from one tally to another
abbrev pub GoesTo : {D F : Type 0} → (D → ℕ) → (D → Option (List DeviceLog)) → (F → Kept) → (State → Plan) → Hr →
    List ℕ →
    Tally → Tally → Board D (BothEnds F) → Board D (BothEnds F) → Type 0
GoesTo faults told kept plan result payload before after old new =
    AnswersBy (core_state kept before old) (plan (core_state kept before old)) result payload
    (core_state kept after new) (outside faults told old.devices) (outside faults told new.devices)

-- the client's side of a stream that is opened by this plan
abbrev pub new_side : OpeningPlan → ClientSide
new_side plan = record {
  dir = dir_of plan.kind;
  exclusive = plan.exclusive;
  event = plan.event;
  buffer = plan.sizes.buffer;
  period = plan.sizes.period;
  store_frames = plan.sizes.words;
  block = plan.format.channels * 2;
  lease = None;
  released = 0;
}

-- both ends of a stream that is opened by this plan
pub record AreNewEnds {F : Type 0} (kept : F → Kept) (plan : OpeningPlan) (ends : BothEnds F) : Type 0 where
  pub side : ends.side ≡ new_side plan
  pub store : kept ends.store ≡ new_store plan.sizes.words (dir_of plan.kind)

-- and the scratch for its endpoint's periods, if that was planned
pub record IsMadeFor {F : Type 0} (kept : F → Kept) (plan : OpeningPlan) (made : NewStream (BothEnds F)) : Type 0 where
  pub ends : AreNewEnds kept plan made.store
  pub block : IsNewBlock plan.scratch plan.format.channels made.block
