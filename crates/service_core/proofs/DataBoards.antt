-- Data calls on a board with both ends: what each makes of the state, and what it leaves in order.
use Rattle.std.proofs.Common.{◌≡◌, ℕ, suc, ◌+◌, ◌-◌, ◌/◌, ◌≤◌, ◌==◌, List, [], ◌∷◌, length, get_or, take, true, false}
use Rattle.std.proofs.Common.{Option, Some, None, refl, sym, ap, ap₂, subst, ◌∙◌, arith, if◌then◌else◌}
use Rattle.std.proofs.lemmas.Bool.{true≢false}
use Rattle.std.specs.List.{All, slice_get}
use Rattle.std.specs.Int.{w32, to_le_bytes}
use Rattle.std.proofs.lemmas.List.Elements.{All-set}
use Rattle.std.proofs.lemmas.Option.{get_or_from_slice_get}
use Rattle.device_io.specs.DeviceLog.{DeviceLog}
use Rattle.ca_base.specs.declared.codes.Hr.{Hr}
use Rattle.ca_base.specs.declared.codes.TheConstants.Hr as hr
use Rattle.ca_base.specs.declared.ids.Gate.TheVariants as gate
use Rattle.ca_base.specs.declared.limits.TheConstants.{MAX_COUNT}
use Rattle.ca_base.specs.Rows.{first}
use Rattle.client_state.specs.declared.check.DataCall.{DataCall}
use Rattle.client_state.specs.declared.check.DataCall.TheVariants as data_call
use Rattle.client_state.specs.Rows.{padding_of, side_rows}
use Rattle.buffer_ring.specs.declared.step.EndState.{EndState}
use Rattle.buffer_ring.specs.Kept.{Kept, state_of}
use Rattle.ca_stage.specs.Stage.{Frame, Stream, frames_waiting, is_render}
use Rattle.ca_stage.specs.Moves.{StreamMove, leased, released, read, moved, of_client}
use Rattle.ca_stage.specs.Tally.{Tally}
use Rattle.ca_machine.specs.State.{State}
use Rattle.ca_machine.specs.Plan.{Outcome, answered, granted}
use Rattle.ca_machine.specs.Data.{data_plan, first_packet, next_packet_size, packet_bytes, packets_read}
use Rattle.period_engine.specs.Packed.{packet_of}
use Rattle.period_engine.specs.declared.entry.StreamEntry.{StreamEntry}
use Rattle.period_engine.specs.Entries.{IsRested}
use Rattle.service_board.specs.declared.board.Board.{Board}
use Rattle.service_core.specs.Core.{Goes, HasSide, IsLooked, IsTouched, Reads, Releases, seen_in}
use Rattle.service_core.specs.DataCalls.{FindsEntry}
use Rattle.service_core.specs.Service.{IsCore}
use Rattle.service_core.specs.declared.both_ends.BothEnds.{BothEnds}
use Rattle.service_board.proofs.OneEntry.{IsSole, sole_there}
use Rattle.service_board.proofs.StreamMoves.{ChangesOne, order_kept}
use Rattle.service_core.proofs.ReleaseRows.{PassesPacket, PassesRead, PassesRelease, get_passes, next_passes}
use Rattle.service_core.proofs.ReleaseRows.{packet_passes, read_passes, release_passes, side_way}
use Rattle.service_core.proofs.DataSteps.{core_stream, data_moved, data_row_refused, data_told}
use Rattle.service_core.proofs.PacketData.{first_is, next_is, one_packet, waiting_is}
use Rattle.service_core.proofs.DataEntries.{leased_rested, leased_side, leased_stream, looked_rested, looked_side}
use Rattle.service_core.proofs.DataEntries.{looked_stream, read_rested, read_side, read_stream, released_rested}
use Rattle.service_core.proofs.DataEntries.{released_side, released_stream, rows_seen, same_but_store}

module _ {D F : Type 0} (faults : D → ℕ) (told : D → Option (List DeviceLog)) (kept : F → Kept) (state : F → EndState)
    (whole : (x : F) → state_of (kept x) ≡ state x) (conn client : ℕ) (old new : Board D (BothEnds F)) (at : ℕ)
    (a b : StreamEntry (BothEnds F)) (core : IsCore state kept old)
    (there : FindsEntry conn client old at) (found : a ≡ get_or old.entries.items at a) (one : ChangesOne at b old new)
    (same : b ≡ record a { store = b.store }) where
  is_a : there.entry ≡ a
  is_a = sym (get_or_from_slice_get old.entries.items at there.entry a there.here) ∙ sym found

  is_here : slice_get old.entries.items at ≡ Some a
  is_here = there.here ∙ ap Some is_a

  is_sole : IsSole a old.entries.items at
  is_sole = sole_there 0 old.entries.items core.order.order at a is_here

  number : a.client.0 ≡ client
  number = ap (λ e. e.client.0) (sym is_a) ∙ there.client_is

  same_client : b.client.0 ≡ a.client.0
  same_client = ap (λ e. e.client.0) same

  pub has_side : HasSide kept a
  has_side = subst (HasSide kept) (sym found) (core.sides at a there.within)

  pub rested : IsRested (λ ends. state ends.store) a
  rested = subst (IsRested (λ ends. state ends.store)) (sym found) (core.order.rested at a there.within)

  core_kept : IsRested (λ ends. state ends.store) b → HasSide kept b → IsCore state kept new
  core_kept rests has = record {
    order =
        let before : b.position ≡ a.position = ap (λ e. e.position) same in
        let counted : b.ever ≡ a.ever = ap (λ e. e.ever) same in
        order_kept (λ ends. state ends.store) old new at a b is_here (λ opens. sym (ap (λ e. e.gate) same) ∙ opens) one
        (same_but_store a b same) rests (omega (arith, before)) (omega (arith, counted)) core.order;
    sides =
        subst (All (HasSide kept)) (sym one.entries) (All-set (HasSide kept) old.entries.items at b has core.sides);
  }

  -- ---- only a look

  module _ (looked : IsLooked kept a b) where
    pub looked_core : IsCore state kept new
    looked_core =
        core_kept (looked_rested kept state whole a b looked rested) (looked_side kept state whole a b looked has_side)

    pub refused_goes : (call : DataCall) (outcome : State → Stream → Outcome) (code : Hr) →
        Some code ≡ first (side_rows a.store.side call (seen_in (kept a.store.store))) → (before : Tally) →
        Goes faults told kept (λ st. data_plan st conn client call (outcome st)) code [] before old new
    refused_goes call outcome code row before =
        data_row_refused faults told kept conn client call outcome before old new at a b there is_a is_sole one
        same_client code (rows_seen kept state whole a b has_side rested call ∙ sym row)
        (looked_stream kept state whole a b looked)

    pub padding_goes : (words : ℕ) → words ≡ length (kept a.store.store).words →
        None ≡ first (side_rows a.store.side data_call.Padding (seen_in (kept a.store.store))) → (before : Tally) →
        Goes faults told kept
        (λ st. data_plan st conn client data_call.Padding (λ s. answered st (to_le_bytes w32 (frames_waiting s))))
        hr.S_OK (to_le_bytes w32 (padding_of b.store.side words)) before old new
    padding_goes words is row before =
        data_told faults told kept conn client data_call.Padding
        (λ st s. answered st (to_le_bytes w32 (frames_waiting s))) before old new at a b there is_a is_sole one
        same_client (to_le_bytes w32 (padding_of b.store.side words))
        (rows_seen kept state whole a b has_side rested data_call.Padding ∙ sym row)
        (looked_stream kept state whole a b looked)
        (λ st. ap (λ n. answered st (to_le_bytes w32 n))
        (waiting_is kept a (kept a.store.store).words a.store.side.released a.store.side.lease has_side.packed
        ∙ ap₂ (λ side n. padding_of side n) (sym has_side.side ∙ sym looked.side) (sym is)))

    pub next_goes : (words : ℕ) → words ≡ length (kept a.store.store).words →
        None ≡ first (side_rows a.store.side data_call.NextSize (seen_in (kept a.store.store))) → (before : Tally) →
        Goes faults told kept
        (λ st. data_plan st conn client data_call.NextSize (λ s. answered st (to_le_bytes w32 (next_packet_size s))))
        hr.S_OK (to_le_bytes w32 (if words == 0 then 0 else b.store.side.period)) before old new
    next_goes words is row before =
        let records : is_render a.kind ≡ false =
        sym (side_way kept a has_side rested.fits.few_channels)
        ∙ next_passes a.store.side (seen_in (kept a.store.store)) (sym row) in
        data_told faults told kept conn client data_call.NextSize
        (λ st s. answered st (to_le_bytes w32 (next_packet_size s))) before old new at a b there is_a is_sole one
        same_client (to_le_bytes w32 (if words == 0 then 0 else b.store.side.period))
        (rows_seen kept state whole a b has_side rested data_call.NextSize ∙ sym row)
        (looked_stream kept state whole a b looked)
        (λ st. ap (λ n. answered st (to_le_bytes w32 n))
        (next_is a.kind a.channels a.period (kept a.store.store).words a.store.side.released a.store.side.lease records
        has_side.packed
        ∙ ap₂ (λ n period. if n == 0 then 0 else period) (sym is)
        (ap (λ side. side.period) (sym has_side.side ∙ sym looked.side))))

  -- ---- a call that moves the stream

  moved_goes : (call : DataCall) (outcome : State → Stream → Outcome) (payload : List ℕ) (m : StreamMove) →
      None ≡ first (side_rows a.store.side call (seen_in (kept a.store.store))) →
      (kept a.store.store).gate ≡ gate.Open →
      core_stream kept b ≡ moved m (core_stream kept a) →
      ((st : State) → outcome st (core_stream kept a) ≡ granted payload (of_client client m ∷ []) st) →
      (before : Tally) →
      Goes faults told kept (λ st. data_plan st conn client call (outcome st)) hr.S_OK payload before old new
  moved_goes call outcome payload m row opens turned grants before =
      data_moved faults told kept conn client call outcome before old new at a b there is_a is_sole one same_client
      payload m
      (rows_seen kept state whole a b has_side rested call ∙ sym row)
      (sym rested.fits.gate ∙ ap (λ s. s.gate) (sym (whole a.store.store)) ∙ opens) turned
      (λ st. grants st ∙ ap (λ c. granted payload (of_client c m ∷ []) st) (sym number))

  module _ (n : ℕ) (touched : IsTouched kept (record (a.store.side) { lease = Some n }) (kept a.store.store) a b)
      (row : None ≡ first (side_rows a.store.side (data_call.Get n) (seen_in (kept a.store.store)))) where
    passes : ((kept a.store.store).gate ≡ gate.Open) ×
        (n ≤ a.store.side.store_frames - length (kept a.store.store).words)
    passes = get_passes a.store.side n (seen_in (kept a.store.store)) (sym row)

    pub leased_core : IsCore state kept new
    leased_core =
        let size : a.store.side.store_frames ≡ a.room = ap (λ side. side.store_frames) has_side.side in
        core_kept (leased_rested kept state whole a b n touched rested) (leased_side kept state whole a b n touched
        (λ renders. subst (λ k. n ≤ k - length (kept a.store.store).words) size passes.1) has_side)

    pub leased_goes : (before : Tally) → Goes faults told kept
        (λ st. data_plan st conn client (data_call.Get n) (λ s. granted [] (of_client client (leased n) ∷ []) st))
        hr.S_OK
        [] before old new
    leased_goes before =
        moved_goes (data_call.Get n) (λ st s. granted [] (of_client client (leased n) ∷ []) st) [] (leased n) row
        passes.0 (leased_stream kept state whole a b n touched) (λ st. refl) before

  module _ (frames : ℕ → List Frame) (count flags size : ℕ) (few : count ≤ MAX_COUNT)
      (gone : Releases kept (frames a.channels) count a b)
      (row : None ≡ first (side_rows a.store.side (data_call.Release count flags size) (seen_in (kept a.store.store))))
    where
      released_passes : PassesRelease a.store.side count flags size (seen_in (kept a.store.store))
      released_passes = release_passes a.store.side count flags size (seen_in (kept a.store.store)) few (sym row)

      renders : is_render a.kind ≡ true
      renders = sym (side_way kept a has_side rested.fits.few_channels) ∙ released_passes.plays

      pub released_core : IsCore state kept new
      released_core =
          core_kept (released_rested kept state whole a b (frames a.channels) count renders gone rested)
          (released_side kept state whole a b (frames a.channels) count renders gone has_side)

      pub released_goes : (before : Tally) → Goes faults told kept
          (λ st. data_plan st conn client (data_call.Release count flags size)
          (λ s. granted [] (of_client client (released (frames s.channels)) ∷ []) st)) hr.S_OK [] before old new
      released_goes before =
          moved_goes (data_call.Release count flags size)
          (λ st s. granted [] (of_client client (released (frames s.channels)) ∷ []) st) []
          (released (frames a.channels)) row released_passes.opens
          (released_stream kept state whole a b (frames a.channels) count renders gone) (λ st. refl) before

  -- ---- packets

  module _ (touched : IsTouched kept (record (a.store.side) { lease = Some a.store.side.period }) (kept a.store.store)
      a b)
      (row : None ≡ first (side_rows a.store.side data_call.CaptureGet (seen_in (kept a.store.store)))) where
    packet_ready : PassesPacket a.store.side (seen_in (kept a.store.store))
    packet_ready = packet_passes a.store.side (seen_in (kept a.store.store)) (sym row)

    pub records : is_render a.kind ≡ false
    records = sym (side_way kept a has_side rested.fits.few_channels) ∙ packet_ready.records

    -- the words of a packet are there
    pub packet_there : suc a.period ≤ length (kept a.store.store).words
    packet_there =
        let same : a.store.side.period ≡ a.period = ap (λ side. side.period) has_side.side in
        one_packet (length (kept a.store.store).words) a.period
        (subst (λ k. 1 ≤ length (kept a.store.store).words / (k + 1)) same packet_ready.some)

    pub packet_core : IsCore state kept new
    packet_core =
        core_kept (leased_rested kept state whole a b a.store.side.period touched rested)
        (leased_side kept state whole a b a.store.side.period touched
        (λ renders. absurd (true≢false (sym renders ∙ records))) has_side)

    pub packet_goes : (before : Tally) → Goes faults told kept
        (λ st. data_plan st conn client data_call.CaptureGet
        (λ s. granted (first_packet s.buffer_data.packets) (of_client client (leased s.period) ∷ []) st)) hr.S_OK
        (packet_bytes (packet_of a.channels (take (suc a.period) (kept a.store.store).words))) before old new
    packet_goes before =
        let same : a.store.side.period ≡ a.period = ap (λ side. side.period) has_side.side in
        moved_goes data_call.CaptureGet
        (λ st s. granted (first_packet s.buffer_data.packets) (of_client client (leased s.period) ∷ []) st)
        (packet_bytes (packet_of a.channels (take (suc a.period) (kept a.store.store).words))) (leased a.period) row
        packet_ready.opens
        (leased_stream kept state whole a b a.store.side.period touched
        ∙ ap (λ n. moved (leased n) (core_stream kept a)) same)
        (λ st. ap (λ payload. granted payload (of_client client (leased a.period) ∷ []) st)
        (first_is a.kind a.channels a.period (kept a.store.store).words a.store.side.released a.store.side.lease records
        has_side.packed packet_there))
        before

  module _ (frames : ℕ) (gone : Reads kept (packets_read frames) a b)
      (row : None ≡ first (side_rows a.store.side (data_call.CaptureRelease frames) (seen_in (kept a.store.store))))
    where
      read_ready : PassesRead a.store.side (seen_in (kept a.store.store))
      read_ready = read_passes a.store.side frames (seen_in (kept a.store.store)) (sym row)

      reads : is_render a.kind ≡ false
      reads = sym (side_way kept a has_side rested.fits.few_channels) ∙ read_ready.records

      pub read_core : IsCore state kept new
      read_core =
          core_kept (read_rested kept state whole a b (packets_read frames) reads gone rested)
          (read_side kept state whole a b (packets_read frames) reads gone has_side)

      pub read_goes : (before : Tally) → Goes faults told kept
          (λ st. data_plan st conn client (data_call.CaptureRelease frames)
          (λ s. granted [] (of_client client (read (packets_read frames)) ∷ []) st)) hr.S_OK [] before old new
      read_goes before =
          moved_goes (data_call.CaptureRelease frames)
          (λ st s. granted [] (of_client client (read (packets_read frames)) ∷ []) st) []
          (read (packets_read frames)) row read_ready.opens
          (read_stream kept state whole a b (packets_read frames) reads gone) (λ st. refl) before
