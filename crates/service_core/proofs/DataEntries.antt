-- What a data call makes of an entry with both ends: the stream that it stands for, and what holds of it.
use Rattle.std.proofs.Common.{◌≡◌, ℕ, ◌+◌, ◌-◌, ◌*◌, ◌≤◌, List, [], ◌++◌, length, true, false, Option, Some, None}
use Rattle.std.proofs.Common.{IfSome, sym, ap, ap₂, subst, ◌∙◌, arith, if◌then◌else◌}
use Rattle.std.proofs.lemmas.Bool.{true≢false}
use Rattle.std.proofs.lemmas.List.{length-append, length-map}
use Rattle.ca_base.specs.declared.ids.Seen.{Seen}
use Rattle.ca_base.specs.declared.limits.TheConstants.{MAX_COUNT, MAX_STORE_WORDS}
use Rattle.ca_base.specs.Rows.{first}
use Rattle.wave_format.specs.Frame.{frame_of}
use Rattle.client_state.specs.declared.check.DataCall.{DataCall}
use Rattle.client_state.specs.declared.side.ClientSide.{ClientSide}
use Rattle.client_state.specs.Frames.{frames_in}
use Rattle.client_state.specs.Rows.{side_rows}
use Rattle.buffer_ring.specs.declared.step.EndState.{EndState}
use Rattle.buffer_ring.specs.Kept.{Kept, state_of}
use Rattle.ca_stage.specs.Stage.{Frame, is_render}
use Rattle.ca_stage.specs.Moves.{leased, released, read, moved}
use Rattle.ca_machine.specs.Data.{data_rows, side_of}
use Rattle.period_engine.specs.declared.entry.StreamEntry.{StreamEntry}
use Rattle.period_engine.specs.Entries.{IsRested, stream_with}
use Rattle.period_engine.specs.Agreement.{layout_of, words_of}
use Rattle.period_engine.specs.Packed.{packets_in}
use Rattle.period_engine.specs.SubSteps.{IsSameEntry}
use Rattle.reply_payload.specs.declared.payload.TheConstants.{REPLY_ROOM}
use Rattle.service_core.specs.Core.{ArePackets, HasSide, IsLooked, IsTouched, Reads, Releases, core_data, data_in}
use Rattle.service_core.specs.Core.{seen_in}
use Rattle.service_core.specs.declared.both_ends.BothEnds.{BothEnds}
use Rattle.service_core.proofs.DataSteps.{core_stream}
use Rattle.service_core.proofs.StoreData.{data_with, words_are}

-- an entry whose store alone was changed is the same otherwise
pub same_but_store : {E : Type 0} (a b : StreamEntry E) → b ≡ record a { store = b.store } → IsSameEntry a b
same_but_store a b same = record {
  client = ap (λ e. e.client) same;
  endpoint = ap (λ e. e.endpoint) same;
  kind = ap (λ e. e.kind) same;
  exclusive = ap (λ e. e.exclusive) same;
  event = ap (λ e. e.event) same;
  channels = ap (λ e. e.channels) same;
  rate = ap (λ e. e.rate) same;
  buffer = ap (λ e. e.buffer) same;
  period = ap (λ e. e.period) same;
  room = ap (λ e. e.room) same;
  latency = ap (λ e. e.latency) same;
  session = ap (λ e. e.session) same;
  gains = ap (λ e. e.gains) same;
}

module _ {F : Type 0} (kept : F → Kept) (state : F → EndState) (whole : (x : F) → state_of (kept x) ≡ state x)
    (a b : StreamEntry (BothEnds F)) where
  -- the rows over the stream are those over the client's side and what a look finds
  pub rows_seen : HasSide kept a → IsRested (λ ends. state ends.store) a → (call : DataCall) →
      first (data_rows call (Some (core_stream kept a)))
      ≡ first (side_rows a.store.side call (seen_in (kept a.store.store)))
  rows_seen has rested call =
      ap₂ (λ side seen. first (side_rows side call seen)) (sym has.side) seen_is
    where
      seen_is : (let seen : Seen = record { words = words_of (layout_of a) (core_data kept a); gate = a.gate } in seen)
          ≡ seen_in (kept a.store.store)
      seen_is = ap₂ (λ n g. let seen : Seen = record { words = n; gate = g } in seen)
          (words_are a.channels a.period a.store.side.released a.store.side.lease (is_render a.kind)
          (kept a.store.store).words has.packed)
          (sym rested.fits.gate ∙ ap (λ s. s.gate) (sym (whole a.store.store)))

  module _ (same : b ≡ record a { store = b.store }) where
    -- the stream is that of the first entry, with the data of the second
    stream_is : core_stream kept b
        ≡ stream_with (data_in (layout_of a) (kept b.store.store).words b.store.side.released b.store.side.lease) a
    stream_is = ap (λ e. core_stream kept e) same

    layout_is : layout_of b ≡ layout_of a
    layout_is = ap (λ e. layout_of e) same

    pub rested_still : (kept b.store.store).gate ≡ (kept a.store.store).gate →
        (kept b.store.store).cap ≡ (kept a.store.store).cap → IsRested (λ ends. state ends.store) a →
        IsRested (λ ends. state ends.store) b
    rested_still gates caps rested = record {
      fits = record {
        gate = ap (λ s. s.gate) (sym (whole b.store.store)) ∙ gates ∙ ap (λ s. s.gate) (whole a.store.store)
            ∙ rested.fits.gate ∙ sym (ap (λ e. e.gate) same);
        size = ap (λ s. s.cap) (sym (whole b.store.store)) ∙ caps ∙ ap (λ s. s.cap) (whole a.store.store)
            ∙ rested.fits.size ∙ sym (ap (λ e. e.room) same);
        position = subst (λ n. n ≤ MAX_COUNT) (sym (ap (λ e. e.position) same)) rested.fits.position;
        offered = let p = ap (λ e. e.offered) same in let q = ap (λ e. e.ever) same in
            omega (arith, p, q, rested.fits.offered);
        ever = subst (λ n. n ≤ MAX_COUNT) (sym (ap (λ e. e.ever) same)) rested.fits.ever;
        some_channel = subst (λ n. 1 ≤ n) (sym (ap (λ e. e.channels) same)) rested.fits.some_channel;
        few_channels = subst (λ n. n ≤ 4) (sym (ap (λ e. e.channels) same)) rested.fits.few_channels;
      };
      unpicked = ap (λ e. e.picked) same ∙ rested.unpicked;
    }

    -- what a client's side knows of it, if these hold of the store and of the lease
    side_still : b.store.side ≡ side_of (Some (core_stream kept b)) →
        (is_render a.kind ≡ true → IfSome b.store.side.lease (λ n. n ≤ a.room - length (kept b.store.store).words)) →
        ArePackets (layout_of a) (kept b.store.store).words → HasSide kept a → HasSide kept b
    side_still side room packed has = record {
      side = side;
      room = λ renders.
          subst (λ e. IfSome b.store.side.lease (λ n. n ≤ e.room - length (kept b.store.store).words)) (sym same)
          (room (ap (λ e. is_render e.kind) (sym same) ∙ renders));
      packed = subst (λ l. ArePackets l (kept b.store.store).words) (sym layout_is) packed;
      small = subst (λ n. n ≤ MAX_STORE_WORDS) (sym (ap (λ e. e.room) same)) has.small;
      reply = subst (λ n. 16 + n * 8 ≤ REPLY_ROOM) (sym (ap (λ e. e.period) same)) has.reply;
    }

  -- ---- only a look

  pub looked_stream : IsLooked kept a b → core_stream kept b ≡ core_stream kept a
  looked_stream looked =
      stream_is looked.same
      ∙ ap₂ (λ k side. stream_with (data_in (layout_of a) k.words side.released side.lease) a)
      looked.store looked.side

  pub looked_side : IsLooked kept a b → HasSide kept a → HasSide kept b
  looked_side looked has =
      side_still looked.same (looked.side ∙ has.side ∙ ap (λ s. side_of (Some s)) (sym (looked_stream looked)))
      (λ renders. subst (λ side. IfSome side.lease (λ n. n ≤ a.room - length (kept b.store.store).words))
      (sym looked.side)
      (subst (λ k. IfSome a.store.side.lease (λ n. n ≤ a.room - length k.words)) (sym looked.store)
      (has.room renders)))
      (subst (λ k. ArePackets (layout_of a) k.words) (sym looked.store) has.packed) has

  pub looked_rested : IsLooked kept a b → IsRested (λ ends. state ends.store) a → IsRested (λ ends. state ends.store) b
  looked_rested looked rested =
      rested_still looked.same (ap (λ k. k.gate) looked.store) (ap (λ k. k.cap) looked.store) rested

  -- ---- a lease

  module _ (n : ℕ) (touched : IsTouched kept (record (a.store.side) { lease = Some n }) (kept a.store.store) a b) where
    pub leased_stream : core_stream kept b ≡ moved (leased n) (core_stream kept a)
    leased_stream =
        stream_is touched.same
        ∙ ap₂ (λ k side. stream_with (data_in (layout_of a) k.words side.released side.lease) a)
        touched.store touched.side

    pub leased_side : (is_render a.kind ≡ true → n ≤ a.room - length (kept a.store.store).words) → HasSide kept a →
        HasSide kept b
    leased_side fits has =
        side_still touched.same
        (touched.side
        ∙ ap (λ side. let next : ClientSide = record side { lease = Some n } in next) has.side
        ∙ ap (λ s. side_of (Some s)) (sym leased_stream))
        (λ renders. subst (λ side. IfSome side.lease (λ k. k ≤ a.room - length (kept b.store.store).words))
        (sym touched.side)
        (subst (λ k. n ≤ a.room - length k.words) (sym touched.store) (fits renders)))
        (subst (λ k. ArePackets (layout_of a) k.words) (sym touched.store) has.packed) has

    pub leased_rested : IsRested (λ ends. state ends.store) a → IsRested (λ ends. state ends.store) b
    leased_rested rested =
        rested_still touched.same (ap (λ k. k.gate) touched.store) (ap (λ k. k.cap) touched.store) rested

  -- ---- a release

  module _ (frames : List Frame) (count : ℕ) (renders : is_render a.kind ≡ true)
      (gone : Releases kept frames count a b) where
    count_is : count ≡ length frames
    count_is =
        let olds = length-map (kept a.store.store).words (frame_of a.channels) in
        let news = length-map (kept b.store.store).words (frame_of a.channels) in
        let both : length (frames_in a.channels (kept b.store.store).words)
        ≡ length (frames_in a.channels (kept a.store.store).words) + length frames =
        ap length gone.puts ∙ length-append (frames_in a.channels (kept a.store.store).words) frames in
        omega (arith, olds, news, both, gone.took.more)

    -- the frames of a stream that plays are the data
    as_frames : (words : List ℕ) (counted : ℕ) (lease : Option ℕ) →
        data_in (layout_of a) words counted lease ≡ data_with (frames_in a.channels words) [] counted lease
    as_frames words counted lease =
        ap (λ plays. data_with (if plays then frames_in a.channels words else [])
        (if plays then [] else packets_in a.channels a.period words) counted lease) renders

    pub released_stream : core_stream kept b ≡ moved (released frames) (core_stream kept a)
    released_stream =
        stream_is gone.same
        ∙ ap (λ d. stream_with d a) (as_frames (kept b.store.store).words b.store.side.released b.store.side.lease)
        ∙ ap₂ (λ fs side. stream_with (data_with fs [] side.released side.lease) a) gone.puts gone.side
        ∙ ap (λ k. stream_with (data_with (frames_in a.channels (kept a.store.store).words ++ frames) []
        (a.store.side.released + k) None) a) count_is
        ∙ ap (λ d. moved (released frames) (stream_with d a))
        (sym (as_frames (kept a.store.store).words a.store.side.released a.store.side.lease))

    pub released_side : HasSide kept a → HasSide kept b
    released_side has =
        side_still gone.same
        (gone.side
        ∙ ap (λ side. let next : ClientSide = record side { lease = None; released = side.released + count } in next)
        has.side
        ∙ ap (λ k. side_of (Some (stream_with (data_with (frames_in a.channels (kept a.store.store).words ++ frames) []
        (a.store.side.released + k) None) a))) count_is
        ∙ ap (λ d. side_of (Some (moved (released frames) (stream_with d a))))
        (sym (as_frames (kept a.store.store).words a.store.side.released a.store.side.lease))
        ∙ ap (λ s. side_of (Some s)) (sym released_stream))
        (λ plays. subst (λ side. IfSome side.lease (λ k. k ≤ a.room - length (kept b.store.store).words))
        (sym gone.side) tt)
        (λ stores. absurd (true≢false (sym renders ∙ stores))) has

    pub released_rested : IsRested (λ ends. state ends.store) a → IsRested (λ ends. state ends.store) b
    released_rested rested = rested_still gone.same gone.took.opens gone.took.size rested

  -- ---- a read

  module _ (count : ℕ) (records : is_render a.kind ≡ false) (gone : Reads kept count a b) where
    -- the packets of a stream that records are the data
    as_packets : (words : List ℕ) (counted : ℕ) (lease : Option ℕ) →
        data_in (layout_of a) words counted lease ≡ data_with [] (packets_in a.channels a.period words) counted lease
    as_packets words counted lease =
        ap (λ plays. data_with (if plays then frames_in a.channels words else [])
        (if plays then [] else packets_in a.channels a.period words) counted lease) records

    pub read_stream : core_stream kept b ≡ moved (read count) (core_stream kept a)
    read_stream =
        stream_is gone.same
        ∙ ap (λ d. stream_with d a) (as_packets (kept b.store.store).words b.store.side.released b.store.side.lease)
        ∙ ap₂ (λ ps side. stream_with (data_with [] ps side.released side.lease) a) gone.taken gone.side
        ∙ ap (λ d. moved (read count) (stream_with d a))
        (sym (as_packets (kept a.store.store).words a.store.side.released a.store.side.lease))

    pub read_side : HasSide kept a → HasSide kept b
    read_side has =
        side_still gone.same
        (gone.side
        ∙ ap (λ side. let next : ClientSide = record side { lease = None } in next) has.side
        ∙ ap (λ s. side_of (Some s)) (sym read_stream))
        (λ renders. absurd (true≢false (sym renders ∙ records)))
        (subst (λ l. ArePackets l (kept b.store.store).words) (layout_is gone.same) gone.packed) has

    pub read_rested : IsRested (λ ends. state ends.store) a → IsRested (λ ends. state ends.store) b
    read_rested rested =
        rested_still gone.same (ap (λ k. k.gate) gone.state) (ap (λ k. k.cap) gone.state) rested
