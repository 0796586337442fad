-- What an event does on a board is the machine's step on the state of both ends: the stores went by their steps, with
-- which the data of both ends agree.
use Rattle.std.proofs.Common.{◌≡◌, ℕ, ◌+◌, ◌-◌, ◌*◌, ◌≤◌, List, [], ◌∷◌, length, map, find, Bool, true, false}
use Rattle.std.proofs.Common.{Option, Some, None, IfSome, refl, sym, ap, ap₂, subst, ◌∙◌, arith, if◌then◌else◌}
use Rattle.std.specs.List.{All, AllByRecursion}
use Rattle.std.proofs.lemmas.List.Elements.{All-nil, All-cons, All-head, All-tail}
use Rattle.std.specs.Option.{option_map, option_map_or}
use Rattle.std.proofs.lemmas.List.{length-map}
use Rattle.device_io.specs.DeviceLog.{DeviceLog}
use Rattle.wave_format.specs.Frame.{frame_of}
use Rattle.ca_base.specs.declared.codes.Hr.{Hr}
use Rattle.ca_base.specs.declared.limits.TheConstants.{MAX_STORE_WORDS}
use Rattle.buffer_ring.specs.declared.step.StoreStep.{StoreStep}
use Rattle.buffer_ring.specs.Kept.{Kept, RunsSteps}
use Rattle.client_state.specs.declared.side.ClientSide.{ClientSide}
use Rattle.client_state.specs.Frames.{frames_in}
use Rattle.ca_stage.specs.Stage.{BufferData, Stream, is_render, no_data}
use Rattle.ca_stage.specs.Tally.{Tally}
use Rattle.ca_stage.proofs.Lists.{map_alike, all_found, all_weaker}
use Rattle.ca_stage.proofs.Streams.{is_of}
use Rattle.ca_machine.specs.State.{State}
use Rattle.ca_machine.specs.Plan.{Plan}
use Rattle.ca_machine.specs.Data.{dir_of}
use Rattle.ca_machine.specs.View.{AnswersBy, outside}
use Rattle.period_engine.specs.declared.entry.StreamEntry.{StreamEntry}
use Rattle.period_engine.specs.Entries.{AreInOrder, stream_with, stream_of, streams_of}
use Rattle.period_engine.specs.Agreement.{Agrees, AllAgree, ArePacked, Layout, data_after, layout_of}
use Rattle.reply_payload.specs.declared.payload.TheConstants.{REPLY_ROOM}
use Rattle.service_book.specs.BookState.{book_state}
use Rattle.service_board.specs.Board.{state_of, playhead_of}
use Rattle.service_board.specs.Does.{Does, Made, Answered, after_steps, layout_at, no_layout, store_at}
use Rattle.stream_entries.specs.Search.{is_entry_of}
use Rattle.service_board.specs.declared.board.Board.{Board}
use Rattle.service_core.specs.BothEnds.{MovesStore}
use Rattle.service_core.specs.Core.{ArePackets, Goes, HasSide, HaveSides, IsFresh, core_data, core_datas, core_state}
use Rattle.service_core.specs.Core.{data_in}
use Rattle.service_core.specs.declared.both_ends.BothEnds.{BothEnds}
use Rattle.service_core.proofs.StoreData.{data_of, data_with, layout_by, runs_agree, runs_data, runs_packed}
use Rattle.period_engine.proofs.PacketLists.{packets_in-nil}
use Rattle.service_core.proofs.EntryData.{entry_at, each_entry, entry_client, store_found, layout_found, stream_found}
use Rattle.service_core.proofs.EntryData.{data_found}
use Rattle.service_core.proofs.StreamsFall.{AllFell, Fell}
use Rattle.service_core.proofs.PlansFall.{Keeps}

-- what a client's side knows of a stream, by what it was opened as
abbrev side_with : Stream → ℕ → Option ℕ → ClientSide
side_with s count leased = record {
  dir = dir_of s.kind;
  exclusive = s.exclusive;
  event = s.event_driven;
  buffer = s.buffer;
  period = s.period;
  store_frames = s.capacity;
  block = s.channels * 2;
  lease = leased;
  released = count;
}

module _ {F : Type 0} (kept : F → Kept) (moves : F → List StoreStep → F → Type 0)
    (exact : (a b : F) (ss : List StoreStep) → moves a ss b → RunsSteps (kept a) ss (kept b)) where
  -- a store that was there went by its steps, whether it stays or not
  went : (given : Option (BothEnds F)) (steps : List StoreStep) (a : BothEnds F) (o : Option (BothEnds F)) →
      Made (MovesStore moves) given steps (Some a) o → (b : BothEnds F) × MovesStore moves a steps b
  went given steps a (Some b) made = (b, made)
  went given steps a None made = made

  module _ (given : Option (BothEnds F)) (steps : ℕ → List StoreStep) (olds news : List (StreamEntry (BothEnds F)))
      (made : (client : ℕ) →
      Made (MovesStore moves) given (steps client) (store_at client olds) (store_at client news))
      (packs : (client : ℕ) → ArePacked (layout_at client olds) (steps client))
      (has : AllByRecursion (HasSide kept) olds) where
    -- the steps of a store of packets take whole ones, as it has
    packs_here : (client : ℕ) (e : StreamEntry (BothEnds F)) → entry_at client olds ≡ Some e →
        ArePacked (layout_of e) (steps client)
    packs_here client e found =
        subst (λ l. ArePacked l (steps client))
        (layout_found client olds ∙ ap (λ o. option_map_or layout_of o no_layout) found) (packs client)

    whole_here : (client : ℕ) (e : StreamEntry (BothEnds F)) → entry_at client olds ≡ Some e →
        ArePackets (layout_of e) (kept e.store.store).words
    whole_here client e found = (all_found (HasSide kept) (is_entry_of client) olds e has found).packed

    -- the steps agree with the data of both ends
    entry_agrees : (e : StreamEntry (BothEnds F)) → entry_at e.client.0 olds ≡ Some e →
        Agrees (layout_of e) (steps e.client.0) (core_datas kept olds e.client.0)
    entry_agrees e found =
        let there : store_at e.client.0 olds ≡ Some e.store =
        store_found e.client.0 olds ∙ ap (option_map (λ e. e.store)) found in
        let data_is : core_datas kept olds e.client.0 ≡ core_data kept e =
        data_found kept e.client.0 olds ∙ ap (λ o. option_map_or (core_data kept) o no_data) found in
        let gone = went given (steps e.client.0) e.store (store_at e.client.0 news)
        (subst (λ o. Made (MovesStore moves) given (steps e.client.0) o (store_at e.client.0 news)) there
        (made e.client.0)) in
        subst (Agrees (layout_of e) (steps e.client.0)) (sym data_is)
        (runs_agree e.channels e.period e.store.side.released e.store.side.lease (is_render e.kind)
        (steps e.client.0) (kept e.store.store) (kept gone.0.store) (packs_here e.client.0 e found)
        (whole_here e.client.0 e found) (exact e.store.store gone.0.store (steps e.client.0) gone.1.1))

    agree_all : (entries : List (StreamEntry (BothEnds F))) →
        AllByRecursion (λ e. entry_at e.client.0 olds ≡ Some e) entries →
        AllAgree steps (core_datas kept olds) entries
    agree_all [] found = tt
    agree_all (e ∷ entries) found = (entry_agrees e found.0, agree_all entries found.1)

    -- the data after the steps are those of both ends
    entry_stayed : (client : ℕ) (a e : StreamEntry (BothEnds F)) → entry_at client olds ≡ Some a →
        entry_at client news ≡ Some e → MovesStore moves a.store (steps client) e.store
    entry_stayed client a e was is_now =
        let was_there : store_at client olds ≡ Some a.store =
        store_found client olds ∙ ap (option_map (λ e. e.store)) was in
        let is_there : store_at client news ≡ Some e.store =
        store_found client news ∙ ap (option_map (λ e. e.store)) is_now in
        let here = subst (λ o. Made (MovesStore moves) given (steps client) o (store_at client news)) was_there
        (made client) in
        subst (λ o. Made (MovesStore moves) given (steps client) (Some a.store) o) is_there here

    entry_came : (client : ℕ) (e : StreamEntry (BothEnds F)) → entry_at client olds ≡ None →
        entry_at client news ≡ Some e → (steps client ≡ []) × (given ≡ Some e.store)
    entry_came client e was is_now =
        let was_there : store_at client olds ≡ None =
        store_found client olds ∙ ap (option_map (λ e. e.store)) was in
        let is_there : store_at client news ≡ Some e.store =
        store_found client news ∙ ap (option_map (λ e. e.store)) is_now in
        let here = subst (λ o. Made (MovesStore moves) given (steps client) o (store_at client news)) was_there
        (made client) in
        subst (λ o. Made (MovesStore moves) given (steps client) None o) is_there here

    stayed_packed : (client : ℕ) (a e : StreamEntry (BothEnds F)) → entry_at client olds ≡ Some a →
        entry_at client news ≡ Some e → ArePackets (layout_of a) (kept e.store.store).words
    stayed_packed client a e was is_now =
        runs_packed a.channels a.period a.store.side.released a.store.side.lease (is_render a.kind) (steps client)
        (kept a.store.store) (kept e.store.store) (packs_here client a was) (whole_here client a was)
        (exact a.store.store e.store.store (steps client) (entry_stayed client a e was is_now).1)

    stayed_data : (client : ℕ) (a e : StreamEntry (BothEnds F)) → entry_at client olds ≡ Some a →
        entry_at client news ≡ Some e → layout_of e ≡ layout_of a →
        after_steps steps olds (core_datas kept olds) client ≡ core_data kept e
    stayed_data client a e was is_now same =
        let layout_is : layout_at client olds ≡ layout_of a =
        layout_found client olds ∙ ap (λ o. option_map_or layout_of o no_layout) was in
        let data_is : core_datas kept olds client ≡ core_data kept a =
        data_found kept client olds ∙ ap (λ o. option_map_or (core_data kept) o no_data) was in
        let step = entry_stayed client a e was is_now in
        ap₂ (λ l d. data_after l (steps client) d) layout_is data_is
        ∙ runs_data a.channels a.period a.store.side.released a.store.side.lease (is_render a.kind) (steps client)
        (kept a.store.store) (kept e.store.store) (packs_here client a was) (whole_here client a was)
        (exact a.store.store e.store.store (steps client) step.1)
        ∙ ap₂ (λ l side. data_in l (kept e.store.store).words side.released side.lease) (sym same) (sym step.0)

    came_data : (client : ℕ) (e : StreamEntry (BothEnds F)) → entry_at client olds ≡ None →
        entry_at client news ≡ Some e → IfSome given (IsFresh kept) →
        after_steps steps olds (core_datas kept olds) client ≡ core_data kept e
    came_data client e was is_now fresh =
        let data_is : core_datas kept olds client ≡ no_data =
        data_found kept client olds ∙ ap (λ o. option_map_or (core_data kept) o no_data) was in
        let step = entry_came client e was is_now in
        let is_fresh : IsFresh kept e.store = subst (λ o. IfSome o (IsFresh kept)) step.1 fresh in
        ap₂ (λ ss d. data_after (layout_at client olds) ss d) step.0 data_is
        ∙ sym (fresh_data e is_fresh)
      where
        fresh_data : (e : StreamEntry (BothEnds F)) → IsFresh kept e.store → core_data kept e ≡ no_data
        fresh_data e h =
            ap (λ words. data_in (layout_of e) words e.store.side.released e.store.side.lease) h.empty
            ∙ ap₂ (λ n lease. data_in (layout_of e) [] n lease) h.unreleased h.unleased
            ∙ nothing (is_render e.kind)
          where
            nothing : (plays : Bool) →
                data_in (layout_by plays e.channels e.period) [] 0 None ≡ no_data
            nothing true = refl
            nothing false = ap (λ packets. data_with [] packets 0 None) (packets_in-nil e.channels e.period)

    module _ (fell : (n : ℕ) (s t : Stream) → find (is_of n) (streams_of (core_datas kept olds) olds) ≡ Some s →
        find (is_of n) (streams_of (after_steps steps olds (core_datas kept olds)) news) ≡ Some t → Fell s t)
        (fresh : IfSome given (IsFresh kept)) where
      entry_fell : (client : ℕ) (a e : StreamEntry (BothEnds F)) → entry_at client olds ≡ Some a →
          entry_at client news ≡ Some e → Fell (stream_of (core_datas kept olds) a)
          (stream_of (after_steps steps olds (core_datas kept olds)) e)
      entry_fell client a e was is_now = fell client (stream_of (core_datas kept olds) a)
          (stream_of (after_steps steps olds (core_datas kept olds)) e)
          (stream_found (core_datas kept olds) client olds ∙ ap (option_map (stream_of (core_datas kept olds))) was)
          (stream_found (after_steps steps olds (core_datas kept olds)) client news
          ∙ ap (option_map (stream_of (after_steps steps olds (core_datas kept olds)))) is_now)

      same_layout : (client : ℕ) (a e : StreamEntry (BothEnds F)) → entry_at client olds ≡ Some a →
          entry_at client news ≡ Some e → layout_of e ≡ layout_of a
      same_layout client a e was is_now =
          ap (λ s. let l : Layout = record {
            plays = is_render s.kind;
            channels = s.channels;
            period = s.period;
          } in l) (entry_fell client a e was is_now).opened

      one_after : (client : ℕ) (e : StreamEntry (BothEnds F)) (o : Option (StreamEntry (BothEnds F))) →
          entry_at client olds ≡ o → entry_at client news ≡ Some e →
          after_steps steps olds (core_datas kept olds) client ≡ core_data kept e
      one_after client e None was is_now = came_data client e was is_now fresh
      one_after client e (Some a) was is_now =
          stayed_data client a e was is_now (same_layout client a e was is_now)

      -- so the streams are those of both ends
      one_stream : (e : StreamEntry (BothEnds F)) → entry_at e.client.0 news ≡ Some e →
          stream_of (after_steps steps olds (core_datas kept olds)) e ≡ stream_of (core_datas kept news) e
      one_stream e found = ap (λ d. stream_with d e)
          (one_after e.client.0 e (entry_at e.client.0 olds) refl found
          ∙ sym (data_found kept e.client.0 news ∙ ap (λ o. option_map_or (core_data kept) o no_data) found))

      streams_after : AreInOrder news →
          streams_of (after_steps steps olds (core_datas kept olds)) news ≡ streams_of (core_datas kept news) news
      streams_after order = map_alike (stream_of (after_steps steps olds (core_datas kept olds)))
          (stream_of (core_datas kept news)) news
          (all_weaker (λ e. entry_at e.client.0 news ≡ Some e) (λ e.
          stream_of (after_steps steps olds (core_datas kept olds)) e ≡ stream_of (core_datas kept news) e)
          one_stream news (each_entry news order))

      -- and each client's side knows its stream
      stayed_side : (client : ℕ) (a e : StreamEntry (BothEnds F)) → entry_at client olds ≡ Some a →
          entry_at client news ≡ Some e → HasSide kept a → HasSide kept e
      stayed_side client a e was is_now has =
          let step = entry_stayed client a e was is_now in
          let here = entry_fell client a e was is_now in
          record {
            side = step.0 ∙ has.side
                ∙ ap (λ s. side_with s a.store.side.released a.store.side.lease) (sym here.opened)
                ∙ ap (λ side. side_with (stream_with no_data e) side.released side.lease) (sym step.0);
            room = λ renders.
                subst (λ side. IfSome side.lease (λ n. n ≤ e.room - length (kept e.store.store).words)) (sym step.0)
                (still a.store.side.lease (fewer_words client a e was is_now here renders)
                (ap (λ s. s.capacity) here.opened)
                (has.room (ap (λ s. is_render s.kind) (sym here.opened) ∙ renders)));
            packed = subst (λ l. ArePackets l (kept e.store.store).words) (sym (same_layout client a e was is_now))
                (stayed_packed client a e was is_now);
            small = subst (λ n. n ≤ MAX_STORE_WORDS) (sym (ap (λ s. s.capacity) here.opened)) has.small;
            reply = subst (λ n. 16 + n * 8 ≤ REPLY_ROOM) (sym (ap (λ s. s.period) here.opened)) has.reply;
          }
        where
          -- the words of a store whose frames are to be played
          as_words : (e : StreamEntry (BothEnds F)) → is_render e.kind ≡ true →
              length (core_data kept e).pending ≡ length (kept e.store.store).words
          as_words e renders =
              ap (λ b. length (if b then frames_in e.channels (kept e.store.store).words else [])) renders
              ∙ length-map (kept e.store.store).words (frame_of e.channels)

          fewer_words : (client : ℕ) (a e : StreamEntry (BothEnds F)) → entry_at client olds ≡ Some a →
              entry_at client news ≡ Some e → Fell (stream_of (core_datas kept olds) a)
              (stream_of (after_steps steps olds (core_datas kept olds)) e) → is_render e.kind ≡ true →
              length (kept e.store.store).words ≤ length (kept a.store.store).words
          fewer_words client a e was is_now here renders =
              let old_client = entry_client client olds a was in
              let new_client = entry_client client news e is_now in
              let before : length (core_datas kept olds a.client.0).pending ≡ length (kept a.store.store).words =
              ap (λ c. length (core_datas kept olds c).pending) old_client
              ∙ ap (λ d. length d.pending)
              (data_found kept client olds ∙ ap (λ o. option_map_or (core_data kept) o no_data) was)
              ∙ as_words a (ap (λ s. is_render s.kind) (sym here.opened) ∙ renders) in
              let after : length (after_steps steps olds (core_datas kept olds) e.client.0).pending
              ≡ length (kept e.store.store).words =
              ap (λ c. length (after_steps steps olds (core_datas kept olds) c).pending) new_client
              ∙ ap (λ d. length d.pending) (one_after client e (entry_at client olds) refl is_now)
              ∙ as_words e renders in
              omega (arith, before, after, here.fewer)

          still : (lease : Option ℕ) {old new : ℕ} → new ≤ old → {room room' : ℕ} → room' ≡ room →
              IfSome lease (λ n. n ≤ room - old) → IfSome lease (λ n. n ≤ room' - new)
          still None fewer same h = tt
          still (Some n) fewer same h = omega (arith, fewer, same, h)

-- All, element by element
pub each_of : {A : Type 0} (P : A → Type 0) (xs : List A) → All P xs → AllByRecursion P xs
each_of P [] h = tt
each_of P (x ∷ xs) h = (All-head P x xs h, each_of P xs (All-tail P x xs h))

pub all_by : {A : Type 0} (P : A → Type 0) (xs : List A) → AllByRecursion P xs → All P xs
all_by P [] h = All-nil P
all_by P (x ∷ xs) h = All-cons P x xs h.0 (all_by P xs h.1)

module _ {D F : Type 0} (faults : D → ℕ) (told : D → Option (List DeviceLog)) (kept : F → Kept)
    (moves : F → List StoreStep → F → Type 0)
    (exact : (a b : F) (ss : List StoreStep) → moves a ss b → RunsSteps (kept a) ss (kept b))
    (given : Option (BothEnds F)) (known : (ℕ → BufferData) → Type 0) (old new : Board D (BothEnds F))
    (plan : State → Plan) (result : Hr) (payload : List ℕ) (before : Tally)
    (does : Does faults told (MovesStore moves) given known old new plan result payload)
    (old_order : AreInOrder old.entries.items) (new_order : AreInOrder new.entries.items)
    (keeps : (st : State) → Keeps st (plan st)) (knows : known (core_datas kept old.entries.items))
    (fresh : IfSome given (IsFresh kept)) (had : HaveSides kept old) where
  has : AllByRecursion (HasSide kept) old.entries.items
  has = each_of (HasSide kept) old.entries.items had

  -- the plan was answered so, for the data of both ends
  done : Answered faults told plan result payload (core_state kept before old) old
      (after_steps does.steps old.entries.items (core_datas kept old.entries.items)) new
  done = does.does (core_datas kept old.entries.items) before
      (agree_all kept moves exact given does.steps old.entries.items new.entries.items does.made does.packs has
      old.entries.items
      (each_entry old.entries.items old_order))
      knows

  all_fell : AllFell (core_state kept before old).stage
      (state_of (after_steps does.steps old.entries.items (core_datas kept old.entries.items)) done.tally new).stage
  all_fell = subst (λ st. AllFell (core_state kept before old).stage st.stage) (sym done.answers.after_is)
      ((keeps (core_state kept before old)).leaves done.answers.given)

  -- the machine's step on the state of both ends
  pub core_goes : Goes faults told kept plan result payload before old new
  core_goes = record {
    tally = done.tally;
    answers = subst (λ st. AnswersBy (core_state kept before old) (plan (core_state kept before old)) result payload st
        (outside faults told old.devices) (outside faults told new.devices))
        (ap (λ streams. book_state new.book
        (record { playheads = map playhead_of new.seats.items; streams = streams }) done.tally)
        (streams_after kept moves exact given does.steps old.entries.items new.entries.items does.made does.packs has
        all_fell fresh
        new_order))
        done.answers;
  }

  -- and each client's side knows its stream still
  one_side : ((e : StreamEntry (BothEnds F)) → entry_at e.client.0 old.entries.items ≡ None →
      entry_at e.client.0 new.entries.items ≡ Some e → given ≡ Some e.store → HasSide kept e) →
      (e : StreamEntry (BothEnds F)) → entry_at e.client.0 new.entries.items ≡ Some e →
      (o : Option (StreamEntry (BothEnds F))) → entry_at e.client.0 old.entries.items ≡ o → HasSide kept e
  one_side came e is_now None was =
      came e was is_now (entry_came kept moves exact given does.steps old.entries.items new.entries.items does.made
      does.packs has e.client.0 e
      was is_now).1
  one_side came e is_now (Some a) was =
      stayed_side kept moves exact given does.steps old.entries.items new.entries.items does.made does.packs has
      all_fell fresh
      e.client.0 a e was is_now
      (all_found (HasSide kept) (is_entry_of e.client.0) old.entries.items a has was)

  pub core_sides : ((e : StreamEntry (BothEnds F)) → entry_at e.client.0 old.entries.items ≡ None →
      entry_at e.client.0 new.entries.items ≡ Some e → given ≡ Some e.store → HasSide kept e) →
      HaveSides kept new
  core_sides came =
      all_by (HasSide kept) new.entries.items
      (all_weaker (λ e. entry_at e.client.0 new.entries.items ≡ Some e) (HasSide kept)
      (λ e is_now. one_side came e is_now
      (entry_at e.client.0 old.entries.items) refl)
      new.entries.items (each_entry new.entries.items new_order))
