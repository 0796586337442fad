-- What an Initialize opens: the state of the board with the new entry is that of the machine, which closed the streams
-- that it takes the endpoint from, and opened its stream.
use Rattle.std.proofs.Common.{◌≡◌, ℕ, ◌*◌, ◌==◌, List, [], ◌∷◌, ◌++◌, map, Bool, true, false, Option, Some, None}
use Rattle.std.proofs.Common.{refl, sym, ap, ap₂, ◌∙◌, subst, eqb-true, find, cond}
use Rattle.std.specs.Global.{Vec}
use Rattle.std.specs.List.{AllZip, insert}
use Rattle.std.proofs.lemmas.Option.{none-some}
use Rattle.std.specs.Option.{option_map_or}
use Rattle.std.specs.Int.{w64, to_le_bytes}
use Rattle.device_io.specs.DeviceLog.{DeviceLog}
use Rattle.ca_base.specs.declared.codes.TheConstants.Hr as hr
use Rattle.ca_base.specs.declared.ids.Flow.TheVariants as flow
use Rattle.ca_base.specs.declared.ids.Reason.TheVariants.{Override}
use Rattle.ca_base.specs.declared.ids.SessionNo.{SessionNo}
use Rattle.ca_base.specs.declared.ids.StreamKind.{StreamKind}
use Rattle.wave_format.specs.declared.format.Format.{Format}
use Rattle.wave_format.specs.Format.{spelled}
use Rattle.buffer_ring.specs.declared.step.EndState.{EndState}
use Rattle.buffer_ring.specs.declared.step.StoreStep.{StoreStep}
use Rattle.ca_stage.specs.Stage.{BufferData, Stage, Stream, no_data}
use Rattle.ca_stage.specs.Moves.{Move, after_move, after_moves, as_opened, opened}
use Rattle.ca_stage.specs.Tally.{Tally, tally_after}
use Rattle.ca_stage.proofs.Lists.{found_passes}
use Rattle.ca_stage.proofs.Stages.{after_moves-append}
use Rattle.ca_stage.proofs.StreamPlaces.{opened_in_place}
use Rattle.session_manager.specs.Sessions.{joined, number_joined}
use Rattle.device_registry.specs.declared.endpoint.Endpoint.{Endpoint}
use Rattle.ca_machine.specs.State.{State, client_of, session_list, with_sessions}
use Rattle.device_registry.specs.Endpoints.{is_endpoint}
use Rattle.ca_machine.specs.Plan.{Outcome}
use Rattle.ca_machine.specs.View.{AnswersBy, Outside, outside}
use Rattle.exclusive_mode.specs.Claims.{claim, is_takeover}
use Rattle.ca_machine.specs.Devices.{disconnects_if}
use Rattle.ca_machine.specs.Formats.{is_exclusive}
use Rattle.ca_machine.specs.Openings.{Opening, buffer_of, buffers_of, claim_of, endpoint_channels, flow_of}
use Rattle.ca_machine.specs.Openings.{frames_of_period, has_event, initialize_rows, initialized, is_kept, joined_by}
use Rattle.ca_machine.specs.Openings.{kind_opened, new_stream, opened_in, period_of, session_key, takes_over}
use Rattle.ca_machine.specs.Openings.{words_stored}
use Rattle.period_engine.specs.declared.entry.StreamEntry.{StreamEntry}
use Rattle.period_engine.specs.Agreement.{AllAgree, data_after}
use Rattle.period_engine.specs.Entries.{stream_of, streams_of}
use Rattle.period_engine.specs.SubSteps.{Turned}
use Rattle.stream_entries.specs.Closing.{Disconnects, closes_if}
use Rattle.stream_entries.specs.Holding.{held_on}
use Rattle.service_book.specs.BookState.{book_state}
use Rattle.service_book.specs.Openings.{Joins, arguments, opening_plan}
use Rattle.service_book.specs.declared.book.Book.{Book}
use Rattle.service_book.specs.declared.opening.Opening.{Opening as Asked}
use Rattle.service_book.specs.declared.opening.OpeningPlan.{OpeningPlan}
use Rattle.service_board.specs.Board.{playhead_of, stage_with, state_of}
use Rattle.service_board.specs.Does.{Does, Made, after_steps, layout_at, store_at}
use Rattle.stream_entries.specs.Search.{is_entry_of}
use Rattle.service_board.specs.Openings.{IsFresh, Plans, new_entry}
use Rattle.service_board.specs.InOrder.{InOrder}
use Rattle.service_board.specs.declared.board.Board.{Board}
use Rattle.service_board.proofs.Disconnecting.{close_moves, close_steps, heads_stay, made, none_steps, packs}
use Rattle.service_board.proofs.Disconnecting.{streams_are}
use Rattle.service_board.proofs.PlainEvents.{made_still}
use Rattle.service_board.proofs.Memory.{answers_found, answers_out_of_memory}
use Rattle.service_board.proofs.OpeningRows.{held_alike, key_is}
use Rattle.service_board.proofs.Places.{Splits, map_insert, no_store, none_parts, other_store, own_store}
use Rattle.service_board.proofs.Places.{streams_above}
use Rattle.service_board.proofs.Places.{streams_below}

module _ {D E : Type 0} (x : Asked) (old : Board D E) (plan : OpeningPlan) (p : Plans x old plan) where
  abbrev args : Opening
  args = arguments x

  -- a stream by what was found of it
  abbrev stream_by : ℕ → ℕ → StreamKind → Bool → Bool → Format → ℕ → ℕ → ℕ → ℕ → ℕ → BufferData → Stream
  stream_by client endpoint kind exclusive event format buffer period words latency session d =
      record (as_opened (new_stream p.names.endpoint.flow p.names.named args session)) {
        client = client;
        endpoint = endpoint;
        kind = kind;
        exclusive = exclusive;
        event_driven = event;
        channels = format.channels;
        rate = format.rate;
        buffer = buffer;
        period = period;
        capacity = words;
        latency = latency;
        buffer_data = d;
      }

  words_are : words_stored (kind_opened p.names.endpoint.flow x.flags) (buffers_of args * buffer_of args)
      (frames_of_period args)
      ≡ plan.sizes.words
  words_are =
      ap (λ k. words_stored k (buffers_of args * buffer_of args) (frames_of_period args)) (sym p.names.kind)
      ∙ ap₂ (λ buffer period. words_stored plan.kind (buffers_of args * buffer) period) (sym p.names.sizes.buffer)
      (sym p.names.sizes.period)
      ∙ sym p.names.sizes.words

  -- the entry's stream is the one that the machine opens, if nothing was ever released for the client
  stream_is : (session : SessionNo) (store : E) (datas : ℕ → BufferData) → IsFresh x.client.0 datas →
      as_opened (new_stream p.names.endpoint.flow p.names.named args session.0)
      ≡ stream_of datas (new_entry x plan session store)
  stream_is session store datas fresh =
      let asked : Format = spelled x.format.now in
      let kind : StreamKind = kind_opened p.names.endpoint.flow x.flags in
      ap₂ (λ client endpoint. stream_by client endpoint kind (is_exclusive x.share) (has_event x.flags) asked
      (buffer_of args) (frames_of_period args)
      (words_stored kind (buffers_of args * buffer_of args) (frames_of_period args)) (period_of args) session.0 no_data)
      p.names.client_is p.names.on
      ∙ ap₂ (λ words d. stream_by x.client.0 plan.endpoint.0 kind (is_exclusive x.share) (has_event x.flags) asked
      (buffer_of args) (frames_of_period args) words (period_of args) session.0 d) words_are (sym fresh)
      ∙ ap₂ (λ buffer period. stream_by x.client.0 plan.endpoint.0 kind (is_exclusive x.share) (has_event x.flags) asked
      buffer period plan.sizes.words (period_of args) session.0 (datas x.client.0)) (sym p.names.sizes.buffer)
      (sym p.names.sizes.period)
      ∙ ap₂ (λ k latency. stream_by x.client.0 plan.endpoint.0 k (is_exclusive x.share) (has_event x.flags) asked
      plan.sizes.buffer plan.sizes.period plan.sizes.words latency session.0 (datas x.client.0)) (sym p.names.kind)
      (sym p.names.sizes.latency)
      ∙ ap₂ (λ exclusive event. stream_by x.client.0 plan.endpoint.0 plan.kind exclusive event asked plan.sizes.buffer
      plan.sizes.period plan.sizes.words plan.sizes.latency session.0 (datas x.client.0)) (sym p.names.exclusive)
      (sym p.names.event)
      ∙ ap (λ (f : Format). stream_by x.client.0 plan.endpoint.0 plan.kind plan.exclusive plan.event f plan.sizes.buffer
      plan.sizes.period plan.sizes.words plan.sizes.latency session.0 (datas x.client.0)) (sym p.names.format.spells)

  -- ---- the session, and whether it takes the endpoint over

  module _ (datas : ℕ → BufferData) (tally : Tally) (session : SessionNo) (book : Book)
      (j : Joins x plan old.book session book) where
    abbrev before : State
    before = state_of datas tally old

    -- the state before it with the book after it
    abbrev between : State
    between = book_state book before.stage tally

    key_found : session_key before x.conn.0 p.names.named args ≡ plan.key
    key_found = key_is old x p.names.named plan.endpoint p.names.connection p.names.on p.names.connected datas tally ∙
        sym p.names.key

    channels_found : endpoint_channels before p.names.named ≡ plan.format.channels
    channels_found =
        ap (λ n. option_map_or (λ (e : Endpoint). e.format.channels) (find (is_endpoint n) old.book.registry.list) 0)
        p.names.on
        ∙ ap (λ o. option_map_or (λ (e : Endpoint). e.format.channels) o 0) p.names.there
        ∙ sym p.names.format.channels

    joined_is :
        with_sessions (joined plan.key None (is_kept x.flags) plan.format.channels (session_list before)) before
        ≡ between
    joined_is =
        ap (λ ss. with_sessions ss before) (sym j.sessions)
        ∙ ap (λ b. book_state b before.stage tally) (sym j.rest)

    pub outcome_is : initialized before x.conn.0 (client_of x.conn.0 x.client.0 before) args
        ≡ opened_in between p.names.named args session.0
    outcome_is =
        ap (λ o. initialized before x.conn.0 o args) p.names.found
        ∙ ap (joined_by before p.names.named args) key_found
        ∙ ap (λ n. opened_in
        (with_sessions (joined plan.key None (is_kept x.flags) n (session_list before)) before)
        p.names.named args (number_joined plan.key (session_list before))) channels_found
        ∙ ap₂ (λ st n. opened_in st p.names.named args n) joined_is (sym j.number)

    -- the endpoint's flow, which is as before
    pub flow_found : flow_of between p.names.named ≡ p.names.endpoint.flow
    flow_found =
        ap (λ (k : Book). flow_of (book_state k before.stage tally) p.names.named) j.rest
        ∙ ap (λ n. option_map_or (λ (e : Endpoint). e.flow) (find (is_endpoint n) old.book.registry.list) flow.Render)
        p.names.on
        ∙ ap (λ o. option_map_or (λ (e : Endpoint). e.flow) o flow.Render) p.names.there

    -- the claim is the one that was planned
    pub takes_found : takes_over between p.names.named args ≡ plan.takes_over
    takes_found =
        ap (λ (k : Book). takes_over (book_state k before.stage tally) p.names.named args) j.rest
        ∙ ap (λ n. is_takeover (claim_of before (find (is_endpoint n) old.book.registry.list) args)) p.names.on
        ∙ ap (λ o. is_takeover (claim_of before o args)) p.names.there
        ∙ ap (λ held. is_takeover (claim (is_exclusive x.share) held p.names.endpoint.priority))
        (held_alike p.names.endpoint.no.0 datas old.entries.items)
        ∙ ap₂ (λ exclusive n. is_takeover (claim exclusive (held_on n old.entries.items) p.names.endpoint.priority))
        (sym p.names.exclusive)
        (eqb-true p.names.endpoint.no.0 plan.endpoint.0
        (found_passes (is_endpoint plan.endpoint.0) old.book.registry.list p.names.endpoint p.names.there))
        ∙ ap is_takeover (sym p.claims)
        ∙ sym p.takes_over

  -- ---- what it does

  module _ (faults : D → ℕ) (told : D → Option (List DeviceLog)) (moves : E → List StoreStep → E → Type 0)
      (stays : (a : E) → moves a [] a) where
    -- memory ran out
    pub no_memory_does : (given : Option E) (known : (ℕ → BufferData) → Type 0) →
        Does faults told moves given known old old (opening_plan x) hr.E_OUTOFMEMORY []
    no_memory_does given known = record {
      steps = λ client. [];
      made = λ client. made_still moves given stays (store_at client old.entries.items);
      packs = λ client. tt;
      does = λ datas tally agrees knows. record {
        tally = tally;
        answers =
            answers_out_of_memory (state_of datas tally old)
            (initialize_rows (state_of datas tally old) x.conn.0 x.client.0 args)
            (initialized (state_of datas tally old) x.conn.0
            (client_of x.conn.0 x.client.0 (state_of datas tally old)) args)
            (outside faults told old.devices) (p.says datas tally);
      };
    }

    -- a store that was made without one that is given was made with one
    made_given : (given : Option E) (steps : List StoreStep) (a b : Option E) → Made moves None steps a b →
        Made moves given steps a b
    made_given given steps None None h = h
    made_given given steps None (Some b) h = absurd (none-some b h.1)
    made_given given steps (Some a) None h = h
    made_given given steps (Some a) (Some b) h = h

    -- the streams that it takes the endpoint from were closed
    module _ (state : E → EndState) (order : InOrder state old) (mid : Vec (StreamEntry E))
        (loses : Disconnects moves state plan.takes_over Override (Some plan.endpoint.0) old.entries mid) where
      abbrev scope : Option ℕ
      scope = Some plan.endpoint.0

      abbrev steps : ℕ → List StoreStep
      steps = close_steps moves state old order plan.takes_over Override scope mid loses

      pub still_fresh : find (is_entry_of x.client.0) mid.items ≡ None
      still_fresh = go old.entries.items mid.items loses.turned p.fresh
        where
          go : (xs ys : List (StreamEntry E)) →
              AllZip (Turned moves (closes_if plan.takes_over Override scope)) xs ys →
              find (is_entry_of x.client.0) xs ≡ None → find (is_entry_of x.client.0) ys ≡ None
          go [] [] h none = none
          go (a ∷ xs) (b ∷ ys) h none =
              let parts = none_parts (is_entry_of x.client.0) a xs none in
              ap (λ v. cond v (Some b) (find (is_entry_of x.client.0) ys))
              (ap (λ n. n.0 == x.client.0) h.0.same.client ∙ parts.0)
              ∙ go xs ys h.1 parts.1
          go [] (b ∷ ys) h none = absurd h
          go (a ∷ xs) [] h none = absurd h

      -- the stores are those that were there, and the one that was given
      made_new : (at : ℕ) (new : StreamEntry E) (client : ℕ) → new.client.0 ≡ x.client.0 →
          Made moves (Some new.store) (steps client) (store_at client old.entries.items)
          (store_at client (insert mid.items at new))
      made_new at new client same = by (new.client.0 == client) refl
        where
          fresh : find (is_entry_of new.client.0) mid.items ≡ None
          fresh = ap (λ n. find (is_entry_of n) mid.items) same ∙ still_fresh

          none_there : store_at new.client.0 old.entries.items ≡ None
          none_there =
              no_store new.client.0 old.entries.items
              (ap (λ n. find (is_entry_of n) old.entries.items) same ∙ p.fresh)

          own : Made moves (Some new.store) (steps new.client.0) (store_at new.client.0 old.entries.items)
              (store_at new.client.0 (insert mid.items at new))
          own =
              subst (λ o. Made moves (Some new.store) (steps new.client.0) o
              (store_at new.client.0 (insert mid.items at new))) (sym none_there)
              (subst (λ o. Made moves (Some new.store) (steps new.client.0) None o)
              (sym (own_store at new mid.items fresh))
              (none_steps moves state old order plan.takes_over Override scope mid loses new.client.0 none_there, refl))

          by : (b : Bool) → (new.client.0 == client) ≡ b →
              Made moves (Some new.store) (steps client) (store_at client old.entries.items)
              (store_at client (insert mid.items at new))
          by true t =
              subst (λ n. Made moves (Some new.store) (steps n) (store_at n old.entries.items)
              (store_at n (insert mid.items at new))) (eqb-true new.client.0 client t) own
          by false t =
              subst (λ o. Made moves (Some new.store) (steps client) (store_at client old.entries.items) o)
              (sym (other_store client at new mid.items t))
              (made_given (Some new.store) (steps client) (store_at client old.entries.items)
              (store_at client mid.items)
              (made moves state old order plan.takes_over Override scope mid loses client))

      module _ (at : ℕ) (session : SessionNo) (store : E) (splits : Splits x.client.0 at mid.items)
          (datas : ℕ → BufferData)
          (tally : Tally) (agree : AllAgree steps datas old.entries.items) (fresh : IsFresh x.client.0 datas) where
        abbrev datas_then : ℕ → BufferData
        datas_then = after_steps steps old.entries.items datas

        fresh_then : IsFresh x.client.0 datas_then
        fresh_then =
            ap (λ ss. data_after (layout_at x.client.0 old.entries.items) ss (datas x.client.0))
            (none_steps moves state old order plan.takes_over Override scope mid loses x.client.0
            (no_store x.client.0 old.entries.items p.fresh))
            ∙ fresh

        abbrev closes : List Move
        closes = close_moves moves state old order plan.takes_over Override scope mid loses datas

        abbrev stage_then : Stage
        stage_then = stage_with datas_then old.seats.items mid.items

        closed_is : after_moves (stage_with datas old.seats.items old.entries.items) closes ≡ stage_then
        closed_is =
            ap₂ (λ hs ss. record { playheads = hs; streams = ss })
            (heads_stay plan.takes_over Override scope (stage_with datas old.seats.items old.entries.items))
            (sym (streams_are moves state old order plan.takes_over Override scope mid loses datas agree))

        -- the stage with the new entry is the one after the streams were closed and the new one opened
        stage_is :
            after_moves (stage_with datas old.seats.items old.entries.items)
            (closes ++ opened (new_stream p.names.endpoint.flow p.names.named args session.0) ∷ [])
            ≡ stage_with datas_then old.seats.items (insert mid.items at (new_entry x plan session store))
        stage_is =
            let own : Splits p.names.named.client.0 at mid.items =
            subst (λ n. Splits n at mid.items) (sym p.names.client_is) splits in
            after_moves-append (stage_with datas old.seats.items old.entries.items) closes
            (opened (new_stream p.names.endpoint.flow p.names.named args session.0) ∷ [])
            ∙ ap (λ st. after_move st (opened (new_stream p.names.endpoint.flow p.names.named args session.0)))
            closed_is
            ∙ opened_in_place at (new_stream p.names.endpoint.flow p.names.named args session.0) stage_then
            (streams_below datas_then p.names.named.client.0 at mid.items own)
            (streams_above datas_then p.names.named.client.0 at mid.items own)
            ∙ ap (λ s. record stage_then { streams = insert stage_then.streams at s })
            (stream_is session store datas_then fresh_then)
            ∙ ap (λ ss. record stage_then { streams = ss })
            (sym (map_insert (stream_of datas_then) at (new_entry x plan session store) mid.items))

      pub opened_does : (given : Option E) (at : ℕ) (session : SessionNo) (store : E) (new : Board D E) →
          given ≡ Some store → new.devices ≡ old.devices → map playhead_of new.seats.items ≡ map playhead_of
          old.seats.items →
          Joins x plan old.book session new.book →
          Splits x.client.0 at mid.items →
          new.entries.items ≡ insert mid.items at (new_entry x plan session store) →
          Does faults told moves given (IsFresh x.client.0) old new (opening_plan x) hr.S_OK (to_le_bytes w64 session.0)
      opened_does given at session store new is devices heads j splits items = record {
        steps = steps;
        made = λ client.
            subst (λ o. Made moves o (steps client) (store_at client old.entries.items)
            (store_at client new.entries.items)) (sym is)
            (subst (λ es. Made moves (Some store) (steps client) (store_at client old.entries.items)
            (store_at client es)) (sym items)
            (made_new at (new_entry x plan session store) client refl));
        packs = packs moves state old order plan.takes_over Override scope mid loses;
        does = λ datas tally agrees fresh. record {
          tally = tally_then datas tally;
          answers = opens datas tally agrees fresh;
        };
      }
        where
          moves_then : (datas : ℕ → BufferData) → List Move
          moves_then datas =
              close_moves moves state old order plan.takes_over Override scope mid loses datas
              ++ opened (new_stream p.names.endpoint.flow p.names.named args session.0) ∷ []

          tally_then : (datas : ℕ → BufferData) → Tally → Tally
          tally_then datas tally =
              tally_after tally (stage_with datas old.seats.items old.entries.items) (moves_then datas)

          opens : (datas : ℕ → BufferData) (tally : Tally) → AllAgree steps datas old.entries.items →
              IsFresh x.client.0 datas →
              AnswersBy (state_of datas tally old) (opening_plan x (state_of datas tally old)) hr.S_OK
              (to_le_bytes w64 session.0)
              (state_of (after_steps steps old.entries.items datas) (tally_then datas tally) new)
              (outside faults told old.devices) (outside faults told new.devices)
          opens datas tally agrees fresh =
              let st : State = state_of datas tally old in
              let out : Outside = outside faults told old.devices in
              let same = outcome_is datas tally session new.book j in
              let mid_state : State = between datas tally session new.book j in
              let own_moves : List Move =
              disconnects_if (takes_over mid_state p.names.named args) Override (Some p.names.named.endpoint.0) st.stage
              ++ opened (new_stream (flow_of mid_state p.names.named) p.names.named args session.0) ∷ [] in
              let moves_are : own_moves ≡ moves_then datas =
              ap₂ (λ lost n. disconnects_if lost Override (Some n) st.stage
              ++ opened (new_stream (flow_of mid_state p.names.named) p.names.named args session.0) ∷ [])
              (takes_found datas tally session new.book j) p.names.on
              ∙ ap (λ f. disconnects_if plan.takes_over Override (Some plan.endpoint.0) st.stage
              ++ opened (new_stream f p.names.named args session.0) ∷ []) (flow_found datas tally session new.book j) in
              let answers : AnswersBy st (opening_plan x st) hr.S_OK (to_le_bytes w64 session.0)
              (book_state new.book (after_moves st.stage own_moves) (tally_after tally st.stage own_moves)) out out =
              subst (λ (o : Outcome). AnswersBy st (opening_plan x st) o.result o.payload o.after out out) same
              (answers_found st (initialize_rows st x.conn.0 x.client.0 args)
              (initialized st x.conn.0 (client_of x.conn.0 x.client.0 st) args) out (p.says datas tally)
              (ap (λ (o : Outcome). o.output) same)) in
              let stage : after_moves st.stage own_moves
              ≡ stage_with (after_steps steps old.entries.items datas) new.seats.items new.entries.items =
              ap (after_moves st.stage) moves_are
              ∙ stage_is at session store splits datas tally agrees fresh
              ∙ ap₂ (λ hs es. record
              { playheads = hs; streams = streams_of (after_steps steps old.entries.items datas) es })
              (sym heads) (sym items) in
              subst (λ d. AnswersBy st (opening_plan x st) hr.S_OK (to_le_bytes w64 session.0)
              (state_of (after_steps steps old.entries.items datas) (tally_then datas tally) new) out
              (outside faults told d)) (sym devices)
              (subst (λ ms. AnswersBy st (opening_plan x st) hr.S_OK (to_le_bytes w64 session.0)
              (state_of (after_steps steps old.entries.items datas) (tally_after tally st.stage ms) new) out out)
              moves_are
              (subst (λ sg. AnswersBy st (opening_plan x st) hr.S_OK (to_le_bytes w64 session.0)
              (book_state new.book sg (tally_after tally st.stage own_moves)) out out) stage answers))
