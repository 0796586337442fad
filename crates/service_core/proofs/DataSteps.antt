-- A data call is the machine's step: it changes one entry, whose client's data go as the call moves them.
use Rattle.std.proofs.Common.{◌≡◌, ℕ, ◌==◌, ◌&&◌, List, [], ◌∷◌, map, set, Option, Some, None, refl, sym, ap, ap₂}
use Rattle.std.proofs.Common.{subst, ◌∙◌, if◌then◌else◌, eq-eqb}
use Rattle.std.proofs.lemmas.Bool.{ne_eqb}
use Rattle.device_io.specs.DeviceLog.{DeviceLog}
use Rattle.ca_base.specs.declared.codes.Hr.{Hr}
use Rattle.ca_base.specs.declared.codes.TheConstants.Hr as hr
use Rattle.ca_base.specs.declared.ids.Gate.TheVariants as gate
use Rattle.ca_base.specs.Rows.{first}
use Rattle.buffer_ring.specs.Kept.{Kept}
use Rattle.client_state.specs.declared.check.DataCall.{DataCall}
use Rattle.ca_stage.specs.Stage.{Stream, is_open, is_open_gate}
use Rattle.ca_stage.specs.Moves.{StreamMove, of_client, moved, playhead_after, stream_after, stream_at}
use Rattle.ca_stage.specs.Tally.{Tally}
use Rattle.ca_stage.proofs.Lists.{map_same}
use Rattle.ca_machine.specs.State.{State}
use Rattle.ca_machine.specs.Plan.{Outcome, Plan, answered, granted}
use Rattle.ca_machine.specs.SharedRows.{with_stream}
use Rattle.ca_machine.specs.Data.{data_plan, data_rows}
use Rattle.ca_machine.specs.Plan.Asked.{nothing}
use Rattle.ca_machine.specs.View.{AnswersBy, Outside, outside}
use Rattle.period_engine.specs.declared.entry.StreamEntry.{StreamEntry}
use Rattle.period_engine.specs.Entries.{stream_with, stream_of, streams_of}
use Rattle.service_book.specs.BookState.{book_state}
use Rattle.service_board.specs.Board.{playhead_of}
use Rattle.service_board.specs.Lookups.{client_call_rows}
use Rattle.service_board.specs.declared.board.Board.{Board}
use Rattle.service_core.specs.Core.{Goes, core_data, core_datas, core_state}
use Rattle.service_core.specs.DataCalls.{FindsEntry, RefusesData, all_data_rows}
use Rattle.service_core.specs.declared.both_ends.BothEnds.{BothEnds}
use Rattle.service_book.proofs.Finding.{first_later}
use Rattle.service_board.proofs.PlainEvents.{answers_refused}
use Rattle.service_board.proofs.GrantedEvents.{answers_granted}
use Rattle.service_board.proofs.OneEntry.{IsSole, here, later, streams_set}
use Rattle.service_board.proofs.StreamMoves.{ChangesOne}

-- an event that no row refuses, and that asks nothing, gets what its plan grants
gets : (st : State) (plan : Plan) (out : Outside) (o : Outcome) → first plan.rows ≡ None → plan.asks ≡ nothing →
    plan.grants [] ≡ o → o.output ≡ [] → AnswersBy st plan o.result o.payload o.after out out
gets st plan out o row asks grants output = answers_granted st plan o.result o.payload o.after out (record {
  passes = row;
  asks = asks;
  output = ap (λ x. x.output) grants ∙ output;
  result_is = ap (λ x. x.result) (sym grants);
  payload_is = ap (λ x. x.payload) (sym grants);
  after_is = ap (λ x. x.after) (sym grants);
})

-- the stream that an entry with both ends stands for
abbrev pub core_stream : {F : Type 0} → (F → Kept) → StreamEntry (BothEnds F) → Stream
core_stream kept e = stream_with (core_data kept e) e

module _ {F : Type 0} (kept : F → Kept) (e : StreamEntry (BothEnds F)) where
  -- the data of its client are its own
  pub own_data : (xs : List (StreamEntry (BothEnds F))) (at : ℕ) → IsSole e xs at →
      core_datas kept xs e.client.0 ≡ core_data kept e
  own_data _ _ (here xs others) =
      ap (λ b. if b then core_data kept e else core_datas kept xs e.client.0) (eq-eqb e.client.0 e.client.0 refl)
  own_data _ _ (later x xs at other sole) =
      ap (λ b. if b then core_data kept x else core_datas kept xs e.client.0) (ne_eqb x.client.0 e.client.0 other)
      ∙ own_data xs at sole

  -- and those of the others stay, whatever the entry becomes
  others_data : (new : StreamEntry (BothEnds F)) → new.client.0 ≡ e.client.0 → (client : ℕ) →
      (e.client.0 ≡ client → ⊥) → (xs : List (StreamEntry (BothEnds F))) (at : ℕ) → IsSole e xs at →
      core_datas kept (set xs at new) client ≡ core_datas kept xs client
  others_data new same client other _ _ (here xs others) =
      ap (λ b. if b then core_data kept new else core_datas kept xs client)
      (ne_eqb new.client.0 client (λ p. other (sym same ∙ p)))
      ∙ sym (ap (λ b. if b then core_data kept e else core_datas kept xs client) (ne_eqb e.client.0 client other))
  others_data new same client other _ _ (later x xs at differs sole) =
      ap (λ d. if x.client.0 == client then core_data kept x else d) (others_data new same client other xs at sole)

  -- the streams afterwards, where f moves its stream and leaves the others
  pub streams_changed : (new : StreamEntry (BothEnds F)) → new.client.0 ≡ e.client.0 → (f : Stream → Stream) →
      ((s : Stream) → (s.client ≡ e.client.0 → ⊥) → f s ≡ s) → core_stream kept new ≡ f (core_stream kept e) →
      (xs : List (StreamEntry (BothEnds F))) (at : ℕ) → IsSole e xs at →
      streams_of (core_datas kept (set xs at new)) (set xs at new) ≡ map f (streams_of (core_datas kept xs) xs)
  streams_changed new same f leaves turned xs at sole =
      streams_set e (core_datas kept xs) (core_datas kept (set xs at new)) f
      (λ n other. others_data new same n other xs at sole) leaves new
      (ap (λ d. stream_with d new) (new_data new same xs at sole) ∙ turned
      ∙ ap (λ d. f (stream_with d e)) (sym (own_data xs at sole)))
      xs at sole
    where
      new_data : (new : StreamEntry (BothEnds F)) → new.client.0 ≡ e.client.0 →
          (xs : List (StreamEntry (BothEnds F))) (at : ℕ) → IsSole e xs at →
          core_datas kept (set xs at new) new.client.0 ≡ core_data kept new
      new_data new same _ _ (here xs others) =
          ap (λ b. if b then core_data kept new else core_datas kept xs new.client.0)
          (eq-eqb new.client.0 new.client.0 refl)
      new_data new same _ _ (later x xs at other sole) =
          ap (λ b. if b then core_data kept x else core_datas kept (set xs at new) new.client.0)
          (ne_eqb x.client.0 new.client.0 (λ p. other (p ∙ same)))
          ∙ new_data new same xs at sole

module _ {D F : Type 0} (faults : D → ℕ) (told : D → Option (List DeviceLog)) (kept : F → Kept)
    (conn client : ℕ) (call : DataCall) (outcome : State → Stream → Outcome) (before : Tally)
    (old : Board D (BothEnds F)) where
  abbrev the_plan : State → Plan
  the_plan st = data_plan st conn client call (outcome st)

  -- a row refuses the call before its stream is looked up
  pub data_refused : (code : Hr) → RefusesData conn client old code →
      Goes faults told kept the_plan code [] before old old
  data_refused code refuses = record {
    tally = before;
    answers = answers_refused (core_state kept before old) (the_plan (core_state kept before old)) code
        (outside faults told old.devices) (refuses call (core_datas kept old.entries.items) before);
  }

  module _ (new : Board D (BothEnds F)) (at : ℕ) (a b : StreamEntry (BothEnds F))
      (there : FindsEntry conn client old at) (is_a : there.entry ≡ a) (sole : IsSole a old.entries.items at)
      (one : ChangesOne at b old new) (same : b.client.0 ≡ a.client.0) where
    stream_is : stream_at client (core_state kept before old).stage ≡ Some (core_stream kept a)
    stream_is =
        there.found (core_datas kept old.entries.items) before
        ∙ ap (λ e. Some (stream_of (core_datas kept old.entries.items) e)) is_a
        ∙ ap (λ d. Some (stream_with d a)) (own_data kept a old.entries.items at sole)

    rows_are : (verdict : Option Hr) → first (data_rows call (Some (core_stream kept a))) ≡ verdict →
        first (all_data_rows conn client call (core_state kept before old)) ≡ verdict
    rows_are verdict own =
        first_later (client_call_rows conn client (core_state kept before old))
        (data_rows call (stream_at client (core_state kept before old).stage))
        (there.says (core_datas kept old.entries.items) before)
        ∙ ap (λ o. first (data_rows call o)) stream_is ∙ own

    -- the state afterwards, where f moves the stream and leaves the others
    state_changed : (f : Stream → Stream) → ((s : Stream) → (s.client ≡ a.client.0 → ⊥) → f s ≡ s) →
        core_stream kept b ≡ f (core_stream kept a) → (tally : Tally) →
        core_state kept tally new ≡ book_state old.book (record {
          playheads = map playhead_of old.seats.items;
          streams = map f (core_state kept before old).stage.streams;
        }) tally
    state_changed f leaves turned tally =
        ap (λ k. book_state k (record {
          playheads = map playhead_of new.seats.items;
          streams = streams_of (core_datas kept new.entries.items) new.entries.items;
        }) tally) one.book
        ∙ ap₂ (λ seats streams.
        book_state old.book (record { playheads = map playhead_of seats; streams = streams }) tally)
        one.seats
        (ap (λ xs. streams_of (core_datas kept xs) xs) one.entries
        ∙ streams_changed kept a b same f leaves turned old.entries.items at sole)

    state_same : core_stream kept b ≡ core_stream kept a → core_state kept before new ≡ core_state kept before old
    state_same turned =
        state_changed (λ s. s) (λ s other. refl) turned before
        ∙ ap (λ streams. book_state old.book (record {
          playheads = map playhead_of old.seats.items;
          streams = streams;
        }) before) (map_same (λ s. s) (λ s. refl) (core_state kept before old).stage.streams)

    goes_by : (result : Hr) (payload : List ℕ) (tally : Tally) (st : State) → core_state kept tally new ≡ st →
        AnswersBy (core_state kept before old) (the_plan (core_state kept before old)) result payload st
        (outside faults told old.devices) (outside faults told old.devices) →
        Goes faults told kept the_plan result payload before old new
    goes_by result payload tally st is answers = record {
      tally = tally;
      answers =
          subst (λ d. AnswersBy (core_state kept before old) (the_plan (core_state kept before old)) result payload
          (core_state kept tally new) (outside faults told old.devices) (outside faults told d)) (sym one.devices)
          (subst (λ s. AnswersBy (core_state kept before old) (the_plan (core_state kept before old)) result payload s
          (outside faults told old.devices) (outside faults told old.devices)) (sym is) answers);
    }

    -- a row refuses the call for what the look found
    pub data_row_refused : (code : Hr) → first (data_rows call (Some (core_stream kept a))) ≡ Some code →
        core_stream kept b ≡ core_stream kept a → Goes faults told kept the_plan code [] before old new
    data_row_refused code own turned =
        goes_by code [] before (core_state kept before old) (state_same turned)
        (answers_refused (core_state kept before old) (the_plan (core_state kept before old)) code
        (outside faults told old.devices) (rows_are (Some code) own))

    -- the call tells what the look found
    pub data_told : (payload : List ℕ) → first (data_rows call (Some (core_stream kept a))) ≡ None →
        core_stream kept b ≡ core_stream kept a →
        ((st : State) → outcome st (core_stream kept a) ≡ answered st payload) →
        Goes faults told kept the_plan hr.S_OK payload before old new
    data_told payload own turned tells =
        goes_by hr.S_OK payload before (core_state kept before old) (state_same turned)
        (gets (core_state kept before old) (the_plan (core_state kept before old))
        (outside faults told old.devices) (answered (core_state kept before old) payload) (rows_are None own) refl
        (ap (λ o. with_stream (core_state kept before old) o (outcome (core_state kept before old))) stream_is
        ∙ tells (core_state kept before old))
        refl)

    -- the call moves the stream, which is open
    pub data_moved : (payload : List ℕ) (m : StreamMove) → first (data_rows call (Some (core_stream kept a))) ≡ None →
        a.gate ≡ gate.Open →
        core_stream kept b ≡ moved m (core_stream kept a) →
        ((st : State) → outcome st (core_stream kept a) ≡ granted payload (of_client a.client.0 m ∷ []) st) →
        Goes faults told kept the_plan hr.S_OK payload before old new
    data_moved payload m own opens turned grants =
        let st = core_state kept before old in
        let outcome_is = granted payload (of_client a.client.0 m ∷ []) st in
        goes_by hr.S_OK payload outcome_is.after.tally outcome_is.after
        (state_changed (stream_after (of_client a.client.0 m)) leaves (turned ∙ sym moves_it) outcome_is.after.tally
        ∙ ap (λ heads. book_state old.book (record {
          playheads = heads;
          streams = map (stream_after (of_client a.client.0 m)) st.stage.streams;
        }) outcome_is.after.tally)
        (sym (map_same (playhead_after (of_client a.client.0 m)) (λ e. refl) (map playhead_of old.seats.items))))
        (gets st (the_plan st) (outside faults told old.devices) outcome_is (rows_are None own) refl
        (ap (λ o. with_stream st o (outcome st)) stream_is ∙ grants st) refl)
      where
        leaves : (s : Stream) → (s.client ≡ a.client.0 → ⊥) → stream_after (of_client a.client.0 m) s ≡ s
        leaves s other = ap (λ x. if x && is_open s then moved m s else s) (ne_eqb s.client a.client.0 other)

        moves_it : stream_after (of_client a.client.0 m) (core_stream kept a) ≡ moved m (core_stream kept a)
        moves_it = ap₂ (λ x y. if x && y then moved m (core_stream kept a) else core_stream kept a)
            (eq-eqb a.client.0 a.client.0 refl) (ap is_open_gate opens)
