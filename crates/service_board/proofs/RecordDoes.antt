-- A period of an endpoint that captures, on a board, is the machine's.
use Rattle.std.proofs.Common.{◌≡◌, ℕ, ◌*◌, ◌||◌, List, [], ◌∷◌, map, filter, flat_map, Bool, true, false, cond, Option}
use Rattle.std.proofs.Common.{None, refl, sym, ap, ap₂, ◌∙◌, subst, if◌then◌else◌}
use Rattle.std.specs.List.{list_any}
use Rattle.device_io.specs.DeviceLog.{DeviceLog}
use Rattle.ca_base.specs.declared.codes.TheConstants.Hr as hr
use Rattle.ca_base.specs.declared.ids.Flow.TheVariants as flow
use Rattle.ca_base.specs.Rows.{first}
use Rattle.buffer_ring.specs.declared.step.EndState.{EndState}
use Rattle.buffer_ring.specs.declared.step.StoreStep.{StoreStep}
use Rattle.ca_stage.specs.Stage.{BufferData, Stage, Stream}
use Rattle.ca_stage.specs.Moves.{Move, after_moves}
use Rattle.ca_stage.specs.Periods.{is_recording}
use Rattle.ca_stage.specs.Order.{RisesFrom, clients}
use Rattle.ca_stage.specs.Tally.{Tally, tally_after}
use Rattle.ca_stage.proofs.Lists.{map_map}
use Rattle.device_registry.specs.declared.endpoint.Endpoint.{Endpoint}
use Rattle.ca_machine.specs.Plan.{Answer, IsReading, Plan}
use Rattle.ca_machine.specs.Plan.Asked.{reading}
use Rattle.ca_machine.specs.Plan as plan
use Rattle.ca_machine.specs.Periods.{bytes_asked, frames_recorded, period_of, period_payload, period_rows}
use Rattle.ca_machine.specs.Periods.{period_plan, recording_moves, recording_streams_on}
use Rattle.ca_machine.specs.Periods as machine
use Rattle.ca_machine.specs.View.{AnswersBy, outside}
use Rattle.ca_machine.proofs.RecordedStage.{recorded, recorded_stage}
use Rattle.period_engine.specs.declared.entry.StreamEntry.{StreamEntry}
use Rattle.period_engine.specs.Agreement.{AllAgree}
use Rattle.period_engine.specs.Entries.{is_recorded, stream_of, streams_of}
use Rattle.period_engine.specs.Feeds.{AreGiven, GivesFrom}
use Rattle.period_engine.specs.Offers.{RoseUnless}
use Rattle.service_book.specs.BookState.{book_state}
use Rattle.service_board.specs.Board.{playhead_of, stage_with, state_of}
use Rattle.service_board.specs.Does.{AnyData, Does, after_steps, store_at}
use Rattle.service_board.specs.Due.{FindsDue}
use Rattle.service_board.specs.InOrder.{InOrder}
use Rattle.service_board.specs.Plays.{AllGo}
use Rattle.service_board.specs.declared.board.Board.{Board}
use Rattle.service_board.proofs.ByClient.{all_made, all_packed, are_after, streams_went}
use Rattle.service_board.proofs.PlainEvents.{add_none}
use Rattle.stream_entries.specs.Holding.{period_frames}
use Rattle.service_board.proofs.DuePeriods.{rows_by}
use Rattle.service_board.proofs.PeriodLengths.{frames_alike}
use Rattle.service_board.proofs.GivenPieces.{answers_given, answers_read, faults_given, fronts_given, joined_given}
use Rattle.service_board.proofs.GivenPieces.{whole_given}
use Rattle.service_board.proofs.Offering.{answers_granted_by}

-- the bytes of a period of so many frames
abbrev pub bytes_of : Endpoint → ℕ → ℕ
bytes_of e size = size * e.format.channels * 2

-- they are asked for if an entry records the endpoint
pub asked_is : {E : Type 0} (e : Endpoint) (size n : ℕ) (datas : ℕ → BufferData) (xs : List (StreamEntry E)) →
    bytes_asked e size (filter (is_recording n) (streams_of datas xs))
    ≡ (if list_any (is_recorded n) xs then bytes_of e size else 0)
asked_is e size n datas [] = refl
asked_is e size n datas (x ∷ xs) = by (is_recorded n x) (asked_is e size n datas xs)
  where
    by : (b : Bool) →
        bytes_asked e size (filter (is_recording n) (streams_of datas xs))
        ≡ (if list_any (is_recorded n) xs then bytes_of e size else 0) →
        bytes_asked e size
        (cond b (stream_of datas x ∷ filter (is_recording n) (streams_of datas xs))
        (filter (is_recording n) (streams_of datas xs)))
        ≡ (if b || list_any (is_recorded n) xs then bytes_of e size else 0)
    by true h = refl
    by false h = h

-- A period of an endpoint that captures, over entries. By steps of their stores, and of no other client, they went on
-- as the period moves their streams; and what was asked of the device was given read by read, or it failed.
pub record Records {E : Type 0} (moves : E → List StoreStep → E → Type 0) (e : Endpoint) (size : ℕ)
    (whole : Bool) (pieces : List (List ℕ)) (old new : List (StreamEntry E)) (faults : ℕ)
    (told : Option (List DeviceLog))
    (faults' : ℕ) (told' : Option (List DeviceLog)) : Type 0 where
  pub steps : ℕ → List StoreStep
  pub went : AllGo moves (recorded e size (flat_map (λ piece. piece) pieces) whole) steps old new
  pub none : (client : ℕ) → store_at client old ≡ None → steps client ≡ []
  pub given : AreGiven (if list_any (is_recorded e.no.0) old then bytes_of e size else 0) pieces whole
  pub tells : GivesFrom e.no.0 told pieces told'
  pub rises : RoseUnless whole faults faults'

module _ {D E : Type 0} (faults : D → ℕ) (told : D → Option (List DeviceLog)) (moves : E → List StoreStep → E → Type 0)
    (state : E → EndState) (b new : Board D E) (order : InOrder state b) (number at : ℕ) (due : FindsDue number b at)
    (whole : Bool) (pieces : List (List ℕ))
    (records : Records moves due.active.endpoint (period_frames due.active.endpoint b.entries.items) whole pieces
    b.entries.items new.entries.items (faults b.devices)
    (told b.devices) (faults new.devices) (told new.devices))
    (captures : due.active.endpoint.flow ≡ flow.Capture)
    (heads : map playhead_of new.seats.items ≡ map playhead_of b.seats.items)
    (book : (datas : ℕ → BufferData) (tally : Tally) → state_of datas tally new
    ≡ machine.after_recording due.active.endpoint (flat_map (λ piece. piece) pieces) whole
    (book_state b.book (stage_with datas new.seats.items new.entries.items) tally))
    (payload : List ℕ)
    (payload_is : payload ≡ period_payload
    (frames_recorded due.active.endpoint (period_frames due.active.endpoint b.entries.items)
    (flat_map (λ piece. piece) pieces)) whole)
  where
    abbrev its_endpoint : Endpoint
    its_endpoint = due.active.endpoint

    -- the frames of its period
    abbrev size : ℕ
    size = period_frames its_endpoint b.entries.items

    abbrev bytes : List ℕ
    bytes = flat_map (λ piece. piece) pieces

    abbrev given : List Answer
    given = answers_given its_endpoint.no.0 pieces whole

    module _ (datas : ℕ → BufferData) (tally : Tally) (agree : AllAgree records.steps datas b.entries.items) where
      abbrev stage_by : Stage
      stage_by = stage_with datas b.seats.items b.entries.items

      rises : RisesFrom 0 (clients stage_by)
      rises =
          subst (RisesFrom 0) (sym (map_map (λ (s : Stream). s.client) (stream_of datas) b.entries.items)) order.order

      abbrev its_moves : List Move
      its_moves = recording_moves its_endpoint size bytes whole stage_by

      abbrev tally_then : Tally
      tally_then = tally_after tally stage_by its_moves

      abbrev data_then : ℕ → BufferData
      data_then = after_steps records.steps b.entries.items datas

      streams_are : map (recorded its_endpoint size bytes whole) (streams_of datas b.entries.items)
          ≡ streams_of data_then new.entries.items
      streams_are =
          streams_went moves (recorded its_endpoint size bytes whole) records.steps datas data_then b.entries.items
          new.entries.items records.went agree (are_after records.steps b.entries.items datas order.order)

      stage_is : stage_with data_then new.seats.items new.entries.items ≡ after_moves stage_by its_moves
      stage_is =
          ap₂ (λ hs ss. record { playheads = hs; streams = ss }) heads (sym streams_are)
          ∙ sym (recorded_stage its_endpoint size bytes stage_by rises whole)

      state_is : state_of data_then tally_then new
          ≡ machine.after_recording its_endpoint bytes whole (plan.moved its_moves (state_of datas tally b))
      state_is =
          book data_then tally_then
          ∙ ap (λ stage. machine.after_recording its_endpoint bytes whole (book_state b.book stage tally_then)) stage_is

      asked : (if list_any (is_recorded its_endpoint.no.0) b.entries.items then bytes_of its_endpoint size else 0)
          ≡ bytes_asked its_endpoint size (recording_streams_on its_endpoint.no.0 stage_by)
      asked = sym (asked_is its_endpoint size its_endpoint.no.0 datas b.entries.items)

      -- the plan of a period of so many frames
      abbrev plan_by : ℕ → Plan
      plan_by n = record {
        rows = period_rows (state_of datas tally b) its_endpoint n;
        asks = reading its_endpoint.no.0 (bytes_asked its_endpoint n (recording_streams_on its_endpoint.no.0 stage_by));
        grants = machine.recording (state_of datas tally b) its_endpoint n;
      }

      frames_are : machine.period_frames its_endpoint (streams_of datas b.entries.items) ≡ size
      frames_are = frames_alike its_endpoint datas b.entries.items

      answers_by : AnswersBy (state_of datas tally b) (plan_by size) hr.S_OK payload
          (state_of data_then tally_then new) (outside faults told b.devices) (outside faults told new.devices)
      answers_by =
          let st = state_of datas tally b in
          let is_w = whole_given its_endpoint.no.0 pieces whole in
          let joined = joined_given its_endpoint.no.0 pieces whole in
          answers_granted_by st (plan_by size) hr.S_OK payload
          (state_of data_then tally_then new) (outside faults told b.devices) (outside faults told new.devices) given
          (ap (λ n. first (period_rows st its_endpoint n)) (sym frames_are)
          ∙ ap first (sym (rows_by st its_endpoint its_endpoint.flow))
          ∙ sym (ap (λ o. first (period_of st o).rows) due.active.found) ∙ due.says datas tally)
          (subst (λ n. IsReading its_endpoint.no.0 n given) asked
          (answers_read its_endpoint.no.0 pieces whole _ records.given))
          refl
          (payload_is
          ∙ ap₂ (λ bs w. period_payload (frames_recorded its_endpoint size bs) w) (sym joined) (sym is_w))
          (state_is
          ∙ ap₂ (λ bs w. machine.after_recording its_endpoint bs w
          (plan.moved (recording_moves its_endpoint size bs w stage_by) st)) (sym joined) (sym is_w))
          (record {
            left = told new.devices;
            gives =
                fronts_given its_endpoint.no.0 pieces whole (told b.devices) (told new.devices) records.tells;
            tells = add_none (told new.devices);
            counts =
                faults_given its_endpoint.no.0 pieces whole (faults b.devices) (faults new.devices)
                records.rises;
          })

      answers : AnswersBy (state_of datas tally b)
          (machine.period_by (state_of datas tally b) its_endpoint flow.Capture) hr.S_OK payload
          (state_of data_then tally_then new) (outside faults told b.devices) (outside faults told new.devices)
      answers =
          subst (λ n. AnswersBy (state_of datas tally b) (plan_by n) hr.S_OK payload
          (state_of data_then tally_then new) (outside faults told b.devices) (outside faults told new.devices))
          (sym frames_are) answers_by

    pub record_does : Does faults told moves None AnyData b new (λ st. period_plan st number) hr.S_OK payload
    record_does = record {
      steps = records.steps;
      made = λ client.
          all_made moves (recorded its_endpoint size bytes whole) records.steps None b.entries.items new.entries.items
          records.went client (records.none client);
      packs = λ client.
          all_packed moves (recorded its_endpoint size bytes whole) records.steps b.entries.items new.entries.items
          records.went client (records.none client);
      does = λ datas tally agree knows. record {
        tally = tally_then datas tally agree;
        answers =
            subst (λ o. AnswersBy (state_of datas tally b) (period_of (state_of datas tally b) o) hr.S_OK payload
            (state_of (data_then datas tally agree) (tally_then datas tally agree) new)
            (outside faults told b.devices) (outside faults told new.devices)) (sym due.active.found)
            (subst (λ f. AnswersBy (state_of datas tally b)
            (machine.period_by (state_of datas tally b) its_endpoint f) hr.S_OK payload
            (state_of (data_then datas tally agree) (tally_then datas tally agree) new)
            (outside faults told b.devices) (outside faults told new.devices)) (sym captures)
            (answers datas tally agree));
      };
    }
