-- What a close of streams within a scope is on a board: the closes of the machine.
use Rattle.std.proofs.Common.{◌≡◌, ℕ, List, [], map, Bool, true, false, Option, None, refl, sym, ap}
use Rattle.std.proofs.Common.{◌∙◌, filter, subst}
use Rattle.std.specs.Global.{Vec}
use Rattle.std.proofs.lemmas.Bool.{and_parts}
use Rattle.device_io.specs.DeviceLog.{DeviceLog}
use Rattle.ca_base.specs.declared.codes.TheConstants.Hr as hr
use Rattle.ca_base.specs.declared.ids.Reason.{Reason}
use Rattle.buffer_ring.specs.declared.step.EndState.{EndState}
use Rattle.buffer_ring.specs.declared.step.StoreStep.{StoreStep}
use Rattle.ca_stage.specs.Stage.{BufferData, Stage, Stream, is_open}
use Rattle.ca_stage.specs.Moves.{Move, after_moves, closed}
use Rattle.ca_stage.specs.Order.{AreDistinct, RisesFrom, clients}
use Rattle.ca_stage.specs.Tally.{Tally, tally_after}
use Rattle.ca_stage.proofs.Clients.{rising_distinct}
use Rattle.ca_stage.proofs.Lists.{map_map, map_same}
use Rattle.ca_stage.proofs.MapMoves.{kept_moved, playheads_left}
use Rattle.ca_machine.specs.State.{State}
use Rattle.ca_machine.specs.Plan.{Answer, AreAnswers, Outcome, Plan}
use Rattle.ca_machine.specs.Devices.{disconnects_if, is_within}
use Rattle.ca_machine.specs.View.{Outside, Passes, outside}
use Rattle.period_engine.specs.declared.entry.StreamEntry.{StreamEntry}
use Rattle.period_engine.specs.Agreement.{AllAgree}
use Rattle.period_engine.specs.Agreement.{ArePacked}
use Rattle.period_engine.specs.Entries.{stream_of, streams_of}
use Rattle.service_book.specs.BookState.{book_state}
use Rattle.service_book.specs.declared.book.Book.{Book}
use Rattle.service_board.specs.Board.{playhead_of, stage_with, state_of}
use Rattle.stream_entries.specs.Closing.{Disconnects, closes_if, is_open_within}
use Rattle.service_board.specs.Does.{AnyData, Does, Made, after_steps, layout_at, store_at}
use Rattle.service_board.specs.InOrder.{InOrder}
use Rattle.service_board.specs.Lookups.{Says}
use Rattle.service_board.specs.Plays.{AllGo}
use Rattle.service_board.specs.declared.board.Board.{Board}
use Rattle.service_board.specs.declared.board.Seat.{Seat}
use Rattle.service_board.proofs.ByClient.{all_made, all_packed, all_turned, are_after, go_alike, steps_of}
use Rattle.service_board.proofs.ByClient.{streams_went, within, within_each, within_none}
use Rattle.service_board.proofs.Offering.{answers_granted_by}

-- the closes of a stage are one map over its streams
closed_streams : (lost : Bool) (reason : Reason) (scope : Option ℕ) (st : Stage) → AreDistinct (clients st) →
    map (closes_if lost reason scope) st.streams ≡ (after_moves st (disconnects_if lost reason scope st)).streams
closed_streams false reason scope st distinct = map_same (closes_if false reason scope) (λ s. refl) st.streams
closed_streams true reason scope st distinct =
    sym (kept_moved (closed reason) (is_open_within scope) st distinct
    (λ s h. (and_parts (is_within scope s) (is_open s) h).1))

-- and leave its playheads
pub heads_stay : (lost : Bool) (reason : Reason) (scope : Option ℕ) (st : Stage) →
    (after_moves st (disconnects_if lost reason scope st)).playheads ≡ st.playheads
heads_stay false reason scope st = refl
heads_stay true reason scope st = playheads_left (closed reason) (filter (is_open_within scope) st.streams) st

-- what an event is granted: no payload, nothing for devices, and this state after it
pub record IsGranted (outcome : Outcome) (after : State) : Type 0 where
  pub result : hr.S_OK ≡ outcome.result
  pub payload : [] ≡ outcome.payload
  pub output : outcome.output ≡ []
  pub after_is : after ≡ outcome.after

module _ {D E : Type 0} (moves : E → List StoreStep → E → Type 0) (state : E → EndState) (b : Board D E)
    (order : InOrder state b) (lost : Bool) (reason : Reason) (scope : Option ℕ) (entries : Vec (StreamEntry E))
    (loses : Disconnects moves state lost reason scope b.entries entries) where
  abbrev pub turned_steps : ℕ → List StoreStep
  turned_steps = steps_of moves (closes_if lost reason scope) b.entries.items entries.items loses.turned

  abbrev pub close_steps : ℕ → List StoreStep
  close_steps = within b.entries.items turned_steps

  pub went : AllGo moves (closes_if lost reason scope) close_steps b.entries.items entries.items
  went =
      go_alike moves (closes_if lost reason scope) turned_steps close_steps b.entries.items entries.items
      (within_each b.entries.items turned_steps)
      (all_turned moves (closes_if lost reason scope) 0 b.entries.items entries.items loses.turned order.order)

  pub made : (client : ℕ) →
      Made moves None (close_steps client) (store_at client b.entries.items) (store_at client entries.items)
  made client =
      all_made moves (closes_if lost reason scope) close_steps None b.entries.items entries.items went client
      (within_none b.entries.items turned_steps client)

  -- the stage before, and the moves of it
  abbrev pub stage_before : (ℕ → BufferData) → Stage
  stage_before datas = stage_with datas b.seats.items b.entries.items

  abbrev pub close_moves : (ℕ → BufferData) → List Move
  close_moves datas = disconnects_if lost reason scope (stage_before datas)

  rises : (datas : ℕ → BufferData) → RisesFrom 0 (clients (stage_before datas))
  rises datas =
      subst (RisesFrom 0) (sym (map_map (λ (s : Stream). s.client) (stream_of datas) b.entries.items)) order.order

  pub streams_are : (datas : ℕ → BufferData) → AllAgree close_steps datas b.entries.items →
      streams_of (after_steps close_steps b.entries.items datas) entries.items
      ≡ (after_moves (stage_before datas) (close_moves datas)).streams
  streams_are datas agree =
      sym (streams_went moves (closes_if lost reason scope) close_steps datas
      (after_steps close_steps b.entries.items datas) b.entries.items entries.items went agree
      (are_after close_steps b.entries.items datas order.order))
      ∙ closed_streams lost reason scope (stage_before datas) (rising_distinct 0 _ (rises datas))

  -- each step stands in the layout of its store, and a client without a store takes none
  pub packs : (client : ℕ) → ArePacked (layout_at client b.entries.items) (close_steps client)
  packs client =
      all_packed moves (closes_if lost reason scope) close_steps b.entries.items entries.items went client
      (within_none b.entries.items turned_steps client)

  pub none_steps : (client : ℕ) → store_at client b.entries.items ≡ None → close_steps client ≡ []
  none_steps client none = within_none b.entries.items turned_steps client none

  -- the stage after them, with the playheads of these seats
  abbrev pub stage_after : List Seat → (ℕ → BufferData) → Stage
  stage_after seats datas = record {
    playheads = map playhead_of seats;
    streams = (after_moves (stage_before datas) (close_moves datas)).streams;
  }

  -- if the seats have the same playheads, it is the stage that was moved
  pub stage_moved : (seats : List Seat) (datas : ℕ → BufferData) →
      map playhead_of seats ≡ map playhead_of b.seats.items →
      stage_after seats datas ≡ after_moves (stage_before datas) (close_moves datas)
  stage_moved seats datas same =
      ap (λ hs. record { playheads = hs; streams = (after_moves (stage_before datas) (close_moves datas)).streams })
      (same ∙ sym (heads_stay lost reason scope (stage_before datas)))

  module _ (book : Book) (seats : Vec Seat) where
    -- the board with these entries, another book and other seats
    abbrev pub closed_board : Board D E
    closed_board = record b { book = book; seats = seats; entries = entries }

    pub disconnects_does : (faults : D → ℕ) (told : D → Option (List DeviceLog)) (plan : State → Plan)
        (given : List Answer) → Says b (λ st. (plan st).rows) None →
        ((out : Outside) → Passes out [] given out) →
        ((datas : ℕ → BufferData) (tally : Tally) → AreAnswers (plan (state_of datas tally b)).asks given) →
        ((datas : ℕ → BufferData) (tally : Tally) → IsGranted ((plan (state_of datas tally b)).grants given)
        (book_state book (stage_after seats.items datas)
        (tally_after tally (stage_before datas) (close_moves datas)))) →
        Does faults told moves None AnyData b closed_board plan hr.S_OK []
    disconnects_does faults told plan given says passes asks grants = record {
      steps = close_steps;
      made = made;
      packs = packs;
      does = λ datas tally agree knows.
          let st = state_of datas tally b in
          let granted = grants datas tally in
          let after = tally_after tally (stage_before datas) (close_moves datas) in
          record {
            tally = after;
            answers =
                answers_granted_by st (plan st) hr.S_OK []
                (state_of (after_steps close_steps b.entries.items datas) after closed_board)
                (outside faults told b.devices) (outside faults told b.devices) given (says datas tally)
                (asks datas tally) granted.result granted.payload
                (ap (λ ss. book_state book (record { playheads = map playhead_of seats.items; streams = ss }) after)
                (streams_are datas agree)
                ∙ granted.after_is)
                (subst (λ ps. Passes (outside faults told b.devices) ps given (outside faults told b.devices))
                (sym granted.output) (passes (outside faults told b.devices)));
          };
    }
