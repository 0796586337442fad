-- SetEventHandle: what becomes of the client, and that the board stays in order (IAudioClient).
use Rattle.std.proofs.Common.{◌≡◌, ℕ, ◌==◌, not, List, [], true, false, Option, None, refl, sym, ap, ◌∙◌}
use Rattle.std.specs.Vec.{with_item}
use Rattle.device_io.specs.DeviceLog.{DeviceLog}
use Rattle.ca_base.specs.declared.codes.TheConstants.Hr as hr
use Rattle.buffer_ring.specs.declared.step.EndState.{EndState}
use Rattle.buffer_ring.specs.declared.step.StoreStep.{StoreStep}
use Rattle.ca_stage.specs.Order.{RisesFrom}
use Rattle.ca_stage.specs.Stage.{Stream}
use Rattle.ca_machine.specs.declared.state.Client.{Client}
use Rattle.ca_machine.specs.Plan.{Outcome, granted}
use Rattle.ca_machine.specs.SharedRows.{with_stream}
use Rattle.ca_machine.specs.State.{State, live_clients}
use Rattle.ca_machine.specs.Streams.{set_event_handle_plan, set_event_handle_rows, with_handle}
use Rattle.period_engine.specs.declared.entry.StreamEntry.{StreamEntry}
use Rattle.service_book.specs.declared.book.Book.{Book}
use Rattle.service_book.proofs.Rows.{row_passes}
use Rattle.service_board.specs.Board.{state_of}
use Rattle.service_board.specs.Does.{AnyData, Does}
use Rattle.service_board.specs.InOrder.{InOrder}
use Rattle.service_board.specs.declared.board.Board.{Board}
use Rattle.service_board.proofs.ChangedClients.{Named, changed_if, changed_items, clients_order, one_changes}
use Rattle.service_board.proofs.ChangedClients.{with_clients}
use Rattle.service_board.proofs.GrantedEvents.{book_does}
use Rattle.service_board.proofs.StreamRows.{Opened, stream_own}

-- a client with another handle
abbrev pub handled : ℕ → Client → Client
handled handle c = record c { handle = handle }

-- and a book in which it stands at this place
abbrev pub handled_at : ℕ → ℕ → Client → Book → Book
handled_at at handle c book = with_clients (with_item book.clients at (handled handle c)) book.levels_changed book

-- what the call does with the stream
abbrev pub sets_handle : ℕ → ℕ → ℕ → State → Stream → Outcome
sets_handle conn client handle st s =
    granted [] [] (record st { clients = with_handle conn client handle st.clients })

module _ {D E : Type 0} (b : Board D E) (conn client handle place : ℕ) (c : Client)
    (named : Named conn client b.book.clients.items place c) where
  -- the handle of the client is set
  pub handle_does : (faults : D → ℕ) (told : D → Option (List DeviceLog)) (moves : E → List StoreStep → E → Type 0)
      (stays : (a : E) → moves a [] a) (at : ℕ) (e : StreamEntry E) → Opened conn client b at e → e.event ≡ true →
      (handle == 0) ≡ false → RisesFrom 0 (live_clients b.book.clients.items) →
      Does faults told moves None AnyData b (record b { book = handled_at place handle c b.book })
      (λ st. set_event_handle_plan st conn client handle) hr.S_OK []
  handle_does faults told moves stays at e there driven some rises =
      book_does faults told moves None AnyData stays b (handled_at place handle c b.book)
      (λ st. set_event_handle_plan st conn client handle) hr.S_OK []
      (λ datas tally.
      let st = state_of datas tally b in
      let tells : (set_event_handle_plan st conn client handle).grants []
      ≡ granted [] [] (record st { clients = with_handle conn client handle st.clients }) =
      ap (λ o. with_stream st o (sets_handle conn client handle st)) (there.found datas tally) in
      record {
        passes = stream_own b conn client (set_event_handle_rows handle) (sets_handle conn client handle) at e None
            there datas tally
            (row_passes (not e.event) hr.EVENTHANDLE_NOT_EXPECTED _ (ap not driven)
            (row_passes (handle == 0) hr.E_INVALIDARG None some refl));
        asks = refl;
        output = ap (λ o. o.output) tells;
        result_is = sym (ap (λ o. o.result) tells);
        payload_is = sym (ap (λ o. o.payload) tells);
        after_is = ap (λ cs. record st { clients = cs })
            (changed_items conn client (handled handle) b.book.clients.items place c named rises)
            ∙ sym (ap (λ o. o.after) tells);
      })

  pub handle_order : (state : E → EndState) → InOrder state b →
      InOrder state (record b { book = handled_at place handle c b.book })
  handle_order state order =
      clients_order state b (changed_if conn client (handled handle))
      (with_item b.book.clients place (handled handle c)) b.book.levels_changed
      (one_changes conn client (handled handle) b.book place c b.book.levels_changed named order.book.clients
      (λ x. refl) (λ x. refl) (λ x. refl) (λ x h. h) (λ same. (same, λ x. refl))) order
