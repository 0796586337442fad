-- Events and notices that a call's connection takes: what is told, and what is left.
use Rattle.std.proofs.Common.{◌≡◌, ℕ, ◌≤◌, get_or, length, map, List, [], false, Option, None, refl, sym, ap, ap₂, ◌∙◌}
use Rattle.std.proofs.Common.{subst}
use Rattle.std.specs.Global.{Vec}
use Rattle.std.specs.Vec.{vec_capacity, with_items}
use Rattle.std.proofs.lemmas.List.{length-map, with_items_is}
use Rattle.device_io.specs.DeviceLog.{DeviceLog}
use Rattle.ca_base.specs.declared.codes.TheConstants.Hr as hr
use Rattle.ca_base.specs.declared.limits.TheConstants.{NOTICES}
use Rattle.buffer_ring.specs.declared.step.EndState.{EndState}
use Rattle.buffer_ring.specs.declared.step.StoreStep.{StoreStep}
use Rattle.event_notices.specs.declared.notice.Notice.{Notice}
use Rattle.event_notices.specs.Notices.{Notices, first_notices, taken}
use Rattle.ca_machine.specs.Plan.{Plan, granted, plain}
use Rattle.ca_machine.specs.declared.state.Client.{Client}
use Rattle.ca_machine.specs.Registrations.{flagged_on, notices_payload, take_notices_plan, unflagged, without_events}
use Rattle.ca_machine.specs.SharedRows.{connection_rows}
use Rattle.ca_machine.specs.Clients.{is_client_on}
use Rattle.ca_machine.specs.State.{State, with_notices_of}
use Rattle.ca_machine.specs.View.{AnswersBy, outside}
use Rattle.service_board.specs.Board.{state_of}
use Rattle.service_board.specs.Does.{AnyData, Does}
use Rattle.service_board.specs.InOrder.{InOrder}
use Rattle.service_board.specs.Lookups.{FindsNotices}
use Rattle.service_board.specs.declared.board.Board.{Board}
use Rattle.service_board.proofs.AddDoes.{stays_does}
use Rattle.service_board.proofs.ChangedClients.{clients_order, flag_if, flags_change, with_clients}
use Rattle.service_board.proofs.GrantedEvents.{answers_granted}
use Rattle.service_board.proofs.KeptNotices.{kept_are, kept_there, others_are, queue_order, with_queue}

-- the plan, by the notices of the connection
abbrev take_by : ℕ → ℕ → Notices → State → Plan
take_by conn max q st =
    plain (connection_rows conn st)
    (granted (notices_payload (flagged_on conn st.clients) q.lost (first_notices max q)) []
    (with_notices_of conn (taken max q) (without_events conn st)))

-- a board in which other notices stand at a place, with other drafts, and clients of whom events were taken
abbrev pub board_taken : {D E : Type 0} → ℕ → Notices → Vec Notice → List Client → Board D E → Board D E
board_taken at q drafts cs b = record (with_queue at q drafts b) {
  book = with_clients (with_items b.book.clients cs) b.book.levels_changed (with_queue at q drafts b).book;
}

module _ {D E : Type 0} (b : Board D E) (conn at : ℕ) (new : Notices) (drafts : Vec Notice) (cs : List Client)
    (is : cs ≡ map (unflagged conn) b.book.clients.items) where
  clients_are : (with_items b.book.clients cs).items ≡ map (unflagged conn) b.book.clients.items
  clients_are =
      with_items_is b.book.clients cs
      (ap length is ∙ length-map b.book.clients.items (unflagged conn) ∙ sym b.book.clients.ok.0) ∙ is

  -- the events and the first notices are told, and the other notices are left
  pub take_done : (faults : D → ℕ) (told : D → Option (List DeviceLog)) (moves : E → List StoreStep → E → Type 0)
      (stays : (a : E) → moves a [] a) (max : ℕ) (q : Notices) → FindsNotices conn (connection_rows conn) b at →
      q ≡ get_or b.book.notices.items at q → (lost : ℕ) → lost ≡ q.lost → drafts.items ≡ first_notices max q →
      new ≡ taken max q →
      Does faults told moves None AnyData b (board_taken at new drafts cs b) (λ st. take_notices_plan st conn max)
      hr.S_OK (notices_payload (flagged_on conn b.book.clients.items) lost drafts.items)
  take_done faults told moves stays max q found read lost lost_is firsts left =
      let kept = kept_there b conn at q (connection_rows conn) found read in
      let payload = notices_payload (flagged_on conn b.book.clients.items) lost drafts.items in
      stays_does faults told moves stays b (board_taken at new drafts cs b) refl
      (λ st. take_notices_plan st conn max) hr.S_OK payload
      (λ datas tally.
      let st = state_of datas tally b in
      let after = state_of datas tally (board_taken at new drafts cs b) in
      let out = outside faults told b.devices in
      subst (λ x. AnswersBy st (take_by conn max x st) hr.S_OK payload after out out)
      (sym (kept_are b conn at q kept datas tally))
      (answers_granted st (take_by conn max q st) hr.S_OK payload after out
      (record {
        passes = found.says datas tally;
        asks = refl;
        output = refl;
        result_is = refl;
        payload_is = ap₂ (notices_payload (flagged_on conn b.book.clients.items)) lost_is firsts;
        after_is =
            ap (λ xs. record (state_of datas tally (with_queue at new drafts b)) { clients = xs }) clients_are
            ∙ ap (without_events conn)
            (others_are b conn at q kept new drafts datas tally ∙ ap (λ x. with_notices_of conn x st) left);
      })))

  -- and the board stays in order
  pub take_order : (state : E → EndState) → NOTICES ≤ vec_capacity drafts → InOrder state b →
      InOrder state (board_taken at new drafts cs b)
  take_order state room order =
      clients_order state (with_queue at new drafts b) (unflagged conn) (with_items b.book.clients cs)
      b.book.levels_changed
      (flags_change (unflagged conn) (with_queue at new drafts b).book (with_items b.book.clients cs)
      (λ c. flag_if (is_client_on conn c) false c) clients_are refl)
      (queue_order state b at new drafts room order)
