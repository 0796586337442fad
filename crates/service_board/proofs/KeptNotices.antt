-- The notices of a call's connection: where they stand, and calls over them.
use Rattle.std.proofs.Common.{◌≡◌, ℕ, ◌-◌, ◌≤◌, List, [], Option, Some, None, length, get_or, set, refl, sym, ap}
use Rattle.std.proofs.Common.{◌∙◌, subst, arith}
use Rattle.std.specs.Global.{Vec}
use Rattle.std.specs.List.{slice_get}
use Rattle.std.specs.Option.{unwrap_or}
use Rattle.std.specs.Vec.{vec_capacity, with_item}
use Rattle.std.proofs.lemmas.List.{length-set, set-get_or}
use Rattle.std.proofs.lemmas.Option.{get_or_from_slice_get, slice_get_read}
use Rattle.device_io.specs.DeviceLog.{DeviceLog}
use Rattle.ca_base.specs.declared.codes.Hr.{Hr}
use Rattle.ca_base.specs.declared.limits.TheConstants.{NOTICES}
use Rattle.ca_base.specs.Rows.{Row}
use Rattle.buffer_ring.specs.declared.step.EndState.{EndState}
use Rattle.buffer_ring.specs.declared.step.StoreStep.{StoreStep}
use Rattle.ca_stage.specs.Stage.{BufferData}
use Rattle.ca_stage.specs.Tally.{Tally}
use Rattle.event_notices.specs.declared.notice.Notice.{Notice}
use Rattle.event_notices.specs.Notices.{Notices, no_notices}
use Rattle.ca_machine.specs.Plan.{Plan}
use Rattle.ca_machine.specs.SharedRows.{connection_rows}
use Rattle.ca_machine.specs.State.{State, notices_of, with_notices_of}
use Rattle.ca_machine.specs.View.{AnswersBy, Outside, outside}
use Rattle.service_book.specs.InOrder.{IsBook}
use Rattle.service_board.specs.Board.{state_of}
use Rattle.service_board.specs.Does.{AnyData, Does}
use Rattle.service_board.specs.InOrder.{InOrder}
use Rattle.service_board.specs.Lookups.{FindsNotices, Says}
use Rattle.service_board.specs.declared.board.Board.{Board}
use Rattle.service_board.proofs.AddDoes.{stays_does}
use Rattle.service_board.proofs.Connecting.{known_within}
use Rattle.service_board.proofs.PlainEvents.{answers_refused}
use Rattle.service_board.proofs.Tellings.{drafted_order, with_told}

-- those of a connection that is open have a place
pub finds_notices : {D E : Type 0} (b : Board D E) (conn : ℕ) → IsBook b.book → Says b (connection_rows conn) None →
    FindsNotices conn (connection_rows conn) b (conn - 1)
finds_notices b conn is says =
    let within = known_within b conn is says in
    let all = is.rooms.notices in
    record { place = refl; within = omega (arith, within.0, within.1, all); says = says }

-- a board in which others stand at a place, with other drafts
abbrev pub with_queue : {D E : Type 0} → ℕ → Notices → Vec Notice → Board D E → Board D E
with_queue at q drafts b = with_told (with_item b.book.notices at q) drafts b

-- it stays in order
pub queue_order : {D E : Type 0} (state : E → EndState) (b : Board D E) (at : ℕ) (q : Notices)
    (drafts : Vec Notice) → NOTICES ≤ vec_capacity drafts → InOrder state b → InOrder state (with_queue at q drafts b)
queue_order state b at q drafts room order =
    drafted_order state b (with_item b.book.notices at q) drafts (length-set b.book.notices.items at q) room order

-- these are the notices of a connection, which stand at this place
pub record AreKept {D E : Type 0} (conn : ℕ) (b : Board D E) (at : ℕ) (q : Notices) : Type 0 where
  pub place : at ≡ conn - 1
  pub here : slice_get b.book.notices.items at ≡ Some q

-- as they are read by their place
pub kept_there : {D E : Type 0} (b : Board D E) (conn at : ℕ) (q : Notices) (rows : State → List (Row Hr)) →
    FindsNotices conn rows b at → q ≡ get_or b.book.notices.items at q → AreKept conn b at q
kept_there b conn at q rows f read = record {
  place = f.place;
  here = slice_get_read b.book.notices.items (length b.book.notices.items) at q refl f.within read;
}

module _ {D E : Type 0} (b : Board D E) (conn at : ℕ) (q : Notices) (kept : AreKept conn b at q) where
  -- the state has them
  pub kept_are : (datas : ℕ → BufferData) (tally : Tally) → notices_of conn (state_of datas tally b) ≡ q
  kept_are datas tally =
      ap (λ n. unwrap_or (slice_get b.book.notices.items n) no_notices) (sym kept.place)
      ∙ ap (λ o. unwrap_or o no_notices) kept.here

  -- and after them others
  pub others_are : (new : Notices) (drafts : Vec Notice) (datas : ℕ → BufferData) (tally : Tally) →
      state_of datas tally (with_queue at new drafts b) ≡ with_notices_of conn new (state_of datas tally b)
  others_are new drafts datas tally =
      ap (λ n. record (state_of datas tally b) { notices = set b.book.notices.items n new }) kept.place

  -- the state is the same with the same ones
  pub same_are : (new : Notices) (drafts : Vec Notice) → new ≡ q → (datas : ℕ → BufferData) (tally : Tally) →
      state_of datas tally (with_queue at new drafts b) ≡ state_of datas tally b
  same_are new drafts same datas tally =
      let items = b.book.notices.items in
      ap (λ ns. record (state_of datas tally b) { notices = ns })
      (ap (set items at) (same ∙ sym (get_or_from_slice_get items at q q kept.here)) ∙ set-get_or items at q)

  module _ (faults : D → ℕ) (told : D → Option (List DeviceLog)) (moves : E → List StoreStep → E → Type 0)
      (stays : (a : E) → moves a [] a) (plan : Notices → State → Plan) (new : Notices) (drafts : Vec Notice) where
    -- a call of them goes on as a plan over them says
    pub queue_does : (result : Hr) (payload : List ℕ) →
        ((datas : ℕ → BufferData) (tally : Tally) (out : Outside) →
        AnswersBy (state_of datas tally b) (plan q (state_of datas tally b)) result payload
        (state_of datas tally (with_queue at new drafts b)) out out) →
        Does faults told moves None AnyData b (with_queue at new drafts b) (λ st. plan (notices_of conn st) st) result
        payload
    queue_does result payload answers =
        stays_does faults told moves stays b (with_queue at new drafts b) refl (λ st. plan (notices_of conn st) st)
        result payload
        (λ datas tally.
        let st = state_of datas tally b in
        let out = outside faults told b.devices in
        subst (λ x. AnswersBy st (plan x st) result payload (state_of datas tally (with_queue at new drafts b)) out out)
        (sym (kept_are datas tally)) (answers datas tally out))

    -- and one that a row refuses leaves them
    pub queue_refused : (code : Hr) → new ≡ q → Says b (λ st. (plan q st).rows) (Some code) →
        Does faults told moves None AnyData b (with_queue at new drafts b) (λ st. plan (notices_of conn st) st) code []
    queue_refused code same says =
        queue_does code []
        (λ datas tally out.
        let st = state_of datas tally b in
        subst (λ after. AnswersBy st (plan q st) code [] after out out) (sym (same_are new drafts same datas tally))
        (answers_refused st (plan q st) code out (says datas tally)))
