-- A period between two looks at all stores: what it took from open streams was rendered, or dropped.
use Rattle.std.proofs.Common.{◌≡◌, ℕ, ◌-◌, List, Option, None, Result, Ok, Err, IfOk, refl, sum_by}
use Rattle.device_io.specs.DeviceLog.{DeviceLog}
use Rattle.ca_base.specs.declared.codes.Hr.{Hr}
use Rattle.ca_base.specs.declared.ids.EndpointNo.{EndpointNo}
use Rattle.ca_model.specs.declared.event.Event.TheVariants as event
use Rattle.buffer_ring.specs.declared.step.EndState.{EndState}
use Rattle.buffer_ring.specs.declared.step.StoreStep.{StoreStep}
use Rattle.buffer_ring.specs.Kept.{Kept, RunsSteps, state_of}
use Rattle.ca_stage.specs.Tally.{Tally}
use Rattle.ca_machine.specs.Periods.{period_plan}
use Rattle.reply_payload.specs.Answers.{IsPeriod, code_of, payload_of}
use Rattle.service_board.specs.Does.{AnyData, Does}
use Rattle.service_board.specs.InOrder.{InOrder}
use Rattle.reply_payload.specs.declared.payload.Payload.{Payload}
use Rattle.reply_payload.specs.declared.payload.Payload.TheVariants as payload
use Rattle.service_board.specs.declared.board.Board.{Board}
use Rattle.service_core.specs.BothEnds.{MovesStore}
use Rattle.service_core.specs.Core.{GoesTo, LooksAround, core_state, words_in}
use Rattle.service_core.specs.Counting.{HasCounts, after_taking}
use Rattle.service_core.specs.Service.{IsCore}
use Rattle.service_core.specs.declared.both_ends.BothEnds.{BothEnds}
use Rattle.service_core.specs.declared.pending.Streams.TheVariants as streams
use Rattle.service_core.proofs.CoreCounted.{counted_still, counted_taking}
use Rattle.service_core.proofs.EventsFall.{keeps_event}
use Rattle.service_core.proofs.TallyOutcomes.{period_nothing, period_outcome}

module _ {D F : Type 0} (faults : D → ℕ) (told : D → Option (List DeviceLog)) (kept : F → Kept) (state : F → EndState)
    (whole : (x : F) → state_of (kept x) ≡ state x) (moves : F → List StoreStep → F → Type 0)
    (exact : (a b : F) (ss : List StoreStep) → moves a ss b → RunsSteps (kept a) ss (kept b))
    (first old new last : Board D (BothEnds F)) (enters : LooksAround kept first old)
    (leaves : LooksAround kept new last) (core : IsCore state kept first)
    (new_order : InOrder (λ ends. state ends.store) new) (before more : ℕ)
    (counts : before ≡ sum_by (words_in kept streams.Open) first.entries.items)
    (is_more : more ≡ before - sum_by (words_in kept streams.Open) new.entries.items) (e : EndpointNo) where
  pub period_counts : (answer : Result Payload Hr) →
      Does faults told (MovesStore moves) None AnyData old new (λ st. period_plan st e.0) (code_of answer)
      (payload_of answer) →
      IfOk answer IsPeriod → (tally : Tally) → HasCounts tally →
      GoesTo faults told kept (λ st. period_plan st e.0) (code_of answer) (payload_of answer) tally
      (after_taking answer more tally) first last
  period_counts (Err code) does plays tally fits =
      counted_still faults told kept state whole moves exact first old new last enters leaves core new_order before
      more counts is_more (λ st. period_plan st e.0) code (payload_of (Err code)) AnyData does tt
      (λ st. keeps_event st (event.Period e) tt) tally
      (λ rise. period_nothing (core_state kept tally old) rise fits e.0)
      refl
  period_counts (Ok (payload.Period frames failed)) does plays tally fits =
      counted_taking faults told kept state whole moves exact first old new last enters leaves core new_order before
      more counts is_more (λ st. period_plan st e.0) (code_of (Ok (payload.Period frames failed)))
      (payload_of (Ok (payload.Period frames failed))) AnyData does tt
      (λ st. keeps_event st (event.Period e) tt) tally frames failed
      (λ rise given. period_outcome (core_state kept tally old) rise fits e.0 given frames failed)
      refl
  period_counts (Ok payload.Nothing) does plays tally fits = absurd plays
  period_counts (Ok (payload.Number n)) does plays tally fits = absurd plays
  period_counts (Ok (payload.Long n)) does plays tally fits = absurd plays
  period_counts (Ok (payload.Longs a b)) does plays tally fits = absurd plays
  period_counts (Ok (payload.Format f)) does plays tally fits = absurd plays
  period_counts (Ok (payload.Closest f)) does plays tally fits = absurd plays
