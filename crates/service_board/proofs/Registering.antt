-- Registrations of a call's connection: what the calls answer, and what they leave.
use Rattle.std.proofs.Common.{◌≡◌, ℕ, ◌+◌, List, [], ◌++◌, get_or, Option, Some, None, Ok, Err, refl, sym, ap, ◌∙◌}
use Rattle.std.proofs.Common.{subst}
use Rattle.std.specs.Int.{w64, to_le_bytes}
use Rattle.device_io.specs.DeviceLog.{DeviceLog}
use Rattle.ca_base.specs.declared.codes.Hr.{Hr}
use Rattle.ca_base.specs.declared.codes.TheConstants.Hr as hr
use Rattle.buffer_ring.specs.declared.step.StoreStep.{StoreStep}
use Rattle.event_notices.specs.declared.notice.NoticeFault.TheVariants as fault
use Rattle.event_notices.specs.Calls.{Registers, Unregisters}
use Rattle.event_notices.specs.Notices.{Notices, registered, unregistered}
use Rattle.event_notices.specs.Rows.{register_rows, unregister_rows}
use Rattle.ca_machine.specs.Plan.{Outcome, Plan, granted, plain, with_memory}
use Rattle.ca_machine.specs.Registrations.{register_plan, unregister_plan}
use Rattle.ca_machine.specs.SharedRows.{control_rows}
use Rattle.ca_machine.specs.State.{State, notices_of, with_notices_of}
use Rattle.ca_machine.specs.View.{AnswersBy}
use Rattle.service_board.specs.Board.{state_of}
use Rattle.service_board.specs.Does.{AnyData, Does}
use Rattle.service_board.specs.Lookups.{FindsNotices, Says}
use Rattle.service_board.specs.declared.board.Board.{Board}
use Rattle.service_board.proofs.PlainEvents.{refused_does}
use Rattle.service_board.proofs.GrantedEvents.{answers_granted}
use Rattle.service_board.proofs.KeptNotices.{AreKept, kept_there, others_are, queue_does, queue_refused, same_are}
use Rattle.service_board.proofs.KeptNotices.{with_queue}
use Rattle.service_board.proofs.LookingUp.{says_front, says_later}
use Rattle.service_board.proofs.Memory.{answers_found, answers_out_of_memory}

-- what is granted, by the notices of the connection
abbrev registration : ℕ → ℕ → ℕ → Notices → State → Outcome
registration conn class subject q st =
    granted (to_le_bytes w64 (q.made + 1)) [] (with_notices_of conn (registered class subject q) st)

abbrev release : ℕ → ℕ → Notices → State → Outcome
release conn number q st = granted [] [] (with_notices_of conn (unregistered number q) st)

-- the plans, by them
abbrev register_by : ℕ → ℕ → ℕ → Notices → State → Plan
register_by conn class subject q st =
    with_memory st (control_rows conn st ++ register_rows class q) (registration conn class subject q st)

abbrev unregister_by : ℕ → ℕ → Notices → State → Plan
unregister_by conn number q st =
    plain (control_rows conn st ++ unregister_rows number q) (release conn number q st)

module _ {D E : Type 0} (faults : D → ℕ) (told : D → Option (List DeviceLog)) (moves : E → List StoreStep → E → Type 0)
    (stays : (a : E) → moves a [] a) (b : Board D E) (conn : ℕ) where
  -- the connection isn't open, or the service was shut down
  pub register_unconnected : (class subject : ℕ) (code : Hr) → Says b (control_rows conn) (Some code) →
      Does faults told moves None AnyData b b (λ st. register_plan st conn class subject) code []
  register_unconnected class subject code says =
      refused_does faults told moves None AnyData stays b (λ st. register_plan st conn class subject) code
      (says_front b (control_rows conn) (λ st. register_rows class (notices_of conn st)) code says)

  pub unregister_unconnected : (number : ℕ) (code : Hr) → Says b (control_rows conn) (Some code) →
      Does faults told moves None AnyData b b (λ st. unregister_plan st conn number) code []
  unregister_unconnected number code says =
      refused_does faults told moves None AnyData stays b (λ st. unregister_plan st conn number) code
      (says_front b (control_rows conn) (λ st. unregister_rows number (notices_of conn st)) code says)

  module _ (at : ℕ) (q new : Notices) (found : FindsNotices conn (control_rows conn) b at)
      (read : q ≡ get_or b.book.notices.items at q) where
    kept : AreKept conn b at q
    kept = kept_there b conn at q (control_rows conn) found read

    -- ---- a registration

    module _ (class subject : ℕ) where
      -- a row of the queue refuses it
      pub register_refused : (code : Hr) → Registers class subject (Err (fault.Refused code)) q new →
          Does faults told moves None AnyData b (with_queue at new b.drafts b)
          (λ st. register_plan st conn class subject) code []
      register_refused code h =
          queue_refused b conn at q kept faults told moves stays (register_by conn class subject) new b.drafts code h.1
          (says_later b (control_rows conn) (λ st. register_rows class q) (Some code) found.says
          (λ datas tally. h.0))

      -- memory ran out
      pub register_unkept : Registers class subject (Err fault.NoMemory) q new →
          Does faults told moves None AnyData b (with_queue at new b.drafts b)
          (λ st. register_plan st conn class subject) hr.E_OUTOFMEMORY []
      register_unkept h =
          queue_does b conn at q kept faults told moves stays (register_by conn class subject) new b.drafts
          hr.E_OUTOFMEMORY []
          (λ datas tally out.
          let st = state_of datas tally b in
          subst (λ after. AnswersBy st (register_by conn class subject q st) hr.E_OUTOFMEMORY [] after out out)
          (sym (same_are b conn at q kept new b.drafts h.1 datas tally))
          (answers_out_of_memory st (control_rows conn st ++ register_rows class q)
          (registration conn class subject q st) out
          (says_later b (control_rows conn) (λ s. register_rows class q) None found.says (λ d t. h.0) datas tally)))

      -- it is kept, and its number is told
      pub register_done : (number : ℕ) → Registers class subject (Ok number) q new →
          Does faults told moves None AnyData b (with_queue at new b.drafts b)
          (λ st. register_plan st conn class subject) hr.S_OK (to_le_bytes w64 number)
      register_done number h =
          queue_does b conn at q kept faults told moves stays (register_by conn class subject) new b.drafts
          hr.S_OK (to_le_bytes w64 number)
          (λ datas tally out.
          let st = state_of datas tally b in
          let after = state_of datas tally (with_queue at new b.drafts b) in
          subst (λ n. AnswersBy st (register_by conn class subject q st) hr.S_OK (to_le_bytes w64 n) after out out)
          (sym h.1)
          (subst (λ s. AnswersBy st (register_by conn class subject q st) hr.S_OK (to_le_bytes w64 (q.made + 1)) s out
          out)
          (sym (others_are b conn at q kept new b.drafts datas tally ∙ ap (λ x. with_notices_of conn x st) h.2))
          (answers_found st (control_rows conn st ++ register_rows class q) (registration conn class subject q st) out
          (says_later b (control_rows conn) (λ s. register_rows class q) None found.says (λ d t. h.0) datas tally)
          refl)))

    -- ---- the end of one

    module _ (number : ℕ) where
      -- it isn't there
      pub unregister_refused : (code : Hr) → Unregisters number (Err code) q new →
          Does faults told moves None AnyData b (with_queue at new b.drafts b)
          (λ st. unregister_plan st conn number) code []
      unregister_refused code h =
          queue_refused b conn at q kept faults told moves stays (unregister_by conn number) new b.drafts code h.1
          (says_later b (control_rows conn) (λ st. unregister_rows number q) (Some code) found.says
          (λ datas tally. h.0))

      -- it is ended
      pub unregister_done : Unregisters number (Ok tt) q new →
          Does faults told moves None AnyData b (with_queue at new b.drafts b)
          (λ st. unregister_plan st conn number) hr.S_OK []
      unregister_done h =
          queue_does b conn at q kept faults told moves stays (unregister_by conn number) new b.drafts hr.S_OK []
          (λ datas tally out.
          let st = state_of datas tally b in
          answers_granted st (unregister_by conn number q st) hr.S_OK []
          (state_of datas tally (with_queue at new b.drafts b)) out
          (record {
            passes = says_later b (control_rows conn) (λ s. unregister_rows number q) None found.says (λ d t. h.0)
                datas tally;
            asks = refl;
            output = refl;
            result_is = refl;
            payload_is = refl;
            after_is =
                others_are b conn at q kept new b.drafts datas tally
                ∙ ap (λ x. with_notices_of conn x st) h.1;
          }))
