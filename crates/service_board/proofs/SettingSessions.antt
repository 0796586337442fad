-- A call that changes a session: what it answers, and what it leaves.
use Rattle.std.proofs.Common.{ℕ, List, [], Bool, Option, Some, None, Ok, Err, refl, sym, ap, subst}
use Rattle.device_io.specs.DeviceLog.{DeviceLog}
use Rattle.ca_base.specs.declared.codes.Hr.{Hr}
use Rattle.ca_base.specs.declared.codes.TheConstants.Hr as hr
use Rattle.buffer_ring.specs.declared.step.StoreStep.{StoreStep}
use Rattle.session_manager.specs.declared.changes.Change.{Change}
use Rattle.session_manager.specs.Changes.{Sets, after, change_rows}
use Rattle.session_manager.specs.Sessions.{SessionList, session_at}
use Rattle.ca_machine.specs.SharedRows.{control_rows}
use Rattle.ca_machine.specs.Sessions.{set_session_plan}
use Rattle.service_board.specs.Board.{state_of}
use Rattle.service_board.specs.Does.{AnyData, Does}
use Rattle.service_board.specs.Lookups.{Says}
use Rattle.service_board.specs.declared.board.Board.{Board}
use Rattle.service_board.proofs.PlainEvents.{refused_does}
use Rattle.service_board.proofs.GrantedEvents.{book_does}
use Rattle.service_board.proofs.LookingUp.{says_front, says_later}
use Rattle.service_board.proofs.SettingLevels.{with_sessions}

module _ {D E : Type 0} (faults : D → ℕ) (told : D → Option (List DeviceLog)) (moves : E → List StoreStep → E → Type 0)
    (stays : (a : E) → moves a [] a) (b : Board D E) (conn number : ℕ) (change : Change) where
  -- the connection isn't open
  pub set_unconnected : (code : Hr) → Says b (control_rows conn) (Some code) →
      Does faults told moves None AnyData b b (λ st. set_session_plan st conn number change) code []
  set_unconnected code says =
      refused_does faults told moves None AnyData stays b (λ st. set_session_plan st conn number change) code
      (says_front b (control_rows conn) (λ st. change_rows change (session_at number st.sessions)) code says)

  module _ (sessions : SessionList) (connected : Says b (control_rows conn) None) where
    -- a row of the session refuses it
    pub set_refused : (code : Hr) →
        Sets number (change_rows change) (after change) (Err code) b.book.sessions sessions →
        Does faults told moves None AnyData b (record b { book = record (b.book) { sessions = sessions } })
        (λ st. set_session_plan st conn number change) code []
    set_refused code sets =
        subst (λ s. Does faults told moves None AnyData b (record b { book = record (b.book) { sessions = s } })
        (λ st. set_session_plan st conn number change) code []) (sym sets.now)
        (refused_does faults told moves None AnyData stays b (λ st. set_session_plan st conn number change) code
        (says_later b (control_rows conn) (λ st. change_rows change (session_at number st.sessions)) (Some code)
        connected (λ datas tally. sym sets.says)))

    -- the session is changed
    pub set_done : (changed : Bool) →
        Sets number (change_rows change) (after change) (Ok tt) b.book.sessions sessions →
        Does faults told moves None AnyData b (record b { book = with_sessions changed sessions b.book })
        (λ st. set_session_plan st conn number change) hr.S_OK []
    set_done changed sets =
        book_does faults told moves None AnyData stays b (with_sessions changed sessions b.book)
        (λ st. set_session_plan st conn number change) hr.S_OK []
        (λ datas tally. record {
          passes = says_later b (control_rows conn) (λ st. change_rows change (session_at number st.sessions)) None
              connected (λ datas tally. sym sets.says) datas tally;
          asks = refl;
          output = refl;
          result_is = refl;
          payload_is = refl;
          after_is =
              ap (λ s. record (state_of datas tally b) { sessions = s.list; sessions_made = s.made }) sets.now;
        })
