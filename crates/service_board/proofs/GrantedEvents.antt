-- How what an event does on a board is shown if no row refuses it, it asks nothing, and nothing is written.
use Rattle.std.proofs.Common.{◌≡◌, ℕ, List, [], Option, Some, None, refl, sym, ap, ◌∙◌, subst}
use Rattle.device_io.specs.DeviceLog.{DeviceLog}
use Rattle.ca_base.specs.declared.codes.Hr.{Hr}
use Rattle.ca_base.specs.Rows.{first}
use Rattle.buffer_ring.specs.declared.step.StoreStep.{StoreStep}
use Rattle.ca_stage.specs.Stage.{BufferData}
use Rattle.ca_stage.specs.Tally.{Tally}
use Rattle.ca_machine.specs.State.{State}
use Rattle.ca_machine.specs.Plan.{Plan, AreAnswers, unless_refused, unless_row}
use Rattle.ca_machine.specs.Plan.Asked.{nothing}
use Rattle.ca_machine.specs.View.{AnswersBy, Outside, Passes, outside}
use Rattle.period_engine.specs.Agreement.{ArePacked}
use Rattle.service_book.specs.declared.book.Book.{Book}
use Rattle.service_board.specs.Board.{state_of}
use Rattle.service_board.specs.Does.{Does, Made, after_steps, layout_at, store_at}
use Rattle.service_board.specs.declared.board.Board.{Board}
use Rattle.service_board.proofs.PlainEvents.{not_asked}

-- no row refuses an event that asks nothing and has nothing written, and this is what it gets
pub record Grants (plan : Plan) (result : Hr) (payload : List ℕ) (after : State) : Type 0 where
  pub passes : first plan.rows ≡ None
  pub asks : plan.asks ≡ nothing
  pub output : (plan.grants []).output ≡ []
  pub result_is : result ≡ (plan.grants []).result
  pub payload_is : payload ≡ (plan.grants []).payload
  pub after_is : after ≡ (plan.grants []).after

pub answers_granted : (st : State) (plan : Plan) (result : Hr) (payload : List ℕ) (after : State) (out : Outside) →
    Grants plan result payload after → AnswersBy st plan result payload after out out
answers_granted st plan result payload after out h = record {
  given = [];
  answers =
      subst (λ v. AreAnswers (unless_row v plan.asks) []) (sym h.passes)
      (subst (λ a. AreAnswers a []) (sym h.asks) refl);
  result_is = h.result_is ∙ ap (λ v. (unless_refused st v (plan.grants [])).result) (sym h.passes);
  payload_is = h.payload_is ∙ ap (λ v. (unless_refused st v (plan.grants [])).payload) (sym h.passes);
  after_is = h.after_is ∙ ap (λ v. (unless_refused st v (plan.grants [])).after) (sym h.passes);
  passes =
      subst (λ v. Passes out (unless_refused st v (plan.grants [])).output [] out) (sym h.passes)
      (subst (λ ps. Passes out ps [] out) (sym h.output) (not_asked out));
}

-- an event that moves stores by these steps
pub granted_does : {D E : Type 0} (faults : D → ℕ) (told : D → Option (List DeviceLog))
    (moves : E → List StoreStep → E → Type 0) (given : Option E) (known : (ℕ → BufferData) → Type 0)
    (old new : Board D E) (plan : State → Plan) (result : Hr) (payload : List ℕ) (steps : ℕ → List StoreStep)
    (after : State → Tally) →
    ((client : ℕ) →
    Made moves given (steps client) (store_at client old.entries.items) (store_at client new.entries.items)) →
    ((client : ℕ) → ArePacked (layout_at client old.entries.items) (steps client)) →
    new.devices ≡ old.devices →
    ((datas : ℕ → BufferData) (tally : Tally) →
    Grants (plan (state_of datas tally old)) result payload
    (state_of (after_steps steps old.entries.items datas) (after (state_of datas tally old)) new)) →
    Does faults told moves given known old new plan result payload
granted_does faults told moves given known old new plan result payload steps after made packs same grants = record {
  steps = steps;
  made = made;
  packs = packs;
  does = λ datas tally agrees knows. record {
    tally = after (state_of datas tally old);
    answers =
        subst (λ devices. AnswersBy (state_of datas tally old) (plan (state_of datas tally old)) result payload
        (state_of (after_steps steps old.entries.items datas) (after (state_of datas tally old)) new)
        (outside faults told old.devices) (outside faults told devices)) (sym same)
        (answers_granted (state_of datas tally old) (plan (state_of datas tally old)) result payload
        (state_of (after_steps steps old.entries.items datas) (after (state_of datas tally old)) new)
        (outside faults told old.devices) (grants datas tally));
  };
}

-- an event that changes the book alone
pub book_does : {D E : Type 0} (faults : D → ℕ) (told : D → Option (List DeviceLog))
    (moves : E → List StoreStep → E → Type 0) (given : Option E) (known : (ℕ → BufferData) → Type 0)
    (stays : (a : E) → moves a [] a) (b : Board D E) (book : Book) (plan : State → Plan) (result : Hr)
    (payload : List ℕ) →
    ((datas : ℕ → BufferData) (tally : Tally) →
    Grants (plan (state_of datas tally b)) result payload (state_of datas tally (record b { book = book }))) →
    Does faults told moves given known b (record b { book = book }) plan result payload
book_does faults told moves given known stays b book plan result payload grants =
    granted_does faults told moves given known b (record b { book = book }) plan result payload (λ client. [])
    (λ st. st.tally) (λ client. still (store_at client b.entries.items)) (λ client. tt) refl grants
  where
    still : (store : Option _) → Made moves given [] store store
    still (Some a) = stays a
    still None = refl

-- an event does the same by a plan that is the same from the states of the board
pub replanned : {D E : Type 0} (faults : D → ℕ) (told : D → Option (List DeviceLog))
    (moves : E → List StoreStep → E → Type 0) (given : Option E) (known : (ℕ → BufferData) → Type 0)
    (old new : Board D E) (plan plan' : State → Plan) (result : Hr) (payload : List ℕ) →
    ((datas : ℕ → BufferData) (tally : Tally) → plan (state_of datas tally old) ≡ plan' (state_of datas tally old)) →
    Does faults told moves given known old new plan result payload →
    Does faults told moves given known old new plan' result payload
replanned faults told moves given known old new plan plan' result payload same does = record {
  steps = does.steps;
  made = does.made;
  packs = does.packs;
  does = λ datas tally agree knows.
      let answered = does.does datas tally agree knows in
      record {
        tally = answered.tally;
        answers =
            subst (λ p. AnswersBy (state_of datas tally old) p result payload
            (state_of (after_steps does.steps old.entries.items datas) answered.tally new)
            (outside faults told old.devices) (outside faults told new.devices)) (same datas tally) answered.answers;
      };
}
