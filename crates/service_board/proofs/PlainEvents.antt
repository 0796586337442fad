-- How what an event does on a board is shown: of one that a row refuses, and of one that asks nothing.
use Rattle.std.proofs.Common.{◌≡◌, ℕ, List, [], Option, Some, None, refl, sym, ap, subst}
use Rattle.std.specs.Option.{option_map}
use Rattle.device_io.specs.DeviceLog.{DeviceLog, add_all}
use Rattle.ca_base.specs.declared.codes.Hr.{Hr}
use Rattle.ca_base.specs.Rows.{first}
use Rattle.buffer_ring.specs.declared.step.StoreStep.{StoreStep}
use Rattle.ca_stage.specs.Stage.{BufferData}
use Rattle.ca_machine.specs.State.{State}
use Rattle.ca_machine.specs.Plan.{Plan, unless_refused, unless_row, AreAnswers}
use Rattle.ca_machine.specs.Plan.Asked.{nothing}
use Rattle.ca_machine.specs.View.{AnswersBy, Outside, Passes, outside}
use Rattle.ca_machine.proofs.DevicesGive.{nothing_gives_none, passes_unread}
use Rattle.service_board.specs.Board.{state_of}
use Rattle.service_board.specs.Does.{Does, Made, store_at}
use Rattle.service_board.specs.Lookups.{Says}
use Rattle.service_board.specs.declared.board.Board.{Board}

-- no piece was taken
pub add_none : (told : Option (List DeviceLog)) → told ≡ option_map (add_all []) told
add_none None = refl
add_none (Some logs) = refl

-- the environment was not asked
pub not_asked : (out : Outside) → Passes out [] [] out
not_asked out = passes_unread out out [] [] nothing_gives_none (add_none out.told) refl

-- an event that a row refuses
pub answers_refused : (st : State) (plan : Plan) (code : Hr) (out : Outside) → first plan.rows ≡ Some code →
    AnswersBy st plan code [] st out out
answers_refused st plan code out row = record {
  given = [];
  answers = subst (λ v. AreAnswers (unless_row v plan.asks) []) (sym row) refl;
  result_is = ap (λ v. (unless_refused st v (plan.grants [])).result) (sym row);
  payload_is = ap (λ v. (unless_refused st v (plan.grants [])).payload) (sym row);
  after_is = ap (λ v. (unless_refused st v (plan.grants [])).after) (sym row);
  passes = subst (λ v. Passes out (unless_refused st v (plan.grants [])).output [] out) (sym row) (not_asked out);
}

-- an event that no row refuses, and that asks nothing and has nothing written
pub answers_plain : (st : State) (plan : Plan) (out : Outside) → first plan.rows ≡ None → plan.asks ≡ nothing →
    (plan.grants []).output ≡ [] →
    AnswersBy st plan (plan.grants []).result (plan.grants []).payload (plan.grants []).after out out
answers_plain st plan out row asks output = record {
  given = [];
  answers = subst (λ v. AreAnswers (unless_row v plan.asks) []) (sym row)
      (subst (λ a. AreAnswers a []) (sym asks) refl);
  result_is = ap (λ v. (unless_refused st v (plan.grants [])).result) (sym row);
  payload_is = ap (λ v. (unless_refused st v (plan.grants [])).payload) (sym row);
  after_is = ap (λ v. (unless_refused st v (plan.grants [])).after) (sym row);
  passes =
      subst (λ v. Passes out (unless_refused st v (plan.grants [])).output [] out) (sym row)
      (subst (λ ps. Passes out ps [] out) (sym output) (not_asked out));
}

-- no store was moved
pub made_still : {E : Type 0} (moves : E → List StoreStep → E → Type 0) (given : Option E)
    (stays : (a : E) → moves a [] a) (store : Option E) → Made moves given [] store store
made_still moves given stays (Some a) = stays a
made_still moves given stays None = refl

-- a board that stays as it was does an event that a row refuses
pub refused_does : {D E : Type 0} (faults : D → ℕ) (told : D → Option (List DeviceLog))
    (moves : E → List StoreStep → E → Type 0) (given : Option E) (known : (ℕ → BufferData) → Type 0)
    (stays : (a : E) → moves a [] a) (b : Board D E) (plan : State → Plan) (code : Hr) →
    Says b (λ st. (plan st).rows) (Some code) → Does faults told moves given known b b plan code []
refused_does faults told moves given known stays b plan code says = record {
  steps = λ client. [];
  made = λ client. made_still moves given stays (store_at client b.entries.items);
  packs = λ client. tt;
  does = λ datas tally agrees knows. record {
    tally = tally;
    answers =
        answers_refused (state_of datas tally b) (plan (state_of datas tally b)) code (outside faults told b.devices)
        (says datas tally);
  };
}

-- what an event does if less is known, it does if more is
pub known_more : {D E : Type 0} (faults : D → ℕ) (told : D → Option (List DeviceLog))
    (moves : E → List StoreStep → E → Type 0) (given : Option E) (known more : (ℕ → BufferData) → Type 0)
    (old new : Board D E) (plan : State → Plan) (result : Hr) (payload : List ℕ) →
    ((datas : ℕ → BufferData) → more datas → known datas) →
    Does faults told moves given known old new plan result payload →
    Does faults told moves given more old new plan result payload
known_more faults told moves given known more old new plan result payload less h = record {
  steps = h.steps;
  made = h.made;
  packs = h.packs;
  does = λ datas tally agrees knows. h.does datas tally agrees (less datas knows);
}
