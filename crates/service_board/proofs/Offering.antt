-- What a device did with bytes that it was offered, as answers to the machine.
use Rattle.std.proofs.Common.{◌≡◌, ℕ, ◌-◌, List, [], ◌∷◌, take, drop, Bool, true, false, None, refl, sym, ap, ◌∙◌}
use Rattle.std.proofs.Common.{subst}
use Rattle.ca_base.specs.declared.codes.Hr.{Hr}
use Rattle.ca_base.specs.Rows.{first}
use Rattle.ca_machine.specs.State.{State}
use Rattle.ca_machine.specs.Plan.{Answer, AreAnswers, IsWriting, Plan, is_whole, pieces, unless_refused, unless_row}
use Rattle.ca_machine.specs.Plan.Answer.{failed, took}
use Rattle.ca_machine.specs.Step.{FaultsAlong}
use Rattle.ca_machine.specs.View.{AnswersBy, Outside, Passes}
use Rattle.period_engine.specs.Offers.{AreTaken, RoseUnless, pieces_taken}

-- the answers: each piece that was taken, and a failure if the device failed
abbrev pub answers_of : List ℕ → Bool → List Answer
answers_of [] true = []
answers_of [] false = failed ∷ []
answers_of (n ∷ counts) whole = took n ∷ answers_of counts whole

pub answers_write : (counts : List ℕ) (whole : Bool) (size : ℕ) → AreTaken size counts whole →
    IsWriting size (answers_of counts whole)
answers_write [] true size taken = taken
answers_write [] false size taken = taken
answers_write (n ∷ counts) whole size taken = (taken.0, taken.1, answers_write counts whole (size - n) taken.2)

pub whole_is : (counts : List ℕ) (whole : Bool) → is_whole (answers_of counts whole) ≡ whole
whole_is [] true = refl
whole_is [] false = refl
whole_is (n ∷ counts) whole = whole_is counts whole

pub pieces_are : (e : ℕ) (bytes counts : List ℕ) (whole : Bool) →
    pieces e bytes (answers_of counts whole) ≡ pieces_taken e bytes counts
pieces_are e bytes [] true = refl
pieces_are e bytes [] false = refl
pieces_are e bytes (n ∷ counts) whole = ap (λ ps. (e, take n bytes) ∷ ps) (pieces_are e (drop n bytes) counts whole)

pub faults_rise : (counts : List ℕ) (whole : Bool) (before after : ℕ) → RoseUnless whole before after →
    FaultsAlong before (answers_of counts whole) after
faults_rise [] true before after rose = rose
faults_rise [] false before after rose = (after, rose, refl)
faults_rise (n ∷ counts) whole before after rose = faults_rise counts whole before after rose

-- an event that no row refuses gets what its plan grants for these answers
pub answers_granted_by : (st : State) (plan : Plan) (result : Hr) (payload : List ℕ) (after : State)
    (old new : Outside) (given : List Answer) → first plan.rows ≡ None → AreAnswers plan.asks given →
    result ≡ (plan.grants given).result → payload ≡ (plan.grants given).payload →
    after ≡ (plan.grants given).after → Passes old (plan.grants given).output given new →
    AnswersBy st plan result payload after old new
answers_granted_by st plan result payload after old new given none answers result_is payload_is after_is passes =
    record {
      given = given;
      answers = subst (λ v. AreAnswers (unless_row v plan.asks) given) (sym none) answers;
      result_is = result_is ∙ ap (λ v. (unless_refused st v (plan.grants given)).result) (sym none);
      payload_is = payload_is ∙ ap (λ v. (unless_refused st v (plan.grants given)).payload) (sym none);
      after_is = after_is ∙ ap (λ v. (unless_refused st v (plan.grants given)).after) (sym none);
      passes = subst (λ v. Passes old (unless_refused st v (plan.grants given)).output given new) (sym none) passes;
    }
