-- How an event that takes memory is answered if no row refuses it.
use Rattle.std.proofs.Common.{◌≡◌, List, [], ◌∷◌, None, refl, sym, ap, subst}
use Rattle.ca_base.specs.declared.codes.Hr.{Hr}
use Rattle.ca_base.specs.declared.codes.TheConstants.Hr as hr
use Rattle.ca_base.specs.Rows.{Row, first}
use Rattle.ca_machine.specs.State.{State}
use Rattle.ca_machine.specs.Plan.{AreAnswers, Outcome, if_found, unless_refused, unless_row, with_memory}
use Rattle.ca_machine.specs.Plan.Answer.{found, out_of_memory}
use Rattle.ca_machine.specs.Plan.Asked.{memory, nothing}
use Rattle.ca_machine.specs.View.{AnswersBy, Outside, Passes}
use Rattle.ca_machine.proofs.DevicesGive.{found_gives_none, passes_unread, short_gives_none}
use Rattle.service_board.proofs.PlainEvents.{add_none}

module _ (st : State) (rows : List (Row Hr)) (outcome : Outcome) (out : Outside) (row : first rows ≡ None) where
  -- memory was found, and nothing is written
  pub answers_found : outcome.output ≡ [] →
      AnswersBy st (with_memory st rows outcome) outcome.result outcome.payload outcome.after out out
  answers_found output = record {
    given = found ∷ [];
    answers = subst (λ v. AreAnswers (unless_row v (memory nothing)) (found ∷ [])) (sym row) refl;
    result_is = ap (λ v. (unless_refused st v outcome).result) (sym row);
    payload_is = ap (λ v. (unless_refused st v outcome).payload) (sym row);
    after_is = ap (λ v. (unless_refused st v outcome).after) (sym row);
    passes =
        subst (λ v. Passes out (unless_refused st v outcome).output (found ∷ []) out) (sym row)
        (subst (λ ps. Passes out ps (found ∷ []) out) (sym output)
        (passes_unread out out [] (found ∷ []) found_gives_none (add_none out.told) refl));
  }

  -- memory ran out
  pub answers_out_of_memory : AnswersBy st (with_memory st rows outcome) hr.E_OUTOFMEMORY [] st out out
  answers_out_of_memory =
      let o : Outcome = if_found st outcome (out_of_memory ∷ []) in
      record {
        given = out_of_memory ∷ [];
        answers = subst (λ v. AreAnswers (unless_row v (memory nothing)) (out_of_memory ∷ [])) (sym row) tt;
        result_is = ap (λ v. (unless_refused st v o).result) (sym row);
        payload_is = ap (λ v. (unless_refused st v o).payload) (sym row);
        after_is = ap (λ v. (unless_refused st v o).after) (sym row);
        passes =
            subst (λ v. Passes out (unless_refused st v o).output (out_of_memory ∷ []) out) (sym row)
            (passes_unread out out [] (out_of_memory ∷ []) short_gives_none (add_none out.told) refl);
      }
