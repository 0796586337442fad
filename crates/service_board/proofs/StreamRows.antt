-- Control calls of a client's open stream: what their rows say, and calls that only tell.
use Rattle.std.proofs.Common.{◌≡◌, ℕ, List, [], Option, Some, None, refl, sym, ap, subst, ◌∙◌, get_or}
use Rattle.std.specs.List.{slice_get}
use Rattle.std.proofs.lemmas.Option.{get_or_from_slice_get}
use Rattle.device_io.specs.DeviceLog.{DeviceLog}
use Rattle.ca_base.specs.declared.codes.Hr.{Hr}
use Rattle.ca_base.specs.declared.codes.TheConstants.Hr as hr
use Rattle.ca_base.specs.declared.ids.Gate.TheVariants as gate
use Rattle.ca_base.specs.Rows.{Row, first}
use Rattle.buffer_ring.specs.declared.step.StoreStep.{StoreStep}
use Rattle.ca_stage.specs.Stage.{BufferData, Stream}
use Rattle.ca_stage.specs.Moves.{stream_at}
use Rattle.ca_stage.specs.Tally.{Tally}
use Rattle.ca_machine.specs.State.{State}
use Rattle.ca_machine.specs.Plan.{Outcome, Plan, answered}
use Rattle.ca_machine.specs.Plan.Asked.{nothing}
use Rattle.ca_machine.specs.SharedRows.{stream_plan, with_stream}
use Rattle.ca_machine.specs.View.{outside}
use Rattle.period_engine.specs.declared.entry.StreamEntry.{StreamEntry}
use Rattle.period_engine.specs.Entries.{stream_of}
use Rattle.service_book.proofs.Finding.{first_later}
use Rattle.service_board.specs.Board.{state_of}
use Rattle.service_board.specs.Does.{Does, store_at}
use Rattle.service_board.specs.Lookups.{FindsStream, Says, stream_call_rows}
use Rattle.service_board.specs.declared.board.Board.{Board}
use Rattle.service_board.proofs.PlainEvents.{answers_refused, made_still, refused_does}
use Rattle.service_board.proofs.GrantedEvents.{Grants, answers_granted}
use Rattle.service_board.proofs.LookingUp.{says_front}

-- an event that no row refuses and that asks nothing gets what its plan grants
pub grants_outcome : (plan : Plan) (o : Outcome) → first plan.rows ≡ None → plan.asks ≡ nothing →
    plan.grants [] ≡ o → o.output ≡ [] → Grants plan o.result o.payload o.after
grants_outcome plan o row asks grants output = record {
  passes = row;
  asks = asks;
  output = ap (λ x. x.output) grants ∙ output;
  result_is = sym (ap (λ x. x.result) grants);
  payload_is = sym (ap (λ x. x.payload) grants);
  after_is = sym (ap (λ x. x.after) grants);
}

-- the entry of a call's stream, as it is read by its place
pub record Opened {D E : Type 0} (conn client : ℕ) (b : Board D E) (at : ℕ) (e : StreamEntry E) : Type 0 where
  pub here : slice_get b.entries.items at ≡ Some e
  pub client_is : e.client.0 ≡ client
  pub opens : e.gate ≡ gate.Open
  pub says : Says b (stream_call_rows conn client) None
  pub found : (datas : ℕ → BufferData) (tally : Tally) →
      stream_at client (state_of datas tally b).stage ≡ Some (stream_of datas e)

pub opened_found : {D E : Type 0} (conn client : ℕ) (b : Board D E) (at : ℕ) (f : FindsStream conn client b at) →
    Opened conn client b at f.entry
opened_found conn client b at f =
    record { here = f.here; client_is = f.client_is; opens = f.opens; says = f.says; found = f.found }

pub opened_there : {D E : Type 0} (conn client : ℕ) (b : Board D E) (at : ℕ) (e : StreamEntry E) →
    FindsStream conn client b at → e ≡ get_or b.entries.items at e → Opened conn client b at e
opened_there conn client b at e f read =
    subst (Opened conn client b at)
    (sym (get_or_from_slice_get b.entries.items at f.entry e f.here) ∙ sym read)
    (opened_found conn client b at f)

-- the rows of a call's own, over the stream of an entry
module _ {D E : Type 0} (b : Board D E) (conn client : ℕ) (rows : Option Stream → List (Row Hr))
    (outcome : State → Stream → Outcome) where
  pub stream_front : (code : Hr) → Says b (stream_call_rows conn client) (Some code) →
      Says b (λ st. (stream_plan st conn client rows (outcome st)).rows) (Some code)
  stream_front code says =
      says_front b (stream_call_rows conn client) (λ st. rows (stream_at client st.stage)) code says

  pub stream_own : (at : ℕ) (e : StreamEntry E) (verdict : Option Hr) → Opened conn client b at e →
      (datas : ℕ → BufferData) (tally : Tally) → first (rows (Some (stream_of datas e))) ≡ verdict →
      first (stream_plan (state_of datas tally b) conn client rows (outcome (state_of datas tally b))).rows ≡ verdict
  stream_own at e verdict there datas tally own =
      let st = state_of datas tally b in
      first_later (stream_call_rows conn client st) (rows (stream_at client st.stage)) (there.says datas tally)
      ∙ ap (λ o. first (rows o)) (there.found datas tally) ∙ own

-- calls that leave the board as it was
module _ {D E : Type 0} (faults : D → ℕ) (told : D → Option (List DeviceLog)) (moves : E → List StoreStep → E → Type 0)
    (stays : (a : E) → moves a [] a) (b : Board D E) (conn client : ℕ) (rows : Option Stream → List (Row Hr))
    (outcome : State → Stream → Outcome) (known : (ℕ → BufferData) → Type 0) where
  pub stream_refused : (code : Hr) → Says b (stream_call_rows conn client) (Some code) →
      Does faults told moves None known b b (λ st. stream_plan st conn client rows (outcome st)) code []
  stream_refused code says =
      refused_does faults told moves None known stays b (λ st. stream_plan st conn client rows (outcome st)) code
      (stream_front b conn client rows outcome code says)

  module _ (at : ℕ) (e : StreamEntry E) (there : Opened conn client b at e) where
    -- a row of the call's own refuses it
    pub own_refused : (code : Hr) →
        ((datas : ℕ → BufferData) → known datas → first (rows (Some (stream_of datas e))) ≡ Some code) →
        Does faults told moves None known b b (λ st. stream_plan st conn client rows (outcome st)) code []
    own_refused code own = record {
      steps = λ client. [];
      made = λ client. made_still moves None stays (store_at client b.entries.items);
      packs = λ client. tt;
      does = λ datas tally agrees knows. record {
        tally = tally;
        answers =
            let st = state_of datas tally b in
            answers_refused st (stream_plan st conn client rows (outcome st)) code (outside faults told b.devices)
            (stream_own b conn client rows outcome at e (Some code) there datas tally (own datas knows));
      };
    }

    -- the call tells
    pub own_told : (payload : List ℕ) →
        ((datas : ℕ → BufferData) → known datas → first (rows (Some (stream_of datas e))) ≡ None) →
        ((st : State) (datas : ℕ → BufferData) → outcome st (stream_of datas e) ≡ answered st payload) →
        Does faults told moves None known b b (λ st. stream_plan st conn client rows (outcome st)) hr.S_OK payload
    own_told payload own tells = record {
      steps = λ client. [];
      made = λ client. made_still moves None stays (store_at client b.entries.items);
      packs = λ client. tt;
      does = λ datas tally agrees knows. record {
        tally = tally;
        answers =
            let st = state_of datas tally b in
            answers_granted st (stream_plan st conn client rows (outcome st)) hr.S_OK payload st
            (outside faults told b.devices)
            (grants_outcome (stream_plan st conn client rows (outcome st)) (answered st payload)
            (stream_own b conn client rows outcome at e None there datas tally (own datas knows))
            refl
            (ap (λ o. with_stream st o (outcome st)) (there.found datas tally) ∙ tells st datas)
            refl);
      };
    }
