-- What an event is answered if no row of its table holds (this project's own).
use Rattle.std.specs.Prelude.{◌≡◌, ◌⊎◌, ◌∷◌, List, None}
use Rattle.ca_base.specs.declared.codes.Hr.{Hr}
use Rattle.ca_base.specs.declared.codes.TheConstants.Hr as hr
use Rattle.ca_base.specs.Rows.{first}
use Rattle.ca_model.specs.declared.event.Event.{Event}
use Rattle.ca_machine.specs.State.{State}
use Rattle.ca_machine.specs.Plan.{Asked, Answer, Plan, AreAnswers, asked_of, outcome_of}
use Rattle.ca_machine.specs.Plan.Asked.{memory}
use Rattle.ca_machine.specs.Plan.Answer.{found, out_of_memory}
use Rattle.ca_machine.specs.Step.{plan}

-- S_OK, or S_FALSE
abbrev pub IsGranted : Hr → Type 0
IsGranted code = (code ≡ hr.S_OK) ⊎ (code ≡ hr.S_FALSE)

-- E_OUTOFMEMORY if memory was asked for and ran out, and otherwise S_OK or S_FALSE
abbrev pub GrantsUnlessShort : Asked → List Answer → Hr → Type 0
GrantsUnlessShort (memory more) (out_of_memory ∷ given) code = code ≡ hr.E_OUTOFMEMORY
GrantsUnlessShort (memory more) (found ∷ given) code = GrantsUnlessShort more given code
GrantsUnlessShort asked given code = IsGranted code

-- if no row of the plan holds, then whatever the environment answers, the event is granted unless memory ran out
abbrev pub IsComplete : State → Plan → Type 0
IsComplete st p =
    (given : List Answer) → AreAnswers (asked_of p) given → first p.rows ≡ None →
    GrantsUnlessShort p.asks given (outcome_of st p given).result

-- in every state, each event that no row refuses is granted unless memory ran out
abbrev pub UnrefusedIsGranted : Type 0
UnrefusedIsGranted = (st : State) (e : Event) → IsComplete st (plan st e)
