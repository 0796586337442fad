-- Plans that leave streams as they were opened, with no more frames pending.
use Rattle.std.proofs.Common.{ℕ, List, [], ◌∷◌, Option, Some, None}
use Rattle.ca_base.specs.declared.codes.Hr.{Hr}
use Rattle.ca_base.specs.Rows.{Row, first}
use Rattle.ca_stage.specs.Stage.{Stream}
use Rattle.ca_stage.specs.Moves.{StreamMove, of_client}
use Rattle.session_manager.specs.declared.session.Session.{Session}
use Rattle.device_registry.specs.declared.endpoint.Endpoint.{Endpoint}
use Rattle.ca_machine.specs.State.{State}
use Rattle.ca_machine.specs.Plan.{Outcome, Plan, Answer, outcome_of, answered, granted, unless_refused, if_found, plain}
use Rattle.ca_machine.specs.Plan.{with_memory}
use Rattle.ca_machine.specs.Plan.Answer.{out_of_memory}
use Rattle.ca_machine.specs.SharedRows.{with_stream, with_endpoint}
use Rattle.ca_machine.specs.Sessions.{with_session}
use Rattle.ca_machine.specs.Devices.{with_named}
use Rattle.ca_machine.specs.Endpoints.{endpoint_told, number_told}
use Rattle.service_core.proofs.StreamsFall.{IsStreamControl, AllFell, all_still, all_moved}

-- an outcome does so, and a plan, whatever it is answered
abbrev pub Leaves : State → Outcome → Type 0
Leaves st o = AllFell st.stage o.after.stage

pub record Keeps (st : State) (p : Plan) : Type 0 where
  pub leaves : (given : List Answer) → Leaves st (outcome_of st p given)

pub leaves_unless : (st : State) (verdict : Option Hr) (o : Outcome) → Leaves st o →
    Leaves st (unless_refused st verdict o)
leaves_unless st None o h = h
leaves_unless st (Some code) o h = all_still st.stage

pub keeps_plain : (st : State) (rows : List (Row Hr)) (o : Outcome) → Leaves st o → Keeps st (plain rows o)
keeps_plain st rows o h = record { leaves = λ given. leaves_unless st (first rows) o h }

pub if_memory : (st : State) (o : Outcome) (given : List Answer) → Leaves st o → Leaves st (if_found st o given)
if_memory st o (out_of_memory ∷ given) h = all_still st.stage
if_memory st o _ h = h

pub keeps_memory : (st : State) (rows : List (Row Hr)) (o : Outcome) → Leaves st o → Keeps st (with_memory st rows o)
keeps_memory st rows o h =
    record { leaves = λ given. leaves_unless st (first rows) (if_found st o given) (if_memory st o given h) }

pub of_stream : (st : State) (s : Option Stream) (f : Stream → Outcome) → ((s : Stream) → Leaves st (f s)) →
    Leaves st (with_stream st s f)
of_stream st None f h = all_still st.stage
of_stream st (Some s) f h = h s

pub of_endpoint : (st : State) (e : Option Endpoint) (f : Endpoint → Outcome) → ((e : Endpoint) → Leaves st (f e)) →
    Leaves st (with_endpoint st e f)
of_endpoint st None f h = all_still st.stage
of_endpoint st (Some e) f h = h e

-- a call of a stream that changes nothing, and one that moves it
pub keeps_tells : (st : State) (rows : List (Row Hr)) (s : Option Stream) (payload : Stream → List ℕ) →
    Keeps st (plain rows (with_stream st s (λ s. answered st (payload s))))
keeps_tells st rows s payload =
    keeps_plain st rows (with_stream st s (λ s. answered st (payload s)))
    (of_stream st s (λ s. answered st (payload s)) (λ s. all_still st.stage))

pub keeps_moves : (st : State) (rows : List (Row Hr)) (s : Option Stream) (client : ℕ) (m : StreamMove) →
    IsStreamControl m → Keeps st (plain rows (with_stream st s (λ s. granted [] (of_client client m ∷ []) st)))
keeps_moves st rows s client m control =
    keeps_plain st rows (with_stream st s (λ s. granted [] (of_client client m ∷ []) st))
    (of_stream st s (λ s. granted [] (of_client client m ∷ []) st)
    (λ s. all_moved st.stage (of_client client m ∷ []) (control, tt)))

-- a session
pub of_session : (st : State) (s : Option Session) (f : Session → Outcome) → ((s : Session) → Leaves st (f s)) →
    Leaves st (with_session st s f)
of_session st None f h = all_still st.stage
of_session st (Some s) f h = h s

pub keeps_still : (st : State) (rows : List (Row Hr)) (s : Option Stream) (after : State) →
    AllFell st.stage after.stage → Keeps st (plain rows (with_stream st s (λ s. granted [] [] after)))
keeps_still st rows s after h =
    keeps_plain st rows (with_stream st s (λ s. granted [] [] after))
    (of_stream st s (λ s. granted [] [] after) (λ s. h))

-- an endpoint that an event names, and what calls tell of endpoints
pub of_named : (st : State) (e : Option Endpoint) (f : Endpoint → Outcome) → ((e : Endpoint) → Leaves st (f e)) →
    Leaves st (with_named st e f)
of_named st None f h = all_still st.stage
of_named st (Some e) f h = h e

pub of_number : (st : State) (number : Option ℕ) → Leaves st (number_told st number)
of_number st None = all_still st.stage
of_number st (Some number) = all_still st.stage

pub of_told : (st : State) (e : Option Endpoint) → Leaves st (endpoint_told st e)
of_told st None = all_still st.stage
of_told st (Some e) = all_still st.stage
