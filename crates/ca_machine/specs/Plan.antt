-- What an event gets: the first row of its table that holds, or else what its call does (this project's own).
use Rattle.std.specs.Prelude.{◌≡◌, ℕ, ◌-◌, ◌<◌, ◌≤◌, List, [], ◌∷◌, ◌++◌, length, take, drop, Bool, true, false, Option}
use Rattle.std.specs.Prelude.{Some, None}
use Rattle.ca_base.specs.declared.codes.Hr.{Hr}
use Rattle.ca_base.specs.declared.codes.TheConstants.Hr as hr
use Rattle.ca_base.specs.Rows.{Row, first}
use Rattle.ca_stage.specs.Moves.{Move, after_moves}
use Rattle.ca_stage.specs.Tally.{tally_after}
use Rattle.ca_machine.specs.State.{State}

-- an answer of the environment, in the order in which the machine asks
pub data Answer : Type 0 where
  -- memory was found, or ran out
  found : Answer
  out_of_memory : Answer
  -- a device took this many bytes of what it was offered, or that of an endpoint gave these bytes
  took : ℕ → Answer
  gave : ℕ → List ℕ → Answer
  -- a device failed
  failed : Answer
  -- a keeper of volumes had this level and mute under a key, or nothing; it kept what it was given; its memory ran out;
  -- or it failed
  loaded : Option (ℕ × Bool) → Answer
  stored : Answer
  keeper_out_of_memory : Answer
  keeper_failed : Answer

-- what an event that no row refuses asks of the environment
pub data Asked : Type 0 where
  nothing : Asked
  -- memory, and if it was found, what follows
  memory : Asked → Asked
  -- a device is offered this many bytes, until it took them all or failed
  writing : ℕ → Asked
  -- the device of an endpoint is asked for this many bytes, until it gave them all, gave none, or failed
  reading : ℕ → ℕ → Asked

-- the answers to an offer of this many bytes: each time some of the rest are taken, or the device fails
abbrev pub IsWriting : ℕ → List Answer → Type 0
IsWriting n [] = n ≡ 0
IsWriting n (took k ∷ given) = (0 < k) × (k ≤ n) × IsWriting (n - k) given
IsWriting n (failed ∷ []) = 0 < n
IsWriting n _ = ⊥

-- the answers to a request for this many bytes: each time some of the rest are given; or none, which is the end of what
-- the device has; or it fails
abbrev pub IsReading : ℕ → ℕ → List Answer → Type 0
IsReading e n [] = n ≡ 0
IsReading e n (gave from [] ∷ given) = (from ≡ e) × (0 < n) × (given ≡ [])
IsReading e n (gave from (byte ∷ bytes) ∷ given) =
    (from ≡ e) × (length (byte ∷ bytes) ≤ n) × IsReading e (n - length (byte ∷ bytes)) given
IsReading e n (failed ∷ []) = 0 < n
IsReading e n _ = ⊥

-- the answers are those to what was asked, each once
abbrev pub AreAnswers : Asked → List Answer → Type 0
AreAnswers nothing given = given ≡ []
AreAnswers (memory more) (found ∷ given) = AreAnswers more given
AreAnswers (memory more) (out_of_memory ∷ []) = Unit {0}
AreAnswers (memory more) _ = ⊥
AreAnswers (writing n) given = IsWriting n given
AreAnswers (reading e n) given = IsReading e n given

-- no call of a device failed
abbrev pub is_whole : List Answer → Bool
is_whole [] = true
is_whole (failed ∷ given) = false
is_whole (_ ∷ given) = is_whole given

-- the pieces of the bytes that an endpoint's device took
abbrev pub pieces : ℕ → List ℕ → List Answer → List (ℕ × List ℕ)
pieces e bs [] = []
pieces e bs (took k ∷ given) = (e, take k bs) ∷ pieces e (drop k bs) given
pieces e bs (_ ∷ given) = pieces e bs given

-- the bytes that devices gave
abbrev pub bytes_given : List Answer → List ℕ
bytes_given [] = []
bytes_given (gave e bytes ∷ given) = bytes ++ bytes_given given
bytes_given (_ ∷ given) = bytes_given given

-- what an event gets: a result with its payload, the moves of the stage, what devices take, and the state after it
pub record Outcome : Type 0 where
  pub result : Hr
  pub payload : List ℕ
  pub moves : List Move
  pub output : List (ℕ × List ℕ)
  pub after : State

-- a state after moves of its stage
abbrev pub moved : List Move → State → State
moved moves st = record st { stage = after_moves st.stage moves; tally = tally_after st.tally st.stage moves }

-- an event is refused with a code: no payload, and the state is as before
abbrev pub refused : State → Hr → Outcome
refused st code = record { result = code; payload = []; moves = []; output = []; after = st }

-- an event is answered with a payload, and changes nothing
abbrev pub answered : State → List ℕ → Outcome
answered st payload = record { result = hr.S_OK; payload = payload; moves = []; output = []; after = st }

-- an event is granted: its payload, its moves, and the state in which it has changed all but the stage
abbrev pub granted : List ℕ → List Move → State → Outcome
granted payload moves st =
    record { result = hr.S_OK; payload = payload; moves = moves; output = []; after = moved moves st }

-- the table of an event: its rows, what it asks if none holds, and what it gets then for the answers
pub record Plan : Type 0 where
  pub rows : List (Row Hr)
  pub asks : Asked
  pub grants : List Answer → Outcome

-- a call that asks nothing
abbrev pub plain : List (Row Hr) → Outcome → Plan
plain rows outcome = record { rows = rows; asks = nothing; grants = λ given. outcome }

-- what a call that takes memory gets: E_OUTOFMEMORY if there is none
abbrev pub if_found : State → Outcome → List Answer → Outcome
if_found st outcome (out_of_memory ∷ given) = refused st hr.E_OUTOFMEMORY
if_found st outcome _ = outcome

-- a call that takes memory
abbrev pub with_memory : State → List (Row Hr) → Outcome → Plan
with_memory st rows outcome = record { rows = rows; asks = memory nothing; grants = if_found st outcome }

-- the first row that holds, else what the call gets
abbrev pub unless_refused : State → Option Hr → Outcome → Outcome
unless_refused st (Some code) outcome = refused st code
unless_refused st None outcome = outcome

-- what a plan gets, for the answers to what it asks
abbrev pub outcome_of : State → Plan → List Answer → Outcome
outcome_of st plan given = unless_refused st (first plan.rows) (plan.grants given)

-- what is asked: nothing if a row refuses
abbrev pub unless_row : Option Hr → Asked → Asked
unless_row (Some code) asked = nothing
unless_row None asked = asked

-- what a plan asks
abbrev pub asked_of : Plan → Asked
asked_of plan = unless_row (first plan.rows) plan.asks
