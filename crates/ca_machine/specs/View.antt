-- The machine as a desk: what it shows, and which entry of a run its answer is (this project's own).
use Rattle.std.specs.Prelude.{◌≡◌, ℕ, List, [], ◌∷◌, length, take, Option, IfSome}
use Rattle.std.specs.Option.{option_map}
use Rattle.device_io.specs.DeviceLog.{DeviceLog, add_all, left_at, take_left}
use Rattle.ca_base.specs.declared.codes.Hr.{Hr}
use Rattle.ca_model.specs.declared.event.Event.{Event}
use Rattle.ca_model.specs.declared.reply.Reply.{Reply}
use Rattle.ca_machine.specs.State.{State}
use Rattle.ca_machine.specs.Plan.{Plan, Answer, AreAnswers, asked_of, outcome_of}
use Rattle.ca_machine.specs.Plan.Answer.{gave}
use Rattle.ca_machine.specs.Step.{Entry, Steps, Replies, FaultsAlong}

-- what is known of the environment: what devices got and have left, if that is specified, and their count of faults
pub record Outside : Type 0 where
  pub told : Option (List DeviceLog)
  pub faults : ℕ

-- a device gave the front of what it had left, and nothing only if nothing was left
abbrev pub IsFront : List ℕ → List ℕ → Type 0
IsFront bytes left = (bytes ≡ take (length bytes) left) × (bytes ≡ [] → left ≡ [])

-- along answers, devices gave what they tell that they had
abbrev pub GaveAlong : Option (List DeviceLog) → List Answer → Option (List DeviceLog) → Type 0
GaveAlong told [] told' = told' ≡ told
GaveAlong told (gave e bytes ∷ given) told' =
    IfSome told (λ logs. IsFront bytes (left_at e logs))
    × GaveAlong (option_map (take_left e (length bytes)) told) given told'
GaveAlong told (_ ∷ given) told' = GaveAlong told given told'

-- devices gave what these answers say, and then took these pieces, and their count of faults rose at each failure among
-- the answers
pub record Passes (old : Outside) (pieces : List (ℕ × List ℕ)) (given : List Answer) (new : Outside) : Type 0 where
  pub left : Option (List DeviceLog)
  pub gives : GaveAlong old.told given left
  pub tells : new.told ≡ option_map (add_all pieces) left
  pub counts : FaultsAlong old.faults given new.faults

-- in a state, what a plan gets: for some answers to what it asks, its result, its payload, the state after it, and the
-- environment after it
pub record AnswersBy (st : State) (plan : Plan) (result : Hr) (payload : List ℕ) (after : State)
    (old new : Outside) : Type 0
  where
    pub given : List Answer
    pub answers : AreAnswers (asked_of plan) given
    pub result_is : result ≡ (outcome_of st plan given).result
    pub payload_is : payload ≡ (outcome_of st plan given).payload
    pub after_is : after ≡ (outcome_of st plan given).after
    pub passes : Passes old (outcome_of st plan given).output given new

-- the devices, and the state of the one-thread machine
pub record MachineView (D : Type 0) : Type 0 where
  pub devices : D
  pub state : State

-- the environment that devices are
abbrev pub outside : {D : Type 0} → (D → ℕ) → (D → Option (List DeviceLog)) → D → Outside
outside faults told devices = record { told = told devices; faults = faults devices }

-- along a run devices gave what its answers say, and took what it puts out
abbrev pub ToldAlong : Option (List DeviceLog) → List Entry → Option (List DeviceLog) → Type 0
ToldAlong told [] told' = told' ≡ told
ToldAlong told (entry ∷ entries) told' =
    (left : Option (List DeviceLog))
    × GaveAlong told entry.answers left
    × ToldAlong (option_map (add_all entry.output) left) entries told'

-- the event is answered as the machine's step says, for the answers that the devices and memory gave
pub record AnswersEvent {D : Type 0} (faults : D → ℕ) (told : D → Option (List DeviceLog)) (old : MachineView D)
    (event : Event) (reply : Reply) (new : MachineView D) : Type 0 where
  pub entry : Entry
  pub event_is : entry.event ≡ event
  pub steps : Steps old.state entry new.state
  pub replies : Replies entry reply
  pub passes : Passes (outside faults told old.devices) entry.output entry.answers (outside faults told new.devices)
