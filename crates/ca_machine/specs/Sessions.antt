-- Sessions: their states, their data, and the calls that tell and set them (IAudioSessionEnumerator,
-- IAudioSessionControl2, ISimpleAudioVolume, IChannelAudioVolume; the order of the rows is this project's own).
use Rattle.std.specs.Prelude.{ℕ, ◌==◌, ◌&&◌, List, [], ◌∷◌, ◌++◌, length, take, Option, Some, None, is_none}
use Rattle.std.specs.Prelude.{if◌then◌else◌}
use Rattle.std.specs.List.{flat_map, list_any}
use Rattle.std.specs.Int.{w16, w32, w128, to_le_bytes, to_be_bytes}
use Rattle.ca_base.specs.declared.codes.TheConstants.Hr as hr
use Rattle.ca_base.specs.declared.limits.TheConstants.{MAX_LEVEL}
use Rattle.ca_base.specs.declared.values.TheConstants.{SESSION_ACTIVE, SESSION_EXPIRED, SESSION_INACTIVE}
use Rattle.ca_stage.specs.Stage.{Stream}
use Rattle.session_manager.specs.declared.changes.Change.{Change}
use Rattle.session_manager.specs.declared.session.Session.{Session}
use Rattle.session_manager.specs.Sessions.{changed, number_bytes, numbers_on, session_at}
use Rattle.session_manager.specs.Changes.{after as changed_by, change_rows}
use Rattle.session_manager.specs.Rows.{found_rows}
use Rattle.session_manager.specs.Names.{identifier_of, instance_of}
use Rattle.ca_machine.specs.State.{State, endpoint_at}
use Rattle.ca_machine.specs.Plan.{Outcome, Plan, answered, granted, plain, refused}
use Rattle.ca_machine.specs.SharedRows.{control_rows}

-- ---- calls that tell

-- AudioSessionState: active while a stream of it runs, inactive while it has streams and none runs, and else expired
abbrev pub state_of_session : ℕ → List Stream → ℕ
state_of_session number streams =
    if list_any (λ s. s.session == number && s.running) streams
    then SESSION_ACTIVE
    else if list_any (λ s. s.session == number) streams then SESSION_INACTIVE else SESSION_EXPIRED

-- numbers in a payload: four bytes that say how many, and eight for each
abbrev pub numbers_payload : List ℕ → List ℕ
numbers_payload numbers = to_le_bytes w32 (length numbers) ++ number_bytes numbers

abbrev pub enum_sessions_plan : State → ℕ → ℕ → Plan
enum_sessions_plan st conn endpoint = plain
    (control_rows conn st ++ (is_none (endpoint_at endpoint st), hr.E_NOTFOUND) ∷ [])
    (answered st (numbers_payload (numbers_on endpoint st.sessions)))

-- a text in a payload: two bytes of length, and its bytes
abbrev pub text_payload : List ℕ → List ℕ
text_payload text = to_le_bytes w16 (length text) ++ text

-- levels in a payload: four bytes that say how many, and four for each
abbrev pub levels_payload : List ℕ → List ℕ
levels_payload levels = to_le_bytes w32 (length levels) ++ flat_map (to_le_bytes w32) levels

-- the numbers of a session, with its state: ducking and opting out of it come with later parts of the service
abbrev pub session_numbers : ℕ → Session → List ℕ
session_numbers state s =
    to_le_bytes w32 s.key.endpoint.0 ++ to_le_bytes w32 s.key.process ++ state ∷ []
    ++ to_le_bytes w32 s.level ++ (if s.mute then 1 else 0) ∷ []
    ++ levels_payload (take s.count s.channels)
    ++ to_le_bytes w32 MAX_LEVEL ++ (if s.optout then 1 else 0) ∷ []
    ++ to_be_bytes w128 s.grouping.0

-- and its texts
abbrev pub session_payload : ℕ → Session → List ℕ
session_payload state s =
    session_numbers state s
    ++ text_payload (identifier_of s) ++ text_payload (instance_of s)
    ++ text_payload s.display ++ text_payload s.icon

-- what a call does with the session that it names; if there is none, a row has refused it
abbrev pub with_session : State → Option Session → (Session → Outcome) → Outcome
with_session st None outcome = refused st hr.E_NOTFOUND
with_session st (Some s) outcome = outcome s

abbrev pub get_session_plan : State → ℕ → ℕ → Plan
get_session_plan st conn number = plain (control_rows conn st ++ found_rows (session_at number st.sessions))
    (with_session st (session_at number st.sessions)
    (λ s. answered st (session_payload (state_of_session number st.stage.streams) s)))

-- ---- calls that set

-- a call that changes the session that it names
abbrev pub set_session_plan : State → ℕ → ℕ → Change → Plan
set_session_plan st conn number change =
    plain (control_rows conn st ++ change_rows change (session_at number st.sessions))
    (granted [] [] (record st { sessions = changed number (changed_by change) st.sessions }))
