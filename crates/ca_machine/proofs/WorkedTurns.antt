-- Turns of worked runs: events with the environment's answers, what they get, and the state that most begin with (this
-- project's own).
use Rattle.std.proofs.Common.{◌≡◌, ℕ, List, [], ◌∷◌, ◌++◌, flat_map, replicate, false, true, refl}
use Rattle.std.specs.Str.{is_utf8, chars}
use lib.Utf8.{encode}
use Rattle.ca_base.specs.declared.ids.Flow.TheVariants as flow
use Rattle.ca_base.specs.declared.ids.Gate.TheVariants as gate
use Rattle.ca_base.specs.declared.ids.StreamKind.TheVariants as kind
use Rattle.ca_model.specs.declared.event.Event.{Event}
use Rattle.ca_model.specs.declared.event.Event.TheVariants as event
use Rattle.ca_model.specs.declared.event.Call.{Call}
use Rattle.ca_model.specs.declared.event.Call.TheVariants as call
use Rattle.ca_model.specs.declared.event.DeviceEvent.TheVariants as device
use Rattle.ca_stage.specs.Stage.{Stream, no_data}
use Rattle.ca_stage.specs.Tally.{no_tally}
use Rattle.role_defaults.specs.Defaults.{no_choices}
use Rattle.event_notices.specs.Notices.{no_notices}
use Rattle.ca_machine.specs.State.{State, empty_state}
use Rattle.ca_machine.specs.Plan.{Answer, found, AreAnswers, Outcome}
use Rattle.ca_machine.specs.Step.{Entry, IsRun, asks, step}

-- ---- turns

-- an event, with the environment's answers to it
abbrev pub Turn : Type 0
Turn = Event × List Answer

-- the code and the payload of each of a list of turns, the pieces that devices took, and the state after them
abbrev pub replies : State → List Turn → List (ℕ × List ℕ)
replies st [] = []
replies st (t ∷ turns) = let o : Outcome = step st t.0 t.1 in (o.result.0, o.payload) ∷ replies o.after turns

abbrev pub output : State → List Turn → List (ℕ × List ℕ)
output st [] = []
output st (t ∷ turns) = let o : Outcome = step st t.0 t.1 in o.output ++ output o.after turns

abbrev pub after : State → List Turn → State
after st [] = st
after st (t ∷ turns) = after (step st t.0 t.1).after turns

-- the turns as entries, which are a run if the answers are those to what is asked
abbrev pub entry_of : State → Turn → Entry
entry_of st t = record {
  event = t.0;
  answers = t.1;
  result = (step st t.0 t.1).result;
  payload = (step st t.0 t.1).payload;
  moves = (step st t.0 t.1).moves;
  output = (step st t.0 t.1).output;
}

abbrev pub entries_of : State → List Turn → List Entry
entries_of st [] = []
entries_of st (t ∷ turns) = entry_of st t ∷ entries_of (step st t.0 t.1).after turns

abbrev pub AreAnswered : State → List Turn → Type 0
AreAnswered st [] = Unit {0}
AreAnswered st (t ∷ turns) = AreAnswers (asks st t.0) t.1 × AreAnswered (step st t.0 t.1).after turns

pub run_of : (st : State) (turns : List Turn) → AreAnswered st turns → IsRun st (entries_of st turns) (after st turns)
run_of st [] h = refl
run_of st (t ∷ turns) h = (
  (step st t.0 t.1).after,
  record { answers = h.0; result = refl; payload = refl; moves = refl; output = refl; after = refl },
  run_of (step st t.0 t.1).after turns h.1,
)

-- answered S_OK with no payload
abbrev pub ok : ℕ × List ℕ
ok = (0, [])

-- numbers of 4 and 8 bytes below 65,536
abbrev pub u32 : ℕ → ℕ → List ℕ
u32 low high = low ∷ high ∷ 0 ∷ 0 ∷ []

abbrev pub u64 : ℕ → ℕ → List ℕ
u64 low high = low ∷ high ∷ replicate 6 0

-- ---- events: one endpoint, and calls of connection 1

abbrev pub says : Call → Turn
says x = (event.Call (record { 0 = 1 }) 9 x, [])

-- 48,000 frames a second, of 2 channels of 16 bits; and 44,100
abbrev pub stereo : List ℕ
stereo = 1 ∷ 0 ∷ 2 ∷ 0 ∷ 128 ∷ 187 ∷ 0 ∷ 0 ∷ 0 ∷ 238 ∷ 2 ∷ 0 ∷ 4 ∷ 0 ∷ 16 ∷ 0 ∷ 0 ∷ 0 ∷ []

abbrev pub slower : List ℕ
slower = 1 ∷ 0 ∷ 2 ∷ 0 ∷ 68 ∷ 172 ∷ 0 ∷ 0 ∷ 16 ∷ 177 ∷ 2 ∷ 0 ∷ 4 ∷ 0 ∷ 16 ∷ 0 ∷ 0 ∷ 0 ∷ []

abbrev name_of_speakers : List ℕ
name_of_speakers = 83 ∷ 112 ∷ 101 ∷ 97 ∷ 107 ∷ 101 ∷ 114 ∷ 115 ∷ []

abbrev name_of_player : List ℕ
name_of_player = 112 ∷ 108 ∷ 97 ∷ 121 ∷ 101 ∷ 114 ∷ []

abbrev pub speakers : Turn
speakers = (
  event.Device (device.Add (record { 0 = 1 }) 0 (record { list = stereo; capacity = 18 }) name_of_speakers),
  found ∷ [],
)

abbrev pub opens : Turn
opens = (event.Open (record { 0 = 1 }) 10 name_of_player, [])

abbrev pub hangs_up : Turn
hangs_up = (event.Hangup (record { 0 = 1 }), [])

abbrev pub activates : Turn
activates = says (call.Activate (record { 0 = 1 }) 0)

-- with a duration and a format; memory is there, or runs out
abbrev pub initializes_with : ℕ → List ℕ → Answer → ℕ → Turn
initializes_with duration format memory c = (
  event.Call (record { 0 = 1 }) 9
      (call.Initialize (record { 0 = c }) 0 0 duration 0 (record { list = format; capacity = 18 }) (record { 0 = 0 })),
  memory ∷ [],
)

abbrev pub initializes : ℕ → Turn
initializes c = initializes_with 0 stereo found c

abbrev pub size_of : ℕ → Turn
size_of c = says (call.GetBufferSize (record { 0 = c }))

abbrev pub gets : ℕ → ℕ → Turn
gets c n = says (call.GetBuffer (record { 0 = c }) n)

abbrev pub releases : ℕ → ℕ → ℕ → List ℕ → Turn
releases c n flags bytes = says (call.ReleaseBuffer (record { 0 = c }) n flags (record { list = bytes; capacity = 0 }))

abbrev pub padding_of : ℕ → Turn
padding_of c = says (call.GetCurrentPadding (record { 0 = c }))

abbrev pub position_of : ℕ → Turn
position_of c = says (call.GetPosition (record { 0 = c }))

abbrev pub starts : ℕ → Turn
starts c = says (call.Start (record { 0 = c }))

abbrev pub stops : ℕ → Turn
stops c = says (call.Stop (record { 0 = c }))

abbrev pub resets : ℕ → Turn
resets c = says (call.Reset (record { 0 = c }))

abbrev pub leaves : ℕ → Turn
leaves c = says (call.Release (record { 0 = c }))

abbrev pub period : List Answer → Turn
period given = (event.Period (record { 0 = 1 }), given)

-- this many frames, all of the same bytes
abbrev pub loud : ℕ → List ℕ
loud n = flat_map (λ frame. frame) (replicate n (1 ∷ 2 ∷ 3 ∷ 4 ∷ []))

-- ---- the state that most runs begin with

abbrev pub setup : List Turn
setup = speakers ∷ opens ∷ activates ∷ initializes 1 ∷ []

-- client 1, and session 1
setup_is : replies empty_state setup ≡ ok ∷ ok ∷ (0, u64 1 0) ∷ (0, u64 1 0) ∷ []
unfolding is_utf8 chars encode
setup_is = refl

-- a stream as it is opened
abbrev pub player : ℕ → ℕ → Stream
player client session = record {
  client = client;
  endpoint = 1;
  kind = kind.Render;
  exclusive = false;
  event_driven = false;
  channels = 2;
  rate = 48000;
  buffer = 960;
  period = 480;
  capacity = 960;
  latency = 100000;
  session = session;
  running = false;
  gate = gate.Open;
  picked = 0;
  position = 0;
  offered = 0;
  ever = 0;
  after_gap = false;
  buffer_data = no_data;
}

-- levels that change nothing
abbrev pub full : List ℕ
full = 65536 ∷ 65536 ∷ 65536 ∷ 65536 ∷ []

abbrev pub ready : State
ready = record {
  stage = record { playheads = record { number = 1; next = 0 } ∷ []; streams = player 1 1 ∷ [] };
  tally = no_tally;
  connections = record { conn = record { 0 = 1 }; process = 10; name = name_of_player } ∷ [];
  clients =
      record {
        client = record { 0 = 1 };
        conn = record { 0 = 1 };
        endpoint = record { 0 = 1 };
        role = 0;
        levels = full;
        handle = 0;
        flagged = false;
      }
      ∷ [];
  endpoints =
      record {
        no = record { 0 = 1 };
        flow = flow.Render;
        state = 1;
        format = record { channels = 2; rate = 48000; extensible = false; mask = 0 };
        name = name_of_speakers;
        allow = true;
        priority = true;
      }
      ∷ [];
  sessions =
      record {
        no = record { 0 = 1 };
        key = record {
          endpoint = record { 0 = 1 };
          process = 10;
          guid = record { 0 = 0 };
          name = name_of_player;
        };
        level = 65536;
        mute = false;
        channels = full;
        count = 2;
        persist = true;
        display = [];
        icon = [];
        grouping = record { 0 = 0 };
        optout = false;
      }
      ∷ [];
  choices = no_choices;
  notices = replicate 32 no_notices;
  is_shut = false;
  last_endpoint = 1;
  clients_made = 1;
  sessions_made = 1;
}

ready_is : after empty_state setup ≡ ready
unfolding is_utf8 chars encode
ready_is = refl
