-- Worked runs with sessions and levels: what is answered, and what devices get (this project's own).
use Rattle.std.proofs.Common.{◌≡◌, ℕ, List, [], ◌∷◌, ◌++◌, replicate, refl}
use Rattle.ca_base.specs.declared.ids.Guid.{Guid}
use Rattle.ca_model.specs.declared.event.Event.TheVariants as event
use Rattle.ca_model.specs.declared.event.Call.TheVariants as call
use Rattle.ca_machine.specs.State.{State}
use Rattle.ca_machine.specs.Plan.{found, took}
use Rattle.ca_machine.proofs.WorkedTurns.{Turn, replies, output, after, ok, u32, u64, says, stereo, ready}
use Rattle.ca_machine.proofs.WorkedTurns.{gets, releases, starts, leaves, period}

-- ---- turns

-- no context
abbrev null : Guid
null = record { 0 = 0 }

abbrev level : ℕ → Turn
level n = says (call.SetMaster (record { 0 = 1 }) n null)

abbrev mute : ℕ → Turn
mute n = says (call.SetMute (record { 0 = 1 }) n null)

abbrev channel_level : ℕ → ℕ → Turn
channel_level channel n = says (call.SetChannel (record { 0 = 1 }) channel n null)

abbrev stream_level : ℕ → ℕ → Turn
stream_level channel n = says (call.SetStreamLevel (record { 0 = 1 }) channel n)

-- one frame is played
abbrev plays : List ℕ → List Turn
plays frame = gets 1 1 ∷ releases 1 1 0 frame ∷ starts 1 ∷ period (took 1920 ∷ []) ∷ []

-- and the device gets this one, and silence behind it
abbrev heard : List ℕ → List (ℕ × List ℕ)
heard frame = (1, frame ++ replicate 1916 0) ∷ []

-- ---- levels

-- half a level halves each sample, toward zero: 1001 and -1001
half_is_heard : output ready (level 32768 ∷ plays (233 ∷ 3 ∷ 23 ∷ 252 ∷ [])) ≡ heard (244 ∷ 1 ∷ 12 ∷ 254 ∷ [])
half_is_heard = refl

-- half of half, and a channel that is silent
levels_multiply :
    output ready (level 32768 ∷ channel_level 0 32768 ∷ stream_level 1 0 ∷ plays (233 ∷ 3 ∷ 233 ∷ 3 ∷ []))
    ≡ heard (250 ∷ 0 ∷ 0 ∷ 0 ∷ [])
levels_multiply = refl

-- a muted session is silent, and its frames are rendered; it keeps its level
abbrev muted : List Turn
muted = mute 1 ∷ plays (232 ∷ 3 ∷ 232 ∷ 3 ∷ [])

muted_is_silent : output ready muted ≡ heard (0 ∷ 0 ∷ 0 ∷ 0 ∷ [])
muted_is_silent = refl

muted_is_rendered : (after ready muted).tally ≡ record { rendered = 1; reset = 0; dropped = 0 }
muted_is_rendered = refl

-- a level that is refused isn't kept, and neither is one of a session or a channel that isn't there
levels_are :
    replies ready
    (level 65536 ∷ level 65537 ∷ mute 2 ∷ channel_level 2 0 ∷ channel_level 1 65537 ∷ stream_level 2 0
    ∷ stream_level 1 65537 ∷ says (call.SetMaster (record { 0 = 2 }) 0 null) ∷ stream_level 1 7
    ∷ says (call.GetStreamLevel (record { 0 = 1 }) 1) ∷ says (call.GetStreamLevel (record { 0 = 1 }) 2) ∷ [])
    ≡ ok ∷ (0x80070057, []) ∷ (0x80070057, []) ∷ (0x80070057, []) ∷ (0x80070057, []) ∷ (0x80070057, [])
    ∷ (0x80070057, []) ∷ (0x80070490, []) ∷ ok ∷ (0, u32 7 0) ∷ (0x80070057, []) ∷ []
levels_are = refl

-- ---- who shares a session

-- connection 2 is that of process 11, and opens client 2; with these flags both clients' streams begin anew
abbrev joins : ℕ → ℕ → ℕ → Turn
joins conn client flags = (
  event.Call (record { 0 = conn }) 9
      (call.Initialize (record { 0 = client }) 0 flags 0 0 (record { list = stereo; capacity = 18 }) null),
  found ∷ [],
)

abbrev two_processes : State
two_processes = after ready
    (leaves 1 ∷ (event.Open (record { 0 = 2 }) 11 (112 ∷ []), [])
    ∷ says (call.Activate (record { 0 = 1 }) 0)
    ∷ (event.Call (record { 0 = 2 }) 9 (call.Activate (record { 0 = 1 }) 0), []) ∷ [])

-- each process has its own session
apart : replies two_processes (joins 1 2 0 ∷ joins 2 3 0 ∷ []) ≡ (0, u64 2 0) ∷ (0, u64 3 0) ∷ []
apart = refl

-- or they share one, with CROSSPROCESS
shared : replies two_processes (joins 1 2 65536 ∷ joins 2 3 65536 ∷ []) ≡ (0, u64 2 0) ∷ (0, u64 2 0) ∷ []
shared = refl

-- a client of another connection is no client of this one
not_ours : replies two_processes (joins 1 3 0 ∷ joins 1 2 0 ∷ []) ≡ (0x80070006, []) ∷ (0, u64 2 0) ∷ []
not_ours = refl

-- the sessions of an endpoint
enumerated :
    replies (after two_processes (joins 1 2 0 ∷ joins 2 3 0 ∷ []))
    (says (call.EnumSessions (record { 0 = 1 })) ∷ says (call.EnumSessions (record { 0 = 2 })) ∷ leaves 2
    ∷ says (call.EnumSessions (record { 0 = 1 })) ∷ says (call.GetSession (record { 0 = 2 })) ∷ [])
    ≡ (0, u32 2 0 ++ u64 2 0 ++ u64 3 0) ∷ (0x80070490, []) ∷ ok ∷ (0, u32 1 0 ++ u64 3 0) ∷ (0x80070490, []) ∷ []
enumerated = refl
