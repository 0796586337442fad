-- Worked runs: what each event is answered, what devices get, and what is left (this project's own).
use Rattle.std.proofs.Common.{◌≡◌, List, [], ◌∷◌, ◌++◌, map, replicate, refl, lit<, lit≤}
use Rattle.ca_model.specs.declared.event.Call.TheVariants as call
use Rattle.ca_machine.specs.State.{State}
use Rattle.ca_machine.specs.Plan.{found, out_of_memory, took, failed}
use Rattle.ca_machine.specs.Step.{IsRun}
use Rattle.ca_machine.proofs.WorkedTurns.{Turn, replies, output, after, entries_of, run_of, ok, u32, u64, says, stereo}
use Rattle.ca_machine.proofs.WorkedTurns.{slower, opens, hangs_up, activates, initializes_with, initializes, size_of}
use Rattle.ca_machine.proofs.WorkedTurns.{gets, releases, padding_of, position_of, starts, stops, resets, leaves}
use Rattle.ca_machine.proofs.WorkedTurns.{period, loud, player, ready}

-- ---- data calls

-- a lease is at most the room
lease_is :
    replies ready (size_of 1 ∷ gets 1 961 ∷ gets 1 960 ∷ [])
    ≡ (0, u32 192 3) ∷ (0x88890006, []) ∷ ok ∷ []
lease_is = refl

-- one lease at a time, which ends once
one_lease :
    replies ready
    (gets 1 10 ∷ gets 1 1 ∷ releases 1 11 0 (loud 11) ∷ releases 1 0 0 [] ∷ padding_of 1 ∷ releases 1 0 0 [] ∷ [])
    ≡ ok ∷ (0x88890007, []) ∷ (0x88890009, []) ∷ ok ∷ (0, u32 0 0) ∷ (0x88890007, []) ∷ []
one_lease = refl

-- ---- periods

-- 100 frames sound, and 380 are silence
abbrev plays_some : List Turn
plays_some =
    gets 1 100 ∷ releases 1 100 0 (loud 100) ∷ starts 1 ∷ period (took 1920 ∷ []) ∷ padding_of 1 ∷ position_of 1 ∷ []

plays_some_replies :
    replies ready plays_some
    ≡ ok ∷ ok ∷ ok ∷ (0, u32 224 1 ++ 0 ∷ []) ∷ (0, u32 0 0) ∷ (0, u64 100 0 ++ u64 128 187) ∷ []
plays_some_replies = refl

-- it is a run: each answer is one to what was asked
plays_some_is_run : IsRun ready (entries_of ready plays_some) (after ready plays_some)
plays_some_is_run = run_of ready plays_some (refl, (refl, (refl, ((lit< tt, lit≤ tt, refl), (refl, (refl, tt))))))

plays_some_sounds : output ready plays_some ≡ (1, loud 100 ++ replicate 1520 0) ∷ []
plays_some_sounds = refl

-- silent frames are zeros, whatever is given with them; and a device takes what it is offered in pieces
abbrev plays_silence : List Turn
plays_silence =
    gets 1 480 ∷ releases 1 480 2 (loud 480) ∷ starts 1 ∷ period (took 1000 ∷ took 920 ∷ []) ∷ position_of 1 ∷ []

plays_silence_replies :
    replies ready plays_silence
    ≡ ok ∷ ok ∷ ok ∷ (0, u32 224 1 ++ 0 ∷ []) ∷ (0, u64 224 1 ++ u64 128 187) ∷ []
plays_silence_replies = refl

plays_silence_sounds : output ready plays_silence ≡ (1, replicate 1000 0) ∷ (1, replicate 920 0) ∷ []
plays_silence_sounds = refl

-- a device fails: the endpoint isn't there any more, and the frames are dropped
abbrev fails : List Turn
fails =
    gets 1 7 ∷ releases 1 7 0 (loud 7) ∷ starts 1 ∷ period (took 5 ∷ failed ∷ []) ∷ period [] ∷ padding_of 1
    ∷ activates ∷ []

fails_replies :
    replies ready fails
    ≡ ok ∷ ok ∷ ok ∷ (0, u32 0 0 ++ 1 ∷ []) ∷ (0x88890004, []) ∷ (0x88890004, []) ∷ (0x88890004, []) ∷ []
fails_replies = refl

fails_sounds : output ready fails ≡ (1, 1 ∷ 2 ∷ 3 ∷ 4 ∷ 1 ∷ []) ∷ []
fails_sounds = refl

fails_tally : (after ready fails).tally ≡ record { rendered = 0; reset = 0; dropped = 7 }
fails_tally = refl

-- ---- Start, Stop and Reset

resets_are :
    replies ready
    (starts 1 ∷ resets 1 ∷ stops 1 ∷ stops 1 ∷ gets 1 5 ∷ resets 1 ∷ releases 1 5 0 (loud 5) ∷ resets 1 ∷ resets 1 ∷ [])
    ≡ ok ∷ (0x88890005, []) ∷ ok ∷ (1, []) ∷ ok ∷ (0x8889000B, []) ∷ ok ∷ ok ∷ (1, []) ∷ []
resets_are = refl

five_are_reset :
    (after ready (gets 1 5 ∷ releases 1 5 0 (loud 5) ∷ resets 1 ∷ [])).tally
    ≡ record { rendered = 0; reset = 5; dropped = 0 }
five_are_reset = refl

-- a position alone is reset, and once
position_is_reset :
    replies (after ready plays_some) (stops 1 ∷ resets 1 ∷ resets 1 ∷ position_of 1 ∷ [])
    ≡ ok ∷ ok ∷ (1, []) ∷ (0, u64 0 0 ++ u64 128 187) ∷ []
position_is_reset = refl

-- ---- clients and sessions

-- a released client's number, and that of its session, never come again
comes_again :
    replies ready (leaves 1 ∷ padding_of 1 ∷ activates ∷ initializes 2 ∷ [])
    ≡ ok ∷ (0x80070006, []) ∷ (0, u64 2 0) ∷ (0, u64 2 0) ∷ []
comes_again = refl

-- a connection that hangs up loses its clients, their sessions and the frames that they released
abbrev hung_up : State
hung_up = after ready (activates ∷ gets 1 7 ∷ releases 1 7 0 (loud 7) ∷ hangs_up ∷ [])

hung_up_is :
    hung_up
    ≡ record ready {
      stage = record { playheads = record { number = 1; next = 0 } ∷ []; streams = [] };
      tally = record { rendered = 0; reset = 0; dropped = 7 };
      connections = [];
      clients = [];
      sessions = [];
      clients_made = 2;
    }
hung_up_is = refl

hung_up_replies :
    replies hung_up (padding_of 1 ∷ hangs_up ∷ opens ∷ padding_of 1 ∷ hangs_up ∷ [])
    ≡ (0x80070006, []) ∷ (0x80070006, []) ∷ ok ∷ (0x80070006, []) ∷ ok ∷ []
hung_up_replies = refl

-- streams are in the order of their clients, whichever is opened first; they share the session of their process
abbrev two_clients : State
two_clients = after ready (leaves 1 ∷ activates ∷ activates ∷ initializes 3 ∷ initializes 2 ∷ [])

two_streams : two_clients.stage.streams ≡ player 2 2 ∷ player 3 2 ∷ []
two_streams = refl

-- the session stays until its last stream is released
session_stays : map (λ s. s.no.0) (after two_clients (leaves 3 ∷ [])).sessions ≡ 2 ∷ []
session_stays = refl

session_goes : (after two_clients (leaves 3 ∷ leaves 2 ∷ [])).sessions ≡ []
session_goes = refl

-- a buffer has the frames of its duration, and at most two seconds
sizes_are :
    replies (after ready (leaves 1 ∷ activates ∷ activates ∷ []))
    (initializes_with 10000000 stereo found 2 ∷ size_of 2 ∷ initializes_with 30000000 stereo found 3 ∷ size_of 3 ∷ [])
    ≡ (0, u64 2 0) ∷ (0, u32 128 187) ∷ (0, u64 2 0) ∷ (0, 0 ∷ 119 ∷ 1 ∷ 0 ∷ []) ∷ []
sizes_are = refl

-- ---- refusals

clients_full : replies (after ready (replicate 63 activates)) (activates ∷ []) ≡ (0xA0040002, []) ∷ []
clients_full = refl

refusals :
    replies ready
    (initializes 1 ∷ activates ∷ gets 2 1 ∷ says (call.Other 200 (record { list = []; capacity = 0 })) ∷ starts 99
    ∷ says (call.IsFormatSupported (record { 0 = 1 }) 0 (record { list = slower; capacity = 18 }))
    ∷ initializes_with 0 slower found 2 ∷ initializes_with 0 stereo out_of_memory 2 ∷ initializes 2 ∷ [])
    ≡ (0x88890002, []) ∷ (0, u64 2 0) ∷ (0x88890001, []) ∷ (0x80004001, []) ∷ (0x80070006, [])
    ∷ (1, 18 ∷ 0 ∷ stereo)
    ∷ (0x88890008, []) ∷ (0x8007000E, []) ∷ (0, u64 1 0) ∷ []
refusals = refl
