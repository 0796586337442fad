-- Worked runs with packets: a stream that records an endpoint, and one that hears another (this project's own).
use Rattle.std.proofs.Common.{◌≡◌, ℕ, List, [], ◌∷◌, ◌++◌, replicate, false, true, refl, lit<, lit≤}
use Rattle.std.specs.Str.{is_utf8, chars}
use lib.Utf8.{encode}
use Rattle.ca_base.specs.declared.ids.Flow.TheVariants as flow
use Rattle.ca_base.specs.declared.ids.StreamKind.TheVariants as kind
use Rattle.ca_model.specs.declared.event.Event.TheVariants as event
use Rattle.ca_model.specs.declared.event.Call.TheVariants as call
use Rattle.ca_model.specs.declared.event.DeviceEvent.TheVariants as device
use Rattle.ca_stage.specs.Stage.{Stream}
use Rattle.ca_machine.specs.State.{State}
use Rattle.ca_machine.specs.Plan.{Answer, found, took, gave, failed}
use Rattle.ca_machine.specs.Step.{IsRun}
use Rattle.ca_machine.proofs.WorkedTurns.{Turn, replies, output, after, entries_of, run_of, ok, u32, u64, says, stereo}
use Rattle.ca_machine.proofs.WorkedTurns.{activates, gets, releases, padding_of, position_of, starts, stops, resets}
use Rattle.ca_machine.proofs.WorkedTurns.{period, player, full, ready}

-- ---- turns

-- 8,000 frames a second, of one channel of 16 bits: a period has 80 of them, and 160 bytes
abbrev mono : List ℕ
mono = 1 ∷ 0 ∷ 1 ∷ 0 ∷ 64 ∷ 31 ∷ 0 ∷ 0 ∷ 128 ∷ 62 ∷ 0 ∷ 0 ∷ 2 ∷ 0 ∷ 16 ∷ 0 ∷ 0 ∷ 0 ∷ []

abbrev microphone : Turn
microphone =
    (event.Device (device.Add (record { 0 = 2 }) 1 (record { list = mono; capacity = 18 }) (109 ∷ [])), found ∷ [])

-- a client of the microphone; a stream of a client, with flags and a format
abbrev activates_there : Turn
activates_there = says (call.Activate (record { 0 = 2 }) 0)

abbrev opens_with : ℕ → List ℕ → ℕ → Turn
opens_with flags format c = (
  event.Call (record { 0 = 1 }) 9
      (call.Initialize (record { 0 = c }) 0 flags 0 0 (record { list = format; capacity = 18 }) (record { 0 = 0 })),
  found ∷ [],
)

abbrev loopback : ℕ
loopback = 131072

abbrev next_of : ℕ → Turn
next_of c = says (call.GetNextPacketSize (record { 0 = c }))

abbrev reads : ℕ → Turn
reads c = says (call.CaptureGetBuffer (record { 0 = c }))

abbrev gives_back : ℕ → ℕ → Turn
gives_back c n = says (call.CaptureReleaseBuffer (record { 0 = c }) n)

abbrev serves : ℕ → ℕ → Turn
serves c service = says (call.GetService (record { 0 = c }) service)

abbrev period_there : List Answer → Turn
period_there given = (event.Period (record { 0 = 2 }), given)

-- the payload of a packet: its frames, flags and position, all below 65,536, and its bytes
abbrev packet : ℕ → ℕ → ℕ → ℕ → List ℕ → List ℕ
packet low high flags position bytes = u32 low high ++ u32 flags 0 ++ u64 position 0 ++ bytes

-- nothing is there to be read; the call isn't one of this stream; the stream lost its device
abbrev empty : ℕ × List ℕ
empty = (0x08890001, [])

abbrev wrong_type : ℕ × List ℕ
wrong_type = (0x88890003, [])

abbrev lost : ℕ × List ℕ
lost = (0x88890004, [])

-- ---- a stream that records the microphone

abbrev recorder : Stream
recorder = record (player 2 2) {
  endpoint = 2;
  kind = kind.Capture;
  channels = 1;
  rate = 8000;
  buffer = 160;
  period = 80;
  capacity = 162;
}

-- client 2 records the microphone, in session 2
abbrev tuned : State
tuned = record ready {
  stage = record {
    playheads = record { number = 1; next = 0 } ∷ record { number = 2; next = 0 } ∷ [];
    streams = player 1 1 ∷ recorder ∷ [];
  };
  clients = ready.clients
      ++ record {
        client = record { 0 = 2 };
        conn = record { 0 = 1 };
        endpoint = record { 0 = 2 };
        role = 0;
        levels = full;
        handle = 0;
        flagged = false;
      }
      ∷ [];
  endpoints = ready.endpoints
      ++ record {
        no = record { 0 = 2 };
        flow = flow.Capture;
        state = 1;
        format = record { channels = 1; rate = 8000; extensible = false; mask = 0 };
        name = 109 ∷ [];
        allow = true;
        priority = true;
      }
      ∷ [];
  sessions = ready.sessions
      ++ record {
        no = record { 0 = 2 };
        key = record {
          endpoint = record { 0 = 2 };
          process = 10;
          guid = record { 0 = 0 };
          name = 112 ∷ 108 ∷ 97 ∷ 121 ∷ 101 ∷ 114 ∷ [];
        };
        level = 65536;
        mute = false;
        channels = full;
        count = 1;
        persist = true;
        display = [];
        icon = [];
        grouping = record { 0 = 0 };
        optout = false;
      }
      ∷ [];
  last_endpoint = 2;
  clients_made = 2;
  sessions_made = 2;
}

tuned_is : after ready (microphone ∷ activates_there ∷ opens_with 0 mono 2 ∷ []) ≡ tuned
unfolding is_utf8 chars encode
tuned_is = refl

-- nothing is there yet, and a stream that records renders nothing
begins_empty :
    replies tuned
    (reads 2 ∷ next_of 2 ∷ gives_back 2 0 ∷ gets 2 1 ∷ serves 2 1 ∷ serves 2 2 ∷ serves 1 2 ∷ reads 1 ∷ [])
    ≡ empty ∷ (0, u32 0 0) ∷ (0x88890007, []) ∷ wrong_type ∷ wrong_type ∷ ok ∷ wrong_type ∷ wrong_type ∷ []
begins_empty = refl

-- the device gives five bytes and ends: two frames, and silence behind them
abbrev five_bytes : List Answer
five_bytes = gave 2 (1 ∷ 0 ∷ 2 ∷ 0 ∷ 3 ∷ []) ∷ gave 2 [] ∷ []

abbrev two_frames : List ℕ
two_frames = packet 80 0 0 0 (1 ∷ 0 ∷ 2 ∷ 0 ∷ replicate 156 0)

abbrev hears_two : List Turn
hears_two = starts 2 ∷ period_there five_bytes ∷ []

-- a packet is read again until it is given back whole
one_packet :
    replies tuned
    (starts 2 ∷ period_there five_bytes ∷ next_of 2 ∷ padding_of 2 ∷ reads 2 ∷ reads 2 ∷ gives_back 2 0 ∷ reads 2
    ∷ gives_back 2 79 ∷ gives_back 2 80 ∷ gives_back 2 80 ∷ reads 2 ∷ position_of 2 ∷ [])
    ≡ ok ∷ (0, u32 80 0 ++ 0 ∷ []) ∷ (0, u32 80 0) ∷ (0, u32 80 0) ∷ (0, two_frames) ∷ (0x88890007, []) ∷ ok
    ∷ (0, two_frames) ∷ (0x88890009, []) ∷ ok ∷ (0x88890007, []) ∷ empty ∷ (0, u64 80 0 ++ u64 64 31) ∷ []
one_packet = refl

-- it is a run: each answer is one to what was asked
hears_two_is_run : IsRun tuned (entries_of tuned hears_two) (after tuned hears_two)
hears_two_is_run = run_of tuned hears_two (refl, ((refl, lit≤ tt, (refl, lit< tt, refl)), tt))

-- nothing is played, and no frame of it is counted
hears_two_alone : output tuned hears_two ≡ []
hears_two_alone = refl

hears_two_tally : (after tuned hears_two).tally ≡ ready.tally
hears_two_tally = refl

-- a device that ended gives no packet, and neither does a part of a frame; nothing is asked if no stream runs
no_packet :
    replies tuned
    (period_there [] ∷ starts 2 ∷ period_there (gave 2 [] ∷ []) ∷ period_there (gave 2 (7 ∷ []) ∷ gave 2 [] ∷ [])
    ∷ reads 2 ∷ position_of 2 ∷ [])
    ≡ (0, u32 0 0 ++ 0 ∷ []) ∷ ok ∷ (0, u32 0 0 ++ 0 ∷ []) ∷ (0, u32 0 0 ++ 0 ∷ []) ∷ empty
    ∷ (0, u64 0 0 ++ u64 64 31) ∷ []
no_packet = refl

-- the device gives all that was asked for
abbrev gives_all : Turn
gives_all = period_there (gave 2 (replicate 160 7) ∷ [])

abbrev sevens : ℕ → ℕ → ℕ × List ℕ
sevens flags position = (0, packet 80 0 flags position (replicate 160 7))

-- nothing is asked if no stream runs, and else the bytes of a period
gives_all_is_run : IsRun tuned (entries_of tuned (period_there [] ∷ starts 2 ∷ gives_all ∷ []))
    (after tuned (period_there [] ∷ starts 2 ∷ gives_all ∷ []))
gives_all_is_run =
    run_of tuned (period_there [] ∷ starts 2 ∷ gives_all ∷ []) (refl, (refl, ((refl, lit≤ tt, refl), tt)))

-- there is room for two packets: the third is lost, and the next one says so
one_is_lost :
    replies (after tuned (starts 2 ∷ gives_all ∷ gives_all ∷ gives_all ∷ []))
    (padding_of 2 ∷ reads 2 ∷ gives_back 2 80 ∷ reads 2 ∷ gives_back 2 80 ∷ gives_all ∷ reads 2 ∷ [])
    ≡ (0, u32 160 0) ∷ sevens 0 0 ∷ ok ∷ sevens 0 80 ∷ ok ∷ (0, u32 80 0 ++ 0 ∷ []) ∷ sevens 1 240 ∷ []
one_is_lost = refl

-- a stream whose count of offered frames has no room for another period
abbrev worn : ℕ × List ℕ
worn = (0xA0040005, [])

abbrev worn_to : ℕ → Stream → State
worn_to ever s =
    record tuned { stage = record (tuned.stage) { streams = record s { running = true; ever = ever } ∷ [] } }

wears_out : replies (worn_to 0x3FFFFFFFFFFFFFB1 recorder) (gives_all ∷ []) ≡ worn ∷ []
wears_out = refl

wears_on : replies (worn_to 0x3FFFFFFFFFFFFFB0 recorder) (gives_all ∷ []) ≡ (0, u32 80 0 ++ 0 ∷ []) ∷ []
wears_on = refl

hearing_wears_out :
    replies (worn_to 0x3FFFFFFFFFFFFE21 (record (player 2 1) { kind = kind.Loopback })) (period [] ∷ []) ≡ worn ∷ []
hearing_wears_out = refl

-- one that plays counts none
playing_wears_none :
    replies (worn_to 0x3FFFFFFFFFFFFE21 (player 2 1)) (period (took 1920 ∷ []) ∷ []) ≡ (0, u32 224 1 ++ 0 ∷ []) ∷ []
playing_wears_none = refl

-- a Reset begins anew
begins_anew :
    replies (after tuned hears_two) (stops 2 ∷ resets 2 ∷ resets 2 ∷ reads 2 ∷ starts 2 ∷ gives_all ∷ reads 2 ∷ [])
    ≡ ok ∷ ok ∷ (1, []) ∷ empty ∷ ok ∷ (0, u32 80 0 ++ 0 ∷ []) ∷ sevens 0 0 ∷ []
begins_anew = refl

-- a packet that was read is all that was offered: the position is reset
position_is_reset :
    replies (after tuned hears_two)
    (reads 2 ∷ gives_back 2 80 ∷ stops 2 ∷ resets 2 ∷ resets 2 ∷ position_of 2 ∷ [])
    ≡ (0, two_frames) ∷ ok ∷ ok ∷ ok ∷ (1, []) ∷ (0, u64 0 0 ++ u64 64 31) ∷ []
position_is_reset = refl

-- the device fails: the endpoint isn't there any more, and its packets are lost
device_fails :
    replies (after tuned hears_two)
    (period_there (gave 2 (7 ∷ 7 ∷ []) ∷ failed ∷ []) ∷ reads 2 ∷ period_there [] ∷ activates_there ∷ [])
    ≡ (0, u32 0 0 ++ 1 ∷ []) ∷ lost ∷ lost ∷ lost ∷ []
device_fails = refl

-- ---- a stream that hears what its endpoint gets

-- a microphone gets nothing that could be heard
none_to_hear : replies tuned (activates_there ∷ opens_with loopback mono 3 ∷ []) ≡ (0, u64 3 0) ∷ wrong_type ∷ []
none_to_hear = refl

-- client 2 hears what client 1 plays, at half its level: 1001 and -1001
abbrev hears_half : List Turn
hears_half =
    activates ∷ opens_with loopback stereo 2 ∷ says (call.SetMaster (record { 0 = 1 }) 32768 (record { 0 = 0 }))
    ∷ gets 1 1 ∷ releases 1 1 0 (233 ∷ 3 ∷ 23 ∷ 252 ∷ []) ∷ starts 1 ∷ starts 2 ∷ period (took 1920 ∷ []) ∷ []

abbrev halved : List ℕ
halved = 244 ∷ 1 ∷ 12 ∷ 254 ∷ replicate 1916 0

half_sounds : output ready hears_half ≡ (1, halved) ∷ []
half_sounds = refl

-- the packet has what the device got
half_is_heard :
    replies (after ready hears_half) (next_of 2 ∷ reads 2 ∷ gives_back 2 480 ∷ reads 2 ∷ position_of 2 ∷ [])
    ≡ (0, u32 224 1) ∷ (0, packet 224 1 0 0 halved) ∷ ok ∷ empty ∷ (0, u64 224 1 ++ u64 128 187) ∷ []
half_is_heard = refl

-- and only if the device got all of it
none_is_heard :
    replies (after ready (activates ∷ opens_with loopback stereo 2 ∷ starts 2 ∷ []))
    (period (failed ∷ []) ∷ reads 2 ∷ [])
    ≡ (0, u32 0 0 ++ 1 ∷ []) ∷ lost ∷ []
none_is_heard = refl
