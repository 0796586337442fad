-- Worked runs with exclusive streams: one that takes its endpoint from a shared stream, what it is refused for, and one
-- that is driven by events (this project's own).
use Rattle.std.proofs.Common.{◌≡◌, ℕ, List, [], ◌∷◌, refl}
use Rattle.ca_model.specs.declared.event.Event.TheVariants as event
use Rattle.ca_model.specs.declared.event.Call.TheVariants as call
use Rattle.ca_model.specs.declared.event.DeviceEvent.TheVariants as device
use Rattle.ca_machine.specs.State.{State}
use Rattle.ca_machine.specs.Plan.{found}
use Rattle.ca_machine.proofs.WorkedTurns.{Turn, replies, ok, u32, u64, says, stereo, slower}
use Rattle.ca_machine.proofs.WorkedTurns.{activates, gets, initializes, padding_of, ready, size_of, starts}

-- ---- turns

-- an exclusive stream of a client, with flags, a duration, a period and a format
abbrev takes : ℕ → ℕ → ℕ → List ℕ → ℕ → Turn
takes flags duration period format c = (
  event.Call (record { 0 = 1 }) 9
      (call.Initialize (record { 0 = c }) 1 flags duration period (record { list = format; capacity = 18 })
      (record { 0 = 0 })),
  found ∷ [],
)

-- the flag of a stream that is driven by events
abbrev by_events : ℕ
by_events = 262144

abbrev sets_handle : ℕ → ℕ → Turn
sets_handle c handle = says (call.SetEventHandle (record { 0 = c }) handle)

-- exclusive use is allowed, with this priority over shared streams
abbrev prefers : ℕ → Turn
prefers priority = (event.Device (device.SetExclusive (record { 0 = 1 }) 1 priority), [])

-- no stream is open, and client 1 is there
abbrev idle : State
idle = record ready { stage = record (ready.stage) { streams = [] } }

-- refused: the endpoint is in use, the stream lost it, a period or a size can't be had, or no handle is set
abbrev refused : ℕ → ℕ × List ℕ
refused code = (code, [])

-- ---- a shared stream is there

-- client 2 takes the endpoint from client 1, for a period of 480 frames
shared_gives_way :
    replies ready (activates ∷ takes 0 100000 0 stereo 2 ∷ size_of 2 ∷ padding_of 1 ∷ [])
    ≡ (0, u64 2 0) ∷ (0, u64 1 0) ∷ (0, u32 224 1) ∷ refused 0x88890004 ∷ []
shared_gives_way = refl

-- it doesn't where shared streams come first, nor for a format that the endpoint doesn't admit
shared_goes_on :
    replies ready (prefers 0 ∷ activates ∷ takes 0 100000 0 stereo 2 ∷ padding_of 1 ∷ [])
    ≡ ok ∷ (0, u64 2 0) ∷ refused 0x8889000A ∷ (0, u32 0 0) ∷ []
shared_goes_on = refl

-- an exclusive stream is there: nobody else gets the endpoint
exclusive_stays :
    replies idle (takes 0 0 0 stereo 1 ∷ activates ∷ initializes 2 ∷ takes 0 0 0 stereo 2 ∷ padding_of 1 ∷ [])
    ≡ (0, u64 1 0) ∷ (0, u64 2 0) ∷ refused 0x8889000A ∷ refused 0x8889000A ∷ (0, u32 0 0) ∷ []
exclusive_stays = refl

-- ---- sizes, and events

-- the shortest period, in a rate of its own: 133 frames
sizes_are_its_own :
    replies idle (takes 0 0 29999 slower 1 ∷ takes 0 0 30000 slower 1 ∷ size_of 1 ∷ [])
    ≡ refused 0x88890020 ∷ (0, u64 1 0) ∷ (0, u32 133 0) ∷ []
sizes_are_its_own = refl

-- a buffer of one period, which is written whole
whole_buffers :
    replies idle (takes by_events 200000 100000 stereo 1 ∷ takes by_events 100000 100000 stereo 1 ∷ starts 1
    ∷ sets_handle 1 0 ∷ sets_handle 1 77 ∷ starts 1 ∷ gets 1 479 ∷ gets 1 480 ∷ [])
    ≡ refused 0x88890013 ∷ (0, u64 1 0) ∷ refused 0x88890014 ∷ refused 0x80070057 ∷ ok ∷ ok ∷ refused 0x88890016 ∷ ok
    ∷ []
whole_buffers = refl
