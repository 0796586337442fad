-- Worked spellings: each kind of event and each call as bytes, and a reply.
use Rattle.std.proofs.Common.{◌≡◌, ℕ, List, [], ◌∷◌, ◌++◌, replicate, true, false, Some, refl}
use Rattle.ca_base.specs.declared.codes.TheConstants.Hr as hr
use Rattle.ca_model.specs.declared.event.Event.TheVariants as event
use Rattle.ca_model.specs.declared.event.Call.{Call}
use Rattle.ca_model.specs.declared.event.Call.TheVariants as call
use Rattle.ca_model.specs.declared.event.DeviceEvent.TheVariants as device
use Rattle.ca_model.specs.Spelling.{frame}
use Rattle.ca_model.specs.Replies.{reply_frame}
use Rattle.ca_base.specs.Rows.{first}

period : frame (event.Period (record { 0 = 7 })) ≡ 5 ∷ 0 ∷ 0 ∷ 0 ∷ 4 ∷ 7 ∷ 0 ∷ 0 ∷ 0 ∷ []
period = refl

-- a process, and a name of two bytes
opened : frame (event.Open (record { 0 = 32 }) 266 (112 ∷ 108 ∷ []))
    ≡ 10 ∷ 0 ∷ 0 ∷ 0 ∷ 1 ∷ 32 ∷ 10 ∷ 1 ∷ 0 ∷ 0 ∷ 2 ∷ 0 ∷ 112 ∷ 108 ∷ []
opened = refl

hung_up : frame (event.Hangup (record { 0 = 32 })) ≡ 2 ∷ 0 ∷ 0 ∷ 0 ∷ 2 ∷ 32 ∷ []
hung_up = refl

shut_down : frame event.Shutdown ≡ 1 ∷ 0 ∷ 0 ∷ 0 ∷ 7 ∷ []
shut_down = refl

-- the bytes of a call of connection 1 with tag 2, behind its code
abbrev called : ℕ → Call → List ℕ → Type 0
called len x rest = frame (event.Call (record { 0 = 1 }) 2 x) ≡ len ∷ 0 ∷ 0 ∷ 0 ∷ 3 ∷ 1 ∷ 2 ∷ 0 ∷ 0 ∷ 0 ∷ rest

-- all flows, in all four states
asked_of_endpoints : called 12 (call.EnumEndpoints 2 15) (1 ∷ 2 ∷ 15 ∷ 0 ∷ 0 ∷ 0 ∷ [])
asked_of_endpoints = refl

asked_of_default : called 9 (call.GetDefault 1 2) (2 ∷ 1 ∷ 2 ∷ [])
asked_of_default = refl

-- an identifier of two bytes
asked_of_device : called 11 (call.GetDevice (112 ∷ 108 ∷ [])) (3 ∷ 2 ∷ 0 ∷ 112 ∷ 108 ∷ [])
asked_of_device = refl

asked_of_info : called 11 (call.DeviceInfo (record { 0 = 3 })) (4 ∷ 3 ∷ 0 ∷ 0 ∷ 0 ∷ [])
asked_of_info = refl

-- the client's number, 258
abbrev client : List ℕ
client = 2 ∷ 1 ∷ replicate 6 0

activated : called 12 (call.Activate (record { 0 = 3 }) 255) (5 ∷ 3 ∷ 0 ∷ 0 ∷ 0 ∷ 255 ∷ [])
activated = refl

released_client : called 15 (call.Release (record { 0 = 258 })) (6 ∷ client)
released_client = refl

-- notices of session 1027
registered : called 16 (call.Register 3 1027) (7 ∷ 3 ∷ 3 ∷ 4 ∷ replicate 6 0)
registered = refl

unregistered : called 15 (call.Unregister 258) (8 ∷ 2 ∷ 1 ∷ replicate 6 0)
unregistered = refl

took_notices : called 11 (call.TakeNotices 1000) (9 ∷ 232 ∷ 3 ∷ 0 ∷ 0 ∷ [])
took_notices = refl

awaited_notices : called 11 (call.AwaitNotices 1000) (10 ∷ 232 ∷ 3 ∷ 0 ∷ 0 ∷ [])
awaited_notices = refl

-- a GUID is in the order of RFC 9562
initialized :
    called 58 (call.Initialize (record { 0 = 258 }) 1 4 5 6 (record { list = 9 ∷ []; capacity = 1 })
    (record { 0 = 513 }))
    (16 ∷ client ++ 1 ∷ 0 ∷ 0 ∷ 0 ∷ 4 ∷ 0 ∷ 0 ∷ 0 ∷ 5 ∷ replicate 7 0
    ++ 6 ∷ replicate 7 0 ++ 1 ∷ 0 ∷ 9 ∷ replicate 14 0 ++ 2 ∷ 1 ∷ [])
initialized = refl

asked_of_size : called 15 (call.GetBufferSize (record { 0 = 258 })) (17 ∷ client)
asked_of_size = refl

asked_of_latency : called 15 (call.GetStreamLatency (record { 0 = 258 })) (18 ∷ client)
asked_of_latency = refl

asked_of_padding : called 15 (call.GetCurrentPadding (record { 0 = 258 })) (19 ∷ client)
asked_of_padding = refl

-- a share mode, and a format of two bytes
asked_of_format :
    called 23 (call.IsFormatSupported (record { 0 = 258 }) 1 (record { list = 8 ∷ 9 ∷ []; capacity = 2 }))
    (20 ∷ client ++ 1 ∷ 0 ∷ 0 ∷ 0 ∷ 2 ∷ 0 ∷ 8 ∷ 9 ∷ [])
asked_of_format = refl

asked_of_mix : called 15 (call.GetMixFormat (record { 0 = 258 })) (21 ∷ client)
asked_of_mix = refl

asked_of_period : called 15 (call.GetDevicePeriod (record { 0 = 258 })) (22 ∷ client)
asked_of_period = refl

started : called 15 (call.Start (record { 0 = 258 })) (23 ∷ client)
started = refl

stopped : called 15 (call.Stop (record { 0 = 258 })) (24 ∷ client)
stopped = refl

reset : called 15 (call.Reset (record { 0 = 258 })) (25 ∷ client)
reset = refl

-- a handle of 77
set_event_handle : called 23 (call.SetEventHandle (record { 0 = 258 }) 77) (26 ∷ client ++ 77 ∷ replicate 7 0)
set_event_handle = refl

asked_of_service : called 19 (call.GetService (record { 0 = 258 }) 3) (27 ∷ client ++ 3 ∷ 0 ∷ 0 ∷ 0 ∷ [])
asked_of_service = refl

asked_of_position : called 15 (call.GetPosition (record { 0 = 258 })) (28 ∷ client)
asked_of_position = refl

asked_of_level : called 19 (call.GetStreamLevel (record { 0 = 258 }) 1) (29 ∷ client ++ 1 ∷ 0 ∷ 0 ∷ 0 ∷ [])
asked_of_level = refl

-- channel 1 at full level, 65536
set_level :
    called 23 (call.SetStreamLevel (record { 0 = 258 }) 1 65536) (30 ∷ client ++ 1 ∷ 0 ∷ 0 ∷ 0 ∷ 0 ∷ 0 ∷ 1 ∷ 0 ∷ [])
set_level = refl

leased : called 19 (call.GetBuffer (record { 0 = 258 }) 480) (32 ∷ client ++ 224 ∷ 1 ∷ 0 ∷ 0 ∷ [])
leased = refl

released : called 25 (call.ReleaseBuffer (record { 0 = 258 }) 1 2 (record { list = 8 ∷ 9 ∷ []; capacity = 5 }))
    (33 ∷ client ++ 1 ∷ 0 ∷ 0 ∷ 0 ∷ 2 ∷ 0 ∷ 0 ∷ 0 ∷ 8 ∷ 9 ∷ [])
released = refl

asked_of_packet : called 15 (call.GetNextPacketSize (record { 0 = 258 })) (34 ∷ client)
asked_of_packet = refl

got_packet : called 15 (call.CaptureGetBuffer (record { 0 = 258 })) (35 ∷ client)
got_packet = refl

released_packet : called 19 (call.CaptureReleaseBuffer (record { 0 = 258 }) 480) (36 ∷ client ++ 224 ∷ 1 ∷ 0 ∷ 0 ∷ [])
released_packet = refl

asked_of_sessions : called 11 (call.EnumSessions (record { 0 = 3 })) (48 ∷ 3 ∷ 0 ∷ 0 ∷ 0 ∷ [])
asked_of_sessions = refl

-- a session's number, 1027, and an event context, 513
abbrev session : List ℕ
session = 3 ∷ 4 ∷ replicate 6 0

abbrev context : List ℕ
context = replicate 14 0 ++ 2 ∷ 1 ∷ []

asked_of_session : called 15 (call.GetSession (record { 0 = 1027 })) (49 ∷ session)
asked_of_session = refl

set_master :
    called 35 (call.SetMaster (record { 0 = 1027 }) 65536 (record { 0 = 513 }))
    (50 ∷ session ++ 0 ∷ 0 ∷ 1 ∷ 0 ∷ context)
set_master = refl

set_mute :
    called 32 (call.SetMute (record { 0 = 1027 }) 1 (record { 0 = 513 })) (51 ∷ session ++ 1 ∷ context)
set_mute = refl

set_channel :
    called 39 (call.SetChannel (record { 0 = 1027 }) 1 65536 (record { 0 = 513 }))
    (52 ∷ session ++ 1 ∷ 0 ∷ 0 ∷ 0 ∷ 0 ∷ 0 ∷ 1 ∷ 0 ∷ context)
set_channel = refl

-- texts of two bytes
set_display_name :
    called 35 (call.SetDisplayName (record { 0 = 1027 }) (record { 0 = 513 }) (112 ∷ 108 ∷ []))
    (53 ∷ session ++ context ++ 2 ∷ 0 ∷ 112 ∷ 108 ∷ [])
set_display_name = refl

set_icon_path :
    called 35 (call.SetIconPath (record { 0 = 1027 }) (record { 0 = 513 }) (112 ∷ 108 ∷ []))
    (54 ∷ session ++ context ++ 2 ∷ 0 ∷ 112 ∷ 108 ∷ [])
set_icon_path = refl

-- the grouping, 3, is before the event context
set_grouping :
    called 47 (call.SetGrouping (record { 0 = 1027 }) (record { 0 = 3 }) (record { 0 = 513 }))
    (55 ∷ session ++ replicate 15 0 ++ 3 ∷ context)
set_grouping = refl

-- a code that isn't listed
other : called 9 (call.Other 200 (record { list = 7 ∷ 7 ∷ []; capacity = 2 })) (200 ∷ 7 ∷ 7 ∷ [])
other = refl

added : frame (event.Device (device.Add (record { 0 = 1 }) 0 (record { list = 6 ∷ []; capacity = 1 }) (83 ∷ [])))
    ≡ 13 ∷ 0 ∷ 0 ∷ 0 ∷ 5 ∷ 1 ∷ 1 ∷ 0 ∷ 0 ∷ 0 ∷ 0 ∷ 1 ∷ 0 ∷ 6 ∷ 1 ∷ 0 ∷ 83 ∷ []
added = refl

-- unplugged
set_state : frame (event.Device (device.SetState (record { 0 = 3 }) 8))
    ≡ 10 ∷ 0 ∷ 0 ∷ 0 ∷ 5 ∷ 2 ∷ 3 ∷ 0 ∷ 0 ∷ 0 ∷ 8 ∷ 0 ∷ 0 ∷ 0 ∷ []
set_state = refl

removed : frame (event.Device (device.Remove (record { 0 = 3 }))) ≡ 6 ∷ 0 ∷ 0 ∷ 0 ∷ 5 ∷ 3 ∷ 3 ∷ 0 ∷ 0 ∷ 0 ∷ []
removed = refl

set_format : frame (event.Device (device.SetFormat (record { 0 = 3 }) (record { list = 6 ∷ []; capacity = 1 })))
    ≡ 9 ∷ 0 ∷ 0 ∷ 0 ∷ 5 ∷ 4 ∷ 3 ∷ 0 ∷ 0 ∷ 0 ∷ 1 ∷ 0 ∷ 6 ∷ []
set_format = refl

-- the endpoint is behind the flow and the role
set_default : frame (event.Device (device.SetDefault 0 2 (record { 0 = 3 })))
    ≡ 8 ∷ 0 ∷ 0 ∷ 0 ∷ 5 ∷ 5 ∷ 0 ∷ 2 ∷ 3 ∷ 0 ∷ 0 ∷ 0 ∷ []
set_default = refl

-- exclusive use is allowed, and has no priority
set_exclusive : frame (event.Device (device.SetExclusive (record { 0 = 3 }) 1 0))
    ≡ 8 ∷ 0 ∷ 0 ∷ 0 ∷ 5 ∷ 6 ∷ 3 ∷ 0 ∷ 0 ∷ 0 ∷ 1 ∷ 0 ∷ []
set_exclusive = refl

set_name : frame (event.Device (device.SetName (record { 0 = 3 }) (83 ∷ [])))
    ≡ 9 ∷ 0 ∷ 0 ∷ 0 ∷ 5 ∷ 8 ∷ 3 ∷ 0 ∷ 0 ∷ 0 ∷ 1 ∷ 0 ∷ 83 ∷ []
set_name = refl

-- a code that isn't listed
other_device : frame (event.Device (device.Other 7 (record { list = 1 ∷ []; capacity = 2 })))
    ≡ 3 ∷ 0 ∷ 0 ∷ 0 ∷ 5 ∷ 7 ∷ 1 ∷ []
other_device = refl

-- a reply: its payload is two bytes
replied :
    reply_frame
    (record {
      kind = 3;
      conn = 1;
      tag = 258;
      result = hr.S_FALSE;
      payload = record { list = 7 ∷ 8 ∷ []; capacity = 8 };
    })
    ≡ 12 ∷ 0 ∷ 0 ∷ 0 ∷ 3 ∷ 1 ∷ 2 ∷ 1 ∷ 0 ∷ 0 ∷ 1 ∷ 0 ∷ 0 ∷ 0 ∷ 7 ∷ 8 ∷ []
replied = refl

-- the answer is the first row that holds
first_row : first ((false, hr.E_HANDLE) ∷ (true, hr.E_NOTIMPL) ∷ (true, hr.E_INVALIDARG) ∷ []) ≡ Some hr.E_NOTIMPL
first_row = refl
