-- The spelling of events in a file: each event has one frame (this project's own wire form).
use Rattle.std.specs.Prelude.{
  ◌≡◌,
  ℕ,
  ◌+◌,
  ◌<◌,
  ◌≤◌,
  List,
  [],
  ◌∷◌,
  ◌++◌,
  length,
  take,
  Option,
  Some,
  None,
  nat_eq,
  if◌then◌else◌,
}
use Rattle.std.specs.List.{flat_map, AllByRecursion}
use Rattle.std.specs.Int.{w32, to_le_bytes, from_le_bytes}
use Rattle.ca_base.specs.declared.limits.TheConstants.{LONGEST_BODY}
use Rattle.ca_base.specs.declared.values.TheConstants.{KIND_OPEN, KIND_HANGUP, KIND_CALL, KIND_PERIOD, KIND_DEVICE}
use Rattle.ca_base.specs.declared.values.TheConstants.{KIND_SHUTDOWN}
use Rattle.ca_model.specs.declared.event.Event.{Event}
use Rattle.ca_model.specs.declared.event.Event.TheVariants as event
use Rattle.ca_model.specs.declared.event.Call.{Call}
use Rattle.ca_model.specs.declared.event.Call.TheVariants as call
use Rattle.ca_model.specs.declared.event.DeviceEvent.{DeviceEvent}
use Rattle.ca_model.specs.declared.event.DeviceEvent.TheVariants as device
use Rattle.ca_model.specs.Fields.{Kind, Field, AllFit, fields_bytes}
use Rattle.ca_model.specs.Fields.Kind.{connection, byte, four_bytes, eight_bytes, guid, text, format, rest}
use Rattle.ca_model.specs.Fields.Field.{number, bytes}

-- the calls that are listed, by code, and the kinds of their fields
abbrev pub calls : List (ℕ × List Kind)
calls =
    (1, byte ∷ four_bytes ∷ [])
    ∷ (2, byte ∷ byte ∷ [])
    ∷ (3, text ∷ [])
    ∷ (4, four_bytes ∷ [])
    ∷ (5, four_bytes ∷ byte ∷ [])
    ∷ (6, eight_bytes ∷ [])
    ∷ (7, byte ∷ eight_bytes ∷ [])
    ∷ (8, eight_bytes ∷ [])
    ∷ (9, four_bytes ∷ [])
    ∷ (10, four_bytes ∷ [])
    ∷ (16, eight_bytes ∷ four_bytes ∷ four_bytes ∷ eight_bytes ∷ eight_bytes ∷ format ∷ guid ∷ [])
    ∷ (17, eight_bytes ∷ [])
    ∷ (18, eight_bytes ∷ [])
    ∷ (19, eight_bytes ∷ [])
    ∷ (20, eight_bytes ∷ four_bytes ∷ format ∷ [])
    ∷ (21, eight_bytes ∷ [])
    ∷ (22, eight_bytes ∷ [])
    ∷ (23, eight_bytes ∷ [])
    ∷ (24, eight_bytes ∷ [])
    ∷ (25, eight_bytes ∷ [])
    ∷ (26, eight_bytes ∷ eight_bytes ∷ [])
    ∷ (27, eight_bytes ∷ four_bytes ∷ [])
    ∷ (28, eight_bytes ∷ [])
    ∷ (29, eight_bytes ∷ four_bytes ∷ [])
    ∷ (30, eight_bytes ∷ four_bytes ∷ four_bytes ∷ [])
    ∷ (32, eight_bytes ∷ four_bytes ∷ [])
    ∷ (33, eight_bytes ∷ four_bytes ∷ four_bytes ∷ rest ∷ [])
    ∷ (34, eight_bytes ∷ [])
    ∷ (35, eight_bytes ∷ [])
    ∷ (36, eight_bytes ∷ four_bytes ∷ [])
    ∷ (48, four_bytes ∷ [])
    ∷ (49, eight_bytes ∷ [])
    ∷ (50, eight_bytes ∷ four_bytes ∷ guid ∷ [])
    ∷ (51, eight_bytes ∷ byte ∷ guid ∷ [])
    ∷ (52, eight_bytes ∷ four_bytes ∷ four_bytes ∷ guid ∷ [])
    ∷ (53, eight_bytes ∷ guid ∷ text ∷ [])
    ∷ (54, eight_bytes ∷ guid ∷ text ∷ [])
    ∷ (55, eight_bytes ∷ guid ∷ guid ∷ [])
    ∷ []

-- the device events that are listed
abbrev pub device_events : List (ℕ × List Kind)
device_events =
    (1, four_bytes ∷ byte ∷ format ∷ text ∷ [])
    ∷ (2, four_bytes ∷ four_bytes ∷ [])
    ∷ (3, four_bytes ∷ [])
    ∷ (4, four_bytes ∷ format ∷ [])
    ∷ (5, byte ∷ byte ∷ four_bytes ∷ [])
    ∷ (6, four_bytes ∷ byte ∷ byte ∷ [])
    ∷ (8, four_bytes ∷ text ∷ [])
    ∷ []

-- what a table has for a code
abbrev pub listed : ℕ → List (ℕ × List Kind) → Option (List Kind)
listed code [] = None
listed code (row ∷ rows) = if nat_eq row.0 code then Some row.1 else listed code rows

-- a code that isn't listed has the rest of the event as its one field
abbrev pub or_rest : Option (List Kind) → List Kind
or_rest (Some kinds) = kinds
or_rest None = rest ∷ []

abbrev pub call_code : Call → ℕ
call_code (call.EnumEndpoints flow mask) = 1
call_code (call.GetDefault flow role) = 2
call_code (call.GetDevice id) = 3
call_code (call.DeviceInfo e) = 4
call_code (call.Activate e role) = 5
call_code (call.Release c) = 6
call_code (call.Register class subject) = 7
call_code (call.Unregister registration) = 8
call_code (call.TakeNotices most) = 9
call_code (call.AwaitNotices most) = 10
call_code (call.Initialize c share flags duration period f session) = 16
call_code (call.GetBufferSize c) = 17
call_code (call.GetStreamLatency c) = 18
call_code (call.GetCurrentPadding c) = 19
call_code (call.IsFormatSupported c share f) = 20
call_code (call.GetMixFormat c) = 21
call_code (call.GetDevicePeriod c) = 22
call_code (call.Start c) = 23
call_code (call.Stop c) = 24
call_code (call.Reset c) = 25
call_code (call.SetEventHandle c handle) = 26
call_code (call.GetService c service) = 27
call_code (call.GetPosition c) = 28
call_code (call.GetStreamLevel c channel) = 29
call_code (call.SetStreamLevel c channel level) = 30
call_code (call.GetBuffer c n) = 32
call_code (call.ReleaseBuffer c n flags buffer) = 33
call_code (call.GetNextPacketSize c) = 34
call_code (call.CaptureGetBuffer c) = 35
call_code (call.CaptureReleaseBuffer c n) = 36
call_code (call.EnumSessions e) = 48
call_code (call.GetSession s) = 49
call_code (call.SetMaster s level context) = 50
call_code (call.SetMute s mute context) = 51
call_code (call.SetChannel s channel level context) = 52
call_code (call.SetDisplayName s context name) = 53
call_code (call.SetIconPath s context path) = 54
call_code (call.SetGrouping s grouping context) = 55
call_code (call.Other code tail) = code

abbrev pub call_fields : Call → List Field
call_fields (call.EnumEndpoints flow mask) = number flow ∷ number mask ∷ []
call_fields (call.GetDefault flow role) = number flow ∷ number role ∷ []
call_fields (call.GetDevice id) = bytes id ∷ []
call_fields (call.DeviceInfo e) = number e.0 ∷ []
call_fields (call.Activate e role) = number e.0 ∷ number role ∷ []
call_fields (call.Release c) = number c.0 ∷ []
call_fields (call.Register class subject) = number class ∷ number subject ∷ []
call_fields (call.Unregister registration) = number registration ∷ []
call_fields (call.TakeNotices most) = number most ∷ []
call_fields (call.AwaitNotices most) = number most ∷ []
call_fields (call.Initialize c share flags duration period f session) =
    number c.0 ∷ number share ∷ number flags ∷ number duration ∷ number period ∷ bytes f.list ∷ number session.0 ∷ []
call_fields (call.GetBufferSize c) = number c.0 ∷ []
call_fields (call.GetStreamLatency c) = number c.0 ∷ []
call_fields (call.GetCurrentPadding c) = number c.0 ∷ []
call_fields (call.IsFormatSupported c share f) = number c.0 ∷ number share ∷ bytes f.list ∷ []
call_fields (call.GetMixFormat c) = number c.0 ∷ []
call_fields (call.GetDevicePeriod c) = number c.0 ∷ []
call_fields (call.Start c) = number c.0 ∷ []
call_fields (call.Stop c) = number c.0 ∷ []
call_fields (call.Reset c) = number c.0 ∷ []
call_fields (call.SetEventHandle c handle) = number c.0 ∷ number handle ∷ []
call_fields (call.GetService c service) = number c.0 ∷ number service ∷ []
call_fields (call.GetPosition c) = number c.0 ∷ []
call_fields (call.GetStreamLevel c channel) = number c.0 ∷ number channel ∷ []
call_fields (call.SetStreamLevel c channel level) = number c.0 ∷ number channel ∷ number level ∷ []
call_fields (call.GetBuffer c n) = number c.0 ∷ number n ∷ []
call_fields (call.ReleaseBuffer c n flags buffer) = number c.0 ∷ number n ∷ number flags ∷ bytes buffer.list ∷ []
call_fields (call.GetNextPacketSize c) = number c.0 ∷ []
call_fields (call.CaptureGetBuffer c) = number c.0 ∷ []
call_fields (call.CaptureReleaseBuffer c n) = number c.0 ∷ number n ∷ []
call_fields (call.EnumSessions e) = number e.0 ∷ []
call_fields (call.GetSession s) = number s.0 ∷ []
call_fields (call.SetMaster s level context) = number s.0 ∷ number level ∷ number context.0 ∷ []
call_fields (call.SetMute s mute context) = number s.0 ∷ number mute ∷ number context.0 ∷ []
call_fields (call.SetChannel s channel level context) =
    number s.0 ∷ number channel ∷ number level ∷ number context.0 ∷ []
call_fields (call.SetDisplayName s context name) = number s.0 ∷ number context.0 ∷ bytes name ∷ []
call_fields (call.SetIconPath s context path) = number s.0 ∷ number context.0 ∷ bytes path ∷ []
call_fields (call.SetGrouping s grouping context) = number s.0 ∷ number grouping.0 ∷ number context.0 ∷ []
call_fields (call.Other code tail) = bytes tail.list ∷ []

abbrev pub device_code : DeviceEvent → ℕ
device_code (device.Add e flow f name) = 1
device_code (device.SetState e state) = 2
device_code (device.Remove e) = 3
device_code (device.SetFormat e f) = 4
device_code (device.SetDefault flow role e) = 5
device_code (device.SetExclusive e allow priority) = 6
device_code (device.SetName e name) = 8
device_code (device.Other code tail) = code

abbrev pub device_fields : DeviceEvent → List Field
device_fields (device.Add e flow f name) = number e.0 ∷ number flow ∷ bytes f.list ∷ bytes name ∷ []
device_fields (device.SetState e state) = number e.0 ∷ number state ∷ []
device_fields (device.Remove e) = number e.0 ∷ []
device_fields (device.SetFormat e f) = number e.0 ∷ bytes f.list ∷ []
device_fields (device.SetDefault flow role e) = number flow ∷ number role ∷ number e.0 ∷ []
device_fields (device.SetExclusive e allow priority) = number e.0 ∷ number allow ∷ number priority ∷ []
device_fields (device.SetName e name) = number e.0 ∷ bytes name ∷ []
device_fields (device.Other code tail) = bytes tail.list ∷ []

-- the kinds of an event's fields: first the byte that says what it is
abbrev pub kinds : Event → List Kind
kinds (event.Open c pid name) = byte ∷ connection ∷ four_bytes ∷ text ∷ []
kinds (event.Hangup c) = byte ∷ connection ∷ []
kinds (event.Call c tag x) = byte ∷ connection ∷ four_bytes ∷ byte ∷ or_rest (listed (call_code x) calls)
kinds (event.Period e) = byte ∷ four_bytes ∷ []
kinds (event.Device x) = byte ∷ byte ∷ or_rest (listed (device_code x) device_events)
kinds event.Shutdown = byte ∷ []

abbrev pub fields : Event → List Field
fields (event.Open c pid name) = number KIND_OPEN ∷ number c.0 ∷ number pid ∷ bytes name ∷ []
fields (event.Hangup c) = number KIND_HANGUP ∷ number c.0 ∷ []
fields (event.Call c tag x) = number KIND_CALL ∷ number c.0 ∷ number tag ∷ number (call_code x) ∷ call_fields x
fields (event.Period e) = number KIND_PERIOD ∷ number e.0 ∷ []
fields (event.Device x) = number KIND_DEVICE ∷ number (device_code x) ∷ device_fields x
fields event.Shutdown = number KIND_SHUTDOWN ∷ []

-- a listed code is never spelled as another
abbrev pub CodeIsOwn : Event → Type 0
CodeIsOwn (event.Call c tag (call.Other code tail)) = listed code calls ≡ None
CodeIsOwn (event.Device (device.Other code tail)) = listed code device_events ≡ None
CodeIsOwn _ = Unit {0}

abbrev pub body : Event → List ℕ
body e = fields_bytes (kinds e) (fields e)

-- the spelling of an event: the length of its body, and the body
abbrev pub frame : Event → List ℕ
frame e = to_le_bytes w32 (length (body e)) ++ body e

-- the events that have a spelling
pub record IsEvent (e : Event) : Type 0 where
  pub fit : AllFit (kinds e) (fields e)
  pub own : CodeIsOwn e
  pub within : length (body e) ≤ LONGEST_BODY

-- the spellings of events, one after another
abbrev pub frames : List Event → List ℕ
frames es = flat_map frame es

-- the length that a frame begins with
abbrev pub stated_length : List ℕ → ℕ
stated_length bs = from_le_bytes w32 (take 4 bs)

-- an incomplete prefix of a frame: a valid length, and fewer bytes than it says; or not even the length
pub data IsIncomplete (bs : List ℕ) : Type 0 where
  no_length : length bs < 4 → IsIncomplete bs
  no_body : 0 < stated_length bs → stated_length bs ≤ LONGEST_BODY → length bs < 4 + stated_length bs → IsIncomplete bs

-- an event's spelling is at the front
pub record Begins (e : Event) (bs : List ℕ) : Type 0 where
  pub spelled : IsEvent e
  pub front : take (length (frame e)) bs ≡ frame e

-- no event's spelling is at the front
abbrev pub NoEvent : List ℕ → Type 0
NoEvent bs = (e : Event) → Begins e bs → ⊥

-- the front is neither an event nor an incomplete prefix of a frame
pub record IsMalformed (bs : List ℕ) : Type 0 where
  pub whole : IsIncomplete bs → ⊥
  pub none : NoEvent bs

-- the cut of an input: the longest list of events whose spellings are at the front, and the rest
pub record Cut (input : List ℕ) (events : List Event) (tail : List ℕ) : Type 0 where
  pub whole : input ≡ frames events ++ tail
  pub each : AllByRecursion IsEvent events
  pub longest_list : NoEvent tail
