-- What the readers of this crate answer (this project's own). Their contracts alone cite it.
use Rattle.std.specs.Prelude.{◌≡◌, ℕ, List, Bool, true, Option, Some, None, is_some, Result, Ok, Err}
use Rattle.call_wire.specs.declared.fault.Fault.{Fault}
use Rattle.call_wire.specs.declared.fault.Fault.TheVariants as fault
use Rattle.call_wire.specs.declared.fault.NoField.{NoField}
use Rattle.ca_model.specs.declared.event.Call.{Call}
use Rattle.ca_model.specs.declared.event.Call.TheVariants as call
use Rattle.ca_model.specs.declared.event.DeviceEvent.{DeviceEvent}
use Rattle.ca_model.specs.declared.event.DeviceEvent.TheVariants as device
use Rattle.ca_model.specs.declared.event.Event.{Event}
use Rattle.ca_model.specs.Fields.{Field}
use Rattle.ca_model.specs.Spelling.{calls, device_events, listed, call_code, call_fields, device_code, device_fields}
use Rattle.ca_model.specs.Spelling.{fields, CodeIsOwn}
use Rattle.call_wire.specs.Reading.{read_fields, call_kinds, device_kinds, read_body, kinds_take_memory, takes_memory}

-- a reader of a field gives, seen by `view`, what reading gives
abbrev pub Gives : {A B : Type 0} → (A → B) → Result A NoField → Option B → Type 0
Gives view (Ok x) read = read ≡ Some (view x)
Gives view (Err f) read = read ≡ None

-- why a reader fails: memory ran out, if reading gives fields of which some take memory; or reading gives nothing
abbrev pub Fails : Fault → Option (List Field) → Bool → Type 0
Fails fault.OutOfMemory read takes = (is_some read ≡ true) × (takes ≡ true)
Fails fault.Malformed read takes = read ≡ None

-- ---- calls

-- a call of a listed code is never read as another
abbrev pub CallIsOwn : Call → Type 0
CallIsOwn (call.Other code tail) = listed code calls ≡ None
CallIsOwn _ = Unit {0}

-- the call has this code, and its fields are all of the bytes
abbrev pub IsCallOf : ℕ → List ℕ → Call → Type 0
IsCallOf code bs x = (call_code x ≡ code) × CallIsOwn x × (read_fields (call_kinds code) bs ≡ Some (call_fields x))

-- a reader that takes no memory gives the call of this code, or the bytes spell none
abbrev pub GivesCall : ℕ → Result Call NoField → List ℕ → Type 0
GivesCall code (Ok x) bs = IsCallOf code bs x
GivesCall code (Err f) bs = read_fields (call_kinds code) bs ≡ None

-- a reader gives the call of this code, or fails
abbrev pub MayGiveCall : ℕ → Result Call Fault → List ℕ → Type 0
MayGiveCall code (Ok x) bs = IsCallOf code bs x
MayGiveCall code (Err f) bs = Fails f (read_fields (call_kinds code) bs) (kinds_take_memory (call_kinds code))

-- ---- device events

-- a device event of a listed code is never read as another
abbrev pub DeviceIsOwn : DeviceEvent → Type 0
DeviceIsOwn (device.Other code tail) = listed code device_events ≡ None
DeviceIsOwn _ = Unit {0}

-- the device event has this code, and its fields are all of the bytes
abbrev pub IsDeviceOf : ℕ → List ℕ → DeviceEvent → Type 0
IsDeviceOf code bs x =
    (device_code x ≡ code) × DeviceIsOwn x × (read_fields (device_kinds code) bs ≡ Some (device_fields x))

-- a reader that takes no memory gives the device event of this code, or the bytes spell none
abbrev pub GivesDevice : ℕ → Result DeviceEvent NoField → List ℕ → Type 0
GivesDevice code (Ok x) bs = IsDeviceOf code bs x
GivesDevice code (Err f) bs = read_fields (device_kinds code) bs ≡ None

-- a reader gives the device event of this code, or fails
abbrev pub MayGiveDevice : ℕ → Result DeviceEvent Fault → List ℕ → Type 0
MayGiveDevice code (Ok x) bs = IsDeviceOf code bs x
MayGiveDevice code (Err f) bs = Fails f (read_fields (device_kinds code) bs) (kinds_take_memory (device_kinds code))

-- ---- events

-- the event's fields are all of the body
abbrev pub IsEventOf : List ℕ → Event → Type 0
IsEventOf body e = CodeIsOwn e × (read_body body ≡ Some (fields e))

-- a reader that takes no memory gives the event of the body, or the body spells none
abbrev pub GivesEvent : Result Event NoField → List ℕ → Type 0
GivesEvent (Ok e) body = IsEventOf body e
GivesEvent (Err f) body = read_body body ≡ None

-- a reader gives the event of the body, or fails
abbrev pub MayGiveEvent : Result Event Fault → List ℕ → Type 0
MayGiveEvent (Ok e) body = IsEventOf body e
MayGiveEvent (Err f) body = Fails f (read_body body) (takes_memory body)
