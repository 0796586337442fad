-- Reading the fields of an event from left to right (the whole file is this project's own wire form): `None` if the
-- bytes don't spell such fields. Laws say that reading undoes spelling, and spelling undoes reading. Public contracts
-- cite it.
use Rattle.std.specs.Prelude.{ℕ, List, [], ◌∷◌, length, take, drop, Bool, true, false, Option, Some, None, nat_lt, ◌==◌}
use Rattle.std.specs.Prelude.{◌||◌, if◌then◌else◌, slice_index}
use Rattle.std.specs.List.{list_any}
use Rattle.std.specs.Int.{w16, w32, w64, w128, from_le_bytes, from_be_bytes}
use Rattle.std.specs.Option.{option_map_or}
use Rattle.ca_base.specs.declared.limits.TheConstants.{CONNECTIONS, MAX_FORMAT, MAX_TEXT}
use Rattle.ca_base.specs.declared.values.TheConstants.{KIND_OPEN, KIND_HANGUP, KIND_CALL, KIND_PERIOD, KIND_DEVICE}
use Rattle.ca_base.specs.declared.values.TheConstants.{KIND_SHUTDOWN}
use Rattle.ca_model.specs.Fields.{Kind, Field}
use Rattle.ca_model.specs.Fields.Kind.{connection, byte, four_bytes, eight_bytes, guid, text, format, rest}
use Rattle.ca_model.specs.Fields.Field.{number, bytes}
use Rattle.ca_model.specs.Spelling.{calls, device_events, listed, or_rest}

infixl 10 ◌>>=◌
-- what was read goes into the next step
abbrev pub ◌>>=◌ : {A B : Type 0} → Option A → (A → Option B) → Option B
None >>= f = None
(Some x) >>= f = f x

-- ---- what is at the front, and the bytes after it

-- `size` bytes
unfoldable pub bytes_at : ℕ → List ℕ → Option (List ℕ × List ℕ)
bytes_at size bs = if nat_lt (length bs) size then None else Some (take size bs, drop size bs)

-- a number of `size` bytes, by what they are worth
unfoldable pub number_at : ℕ → (List ℕ → ℕ) → List ℕ → Option (ℕ × List ℕ)
number_at size worth bs = do
  front ← bytes_at size bs
  Some (worth front.0, front.1)

-- one byte
unfoldable pub byte_at : List ℕ → Option (ℕ × List ℕ)
byte_at [] = None
byte_at (n ∷ bs) = Some (n, bs)

-- a connection's number, from 1 to CONNECTIONS
unfoldable pub connection_at : List ℕ → Option (ℕ × List ℕ)
connection_at bs = do
  n ← byte_at bs
  if n.0 == 0 || nat_lt CONNECTIONS n.0 then None else Some n

-- a count of two bytes, at most `limit`, and as many bytes
unfoldable pub counted_at : ℕ → List ℕ → Option (List ℕ × List ℕ)
counted_at limit bs = do
  count ← number_at 2 (from_le_bytes w16) bs
  if nat_lt limit count.0 then None else bytes_at count.0 count.1

-- ---- fields

-- what was read, made a field
abbrev pub as_field : {A : Type 0} → (A → Field) → Option (A × List ℕ) → Option (Field × List ℕ)
as_field make read = do
  x ← read
  Some (make x.0, x.1)

-- a field of this kind, and the bytes after it
abbrev pub read_field : Kind → List ℕ → Option (Field × List ℕ)
read_field connection bs = as_field number (connection_at bs)
read_field byte bs = as_field number (byte_at bs)
read_field four_bytes bs = as_field number (number_at 4 (from_le_bytes w32) bs)
read_field eight_bytes bs = as_field number (number_at 8 (from_le_bytes w64) bs)
read_field guid bs = as_field number (number_at 16 (from_be_bytes w128) bs)
read_field text bs = as_field bytes (counted_at MAX_TEXT bs)
read_field format bs = as_field bytes (counted_at MAX_FORMAT bs)
read_field rest bs = Some (bytes bs, [])

-- fields of these kinds, which are all of the bytes
abbrev pub read_fields : List Kind → List ℕ → Option (List Field)
read_fields [] bs = if length bs == 0 then Some [] else None
read_fields (k ∷ ks) bs = do
  first ← read_field k bs
  others ← read_fields ks first.1
  Some (first.0 ∷ others)

-- ---- the body of a frame

-- the kinds of the fields behind a call's code
abbrev pub call_kinds : ℕ → List Kind
call_kinds code = or_rest (listed code calls)

-- the kinds of the fields behind a device event's code
abbrev pub device_kinds : ℕ → List Kind
device_kinds code = or_rest (listed code device_events)

-- the kinds of the fields behind an event's kind, for the code of a call or of a device event
abbrev pub event_kinds : ℕ → ℕ → Option (List Kind)
event_kinds kind code =
    if kind == KIND_OPEN then Some (connection ∷ four_bytes ∷ text ∷ [])
    else if kind == KIND_HANGUP then Some (connection ∷ [])
    else if kind == KIND_CALL then Some (connection ∷ four_bytes ∷ byte ∷ call_kinds code)
    else if kind == KIND_PERIOD then Some (four_bytes ∷ [])
    else if kind == KIND_DEVICE then Some (byte ∷ device_kinds code)
    else if kind == KIND_SHUTDOWN then Some []
    else None

-- where a code is in a body: a call's behind the kind, the connection and the tag, a device event's behind the kind
abbrev pub code_place : ℕ → ℕ
code_place kind = if kind == KIND_CALL then 6 else 1

-- the kinds of the fields behind a body's first byte, which is the event's kind
abbrev pub body_kinds : List ℕ → Option (List Kind)
body_kinds bs = event_kinds (slice_index bs 0) (slice_index bs (code_place (slice_index bs 0)))

-- the fields of a body
abbrev pub read_body : List ℕ → Option (List Field)
read_body bs = do
  kinds ← body_kinds bs
  read_fields (byte ∷ kinds) bs

-- ---- memory

-- whether a field of this kind is kept on the heap: the frame alone bounds its length
abbrev pub is_growable : Kind → Bool
is_growable format = true
is_growable rest = true
is_growable _ = false

-- whether fields of these kinds take memory
abbrev pub kinds_take_memory : List Kind → Bool
kinds_take_memory ks = list_any is_growable ks

-- whether the event of a body takes memory
abbrev pub takes_memory : List ℕ → Bool
takes_memory bs = option_map_or kinds_take_memory (body_kinds bs) false
