-- Fields of events, and how each is spelled (the whole file is this project's own; numbers are little-endian).
use Rattle.std.specs.Prelude.{ℕ, ◌^◌, ◌<◌, ◌≤◌, List, [], ◌∷◌, ◌++◌, length}
use Rattle.std.specs.Int.{w16, w32, w64, w128, to_le_bytes, to_be_bytes}
use Rattle.ca_base.specs.declared.limits.TheConstants.{CONNECTIONS, MAX_TEXT}

-- what a field may hold
pub data Kind : Type 0 where
  -- a connection's number, one byte
  connection : Kind
  byte : Kind
  -- numbers of four_bytes and of eight_bytes bytes
  four_bytes : Kind
  eight_bytes : Kind
  -- a GUID, 16 bytes in the order of RFC 9562
  guid : Kind
  -- two bytes of length, at most MAX_TEXT, and as many bytes
  text : Kind
  -- two bytes of length, and as many bytes
  format : Kind
  -- the rest of the event
  rest : Kind

-- what a field holds
pub data Field : Type 0 where
  number : ℕ → Field
  bytes : List ℕ → Field

-- the field is one that its kind may have
abbrev pub Fits : Kind → Field → Type 0
Fits connection (number n) = (0 < n) × (n ≤ CONNECTIONS)
Fits byte (number n) = n < 2 ^ 8
Fits four_bytes (number n) = n < 2 ^ 32
Fits eight_bytes (number n) = n < 2 ^ 64
Fits guid (number n) = n < 2 ^ 128
Fits text (bytes xs) = length xs ≤ MAX_TEXT
Fits format (bytes xs) = length xs < 2 ^ 16
Fits rest (bytes xs) = Unit {0}
Fits connection (bytes xs) = ⊥
Fits byte (bytes xs) = ⊥
Fits four_bytes (bytes xs) = ⊥
Fits eight_bytes (bytes xs) = ⊥
Fits guid (bytes xs) = ⊥
Fits text (number n) = ⊥
Fits format (number n) = ⊥
Fits rest (number n) = ⊥

-- the bytes of a field
abbrev pub field_bytes : Kind → Field → List ℕ
field_bytes connection (number n) = n ∷ []
field_bytes byte (number n) = n ∷ []
field_bytes four_bytes (number n) = to_le_bytes w32 n
field_bytes eight_bytes (number n) = to_le_bytes w64 n
field_bytes guid (number n) = to_be_bytes w128 n
field_bytes text (bytes xs) = to_le_bytes w16 (length xs) ++ xs
field_bytes format (bytes xs) = to_le_bytes w16 (length xs) ++ xs
field_bytes rest (bytes xs) = xs
field_bytes connection (bytes xs) = []
field_bytes byte (bytes xs) = []
field_bytes four_bytes (bytes xs) = []
field_bytes eight_bytes (bytes xs) = []
field_bytes guid (bytes xs) = []
field_bytes text (number n) = []
field_bytes format (number n) = []
field_bytes rest (number n) = []

-- each field is of its kind
abbrev pub AllFit : List Kind → List Field → Type 0
AllFit [] [] = Unit {0}
AllFit (k ∷ ks) (f ∷ fs) = Fits k f × AllFit ks fs
AllFit [] (f ∷ fs) = ⊥
AllFit (k ∷ ks) [] = ⊥

-- the bytes of fields, one after another
abbrev pub fields_bytes : List Kind → List Field → List ℕ
fields_bytes (k ∷ ks) (f ∷ fs) = field_bytes k f ++ fields_bytes ks fs
fields_bytes [] fs = []
fields_bytes (k ∷ ks) [] = []
