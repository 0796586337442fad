-- What holds of the spelling of events (this project's own wire form). Public contracts cite it.
use Rattle.std.specs.Prelude.{◌≡◌, ℕ, ◌<◌, List, ◌++◌, map, Some, slice_index}
use Rattle.std.specs.List.{AllByRecursion}
use Rattle.ca_model.specs.declared.event.Event.{Event}
use Rattle.ca_model.specs.Fields.{Field, AllFit}
use Rattle.ca_model.specs.Spelling.{kinds, fields, body, frame, frames, IsEvent, IsIncomplete, IsMalformed, Begins}
use Rattle.ca_model.specs.Spelling.{NoEvent, Cut}
use Rattle.call_wire.specs.Reading.{read_body}

-- ---- bodies

-- what an event spells is read again
abbrev pub ReadingUndoesSpelling : Type 0
ReadingUndoesSpelling = (e : Event) → IsEvent e → read_body (body e) ≡ Some (fields e)

-- bytes in which an event's fields are read are what the event spells
abbrev pub SpellingUndoesReading : Type 0
SpellingUndoesReading =
    (e : Event) (bs : List ℕ) → ((i : ℕ) → slice_index bs i < 256) → read_body bs ≡ Some (fields e)
    → AllFit (kinds e) (fields e) × (body e ≡ bs)

-- the fields tell their kinds
abbrev pub FieldsTellKinds : Type 0
FieldsTellKinds = (a b : Event) → fields a ≡ fields b → kinds a ≡ kinds b

-- ---- one frame

-- no spelling begins another: if two frames are at the front of the same bytes, the events have the same fields
abbrev pub OneSpelling : Type 0
OneSpelling =
    (a b : Event) (x y : List ℕ) → IsEvent a → IsEvent b → frame a ++ x ≡ frame b ++ y
    → (fields a ≡ fields b) × (x ≡ y)

-- bytes are not two of these: an incomplete prefix, the beginning of an event, malformed
abbrev pub FrontsAreApart : Type 0
FrontsAreApart =
    (bs : List ℕ) → (IsIncomplete bs → IsMalformed bs → ⊥)
    × ((e : Event) → IsIncomplete bs → Begins e bs → ⊥)
    × ((e : Event) → Begins e bs → IsMalformed bs → ⊥)

-- an incomplete prefix holds no event
abbrev pub IncompleteHasNone : Type 0
IncompleteHasNone = (bs : List ℕ) → IsIncomplete bs → NoEvent bs

-- an event at the front stays there, whatever follows
abbrev pub BegunStays : Type 0
BegunStays = (e : Event) (bs more : List ℕ) → Begins e bs → Begins e (bs ++ more)

-- a malformed front stays malformed, whatever follows
abbrev pub MalformedStays : Type 0
MalformedStays = (bs more : List ℕ) → IsMalformed bs → IsMalformed (bs ++ more)

-- ---- many frames

-- an input has one cut, but for the memory that the events have taken
abbrev pub OneCut : Type 0
OneCut =
    (input : List ℕ) (one other : List Event) (x y : List ℕ) → Cut input one x → Cut input other y
    → (map fields one ≡ map fields other) × (x ≡ y)

-- any events whose spellings are at the front are the first of the cut's
abbrev pub CutIsLongest : Type 0
CutIsLongest =
    (input : List ℕ) (all some : List Event) (tail after : List ℕ) → Cut input all tail
    → AllByRecursion IsEvent some → input ≡ frames some ++ after
    → (others : List (List Field)) × (map fields all ≡ map fields some ++ others)

-- events and a cut of what is behind them are a cut of the whole
abbrev pub CutsJoin : Type 0
CutsJoin =
    (before after : List Event) (bs tail : List ℕ) → AllByRecursion IsEvent before → Cut bs after tail
    → Cut (frames before ++ bs) (before ++ after) tail
