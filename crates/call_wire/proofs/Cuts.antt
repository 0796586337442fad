-- The laws on frames, one and many.
use Rattle.std.proofs.Common.{◌≡◌, ℕ, ◌+◌, ◌<◌, ◌≤◌, List, [], ◌∷◌, ◌++◌, length, take, drop, map}
use Rattle.std.proofs.Common.{Some, refl, sym, ap, subst, ◌∙◌, append_assoc, arith, inl, inr}
use Rattle.std.specs.List.{AllByRecursion}
use Rattle.std.specs.Int.{w32, from_le_bytes}
use Rattle.std.proofs.lemmas.Bool.{cases_lt}
use Rattle.std.proofs.lemmas.List.{take_at, drop_at, take-append-le, length-append}
use Rattle.std.proofs.lemmas.List.Concat.{flat_map-cons}
use Rattle.ca_base.specs.declared.limits.TheConstants.{LENGTH_SIZE, LONGEST_BODY}
use Rattle.ca_model.specs.declared.event.Event.{Event}
use Rattle.ca_model.specs.Fields.{Field}
use Rattle.ca_model.specs.Spelling.{fields, body, frame, frames, IsEvent, stated_length, IsIncomplete, Begins}
use Rattle.ca_model.specs.Spelling.{NoEvent}
use Rattle.ca_model.specs.Spelling.IsIncomplete.{no_length, no_body}
use Rattle.call_wire.specs.Reading.{read_body}
use Rattle.call_wire.specs.Laws.{ReadingUndoesSpelling, SpellingUndoesReading, OneSpelling, MalformedStays, OneCut}
use Rattle.call_wire.specs.Laws.{CutIsLongest}
use Rattle.call_wire.proofs.Readings.{some_is}
use Rattle.call_wire.proofs.Bodies.{body_takes, body_again}
use Rattle.call_wire.proofs.Frames.{body_some, frame_length, stated_in, body_in, front_of}

-- ---- bodies

pub reading_undoes_spelling : ReadingUndoesSpelling
reading_undoes_spelling e is = body_again e is.fit

pub spelling_undoes_reading : SpellingUndoesReading
spelling_undoes_reading e bs fits h = let t = body_takes e bs fits h in (t.0, sym t.1)

-- ---- one frame

pub one_spelling : OneSpelling
one_spelling a b x y a_is b_is e =
    let len : length (body a) ≡ length (body b) = sym (stated_in a x a_is) ∙ ap stated_length e ∙ stated_in b y b_is in
    let same : body a ≡ body b =
    sym (body_in a x)
    ∙ ap (λ (n : ℕ). take n (drop LENGTH_SIZE (frame a ++ x))) len
    ∙ ap (λ (bs : List ℕ). take (length (body b)) (drop LENGTH_SIZE bs)) e
    ∙ body_in b y in
    let read : Some (fields a) ≡ Some (fields b) =
    sym (body_again a a_is.fit) ∙ ap read_body same ∙ body_again b b_is.fit in
    let long : length (frame a) ≡ length (frame b) =
    frame_length a ∙ ap (λ (n : ℕ). LENGTH_SIZE + n) len ∙ sym (frame_length b) in
    let behind : x ≡ y =
    sym (drop_at (frame a) x (length (frame a)) refl)
    ∙ ap (λ (n : ℕ). drop n (frame a ++ x)) long
    ∙ ap (drop (length (frame b))) e
    ∙ drop_at (frame b) y (length (frame b)) refl in
    (some_is (fields a) (fields b) read, behind)

begins_from : (e : Event) (after : List ℕ) → IsEvent e → Begins e (frame e ++ after)
begins_from e after is = record { spelled = is; front = take_at (frame e) after (length (frame e)) refl }

-- as many bytes as the front has are the same with more behind
front_same : (n : ℕ) (bs more : List ℕ) → n ≤ length bs → take n (bs ++ more) ≡ take n bs
front_same n bs more le = take-append-le n bs more le

-- a front that isn't incomplete has its length, and as many bytes
not_incomplete : (bs : List ℕ) (n : ℕ) → (IsIncomplete bs → ⊥) → 0 < n → n ≤ LONGEST_BODY
    → (LENGTH_SIZE ≤ length bs → stated_length bs ≡ n) → LENGTH_SIZE + n ≤ length bs
not_incomplete bs n whole some valid stated =
    elim (cases_lt (length bs) LENGTH_SIZE) [
      | inl lt ↦ absurd (whole (no_length lt))
      | inr le ↦ elim (cases_lt (length bs) (LENGTH_SIZE + n)) [
        | inl lt ↦ let is = stated le in absurd (whole (no_body (omega arith) (omega arith) (omega arith)))
        | inr long ↦ long
      ]
    ]

stated_same : (bs more : List ℕ) → LENGTH_SIZE ≤ length bs → stated_length (bs ++ more) ≡ stated_length bs
stated_same bs more le = ap (from_le_bytes w32) (front_same LENGTH_SIZE bs more le)

pub malformed_stays : MalformedStays
malformed_stays bs more malformed = record { whole = long; none = never }
  where
    long : IsIncomplete (bs ++ more) → ⊥
    long (no_length lt) = malformed.whole (no_length (omega (arith, length-append bs more)))
    long (no_body some valid lt) =
        let n = stated_length (bs ++ more) in
        let all = not_incomplete bs n malformed.whole some valid (λ le. sym (stated_same bs more le)) in
        omega (arith, length-append bs more)

    never : NoEvent (bs ++ more)
    never e begun =
        let t = front_of e (bs ++ more) begun in
        let n = length (body e) in
        let stated : LENGTH_SIZE ≤ length bs → stated_length bs ≡ n = λ le. sym (stated_same bs more le) ∙ t.stated in
        let all = not_incomplete bs n malformed.whole (body_some e) begun.spelled.within stated in
        let same = front_same (length (frame e)) bs more (omega (arith, frame_length e)) in
        malformed.none e (record { spelled = begun.spelled; front = sym same ∙ begun.front })

-- ---- many frames

frames_of : (e : Event) (es : List Event) (tail : List ℕ) → frames (e ∷ es) ++ tail ≡ frame e ++ (frames es ++ tail)
frames_of e es tail =
    ap (λ (xs : List ℕ). xs ++ tail) (flat_map-cons frame e es) ∙ append_assoc (frame e) (frames es) tail

begun_in : (e : Event) (es : List Event) (tail : List ℕ) → IsEvent e → Begins e (frames (e ∷ es) ++ tail)
begun_in e es tail is =
    subst (λ (bs : List ℕ). Begins e bs) (sym (frames_of e es tail)) (begins_from e (frames es ++ tail) is)

next_same : (a b : Event) (es fs : List Event) (x y : List ℕ) → IsEvent a → IsEvent b
    → frames (a ∷ es) ++ x ≡ frames (b ∷ fs) ++ y → (fields a ≡ fields b) × (frames es ++ x ≡ frames fs ++ y)
next_same a b es fs x y a_is b_is e =
    one_spelling a b (frames es ++ x) (frames fs ++ y) a_is b_is (sym (frames_of a es x) ∙ e ∙ frames_of b fs y)

-- nothing begins what another list of events ends before
none_more : (e : Event) (es : List Event) (x y : List ℕ) → IsEvent e → NoEvent x → x ≡ frames (e ∷ es) ++ y → ⊥
none_more e es x y is none h = none e (subst (λ (bs : List ℕ). Begins e bs) (sym h) (begun_in e es y is))

cuts_agree : (es fs : List Event) (x y : List ℕ) → AllByRecursion IsEvent es → AllByRecursion IsEvent fs
    → NoEvent x → NoEvent y → frames es ++ x ≡ frames fs ++ y → (map fields es ≡ map fields fs) × (x ≡ y)
cuts_agree [] [] x y es_are fs_are none_x none_y h = (refl, h)
cuts_agree [] (f ∷ fs) x y es_are fs_are none_x none_y h = absurd (none_more f fs x y fs_are.0 none_x h)
cuts_agree (e ∷ es) [] x y es_are fs_are none_x none_y h = absurd (none_more e es y x es_are.0 none_y (sym h))
cuts_agree (e ∷ es) (f ∷ fs) x y es_are fs_are none_x none_y h =
    let one = next_same e f es fs x y es_are.0 fs_are.0 h in
    let others = cuts_agree es fs x y es_are.1 fs_are.1 none_x none_y one.1 in (
      ap (λ (first : List Field). first ∷ map fields es) one.0
          ∙ ap (λ (gs : List (List Field)). fields f ∷ gs) others.0,
      others.1,
    )

pub one_cut : OneCut
one_cut input one other x y p q =
    cuts_agree one other x y p.each q.each p.longest_list q.longest_list (sym p.whole ∙ q.whole)

-- one list of events is the beginning of another, but for the memory that they have taken
abbrev Longer : List Event → List Event → Type 0
Longer es fs = (others : List (List Field)) × (map fields es ≡ map fields fs ++ others)

longer : (es fs : List Event) (x y : List ℕ) → AllByRecursion IsEvent es → AllByRecursion IsEvent fs → NoEvent x
    → frames es ++ x ≡ frames fs ++ y → Longer es fs
longer es [] x y es_are fs_are none h = (map fields es, refl)
longer [] (f ∷ fs) x y es_are fs_are none h = absurd (none_more f fs x y fs_are.0 none h)
longer (e ∷ es) (f ∷ fs) x y es_are fs_are none h =
    let one = next_same e f es fs x y es_are.0 fs_are.0 h in
    let others = longer es fs x y es_are.1 fs_are.1 none one.1 in (
      others.0,
      ap (λ (first : List Field). first ∷ map fields es) one.0
          ∙ ap (λ (gs : List (List Field)). fields f ∷ gs) others.1,
    )

pub cut_is_longest : CutIsLongest
cut_is_longest input all some tail after cut some_are whole =
    longer all some tail after cut.each some_are cut.longest_list (sym cut.whole ∙ whole)
