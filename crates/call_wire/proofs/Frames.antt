-- A frame at the front of some bytes.
use Rattle.std.proofs.Common.{◌≡◌, ℕ, ◌+◌, ◌^◌, ◌<◌, ◌≤◌, List, ◌++◌, length, take, drop, Some, None, refl, sym, ap}
use Rattle.std.proofs.Common.{subst, ◌∙◌, append_assoc, arith}
use Rattle.std.specs.Int.{w32, to_le_bytes}
use Rattle.std.proofs.lemmas.List.{take_at, take-append-drop, length-append, length-take, length-drop}
use Rattle.ca_base.specs.declared.limits.TheConstants.{LENGTH_SIZE, LONGEST_BODY}
use Rattle.ca_model.specs.declared.event.Event.{Event}
use Rattle.ca_model.specs.declared.event.Event.TheVariants as event
use Rattle.ca_model.specs.Spelling.{fields, body, frame, IsEvent, CodeIsOwn, stated_length, IsIncomplete, Begins}
use Rattle.ca_model.specs.Spelling.{NoEvent, IsMalformed}
use Rattle.ca_model.specs.Spelling.IsIncomplete.{no_length, no_body}
use Rattle.call_wire.specs.Reading.{read_body}
use Rattle.call_wire.specs.Next.{IsWhole, stated_body}
use Rattle.call_wire.proofs.Numbers.{IsBytes, IsBytes-drop, IsBytes-take, u32_code}
use Rattle.call_wire.proofs.Bodies.{body_takes, body_again}

pub body_some : (e : Event) → 0 < length (body e)
body_some (event.Open c pid name) = omega arith
body_some (event.Hangup c) = omega arith
body_some (event.Call c tag x) = omega arith
body_some (event.Period e) = omega arith
body_some (event.Device x) = omega arith
body_some event.Shutdown = omega arith

pub frame_length : (e : Event) → length (frame e) ≡ LENGTH_SIZE + length (body e)
frame_length e = length-append (to_le_bytes w32 (length (body e))) (body e)

-- an event's frame, and what is behind it
pub stated_in : (e : Event) (after : List ℕ) → IsEvent e → stated_length (frame e ++ after) ≡ length (body e)
stated_in e after is =
    let small : length (body e) < 2 ^ 32 = omega (arith, is.within) in
    ap stated_length (append_assoc (to_le_bytes w32 (length (body e))) (body e) after)
    ∙ u32_code.again (length (body e)) small

pub body_in : (e : Event) (after : List ℕ) → take (length (body e)) (drop LENGTH_SIZE (frame e ++ after)) ≡ body e
body_in e after = take_at (body e) after (length (body e)) refl

-- if an event begins, its frame is at the front and something behind it
begins_parts : (e : Event) (bs : List ℕ) → Begins e bs → bs ≡ frame e ++ drop (length (frame e)) bs
begins_parts e bs b =
    let after = drop (length (frame e)) bs in
    sym (take-append-drop (length (frame e)) bs) ∙ ap (λ (xs : List ℕ). xs ++ after) b.front

-- what the first bytes are if an event begins
pub record IsFrontOf (e : Event) (bs : List ℕ) : Type 0 where
  pub stated : stated_length bs ≡ length (body e)
  pub long : LENGTH_SIZE + length (body e) ≤ length bs
  pub has_body : stated_body bs ≡ body e

pub front_of : (e : Event) (bs : List ℕ) → Begins e bs → IsFrontOf e bs
front_of e bs b =
    let after = drop (length (frame e)) bs in
    let stated = stated_in e after b.spelled in
    let whole : IsFrontOf e (frame e ++ after) = record {
      stated = stated;
      long = omega (arith, length-append (frame e) after, frame_length e);
      has_body = ap (λ (n : ℕ). take n (drop LENGTH_SIZE (frame e ++ after))) stated ∙ body_in e after;
    } in
    subst (λ (xs : List ℕ). IsFrontOf e xs) (sym (begins_parts e bs b)) whole

-- ---- malformed

-- a whole frame that is no event
pub none_read : (bs : List ℕ) → IsWhole bs → read_body (stated_body bs) ≡ None → IsMalformed bs
none_read bs (some, valid, long) nothing = record { whole = not_incomplete; none = no_event }
  where
    not_incomplete : IsIncomplete bs → ⊥
    not_incomplete (no_length less) = omega arith
    not_incomplete (no_body some valid less) = omega arith

    apart : {A : Type 0} (x : A) → None ≡ Some x → ⊥
    apart x h = cc

    no_event : NoEvent bs
    no_event e b =
        let t = front_of e bs b in
        apart (fields e) (sym nothing ∙ ap read_body t.has_body ∙ body_again e b.spelled.fit)

-- a length that no frame states
pub never_valid : (bs : List ℕ) → LENGTH_SIZE ≤ length bs
    → (0 < stated_length bs → stated_length bs ≤ LONGEST_BODY → ⊥) → IsMalformed bs
never_valid bs long invalid = record { whole = not_incomplete; none = no_event }
  where
    not_incomplete : IsIncomplete bs → ⊥
    not_incomplete (no_length less) = omega arith
    not_incomplete (no_body some valid less) = invalid some valid

    no_event : NoEvent bs
    no_event e b =
        let stated = (front_of e bs b).stated in
        invalid (omega (arith, stated, body_some e)) (omega (arith, stated, b.spelled.within))

-- ---- an event that was read

-- the first bytes of a list in two pieces
two_fronts : (m n : ℕ) (bs : List ℕ) → m + n ≤ length bs → take (m + n) bs ≡ take m bs ++ take n (drop m bs)
two_fronts m n bs long =
    let front = take m bs in
    let middle = take n (drop m bs) in
    let after = drop n (drop m bs) in
    let whole : bs ≡ (front ++ middle) ++ after =
    sym (take-append-drop m bs)
    ∙ ap (λ (xs : List ℕ). front ++ xs) (sym (take-append-drop n (drop m bs)))
    ∙ sym (append_assoc front middle after) in
    let len : length (front ++ middle) ≡ m + n =
    omega (arith, length-append front middle, length-take m bs, length-take n (drop m bs), length-drop m bs) in
    ap (take (m + n)) whole ∙ take_at (front ++ middle) after (m + n) len

pub event_read : (e : Event) (bs : List ℕ) → IsBytes bs → IsWhole bs → CodeIsOwn e
    → read_body (stated_body bs) ≡ Some (fields e)
    → IsEvent e × (take (LENGTH_SIZE + stated_length bs) bs ≡ frame e)
event_read e bs fits (some, valid, long) own h =
    let n = stated_length bs in
    let front = take LENGTH_SIZE bs in
    let behind = drop LENGTH_SIZE bs in
    let t = body_takes e (take n behind) (IsBytes-take n behind (IsBytes-drop LENGTH_SIZE bs fits)) h in
    let whole : length (take n behind) ≡ n = omega (arith, length-take n behind, length-drop LENGTH_SIZE bs) in
    let len : length (body e) ≡ n = ap length (sym t.1) ∙ whole in
    let four : length front ≡ LENGTH_SIZE = omega (arith, length-take LENGTH_SIZE bs) in
    let head : to_le_bytes w32 (length (body e)) ≡ front =
    ap (to_le_bytes w32) len ∙ u32_code.back front four (IsBytes-take LENGTH_SIZE bs fits) in (
      record { fit = t.0; own = own; within = omega (arith, len) },
      two_fronts LENGTH_SIZE n bs long
          ∙ ap (λ (xs : List ℕ). xs ++ take n behind) (sym head)
          ∙ ap (λ (xs : List ℕ). to_le_bytes w32 (length (body e)) ++ xs) t.1,
    )
