-- A field that is read is the field that was written, and what was written is read again.
use Rattle.std.proofs.Common.{◌≡◌, ℕ, zero, suc, ◌^◌, ◌<◌, ◌≤◌, Bool, true, false, cond, eqb, ltb, ◌||◌, List, [], ◌∷◌}
use Rattle.std.proofs.Common.{◌++◌, length, take, drop, Option, Some, None, refl, sym, ap, subst, ◌∙◌, arith}
use Rattle.std.specs.Int.{w16, from_le_bytes, to_le_bytes}
use Rattle.std.proofs.lemmas.Bool.{ltb-false, le-ltb, ne_eqb}
use Rattle.std.proofs.lemmas.List.{take_at, drop_at, take-append-drop, length-append, length-take, append-nil}
use Rattle.ca_base.specs.declared.limits.TheConstants.{CONNECTIONS, MAX_FORMAT, MAX_TEXT}
use Rattle.ca_model.specs.Fields.{Kind, Field, Fits, field_bytes}
use Rattle.ca_model.specs.Fields.Kind.{connection, byte, four_bytes, eight_bytes, guid, text, format, rest}
use Rattle.ca_model.specs.Fields.Field.{number, bytes}
use Rattle.call_wire.specs.Reading.{◌>>=◌, bytes_at, number_at, byte_at, connection_at, counted_at, as_field}
use Rattle.call_wire.specs.Reading.{read_field}
use Rattle.call_wire.proofs.Numbers.{IsBytes, IsBytes-drop, IsBytes-take, IsCode, u16_code, u32_code, u64_code}
use Rattle.call_wire.proofs.Numbers.{guid_code}
use Rattle.call_wire.proofs.Readings.{bind_some, guard_some, some_is, byte_is, connection_byte}

-- what a reader took from the front
pub record Takes (bs spelled after : List ℕ) : Type 0 where
  pub parts : bs ≡ spelled ++ after
  pub after_fits : IsBytes after

-- ---- bytes

bytes_take : (n : ℕ) (bs : List ℕ) (x : List ℕ × List ℕ) → IsBytes bs → bytes_at n bs ≡ Some x
    → (length x.0 ≡ n) × IsBytes x.0 × Takes bs x.0 x.1
unfolding bytes_at
bytes_take n bs x fits e =
    let g = guard_some (ltb (length bs) n) (Some (take n bs, drop n bs)) x e in
    let long : n ≤ length bs = ltb-false _ _ g.0 in
    let made : List ℕ × List ℕ = (take n bs, drop n bs) in
    subst (λ (y : List ℕ × List ℕ). (length y.0 ≡ n) × IsBytes y.0 × Takes bs y.0 y.1) (some_is made x g.1) (
      omega (arith, length-take n bs),
      IsBytes-take n bs fits,
      record { parts = sym (take-append-drop n bs); after_fits = IsBytes-drop n bs fits },
    )

bytes_again : (n : ℕ) (xs after : List ℕ) → length xs ≡ n → bytes_at n (xs ++ after) ≡ Some (xs, after)
unfolding bytes_at
bytes_again n xs after len =
    let long : ltb (length (xs ++ after)) n ≡ false = le-ltb _ _ (omega (arith, length-append xs after)) in
    rw (long, take_at xs after n len, drop_at xs after n len) refl

-- ---- numbers, at every width

number_take : {size limit : ℕ} {spell : ℕ → List ℕ} {worth : List ℕ → ℕ} → IsCode size limit spell worth
    → (bs : List ℕ) (x : ℕ × List ℕ) → IsBytes bs → number_at size worth bs ≡ Some x
    → (x.0 < limit) × Takes bs (spell x.0) x.1
unfolding number_at
number_take {size} {limit} {spell} {worth} is bs x fits e =
    let a = bind_some (bytes_at size bs) (λ front. Some (worth front.0, front.1)) x e in
    let t = bytes_take size bs a.0 fits a.1 in
    let made : ℕ × List ℕ = (worth a.0.0, a.0.1) in
    let back = is.back a.0.0 t.0 t.1 in
    subst (λ (y : ℕ × List ℕ). (y.0 < limit) × Takes bs (spell y.0) y.1) (some_is made x a.2) (
      is.below a.0.0 t.0 t.1,
      record { parts = t.2.parts ∙ ap (λ (xs : List ℕ). xs ++ a.0.1) (sym back); after_fits = t.2.after_fits },
    )

number_again : {size limit : ℕ} {spell : ℕ → List ℕ} {worth : List ℕ → ℕ} → IsCode size limit spell worth
    → (n : ℕ) (after : List ℕ) → n < limit → number_at size worth (spell n ++ after) ≡ Some (n, after)
unfolding number_at
number_again {size} {limit} {spell} {worth} is n after lt =
    ap (λ r. r >>= λ (x : List ℕ × List ℕ). Some (worth x.0, x.1)) (bytes_again size (spell n) after (is.len n))
    ∙ ap (λ (v : ℕ). Some (v, after)) (is.again n lt)

-- ---- a count and as many bytes, at every limit

counted_take : (limit : ℕ) (bs : List ℕ) (x : List ℕ × List ℕ) → IsBytes bs → counted_at limit bs ≡ Some x
    → (length x.0 ≤ limit) × Takes bs (to_le_bytes w16 (length x.0) ++ x.0) x.1
unfolding counted_at
counted_take limit bs x fits e =
    let a =
    bind_some (number_at 2 (from_le_bytes w16) bs)
    (λ count. cond (ltb limit count.0) None (bytes_at count.0 count.1)) x e in
    let g = guard_some (ltb limit a.0.0) (bytes_at a.0.0 a.0.1) x a.2 in
    let small : a.0.0 ≤ limit = ltb-false _ _ g.0 in
    let n = number_take u16_code bs a.0 fits a.1 in
    let t = bytes_take a.0.0 a.0.1 x n.1.after_fits g.1 in
    let count : to_le_bytes w16 a.0.0 ≡ to_le_bytes w16 (length x.0) = ap (to_le_bytes w16) (sym t.0) in (
      omega (arith, small, t.0),
      record {
        parts =
            n.1.parts
            ∙ ap (λ (r : List ℕ). to_le_bytes w16 a.0.0 ++ r) t.2.parts
            ∙ ap (λ (c : List ℕ). c ++ x.0 ++ x.1) count;
        after_fits = t.2.after_fits;
      },
    )

format_take : (bs : List ℕ) (x : List ℕ × List ℕ) → IsBytes bs → counted_at MAX_FORMAT bs ≡ Some x
    → (length x.0 < 2 ^ 16) × Takes bs (to_le_bytes w16 (length x.0) ++ x.0) x.1
format_take bs x fits e = let t = counted_take MAX_FORMAT bs x fits e in (omega (arith, t.0), t.1)

counted_again : (limit : ℕ) (xs after : List ℕ) → length xs ≤ limit → length xs < 2 ^ 16
    → counted_at limit (to_le_bytes w16 (length xs) ++ xs ++ after) ≡ Some (xs, after)
unfolding counted_at
counted_again limit xs after le lt =
    let small : ltb limit (length xs) ≡ false = le-ltb _ _ le in
    ap (λ r. r >>= λ (count : ℕ × List ℕ). cond (ltb limit count.0) None (bytes_at count.0 count.1))
    (number_again u16_code (length xs) (xs ++ after) lt)
    ∙ ap (λ (b : Bool). cond b None (bytes_at (length xs) (xs ++ after))) small
    ∙ bytes_again (length xs) xs after refl

-- ---- connections

or_false : (a b : Bool) → (a || b) ≡ false → (a ≡ false) × (b ≡ false)
or_false false b h = (refl, h)
or_false true b h = absurd cc

not_zero : (n : ℕ) → eqb n 0 ≡ false → 0 < n
not_zero zero h = absurd cc
not_zero (suc n) h = omega arith

IsBytes-rest : (n : ℕ) (bs : List ℕ) → IsBytes (n ∷ bs) → IsBytes bs
IsBytes-rest n bs h i = h (suc i)

byte_take : (bs : List ℕ) (x : ℕ × List ℕ) → IsBytes bs → byte_at bs ≡ Some x
    → (x.0 < 2 ^ 8) × Takes bs (x.0 ∷ []) x.1
byte_take bs x fits e =
    let parts = byte_is bs x e in
    let whole : IsBytes (x.0 ∷ x.1) = subst (λ (xs : List ℕ). IsBytes xs) parts fits in
    (whole 0, record { parts = parts; after_fits = IsBytes-rest x.0 x.1 whole })

connection_take : (bs : List ℕ) (x : ℕ × List ℕ) → IsBytes bs → connection_at bs ≡ Some x
    → ((0 < x.0) × (x.0 ≤ CONNECTIONS)) × Takes bs (x.0 ∷ []) x.1
connection_take bs x fits e =
    let found = connection_byte bs x e in
    let t = or_false (eqb x.0 0) (ltb CONNECTIONS x.0) found.1 in
    ((not_zero x.0 t.0, ltb-false _ _ t.1), (byte_take bs x fits found.0).1)

byte_again : (n : ℕ) (after : List ℕ) → byte_at (n ∷ after) ≡ Some (n, after)
unfolding byte_at
byte_again n after = refl

connection_again : (n : ℕ) (after : List ℕ) → (0 < n) × (n ≤ CONNECTIONS)
    → connection_at (n ∷ after) ≡ Some (n, after)
unfolding connection_at
connection_again n after h =
    let some : eqb n 0 ≡ false = ne_eqb n 0 (λ e. omega (arith, h.0, e)) in
    ap (λ r. r >>= λ (x : ℕ × List ℕ). cond (eqb x.0 0 || ltb CONNECTIONS x.0) None (Some x)) (byte_again n after)
    ∙ ap (λ (b : Bool). cond (b || ltb CONNECTIONS n) None (Some (n, after))) some
    ∙ ap (λ (b : Bool). cond (false || b) None (Some (n, after))) (le-ltb _ _ h.1)

-- ---- what is read is spelled so

-- a field that is read
pub record FieldTaken (k : Kind) (bs : List ℕ) (f : Field) (after : List ℕ) : Type 0 where
  pub fit : Fits k f
  pub taken : Takes bs (field_bytes k f) after

-- a field made of what was read
made_field : {A : Type 0} (k : Kind) (bs : List ℕ) (make : A → Field) (read : Option (A × List ℕ))
    → ((y : A × List ℕ) → read ≡ Some y → Fits k (make y.0) × Takes bs (field_bytes k (make y.0)) y.1)
    → (x : Field × List ℕ) → as_field make read ≡ Some x → FieldTaken k bs x.0 x.1
made_field k bs make read from x e =
    let a = bind_some read (λ y. Some (make y.0, y.1)) x e in
    let t = from a.0 a.1 in
    subst (λ (y : Field × List ℕ). FieldTaken k bs y.0 y.1) (some_is (make a.0.0, a.0.1) x a.2)
    (record { fit = t.0; taken = t.1 })

pub field_takes : (k : Kind) (bs : List ℕ) (x : Field × List ℕ) → IsBytes bs → read_field k bs ≡ Some x
    → FieldTaken k bs x.0 x.1
field_takes connection bs x fits e =
    made_field connection bs number _ (λ y found. connection_take bs y fits found) x e
field_takes byte bs x fits e = made_field byte bs number _ (λ y found. byte_take bs y fits found) x e
field_takes four_bytes bs x fits e =
    made_field four_bytes bs number _ (λ y found. number_take u32_code bs y fits found) x e
field_takes eight_bytes bs x fits e =
    made_field eight_bytes bs number _ (λ y found. number_take u64_code bs y fits found) x e
field_takes guid bs x fits e =
    made_field guid bs number _ (λ y found. number_take guid_code bs y fits found) x e
field_takes text bs x fits e =
    made_field text bs bytes _ (λ y found. counted_take MAX_TEXT bs y fits found) x e
field_takes format bs x fits e =
    made_field format bs bytes _ (λ y found. format_take bs y fits found) x e
field_takes rest bs x fits e =
    subst (λ (y : Field × List ℕ). FieldTaken rest bs y.0 y.1) (some_is (bytes bs, []) x e)
    (record { fit = tt; taken = record { parts = sym (append-nil bs); after_fits = λ i. omega arith } })

-- ---- what is spelled so is read

-- only the last field may be the rest
abbrev pub is_rest : Kind → Bool
is_rest connection = false
is_rest byte = false
is_rest four_bytes = false
is_rest eight_bytes = false
is_rest guid = false
is_rest text = false
is_rest format = false
is_rest rest = true

pub field_again : (k : Kind) (f : Field) (after : List ℕ) → is_rest k ≡ false → Fits k f
    → read_field k (field_bytes k f ++ after) ≡ Some (f, after)
field_again connection (number n) after h fit = ap (as_field number) (connection_again n after fit)
field_again byte (number n) after h fit = ap (as_field number) (byte_again n after)
field_again four_bytes (number n) after h fit = ap (as_field number) (number_again u32_code n after fit)
field_again eight_bytes (number n) after h fit = ap (as_field number) (number_again u64_code n after fit)
field_again guid (number n) after h fit = ap (as_field number) (number_again guid_code n after fit)
field_again text (bytes xs) after h fit = ap (as_field bytes) (counted_again MAX_TEXT xs after fit (omega arith))
field_again format (bytes xs) after h fit = ap (as_field bytes) (counted_again MAX_FORMAT xs after (omega arith) fit)
field_again rest f after h fit = absurd cc
field_again connection (bytes xs) after h fit = absurd fit
field_again byte (bytes xs) after h fit = absurd fit
field_again four_bytes (bytes xs) after h fit = absurd fit
field_again eight_bytes (bytes xs) after h fit = absurd fit
field_again guid (bytes xs) after h fit = absurd fit
field_again text (number n) after h fit = absurd fit
field_again format (number n) after h fit = absurd fit
