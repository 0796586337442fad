-- All fields of the bytes: what is read is spelled so, and what is spelled so is read.
use Rattle.std.proofs.Common.{◌≡◌, ℕ, Bool, true, false, cond, eqb, List, [], ◌∷◌, ◌++◌, length, Option, Some, None}
use Rattle.std.proofs.Common.{refl, sym, ap, subst, ◌∙◌}
use Rattle.std.proofs.lemmas.Bool.{eqb-true}
use Rattle.std.proofs.lemmas.List.{nil_from_length, append-nil}
use Rattle.ca_model.specs.Fields.{Kind, Field, Fits, field_bytes, AllFit, fields_bytes}
use Rattle.ca_model.specs.Fields.Kind.{connection, byte, four_bytes, eight_bytes, guid, text, format, rest}
use Rattle.ca_model.specs.Fields.Field.{number, bytes}
use Rattle.call_wire.specs.Reading.{◌>>=◌, read_field, read_fields}
use Rattle.call_wire.proofs.Numbers.{IsBytes}
use Rattle.call_wire.proofs.Readings.{bind_some, some_is}
use Rattle.call_wire.proofs.OneField.{field_takes, field_again, is_rest}

-- ---- what is read is spelled so

nothing_left : (b : Bool) (fs : List Field) → cond b (Some []) None ≡ Some fs → (b ≡ true) × (fs ≡ [])
nothing_left true fs e = (refl, sym (some_is [] fs e))
nothing_left false fs e = absurd cc

pub fields_take : (ks : List Kind) (bs : List ℕ) (fs : List Field) → IsBytes bs → read_fields ks bs ≡ Some fs
    → AllFit ks fs × (bs ≡ fields_bytes ks fs)
fields_take [] bs fs fits e =
    let t = nothing_left (eqb (length bs) 0) fs e in
    subst (λ (gs : List Field). AllFit [] gs × (bs ≡ fields_bytes [] gs)) (sym t.1)
    (tt, nil_from_length bs (eqb-true _ _ t.0))
fields_take (k ∷ ks) bs fs fits e =
    let a =
    bind_some (read_field k bs) (λ first. read_fields ks first.1 >>= λ others. Some (first.0 ∷ others)) fs e in
    let b = bind_some (read_fields ks a.0.1) (λ others. Some (a.0.0 ∷ others)) fs a.2 in
    let t = field_takes k bs a.0 fits a.1 in
    let r = fields_take ks a.0.1 b.0 t.taken.after_fits b.1 in
    subst (λ (gs : List Field). AllFit (k ∷ ks) gs × (bs ≡ fields_bytes (k ∷ ks) gs)) (some_is (a.0.0 ∷ b.0) fs b.2)
    ((t.fit, r.0), t.taken.parts ∙ ap (λ (xs : List ℕ). field_bytes k a.0.0 ++ xs) r.1)

-- ---- what is spelled so is read

abbrev is_nil : List Kind → Bool
is_nil [] = true
is_nil (k ∷ ks) = false

-- the rest of the event is no field but the last
abbrev pub rest_is_last : List Kind → Bool
rest_is_last [] = true
rest_is_last (k ∷ ks) = cond (is_rest k) (is_nil ks) (rest_is_last ks)

-- fields, and one before them
abbrev pub behind : Field → Option (List Field) → Option (List Field)
behind f read = read >>= λ fs. Some (f ∷ fs)

-- a first field that is read, and what is read behind it
pub then_read : (k : Kind) (ks : List Kind) (bs after : List ℕ) (f : Field) → read_field k bs ≡ Some (f, after)
    → read_fields (k ∷ ks) bs ≡ behind f (read_fields ks after)
then_read k ks bs after f first =
    ap (λ r. r >>= λ (x : Field × List ℕ). read_fields ks x.1 >>= λ gs. Some (x.0 ∷ gs)) first

then_fields : (k : Kind) (ks : List Kind) (bs after : List ℕ) (f : Field) (fs : List Field)
    → read_field k bs ≡ Some (f, after) → read_fields ks after ≡ Some fs → read_fields (k ∷ ks) bs ≡ Some (f ∷ fs)
then_fields k ks bs after f fs first others = then_read k ks bs after f first ∙ ap (behind f) others

rest_again : (f : Field) → Fits rest f → read_field rest (field_bytes rest f ++ []) ≡ Some (f, [])
rest_again (bytes xs) fit = ap (λ (ys : List ℕ). Some (bytes ys, [])) (append-nil xs)
rest_again (number n) fit = absurd fit

ends_again : (ks : List Kind) (f : Field) (fs : List Field) → is_nil ks ≡ true → Fits rest f → AllFit ks fs
    → read_fields (rest ∷ ks) (fields_bytes (rest ∷ ks) (f ∷ fs)) ≡ Some (f ∷ fs)
ends_again [] f [] last fit fits = then_fields rest [] (field_bytes rest f ++ []) [] f [] (rest_again f fit) refl
ends_again [] f (g ∷ fs) last fit fits = absurd fits
ends_again (k ∷ ks) f fs last fit fits = absurd cc

goes_again : (k : Kind) (ks : List Kind) (f : Field) (fs : List Field) → is_rest k ≡ false → Fits k f
    → read_fields ks (fields_bytes ks fs) ≡ Some fs
    → read_fields (k ∷ ks) (fields_bytes (k ∷ ks) (f ∷ fs)) ≡ Some (f ∷ fs)
goes_again k ks f fs plain fit others =
    let tail = fields_bytes ks fs in
    then_fields k ks (field_bytes k f ++ tail) tail f fs (field_again k f tail plain fit) others

pub fields_again : (ks : List Kind) (fs : List Field) → rest_is_last ks ≡ true → AllFit ks fs
    → read_fields ks (fields_bytes ks fs) ≡ Some fs
fields_again [] [] last fits = refl
fields_again [] (f ∷ fs) last fits = absurd fits
fields_again (k ∷ ks) [] last fits = absurd fits
fields_again (connection ∷ ks) (f ∷ fs) last fits =
    goes_again connection ks f fs refl fits.0 (fields_again ks fs last fits.1)
fields_again (byte ∷ ks) (f ∷ fs) last fits = goes_again byte ks f fs refl fits.0 (fields_again ks fs last fits.1)
fields_again (four_bytes ∷ ks) (f ∷ fs) last fits =
    goes_again four_bytes ks f fs refl fits.0 (fields_again ks fs last fits.1)
fields_again (eight_bytes ∷ ks) (f ∷ fs) last fits =
    goes_again eight_bytes ks f fs refl fits.0 (fields_again ks fs last fits.1)
fields_again (guid ∷ ks) (f ∷ fs) last fits = goes_again guid ks f fs refl fits.0 (fields_again ks fs last fits.1)
fields_again (text ∷ ks) (f ∷ fs) last fits = goes_again text ks f fs refl fits.0 (fields_again ks fs last fits.1)
fields_again (format ∷ ks) (f ∷ fs) last fits =
    goes_again format ks f fs refl fits.0 (fields_again ks fs last fits.1)
fields_again (rest ∷ ks) (f ∷ fs) last fits = ends_again ks f fs last fits.0 fits.1
