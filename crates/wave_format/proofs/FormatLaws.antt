-- What is written is read, and what is read is written.
use Rattle.std.proofs.Common.{◌≡◌, ℕ, ◌+◌, ◌*◌, ◌^◌, ◌<◌, ◌≤◌, ◌⊎◌, inl, inr, Bool, true, false, not, cond, eqb, ltb}
use Rattle.std.proofs.Common.{◌||◌, List, [], ◌++◌, length, take, Option, Some, None, Result, Ok, refl, sym, ap}
use Rattle.std.proofs.Common.{subst, ◌∙◌, arith}
use Rattle.std.proofs.lemmas.Bool.Decides.{nat_tests}
use Rattle.std.proofs.Math.Seq.{take-length}
use Rattle.std.proofs.lemmas.Nat.{mul-le}
use Rattle.std.proofs.lemmas.Slice.Eq.{bytes_eq-Decides}
use Rattle.std.specs.Str.{bytes_eq}
use Rattle.ca_base.specs.Rows.{first}
use Rattle.wave_format.specs.declared.fields.Fields.{Fields}
use Rattle.wave_format.specs.declared.format.Format.{Format}
use Rattle.wave_format.specs.declared.format.FormatFault.{FormatFault}
use Rattle.wave_format.specs.declared.layout.TheConstants.{PLAIN_TAG, EXTENSIBLE_TAG, PLAIN_LENGTH, EXTRA_SIZE}
use Rattle.wave_format.specs.declared.layout.TheConstants.{EXTENSIBLE_LENGTH, SUB_FORMAT}
use Rattle.wave_format.specs.Fields.{Extension, fields_of, field_bytes, extension_of, extension_bytes}
use Rattle.wave_format.specs.Format.{is_extensible, whole_length, is_known, has_sample_bits, has_channels, is_listed}
use Rattle.wave_format.specs.Format.{has_sub_format, field_rows, fault_rows, format_of, spelled, unless_fault}
use Rattle.wave_format.specs.Format.{format_at, format_fields, format_extension, plain_spelling, extensible_spelling}
use Rattle.wave_format.specs.Format.{spelling, IsValid}
use Rattle.wave_format.specs.Frame.{AreBytes}
use Rattle.wave_format.proofs.FieldLaws.{field_bytes-fields_of, whole_bytes, mask_fits, FieldsFit}
use Rattle.wave_format.proofs.FieldLaws.{fields_of-field_bytes, extension_of-extension_bytes}
use Rattle.wave_format.proofs.RowLaws.{first-none, none_holds}

-- ---- tests

same_from_not : (x y : ℕ) → not (eqb x y) ≡ false → x ≡ y
same_from_not x y h = grind (arith, nat_tests)

not_same : (x : ℕ) → not (eqb x x) ≡ false
not_same x = grind (arith, nat_tests)

true_from_not : (b : Bool) → not b ≡ false → b ≡ true
true_from_not true h = refl
true_from_not false h = cc

not_true : (b : Bool) → b ≡ true → not b ≡ false
not_true true h = refl
not_true false h = cc

kinds : (b : Bool) → (b ≡ true) ⊎ (b ≡ false)
kinds true = inl refl
kinds false = inr refl

channels_from : (x : ℕ) → has_channels x ≡ true → (1 ≤ x) × (x ≤ 4)
channels_from x h = (grind (arith, nat_tests), grind (arith, nat_tests))

has_channels-from : (x : ℕ) → 1 ≤ x → x ≤ 4 → has_channels x ≡ true
has_channels-from x l h = grind (arith, nat_tests)

listed_small : (rate : ℕ) → is_listed rate ≡ true → rate ≤ 96000
listed_small rate h = grind (arith, nat_tests)

-- ---- fields without a fault

-- no row of the faults holds
record NoFault (size : ℕ) (f : Fields) (e : Extension) : Type 0 where
  whole : size ≡ whole_length f
  known : is_known f ≡ true
  bits : has_sample_bits f e ≡ true
  channels : has_channels f.channels ≡ true
  listed : is_listed f.rate ≡ true
  block : f.block_align ≡ f.channels * 2
  average : f.average ≡ f.rate * f.block_align
  sub_format : has_sub_format f e ≡ true

no_fault : (size : ℕ) (f : Fields) (e : Extension) → first (field_rows size f e) ≡ None → NoFault size f e
no_fault size f e h =
    let rows = none_holds (field_rows size f e) h in
    let from_2 = rows.1 in
    let from_3 = from_2.1 in
    let from_4 = from_3.1 in
    let from_5 = from_4.1 in
    let from_6 = from_5.1 in
    let from_7 = from_6.1 in
    let from_8 = from_7.1 in
    let from_9 = from_8.1 in
    record {
      whole = same_from_not size (whole_length f) from_2.0;
      known = true_from_not (is_known f) from_3.0;
      bits = true_from_not (has_sample_bits f e) from_4.0;
      channels = true_from_not (has_channels f.channels) from_5.0;
      listed = true_from_not (is_listed f.rate) from_6.0;
      block = same_from_not f.block_align (f.channels * 2) from_7.0;
      average = same_from_not f.average (f.rate * f.block_align) from_8.0;
      sub_format = true_from_not (has_sub_format f e) from_9.0;
    }

plain_tag : (f : Fields) → is_known f ≡ true → is_extensible f ≡ false → f.tag ≡ 1
plain_tag f known plain = grind (arith, nat_tests)

extensible_tag : (f : Fields) → is_known f ≡ true → is_extensible f ≡ true → (f.tag ≡ 65534) × (f.extra ≡ 22)
extensible_tag f known extensible = (grind (arith, nat_tests), grind (arith, nat_tests))

sample_bits : (f : Fields) (e : Extension) → has_sample_bits f e ≡ true → f.bits ≡ 16
sample_bits f e h = grind (arith, nat_tests)

valid_bits : (f : Fields) (e : Extension) → has_sample_bits f e ≡ true → is_extensible f ≡ true → e.valid_bits ≡ 16
valid_bits f e h extensible = grind (arith, nat_tests)

chosen : (b c : Bool) → (not b || c) ≡ true → b ≡ true → c ≡ true
chosen true c h e = h
chosen false c h e = cc

sub_format : (f : Fields) (e : Extension) → has_sub_format f e ≡ true → is_extensible f ≡ true
    → e.sub_format ≡ SUB_FORMAT
sub_format f e h extensible =
    (bytes_eq-Decides e.sub_format SUB_FORMAT).0
    (chosen (is_extensible f) (bytes_eq e.sub_format SUB_FORMAT) h extensible)

-- the fields are those of the format that they spell
own_fields : (size : ℕ) (f : Fields) (e : Extension) → NoFault size f e
    → format_fields f.tag f.extra (format_of f e) ≡ f
own_fields size f e h =
    let average : f.rate * (f.channels * 2) ≡ f.average = ap (λ (b : ℕ). f.rate * b) (sym h.block) ∙ sym h.average in
    λ i. record {
      tag = f.tag;
      channels = f.channels;
      rate = f.rate;
      average = average i;
      block_align = sym h.block i;
      bits = sym (sample_bits f e h.bits) i;
      extra = f.extra;
    }

own_extension : (size : ℕ) (f : Fields) (e : Extension) → NoFault size f e → is_extensible f ≡ true
    → format_extension (format_of f e) ≡ e
own_extension size f e h extensible =
    let mask : cond (is_extensible f) e.mask 0 ≡ e.mask = ap (λ (b : Bool). cond b e.mask 0) extensible in
    λ i. record {
      valid_bits = sym (valid_bits f e h.bits extensible) i;
      mask = mask i;
      sub_format = sym (sub_format f e h.sub_format extensible) i;
    }

-- ---- from bytes to a format

ok_means : (fault : Option ℕ) (f g : Format) → unless_fault fault f ≡ Ok g → (fault ≡ None) × (f ≡ g)
ok_means None f g e = (refl, cc)
ok_means (Some n) f g e = absurd (cc)

read_means : (bytes : List ℕ) (format : Format) → format_at bytes ≡ Ok format
    → NoFault (length bytes) (fields_of bytes) (extension_of bytes) × (spelled bytes ≡ format)
read_means bytes format read =
    let means = ok_means (first (fault_rows bytes)) (spelled bytes) format read in
    (no_fault (length bytes) (fields_of bytes) (extension_of bytes) means.0, means.1)

no_mask : (b : Bool) (mask : ℕ) → b ≡ false → cond b mask 0 ≡ 0
no_mask b mask e = ap (λ (x : Bool). cond x mask 0) e

pub read-valid : (bytes : List ℕ) (format : Format) → format_at bytes ≡ Ok format → IsValid format
read-valid bytes format read =
    let means = read_means bytes format read in
    let f = fields_of bytes in
    let channels = channels_from f.channels means.0.channels in
    subst IsValid means.1 (record {
      some_channel = channels.0;
      few_channels = channels.1;
      listed_rate = means.0.listed;
      no_mask = no_mask (is_extensible f) (extension_of bytes).mask;
    })

plain_size : (f : Fields) → f.tag ≡ 1 → whole_length f ≡ 18
plain_size f e = ap (λ (tag : ℕ). cond (eqb tag 1) 18 (18 + f.extra)) e

extensible_size : (f : Fields) → f.tag ≡ 65534 → f.extra ≡ 22 → whole_length f ≡ 40
extensible_size f t e =
    ap (λ (tag : ℕ). cond (eqb tag 1) 18 (18 + f.extra)) t ∙ ap (λ (extra : ℕ). 18 + extra) e

pub read-plain : (bytes : List ℕ) (format : Format) → AreBytes bytes → format_at bytes ≡ Ok format
    → format.extensible ≡ false → bytes ≡ plain_spelling (fields_of bytes).extra format
read-plain bytes format h read plain =
    let means = read_means bytes format read in
    let f = fields_of bytes in
    let e = extension_of bytes in
    let tag = plain_tag f means.0.known (ap (λ (g : Format). g.extensible) means.1 ∙ plain) in
    let size : length bytes ≡ 18 = means.0.whole ∙ plain_size f tag in
    sym (take-length bytes)
    ∙ ap (λ (n : ℕ). take n bytes) size
    ∙ sym (field_bytes-fields_of bytes h (omega arith))
    ∙ ap field_bytes (sym (own_fields (length bytes) f e means.0))
    ∙ ap (λ (t : ℕ). field_bytes (format_fields t f.extra (spelled bytes))) tag
    ∙ ap (plain_spelling f.extra) means.1

spelling-extensible : (format : Format) → format.extensible ≡ true → spelling format ≡ extensible_spelling format
spelling-extensible format e = ap (λ (b : Bool). cond b (extensible_spelling format) (plain_spelling 0 format)) e

spelling-plain : (format : Format) → format.extensible ≡ false → spelling format ≡ plain_spelling 0 format
spelling-plain format e = ap (λ (b : Bool). cond b (extensible_spelling format) (plain_spelling 0 format)) e

pub read-extensible : (bytes : List ℕ) (format : Format) → AreBytes bytes → format_at bytes ≡ Ok format
    → format.extensible ≡ true → bytes ≡ spelling format
read-extensible bytes format h read extensible =
    let means = read_means bytes format read in
    let f = fields_of bytes in
    let e = extension_of bytes in
    let kind : is_extensible f ≡ true = ap (λ (g : Format). g.extensible) means.1 ∙ extensible in
    let tag = extensible_tag f means.0.known kind in
    let size : length bytes ≡ 40 = means.0.whole ∙ extensible_size f tag.0 tag.1 in
    let fields : f ≡ format_fields EXTENSIBLE_TAG EXTRA_SIZE (spelled bytes) =
    sym (own_fields (length bytes) f e means.0) ∙ (λ i. format_fields (tag.0 i) (tag.1 i) (spelled bytes)) in
    let rest = own_extension (length bytes) f e means.0 kind in
    sym (whole_bytes bytes h (omega arith))
    ∙ (λ i. field_bytes (fields i) ++ extension_bytes (sym rest i))
    ∙ ap extensible_spelling means.1
    ∙ sym (spelling-extensible format extensible)

-- ---- from a format to bytes

fields_fit : (tag extra : ℕ) (format : Format) → tag < 2 ^ 16 → extra < 2 ^ 16 → IsValid format
    → FieldsFit (format_fields tag extra format)
fields_fit tag extra format t x h =
    let few = h.few_channels in
    let small = listed_small format.rate h.listed_rate in
    let average : format.rate * (format.channels * 2) ≤ 96000 * 8 =
    mul-le format.rate (format.channels * 2) 96000 8 small (omega arith) in
    record {
      tag = t;
      channels = omega arith;
      rate = omega arith;
      average = omega arith;
      block_align = omega arith;
      bits = omega arith;
      extra = x;
    }

-- what bytes of `size` spell, field by field
abbrev read_at : ℕ → Fields → Extension → Result Format FormatFault
read_at size f e = unless_fault (first (field_rows size f e)) (format_of f e)

-- of a valid format's fields the values have no fault
values_pass : (size tag extra : ℕ) (format : Format) (e : Extension) → IsValid format
    → let f = format_fields tag extra format in
    ltb size 18 ≡ false → not (eqb size (whole_length f)) ≡ false → not (is_known f) ≡ false
    → not (has_sample_bits f e) ≡ false → not (has_sub_format f e) ≡ false → first (field_rows size f e) ≡ None
values_pass size tag extra format e h long whole known bits sub =
    let channels = has_channels-from format.channels h.some_channel h.few_channels in
    first-none (field_rows size (format_fields tag extra format) e) (
      long,
      (
        whole,
        (
          known,
          (
            bits,
            (
              not_true (has_channels format.channels) channels,
              (
                not_true (is_listed format.rate) h.listed_rate,
                (not_same (format.channels * 2), (not_same (format.rate * (format.channels * 2)), (sub, tt))),
              ),
            ),
          ),
        ),
      ),
    )

reads_back : (size : ℕ) (f : Fields) (e : Extension) (format : Format) → first (field_rows size f e) ≡ None
    → format_of f e ≡ format → read_at size f e ≡ Ok format
reads_back size f e format none same =
    ap (λ (fault : Option ℕ). unless_fault fault (format_of f e)) none ∙ ap (λ (g : Format). Ok g) same

plain_is : (format : Format) → IsValid format → format.extensible ≡ false
    → record { channels = format.channels; rate = format.rate; extensible = false; mask = 0 } ≡ format
plain_is format h plain = λ i. record {
  channels = format.channels;
  rate = format.rate;
  extensible = sym plain i;
  mask = sym (h.no_mask plain) i;
}

pub plain-read : (format : Format) (extra : ℕ) → IsValid format → format.extensible ≡ false → extra < 2 ^ 16
    → format_at (plain_spelling extra format) ≡ Ok format
plain-read format extra h plain x =
    let f = format_fields PLAIN_TAG extra format in
    let e = extension_of (plain_spelling extra format) in
    ap (λ (g : Fields). read_at PLAIN_LENGTH g e)
    (fields_of-field_bytes f [] (fields_fit PLAIN_TAG extra format (omega arith) x h))
    ∙ reads_back PLAIN_LENGTH f e format (values_pass PLAIN_LENGTH PLAIN_TAG extra format e h refl refl refl refl refl)
    (plain_is format h plain)

extensible_is : (format : Format) → format.extensible ≡ true
    → record { channels = format.channels; rate = format.rate; extensible = true; mask = format.mask } ≡ format
extensible_is format extensible = λ i. record {
  channels = format.channels;
  rate = format.rate;
  extensible = sym extensible i;
  mask = format.mask;
}

extensible-read : (format : Format) → IsValid format → format.extensible ≡ true → format.mask < 2 ^ 32
    → format_at (extensible_spelling format) ≡ Ok format
extensible-read format h extensible m =
    let f = format_fields EXTENSIBLE_TAG EXTRA_SIZE format in
    let e = format_extension format in
    let bytes = extensible_spelling format in
    let fit = fields_fit EXTENSIBLE_TAG EXTRA_SIZE format (omega arith) (omega arith) h in
    let fields = fields_of-field_bytes f (extension_bytes e) fit in
    let rest = extension_of-extension_bytes f e (omega arith) m in
    (λ i. read_at EXTENSIBLE_LENGTH (fields i) (rest i))
    ∙ reads_back EXTENSIBLE_LENGTH f e format
    (values_pass EXTENSIBLE_LENGTH EXTENSIBLE_TAG EXTRA_SIZE format e h refl refl refl refl refl)
    (extensible_is format extensible)

pub written-read : (format : Format) → IsValid format → format.mask < 2 ^ 32 → format_at (spelling format) ≡ Ok format
written-read format h m =
    elim (kinds format.extensible) [
      | inl e ↦ ap format_at (spelling-extensible format e) ∙ extensible-read format h e m
      | inr e ↦ ap format_at (spelling-plain format e) ∙ plain-read format 0 h e (omega arith)
    ]

pub spellings_differ : (a b : Format) → IsValid a → IsValid b → a.mask < 2 ^ 32 → b.mask < 2 ^ 32
    → spelling a ≡ spelling b → a ≡ b
spellings_differ a b h k m n same =
    (ok_means None a b (sym (written-read a h m) ∙ ap format_at same ∙ written-read b k n)).1

mask_of-read : (bytes : List ℕ) (format : Format) → AreBytes bytes → format_at bytes ≡ Ok format
    → format.mask < 2 ^ 32
mask_of-read bytes format h read =
    subst (λ (g : Format). g.mask < 2 ^ 32) (read_means bytes format read).1
    (mask_fits (is_extensible (fields_of bytes)) bytes h)

pub read-again : (bytes : List ℕ) (format : Format) → AreBytes bytes → format_at bytes ≡ Ok format
    → format_at (spelling format) ≡ Ok format
read-again bytes format h read =
    written-read format (read-valid bytes format read) (mask_of-read bytes format h read)
