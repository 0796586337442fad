-- The body of a frame: what is read is spelled so, and what is spelled so is read.
use Rattle.std.proofs.Common.{◌≡◌, ℕ, Bool, true, false, cond, eqb, List, [], ◌∷◌, Option, Some, None, get_or, refl}
use Rattle.std.proofs.Common.{sym, ap, subst, ◌∙◌}
use Rattle.ca_base.specs.declared.values.TheConstants.{KIND_OPEN, KIND_HANGUP, KIND_CALL, KIND_PERIOD, KIND_DEVICE}
use Rattle.ca_base.specs.declared.values.TheConstants.{KIND_SHUTDOWN}
use Rattle.ca_model.specs.declared.event.Event.{Event}
use Rattle.ca_model.specs.declared.event.Event.TheVariants as event
use Rattle.ca_model.specs.Fields.{Kind, Field, AllFit, fields_bytes}
use Rattle.ca_model.specs.Fields.Kind.{connection, byte, four_bytes}
use Rattle.ca_model.specs.Fields.Field.{number}
use Rattle.ca_model.specs.Spelling.{calls, device_events, listed, or_rest, call_code, device_code, kinds, fields, body}
use Rattle.call_wire.specs.Reading.{◌>>=◌, read_fields, call_kinds, device_kinds, event_kinds, code_place, body_kinds}
use Rattle.call_wire.specs.Reading.{read_body}
use Rattle.call_wire.proofs.Numbers.{IsBytes}
use Rattle.call_wire.proofs.Readings.{bind_some, some_is}
use Rattle.call_wire.proofs.ManyFields.{fields_take, fields_again, rest_is_last}

-- ---- a body that is read

-- the byte that a body begins with is the kind of the event that is read
kind_is : (e : Event) (n : ℕ) (others : List Field) (bs : List ℕ) → IsBytes bs → fields e ≡ number n ∷ others
    → read_body bs ≡ Some (fields e) → get_or bs 0 0 ≡ n
kind_is e n others bs fits is h =
    let a = bind_some (body_kinds bs) (λ ks. read_fields (byte ∷ ks) bs) (fields e) h in
    let t = fields_take (byte ∷ a.0) bs (number n ∷ others) fits (a.2 ∙ ap (λ (fs : List Field). Some fs) is) in
    ap (λ (xs : List ℕ). get_or xs 0 0) t.1

-- the fields of an event of this kind are read by its kinds
read_by : (e : Event) (n : ℕ) (others : List Field) (bs : List ℕ) → IsBytes bs → fields e ≡ number n ∷ others
    → (ks : List Kind) → event_kinds n (get_or bs (code_place n) 0) ≡ Some ks → read_body bs ≡ Some (fields e)
    → read_fields (byte ∷ ks) bs ≡ Some (fields e)
read_by e n others bs fits is ks told h =
    let kind : get_or bs 0 0 ≡ n = kind_is e n others bs fits is h in
    let here : body_kinds bs ≡ Some ks = ap (λ (k : ℕ). event_kinds k (get_or bs (code_place k) 0)) kind ∙ told in
    ap (λ r. r >>= λ (ks : List Kind). read_fields (byte ∷ ks) bs) (sym here) ∙ h

-- fields whose kinds a code tells, the code being one of the bytes
coded_take : (e : Event) (bs : List ℕ) (place code : ℕ) (kinds_of : ℕ → List Kind) → IsBytes bs
    → ((n : ℕ) → get_or (fields_bytes (kinds_of n) (fields e)) place 0 ≡ code)
    → read_fields (kinds_of (get_or bs place 0)) bs ≡ Some (fields e)
    → AllFit (kinds_of code) (fields e) × (bs ≡ fields_bytes (kinds_of code) (fields e))
coded_take e bs place code kinds_of fits at h =
    let t = fields_take (kinds_of (get_or bs place 0)) bs (fields e) fits h in
    let is : get_or bs place 0 ≡ code = ap (λ (xs : List ℕ). get_or xs place 0) t.1 ∙ at (get_or bs place 0) in
    subst (λ (n : ℕ). AllFit (kinds_of n) (fields e) × (bs ≡ fields_bytes (kinds_of n) (fields e))) is t

pub body_takes : (e : Event) (bs : List ℕ) → IsBytes bs → read_body bs ≡ Some (fields e)
    → AllFit (kinds e) (fields e) × (bs ≡ body e)
body_takes (event.Open c pid name) bs fits h =
    let e = event.Open c pid name in
    fields_take (kinds e) bs (fields e) fits (read_by e KIND_OPEN _ bs fits refl _ refl h)
body_takes (event.Hangup c) bs fits h =
    let e = event.Hangup c in
    fields_take (kinds e) bs (fields e) fits (read_by e KIND_HANGUP _ bs fits refl _ refl h)
body_takes (event.Call c tag x) bs fits h =
    let e = event.Call c tag x in
    let kinds_of : ℕ → List Kind = λ n. byte ∷ connection ∷ four_bytes ∷ byte ∷ call_kinds n in
    let read = read_by e KIND_CALL _ bs fits refl _ refl h in
    coded_take e bs (code_place KIND_CALL) (call_code x) kinds_of fits (λ n. refl) read
body_takes (event.Period endpoint) bs fits h =
    let e = event.Period endpoint in
    fields_take (kinds e) bs (fields e) fits (read_by e KIND_PERIOD _ bs fits refl _ refl h)
body_takes (event.Device x) bs fits h =
    let e = event.Device x in
    let kinds_of : ℕ → List Kind = λ n. byte ∷ byte ∷ device_kinds n in
    let read = read_by e KIND_DEVICE _ bs fits refl _ refl h in
    coded_take e bs (code_place KIND_DEVICE) (device_code x) kinds_of fits (λ n. refl) read
body_takes event.Shutdown bs fits h =
    let e = event.Shutdown in
    fields_take (kinds e) bs (fields e) fits (read_by e KIND_SHUTDOWN _ bs fits refl _ refl h)

-- ---- the body of an event is read

-- in each row the rest is no field but the last
abbrev all_last : List (ℕ × List Kind) → Bool
all_last [] = true
all_last (row ∷ rows) = cond (rest_is_last row.1) (all_last rows) false

last_in_table : (code : ℕ) (table : List (ℕ × List Kind)) → all_last table ≡ true
    → rest_is_last (or_rest (listed code table)) ≡ true
last_in_table code [] h = refl
last_in_table code (row ∷ rows) h =
    let t = both (rest_is_last row.1) (all_last rows) h in
    chosen (eqb row.0 code) row.1 (listed code rows) t.0 (last_in_table code rows t.1)
  where
    both : (a b : Bool) → cond a b false ≡ true → (a ≡ true) × (b ≡ true)
    both true b h = (refl, h)
    both false b h = absurd cc

    chosen : (b : Bool) (ks : List Kind) (others : Option (List Kind)) → rest_is_last ks ≡ true
        → rest_is_last (or_rest others) ≡ true → rest_is_last (or_rest (cond b (Some ks) others)) ≡ true
    chosen true ks others p q = p
    chosen false ks others p q = q

kinds_last : (e : Event) → rest_is_last (kinds e) ≡ true
kinds_last (event.Open c pid name) = refl
kinds_last (event.Hangup c) = refl
kinds_last (event.Call c tag x) = last_in_table (call_code x) calls refl
kinds_last (event.Period e) = refl
kinds_last (event.Device x) = last_in_table (device_code x) device_events refl
kinds_last event.Shutdown = refl

kinds_told : (e : Event) → body_kinds (body e) >>= (λ ks. Some (byte ∷ ks)) ≡ Some (kinds e)
kinds_told (event.Open c pid name) = refl
kinds_told (event.Hangup c) = refl
kinds_told (event.Call c tag x) = refl
kinds_told (event.Period e) = refl
kinds_told (event.Device x) = refl
kinds_told event.Shutdown = refl

-- the fields that are read, if the kinds are known but for the first
read_as : (told : Option (List Kind)) (ks : List Kind) (bs : List ℕ) → told >>= (λ ks. Some (byte ∷ ks)) ≡ Some ks
    → (told >>= λ ks. read_fields (byte ∷ ks) bs) ≡ read_fields ks bs
read_as (Some told) ks bs e = ap (λ (ks : List Kind). read_fields ks bs) (some_is (byte ∷ told) ks e)
read_as None ks bs e = absurd cc

pub body_again : (e : Event) → AllFit (kinds e) (fields e) → read_body (body e) ≡ Some (fields e)
body_again e fit =
    read_as (body_kinds (body e)) (kinds e) (body e) (kinds_told e)
    ∙ fields_again (kinds e) (fields e) (kinds_last e) fit
