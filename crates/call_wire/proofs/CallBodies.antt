-- The body of a call, read field by field.
use Rattle.std.proofs.Common.{◌≡◌, ℕ, true, ltb, List, ◌∷◌, length, take, drop, get_or, Option, Some, None, refl, sym}
use Rattle.std.proofs.Common.{ap, ◌∙◌}
use Rattle.std.specs.Prelude.{is_some}
use Rattle.std.specs.Int.{w32, from_le_bytes}
use Rattle.std.proofs.lemmas.List.{get_or-drop}
use Rattle.ca_base.specs.declared.values.TheConstants.{KIND_CALL}
use Rattle.ca_base.specs.declared.ids.ConnNo.{ConnNo}
use Rattle.ca_model.specs.declared.event.Call.{Call}
use Rattle.ca_model.specs.declared.event.Call.TheVariants as call
use Rattle.ca_model.specs.declared.event.Event.TheVariants as event
use Rattle.ca_model.specs.Fields.{Kind, Field}
use Rattle.ca_model.specs.Fields.Kind.{connection, byte, four_bytes}
use Rattle.ca_model.specs.Fields.Field.{number}
use Rattle.ca_model.specs.Spelling.{CodeIsOwn, call_code, call_fields}
use Rattle.call_wire.specs.declared.fault.Fault.{Fault}
use Rattle.call_wire.specs.declared.fault.Fault.TheVariants as fault
use Rattle.call_wire.specs.Reading.{bytes_at, number_at, byte_at, connection_at, as_field, read_fields, call_kinds}
use Rattle.call_wire.specs.Reading.{read_body, kinds_take_memory, takes_memory}
use Rattle.call_wire.specs.Readers.{Fails, CallIsOwn, IsCallOf, IsEventOf}
use Rattle.call_wire.proofs.Readings.{bind_some, guard_some, some_is, byte_is, connection_byte}
use Rattle.call_wire.proofs.ManyFields.{behind, then_read}

-- what is behind a number that is read
number_rest : (size : ℕ) (worth : List ℕ → ℕ) (bs : List ℕ) (x : ℕ × List ℕ) → number_at size worth bs ≡ Some x
    → x.1 ≡ drop size bs
unfolding number_at bytes_at
number_rest size worth bs x e =
    let a = bind_some (bytes_at size bs) (λ front. Some (worth front.0, front.1)) x e in
    let g = guard_some (ltb (length bs) size) (Some (take size bs, drop size bs)) a.0 a.1 in
    ap (λ (y : ℕ × List ℕ). y.1) (sym (some_is (worth a.0.0, a.0.1) x a.2))
    ∙ ap (λ (y : List ℕ × List ℕ). y.1) (sym (some_is (take size bs, drop size bs) a.0 g.1))

-- a connection, a tag and a code at the front of the bytes behind the kind
pub record IsCallHead (input : List ℕ) (conn tag code : ℕ × List ℕ) : Type 0 where
  pub first : connection_at input ≡ Some conn
  pub second : number_at 4 (from_le_bytes w32) conn.1 ≡ Some tag
  pub third : byte_at tag.1 ≡ Some code

-- the code is where a body has it
code_is : (input : List ℕ) (conn tag code : ℕ × List ℕ) → IsCallHead input conn tag code → get_or input 5 0 ≡ code.0
code_is input conn tag code head =
    let rest = number_rest 4 (from_le_bytes w32) conn.1 tag head.second in
    ap (λ (bs : List ℕ). get_or bs 5 0) (byte_is input conn (connection_byte input conn head.first).0)
    ∙ sym (get_or-drop 4 conn.1 0 0)
    ∙ ap (λ (bs : List ℕ). get_or bs 0 0) (sym rest ∙ byte_is tag.1 code head.third)

-- what is read behind the code, and the head before it
abbrev pub whole_call : ℕ → ℕ → ℕ → Option (List Field) → Option (List Field)
whole_call conn tag code read =
    behind (number KIND_CALL) (behind (number conn) (behind (number tag) (behind (number code) read)))

call_body : (input : List ℕ) (conn tag code : ℕ × List ℕ) → IsCallHead input conn tag code
    → read_body (KIND_CALL ∷ input) ≡ whole_call conn.0 tag.0 code.0 (read_fields (call_kinds code.0) code.1)
unfolding byte_at
call_body input conn tag code head =
    let ks = call_kinds (get_or input 5 0) in
    let read = λ (ks : List Kind). read_fields ks code.1 in
    then_read byte (connection ∷ four_bytes ∷ byte ∷ ks) (KIND_CALL ∷ input) input (number KIND_CALL) refl
    ∙ ap (behind (number KIND_CALL)) (
    then_read connection (four_bytes ∷ byte ∷ ks) input conn.1 (number conn.0) (ap (as_field number) head.first)
    ∙ ap (behind (number conn.0)) (
    then_read four_bytes (byte ∷ ks) conn.1 tag.1 (number tag.0) (ap (as_field number) head.second)
    ∙ ap (behind (number tag.0)) (
    then_read byte ks tag.1 code.1 (number code.0) (ap (as_field number) head.third))))
    ∙ ap (λ (n : ℕ). whole_call conn.0 tag.0 code.0 (read (call_kinds n))) (code_is input conn tag code head)

own : (conn : ConnNo) (tag : ℕ) (x : Call) → CallIsOwn x → CodeIsOwn (event.Call conn tag x)
own conn tag (call.Other code tail) h = h
own conn tag _ h = h

-- a call that is read behind the code makes an event of the whole body
pub call_given : (input : List ℕ) (conn : ConnNo) (first : List ℕ) (tag code : ℕ × List ℕ) (x : Call)
    → IsCallHead input (conn.0, first) tag code → IsCallOf code.0 code.1 x
    → IsEventOf (KIND_CALL ∷ input) (event.Call conn tag.0 x)
call_given input conn first tag code x head (is, is_own, read) =
    let same : number code.0 ∷ call_fields x ≡ number (call_code x) ∷ call_fields x =
    ap (λ (n : ℕ). number n ∷ call_fields x) (sym is) in (
      own conn tag.0 x is_own,
      call_body input (conn.0, first) tag code head
          ∙ ap (whole_call conn.0 tag.0 code.0) read
          ∙ ap (λ (fs : List Field). Some (number KIND_CALL ∷ number conn.0 ∷ number tag.0 ∷ fs)) same,
    )

-- a reader that fails behind the code fails for the whole body
pub call_fails : (input : List ℕ) (conn tag code : ℕ × List ℕ) (f : Fault) → IsCallHead input conn tag code
    → Fails f (read_fields (call_kinds code.0) code.1) (kinds_take_memory (call_kinds code.0))
    → Fails f (read_body (KIND_CALL ∷ input)) (takes_memory (KIND_CALL ∷ input))
call_fails input conn tag code fault.Malformed head none =
    call_body input conn tag code head ∙ ap (whole_call conn.0 tag.0 code.0) none
call_fails input conn tag code fault.OutOfMemory head (some, takes) = (
  ap is_some (call_body input conn tag code head) ∙ whole_some (read_fields (call_kinds code.0) code.1) some,
  ap (λ (n : ℕ). kinds_take_memory (call_kinds n)) (code_is input conn tag code head) ∙ takes,
)
  where
    whole_some : (read : Option (List Field)) → is_some read ≡ true
        → is_some (whole_call conn.0 tag.0 code.0 read) ≡ true
    whole_some (Some fs) h = refl
    whole_some None h = absurd cc
