-- Add: what its rows say of a board, and what it makes of one.
use Rattle.std.proofs.Common.{◌≡◌, ℕ, ◌<◌, ◌||◌, nat_le, nat_lt, not, List, [], ◌∷◌, length, arith}
use Rattle.std.proofs.Common.{Bool, true, false, Option, Some, None, refl, sym}
use Rattle.std.proofs.Common.{Ok, Err, is_some}
use Rattle.std.specs.Str.{is_utf8}
use Rattle.std.proofs.lemmas.Bool.Decides.{nat_tests}
use Rattle.ca_base.specs.declared.codes.Hr.{Hr}
use Rattle.ca_base.specs.declared.codes.TheConstants.Hr as hr
use Rattle.ca_base.specs.declared.limits.TheConstants.{ENDPOINTS}
use Rattle.ca_base.specs.declared.values.TheConstants.{FLOW_CAPTURE}
use Rattle.ca_base.specs.Rows.{Row, first}
use Rattle.wave_format.specs.declared.format.Format.{Format}
use Rattle.wave_format.specs.declared.format.FormatFault.{FormatFault}
use Rattle.wave_format.specs.Format.{fault_rows, format_at, spelled, unless_fault}
use Rattle.ca_machine.specs.Devices.{add_rows}
use Rattle.ca_machine.specs.State.{State}
use Rattle.ca_machine.specs.Formats.{is_faulty}
use Rattle.device_registry.specs.Endpoints.{EndpointList}
use Rattle.device_registry.specs.Rows.{add_rows as registry_rows}
use Rattle.service_book.proofs.Rows.{row_holds, row_passes}
use Rattle.service_board.specs.Lookups.{Says}
use Rattle.service_board.specs.declared.board.Board.{Board}

-- ---- formats

faulty_by : (o : Option ℕ) (format : Format) (fault : FormatFault) → Err fault ≡ unless_fault o format →
    is_some o ≡ true
faulty_by None format fault e = absurd cc
faulty_by (Some number) format fault e = refl

pub faulty : (bytes : List ℕ) (fault : FormatFault) → Err fault ≡ format_at bytes → is_faulty bytes ≡ true
faulty bytes fault e = faulty_by (first (fault_rows bytes)) (spelled bytes) fault e

read_by : (o : Option ℕ) (format read : Format) → unless_fault o format ≡ Ok read →
    (is_some o ≡ false) × (read ≡ format)
read_by None format read e = (refl, cc)
read_by (Some number) format read e = absurd cc

pub read_is : (bytes : List ℕ) (read : Format) → format_at bytes ≡ Ok read →
    (is_faulty bytes ≡ false) × (read ≡ spelled bytes)
read_is bytes read e = read_by (first (fault_rows bytes)) (spelled bytes) read e

-- ---- the rows

wrong_value : (a b f u : Bool) → (a || (b || u)) ≡ true → (a || (b || (f || u))) ≡ true
wrong_value true b f u h = refl
wrong_value false true f u h = refl
wrong_value false false true u h = refl
wrong_value false false false u h = h

wrong_format : (a b f u : Bool) → f ≡ true → (a || (b || (f || u))) ≡ true
wrong_format true b f u h = refl
wrong_format false true f u h = refl
wrong_format false false true u h = refl
wrong_format false false false u h = absurd cc

right_values : (a b f u : Bool) → (a || (b || u)) ≡ false → f ≡ false → (a || (b || (f || u))) ≡ false
right_values true b f u h k = h
right_values false true f u h k = h
right_values false false true u h k = k
right_values false false false u h k = h

-- those behind the one of a shutdown
abbrev pub own_add_rows : State → ℕ → ℕ → List ℕ → List ℕ → List (Row Hr)
own_add_rows st number flow format name = (
  nat_le number st.last_endpoint
      || (nat_lt FLOW_CAPTURE flow || (is_faulty format || not (is_utf8 name))),
  hr.E_INVALIDARG,
)
    ∷ (nat_le ENDPOINTS (length st.endpoints), hr.ENDPOINTS_FULL)
    ∷ []

module _ {D E : Type 0} (b : Board D E) (number flow : ℕ) (format name : List ℕ)
    (runs : b.book.is_shut ≡ false) where
  pub wrong_says : true ≡ (nat_le number b.book.registry.last || (nat_lt FLOW_CAPTURE flow || not (is_utf8 name))) →
      Says b (λ st. add_rows st number flow format name) (Some hr.E_INVALIDARG)
  wrong_says h datas tally =
      row_passes _ hr.SERVICE_NOT_RUNNING _ runs
      (row_holds _ hr.E_INVALIDARG _
      (wrong_value (nat_le number b.book.registry.last) (nat_lt FLOW_CAPTURE flow) (is_faulty format)
      (not (is_utf8 name)) (sym h)))

  pub faulty_says : (fault : FormatFault) → Err fault ≡ format_at format →
      Says b (λ st. add_rows st number flow format name) (Some hr.E_INVALIDARG)
  faulty_says fault e datas tally =
      row_passes _ hr.SERVICE_NOT_RUNNING _ runs
      (row_holds _ hr.E_INVALIDARG _
      (wrong_format (nat_le number b.book.registry.last) (nat_lt FLOW_CAPTURE flow) (is_faulty format)
      (not (is_utf8 name)) (faulty format fault e)))

  module _ (right : false ≡ (nat_le number b.book.registry.last || (nat_lt FLOW_CAPTURE flow || not (is_utf8 name))))
      (read : Format) (spells : format_at format ≡ Ok read) where
    pub full_says : nat_le ENDPOINTS (length b.book.registry.list) ≡ true →
        Says b (λ st. add_rows st number flow format name) (Some hr.ENDPOINTS_FULL)
    full_says h datas tally =
        row_passes _ hr.SERVICE_NOT_RUNNING _ runs
        (row_passes _ hr.E_INVALIDARG _
        (right_values (nat_le number b.book.registry.last) (nat_lt FLOW_CAPTURE flow) (is_faulty format)
        (not (is_utf8 name)) (sym right) (read_is format read spells).0)
        (row_holds _ hr.ENDPOINTS_FULL _ h))

    pub free_says : nat_le ENDPOINTS (length b.book.registry.list) ≡ false →
        Says b (λ st. add_rows st number flow format name) None
    free_says h datas tally =
        row_passes _ hr.SERVICE_NOT_RUNNING _ runs
        (row_passes _ hr.E_INVALIDARG _
        (right_values (nat_le number b.book.registry.last) (nat_lt FLOW_CAPTURE flow) (is_faulty format)
        (not (is_utf8 name)) (sym right) (read_is format read spells).0)
        (row_passes _ hr.ENDPOINTS_FULL _ h refl))

-- no row of the registry's own refuses what none of these does
pub free_rows : (registry : EndpointList) (number : ℕ) →
    (length registry.list < ENDPOINTS) × (registry.last < number) → first (registry_rows number registry) ≡ None
free_rows registry number free =
    let few = free.0 in
    let above = free.1 in
    let new : nat_le number registry.last ≡ false = grind (arith, nat_tests) in
    let room : nat_le ENDPOINTS (length registry.list) ≡ false = grind (arith, nat_tests) in
    row_passes _ hr.E_INVALIDARG _ new (row_passes _ hr.ENDPOINTS_FULL _ room refl)
