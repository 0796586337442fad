-- What calls tell of endpoints.
use Rattle.std.proofs.Common.{◌≡◌, ℕ, ◌++◌, List, [], ◌∷◌, map, true, false, ◌||◌, nat_lt}
use Rattle.std.proofs.Common.{Option, Some, None, is_none, Ok, Err, refl, sym, ap, ◌∙◌, if◌then◌else◌}
use Rattle.std.specs.List.{find}
use Rattle.std.specs.Option.{option_map}
use Rattle.std.specs.Int.{w32, to_le_bytes}
use Rattle.std.specs.Str.{bytes_eq}
use Rattle.std.proofs.lemmas.Option.{none-some, same_Some}
use Rattle.device_io.specs.DeviceLog.{DeviceLog}
use Rattle.ca_base.specs.declared.codes.Hr.{Hr}
use Rattle.ca_base.specs.declared.codes.TheConstants.Hr as hr
use Rattle.ca_base.specs.declared.ids.EndpointNo.{EndpointNo}
use Rattle.ca_base.specs.declared.values.TheConstants.{FLOW_CAPTURE, ROLE_COMMUNICATIONS}
use Rattle.ca_base.specs.Rows.{Row, first}
use Rattle.buffer_ring.specs.declared.step.StoreStep.{StoreStep}
use Rattle.ca_stage.specs.Stage.{BufferData}
use Rattle.ca_stage.specs.Tally.{Tally}
use Rattle.device_registry.specs.declared.endpoint.Endpoint.{Endpoint}
use Rattle.device_registry.specs.Endpoints.{endpoint_at as endpoint_in, matching}
use Rattle.role_defaults.specs.Defaults.{default_of}
use Rattle.role_defaults.specs.Defaults.{answered as chosen_or_not}
use Rattle.ca_machine.specs.State.{State, endpoint_at}
use Rattle.ca_machine.specs.Plan.{Outcome, answered, plain}
use Rattle.ca_machine.specs.SharedRows.{control_rows}
use Rattle.ca_machine.specs.Endpoints.{default_at, device_info_plan, endpoint_named, endpoint_payload, endpoint_told}
use Rattle.ca_machine.specs.Endpoints.{endpoints_payload, enum_endpoints_plan, get_default_plan, get_device_plan, id_of}
use Rattle.ca_machine.specs.Endpoints.{is_wrong_enumeration, number_told}
use Rattle.service_board.specs.Board.{state_of}
use Rattle.service_board.specs.Does.{AnyData, Does}
use Rattle.service_board.specs.Lookups.{Says}
use Rattle.service_board.specs.declared.board.Board.{Board}
use Rattle.service_board.proofs.PlainEvents.{refused_does}
use Rattle.service_board.proofs.EndpointCalls.{plain_tells}
use Rattle.service_board.proofs.LookingUp.{says_later}

-- a look-up of a default that fails found none, and its code says so
default_missing : (found : Option ℕ) (code : Hr) → Err code ≡ chosen_or_not found →
    (found ≡ None) × (code ≡ hr.E_NOTFOUND)
default_missing None code e = (refl, cc)
default_missing (Some number) code e = cc

-- one that doesn't fail found this number
default_there : (found : Option ℕ) (e : EndpointNo) → Ok e ≡ chosen_or_not found → found ≡ Some e.0
default_there None e is = cc
default_there (Some number) e is = cc

-- the endpoint that an id names, in a list
abbrev pub named_in : List ℕ → List Endpoint → Option Endpoint
named_in id list = find (λ e. bytes_eq (id_of e.no.0) id) list

-- a look-up whose number is none found none
mapped_none : {A B : Type 0} (f : A → B) (o : Option A) → None ≡ option_map f o → o ≡ None
mapped_none f None e = refl
mapped_none f (Some x) e = absurd (none-some (f x) e)

-- one that gives a number found an endpoint of it
number_there : (n : EndpointNo) (o : Option Endpoint) → Some n ≡ option_map (λ e. e.no) o →
    (is_none o ≡ false) × (option_map (λ e. e.no.0) o ≡ Some n.0)
number_there n None e = absurd (none-some n (sym e))
number_there n (Some x) e = (refl, ap (λ (m : EndpointNo). Some m.0) (sym (same_Some n x.no e)))

-- the rows of GetDefaultAudioEndpoint, by what it is asked and what was found
abbrev pub default_rows : ℕ → ℕ → Option ℕ → List (Row Hr)
default_rows flow role found =
    (nat_lt FLOW_CAPTURE flow || nat_lt ROLE_COMMUNICATIONS role, hr.E_INVALIDARG) ∷ (is_none found, hr.E_NOTFOUND) ∷ []

module _ {D E : Type 0} (faults : D → ℕ) (told : D → Option (List DeviceLog)) (moves : E → List StoreStep → E → Type 0)
    (stays : (a : E) → moves a [] a) (b : Board D E) (conn : ℕ) (connected : Says b (control_rows conn) None) where
  -- a row of the call's own refuses it
  own_refused : (rows : State → List (Row Hr)) (outcome : State → Outcome) (code : Hr) → Says b rows (Some code) →
      Does faults told moves None AnyData b b (λ st. plain (control_rows conn st ++ rows st) (outcome st)) code []
  own_refused rows outcome code says =
      refused_does faults told moves None AnyData stays b
      (λ st. plain (control_rows conn st ++ rows st) (outcome st)) code
      (says_later b (control_rows conn) rows (Some code) connected says)

  -- none does, and it tells this
  own_told : (rows : State → List (Row Hr)) (outcome : State → Outcome) (payload : List ℕ) → Says b rows None →
      ((datas : ℕ → BufferData) (tally : Tally) →
      outcome (state_of datas tally b) ≡ answered (state_of datas tally b) payload) →
      Does faults told moves None AnyData b b (λ st. plain (control_rows conn st ++ rows st) (outcome st)) hr.S_OK
      payload
  own_told rows outcome payload says tells =
      plain_tells faults told moves None AnyData stays b (λ st. control_rows conn st ++ rows st) outcome hr.S_OK payload
      (says_later b (control_rows conn) rows None connected says) tells

  -- endpoints are asked for in a wrong way
  pub enum_refused : (flow mask : ℕ) → true ≡ is_wrong_enumeration flow mask →
      Does faults told moves None AnyData b b (λ st. enum_endpoints_plan st conn flow mask) hr.E_INVALIDARG []
  enum_refused flow mask wrong =
      own_refused (λ st. (is_wrong_enumeration flow mask, hr.E_INVALIDARG) ∷ [])
      (λ st. (enum_endpoints_plan st conn flow mask).grants []) hr.E_INVALIDARG
      (λ datas tally. ap (λ v. if v then Some hr.E_INVALIDARG else None) (sym wrong))

  -- the numbers of those that match are told
  pub enum_told : (flow mask : ℕ) → false ≡ is_wrong_enumeration flow mask →
      Does faults told moves None AnyData b b (λ st. enum_endpoints_plan st conn flow mask) hr.S_OK
      (endpoints_payload (map (λ e. e.no) (matching flow mask b.book.registry.list)))
  enum_told flow mask right =
      own_told (λ st. (is_wrong_enumeration flow mask, hr.E_INVALIDARG) ∷ [])
      (λ st. (enum_endpoints_plan st conn flow mask).grants [])
      (endpoints_payload (map (λ e. e.no) (matching flow mask b.book.registry.list)))
      (λ datas tally. ap (λ v. if v then Some hr.E_INVALIDARG else None) (sym right)) (λ datas tally. refl)

  -- a default is asked for in a wrong way
  pub default_wrong : (flow role : ℕ) → true ≡ (nat_lt FLOW_CAPTURE flow || nat_lt ROLE_COMMUNICATIONS role) →
      Does faults told moves None AnyData b b (λ st. get_default_plan st conn flow role) hr.E_INVALIDARG []
  default_wrong flow role wrong =
      own_refused (λ st. default_rows flow role (default_at flow role st))
      (λ st. number_told st (default_at flow role st)) hr.E_INVALIDARG
      (λ datas tally.
      ap (λ v. if v then Some hr.E_INVALIDARG
      else first ((is_none (default_of b.book.registry.list b.book.choices flow role), hr.E_NOTFOUND) ∷ []))
      (sym wrong))

  -- one is looked up, by a flow of this number
  module _ (flow role number : ℕ) (right : false ≡ (nat_lt FLOW_CAPTURE flow || nat_lt ROLE_COMMUNICATIONS role))
      (is : number ≡ flow) where
    -- what the rows say of what is found
    default_says : (found : Option ℕ) (verdict : Option Hr) →
        default_of b.book.registry.list b.book.choices flow role ≡ found →
        (if is_none found then Some hr.E_NOTFOUND else None) ≡ verdict →
        Says b (λ st. default_rows flow role (default_at flow role st)) verdict
    default_says found verdict finds says datas tally =
        ap (λ v. if v then Some hr.E_INVALIDARG
        else first ((is_none (default_of b.book.registry.list b.book.choices flow role), hr.E_NOTFOUND) ∷ []))
        (sym right)
        ∙ ap (λ o. if is_none o then Some hr.E_NOTFOUND else None) finds ∙ says

    -- there is none
    pub default_refused : (code : Hr) →
        Err code ≡ chosen_or_not (default_of b.book.registry.list b.book.choices number role) →
        Does faults told moves None AnyData b b (λ st. get_default_plan st conn flow role) code []
    default_refused code e =
        let d = default_missing (default_of b.book.registry.list b.book.choices flow role) code
        (e ∙ ap (λ n. chosen_or_not (default_of b.book.registry.list b.book.choices n role)) is) in
        own_refused (λ st. default_rows flow role (default_at flow role st))
        (λ st. number_told st (default_at flow role st)) code
        (default_says None (Some code) d.0 (ap (λ (x : Hr). Some x) (sym d.1)))

    -- its number is told
    pub default_told : (e : EndpointNo) →
        Ok e ≡ chosen_or_not (default_of b.book.registry.list b.book.choices number role) →
        Does faults told moves None AnyData b b (λ st. get_default_plan st conn flow role) hr.S_OK (to_le_bytes w32 e.0)
    default_told e finds =
        let there = default_there (default_of b.book.registry.list b.book.choices flow role) e
        (finds ∙ ap (λ n. chosen_or_not (default_of b.book.registry.list b.book.choices n role)) is) in
        own_told (λ st. default_rows flow role (default_at flow role st))
        (λ st. number_told st (default_at flow role st)) (to_le_bytes w32 e.0)
        (default_says (Some e.0) None there refl) (λ datas tally. ap (number_told (state_of datas tally b)) there)

  module _ (id : List ℕ) where
    -- an id names no endpoint
    pub device_refused : None ≡ option_map (λ e. e.no) (named_in id b.book.registry.list) →
        Does faults told moves None AnyData b b (λ st. get_device_plan st conn id) hr.E_NOTFOUND []
    device_refused missing =
        own_refused (λ st. (is_none (endpoint_named id st), hr.E_NOTFOUND) ∷ [])
        (λ st. (get_device_plan st conn id).grants []) hr.E_NOTFOUND
        (λ datas tally. ap (λ o. if is_none o then Some hr.E_NOTFOUND else None)
        (mapped_none (λ (e : Endpoint). e.no) (named_in id b.book.registry.list) missing))

    -- the number of the one that it names is told
    pub device_told : (e : EndpointNo) → Some e ≡ option_map (λ x. x.no) (named_in id b.book.registry.list) →
        Does faults told moves None AnyData b b (λ st. get_device_plan st conn id) hr.S_OK (to_le_bytes w32 e.0)
    device_told e there =
        let named = number_there e (named_in id b.book.registry.list) there in
        own_told (λ st. (is_none (endpoint_named id st), hr.E_NOTFOUND) ∷ [])
        (λ st. (get_device_plan st conn id).grants []) (to_le_bytes w32 e.0)
        (λ datas tally. ap (λ v. if v then Some hr.E_NOTFOUND else None) named.0)
        (λ datas tally. ap (number_told (state_of datas tally b)) named.1)

  module _ (number : ℕ) where
    -- an endpoint isn't there
    pub info_refused : endpoint_in number b.book.registry.list ≡ None →
        Does faults told moves None AnyData b b (λ st. device_info_plan st conn number) hr.E_NOTFOUND []
    info_refused missing =
        own_refused (λ st. (is_none (endpoint_at number st), hr.E_NOTFOUND) ∷ [])
        (λ st. endpoint_told st (endpoint_at number st)) hr.E_NOTFOUND
        (λ datas tally. ap (λ o. if is_none o then Some hr.E_NOTFOUND else None) missing)

    -- its data are told
    pub info_told : (e : Endpoint) → endpoint_in number b.book.registry.list ≡ Some e →
        Does faults told moves None AnyData b b (λ st. device_info_plan st conn number) hr.S_OK (endpoint_payload e)
    info_told e there =
        own_told (λ st. (is_none (endpoint_at number st), hr.E_NOTFOUND) ∷ [])
        (λ st. endpoint_told st (endpoint_at number st)) (endpoint_payload e)
        (λ datas tally. ap (λ o. if is_none o then Some hr.E_NOTFOUND else None) there)
        (λ datas tally. ap (endpoint_told (state_of datas tally b)) there)
