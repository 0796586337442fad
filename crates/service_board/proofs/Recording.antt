-- A period of an endpoint that captures, over entries: its device was read, and those who record it were offered what
-- it gave; or it failed, and they are closed.
use Rattle.std.proofs.Common.{◌≡◌, ℕ, ◌*◌, ◌/◌, ◌≤◌, ◌==◌, List, [], ◌∷◌, ◌++◌, flat_map, Bool, true}
use Rattle.std.proofs.Common.{false, Option, Some, Ok, Err, refl, sym, ap, ◌∙◌, subst, arith, if◌then◌else◌}
use Rattle.std.specs.List.{AllZip, list_any}
use Rattle.std.proofs.lemmas.Bool.{false≢true, or_parts}
use Rattle.std.proofs.Math.Nat.{div-mul-le_self, le_of_mul-le-mul_right}
use Rattle.device_io.specs.DeviceLog.{DeviceLog}
use Rattle.ca_base.specs.declared.ids.Gate.TheVariants as gate
use Rattle.ca_base.specs.declared.ids.Reason.TheVariants.{Removal}
use Rattle.ca_base.specs.declared.ids.StreamKind.{StreamKind}
use Rattle.ca_base.specs.declared.ids.StreamKind.TheVariants as kind
use Rattle.ca_base.specs.declared.environment.Failed.{Failed}
use Rattle.buffer_ring.specs.declared.step.StoreStep.{StoreStep}
use Rattle.ca_stage.specs.Given.{frames_given, whole_frames}
use Rattle.ca_stage.specs.Stage.{Frame, Stream, is_capture, is_loopback, no_data}
use Rattle.ca_stage.specs.Moves.{closed, fed, moved}
use Rattle.ca_stage.specs.Periods.{fed_if, is_open_on, is_recording}
use Rattle.ca_stage.specs.Order.{RisesFrom}
use Rattle.ca_stage.proofs.Lists.{chosen, chosen_by}
use Rattle.device_registry.specs.declared.endpoint.Endpoint.{Endpoint}
use Rattle.ca_machine.specs.Periods.{frames_recorded}
use Rattle.ca_machine.proofs.RecordedStage.{recorded}
use Rattle.period_engine.specs.declared.entry.StreamEntry.{StreamEntry}
use Rattle.period_engine.specs.Entries.{is_recorded, stream_with}
use Rattle.period_engine.specs.Feeds.{AreGiven, Captures, feeds_given}
use Rattle.period_engine.specs.SubSteps.{Turned}
use Rattle.period_engine.proofs.Turns.{same_but}
use Rattle.stream_entries.specs.Closing.{closes_within}
use Rattle.service_board.specs.Plays.{AllGo}
use Rattle.service_board.proofs.ByClient.{all_after, all_turned, clients_of, clients_stay, go_alike, steps_of, within}
use Rattle.service_board.proofs.ByClient.{within_each, within_none}
use Rattle.service_board.proofs.PeriodOrder.{StaysBehind}
use Rattle.service_board.proofs.RecordDoes.{Records, bytes_of}
use Rattle.service_board.proofs.WornEntries.{is_here}

-- ---- nothing was given

pub zero_frames : (channels : ℕ) → 1 ≤ channels → whole_frames channels [] ≡ 0
zero_frames channels some =
    let block : ℕ = channels * 2 in
    let whole : 0 / block * block ≤ 0 * block = omega (arith, div-mul-le_self 0 block) in
    let least : 0 / block ≤ 0 = le_of_mul-le-mul_right whole (omega arith) in
    omega arith

-- then no frame is recorded
pub none_recorded : (e : Endpoint) (size : ℕ) → 1 ≤ e.format.channels → frames_recorded e size [] ≡ 0
none_recorded e size some = ap (λ n. if n == 0 then 0 else size) (zero_frames e.format.channels some)

-- ---- what was given is offered

hears_none : (k : StreamKind) → is_loopback k ≡ true → is_capture k ≡ true → ⊥
hears_none kind.Render l c = false≢true l
hears_none kind.Capture l c = false≢true l
hears_none kind.Loopback l c = false≢true c

module _ {E : Type 0} (moves : E → List StoreStep → E → Type 0) (e : Endpoint) (size : ℕ) (bytes : List ℕ)
  where
    -- what a period makes of a stream, if its device gave these bytes, or failed
    abbrev pub feeds : Bool → Stream → Stream
    feeds whole = feeds_given e.no.0 size e.format.channels bytes whole

    -- a feed leaves the position and the gate, and what was offered to one that hears
    fed_leaves : (frames : List Frame) (a : StreamEntry E) →
        ((fed_if (is_recording e.no.0) frames (stream_with no_data a)).position ≡ a.position)
        × ((fed_if (is_recording e.no.0) frames (stream_with no_data a)).gate ≡ a.gate)
        × (is_loopback a.kind ≡ true → (fed_if (is_recording e.no.0) frames (stream_with no_data a)).ever ≡ a.ever)
    fed_leaves frames a =
        chosen_by (λ (s : Stream). (s.position ≡ a.position) × (s.gate ≡ a.gate)
        × (is_loopback a.kind ≡ true → s.ever ≡ a.ever)) (is_recording e.no.0 (stream_with no_data a))
        (moved (fed frames) (stream_with no_data a)) (stream_with no_data a)
        (λ records. (
          refl,
          refl,
          λ hears. absurd (hears_none a.kind hears (is_here e.no.0 is_capture a records).kind),
        ))
        (λ records. (refl, refl, λ hears. refl))

    feeds_leave : (whole : Bool) (a : StreamEntry E) →
        ((feeds whole (stream_with no_data a)).position ≡ a.position)
        × ((feeds whole (stream_with no_data a)).gate ≡ a.gate)
        × (is_loopback a.kind ≡ true → (feeds whole (stream_with no_data a)).ever ≡ a.ever)
    feeds_leave false a = (refl, refl, λ hears. refl)
    feeds_leave true a =
        chosen (λ (s : Stream). (s.position ≡ a.position) × (s.gate ≡ a.gate)
        × (is_loopback a.kind ≡ true → s.ever ≡ a.ever)) (whole_frames e.format.channels bytes == 0)
        (stream_with no_data a)
        (fed_if (is_recording e.no.0) (frames_given size e.format.channels bytes) (stream_with no_data a))
        (refl, refl, λ hears. refl) (fed_leaves (frames_given size e.format.channels bytes) a)

    -- so what was offered stays behind
    one_fed : (number frames : ℕ) (a b : StreamEntry E) → Turned moves (feeds true) a b →
        StaysBehind number frames false a b
    one_fed number frames a b h =
        let leave = feeds_leave true a in
        let position : b.position ≡ a.position = h.position ∙ leave.0 in
        record {
          position = omega arith;
          heard = λ hears. (let ever : b.ever ≡ a.ever = h.ever ∙ leave.2 hears in omega arith);
          opens = λ unclosed. sym (h.gate ∙ leave.1) ∙ unclosed;
        }

    pub all_fed : (number frames : ℕ) (xs ys : List (StreamEntry E)) → AllZip (Turned moves (feeds true)) xs ys →
        AllZip (StaysBehind number frames false) xs ys
    all_fed number frames [] [] h = tt
    all_fed number frames (x ∷ xs) (y ∷ ys) h = (one_fed number frames x y h.0, all_fed number frames xs ys h.1)
    all_fed number frames [] (y ∷ ys) h = absurd h
    all_fed number frames (x ∷ xs) [] h = absurd h

    -- ---- or the streams are closed

    closed_opens : gate.Closed Removal ≡ gate.Open → ⊥
    closed_opens h = cc

    closes_leave : (b : StreamEntry E) →
        ((closes_within Removal (Some e.no.0) (stream_with no_data b)).position ≡ b.position)
        × ((closes_within Removal (Some e.no.0) (stream_with no_data b)).ever ≡ b.ever)
        × ((closes_within Removal (Some e.no.0) (stream_with no_data b)).gate ≡ gate.Open → b.gate ≡ gate.Open)
    closes_leave b =
        chosen (λ (s : Stream). (s.position ≡ b.position) × (s.ever ≡ b.ever) ×
        (s.gate ≡ gate.Open → b.gate ≡ gate.Open))
        (is_open_on e.no.0 (stream_with no_data b)) (moved (closed Removal) (stream_with no_data b))
        (stream_with no_data b) (refl, refl, λ k. absurd (closed_opens k)) (refl, refl, λ k. k)

    one_lost : (number frames : ℕ) (a b c : StreamEntry E) → Turned moves (feeds false) a b →
        Turned moves (closes_within Removal (Some e.no.0)) b c → StaysBehind number frames false a c
    one_lost number frames a b c h k =
        let leave = closes_leave b in
        let position : c.position ≡ a.position = k.position ∙ leave.0 ∙ h.position in
        let ever : c.ever ≡ a.ever = k.ever ∙ leave.1 ∙ h.ever in
        record {
          position = omega arith;
          heard = λ hears. omega arith;
          opens = λ unclosed. sym h.gate ∙ leave.2 (sym k.gate ∙ unclosed);
        }

    pub all_lost : (number frames : ℕ) (xs ys zs : List (StreamEntry E)) → AllZip (Turned moves (feeds false)) xs ys →
        AllZip (Turned moves (closes_within Removal (Some e.no.0))) ys zs → AllZip (StaysBehind number frames false) xs
        zs
    all_lost number frames [] [] [] h k = tt
    all_lost number frames (x ∷ xs) (y ∷ ys) (z ∷ zs) h k =
        (one_lost number frames x y z h.0 k.0, all_lost number frames xs ys zs h.1 k.1)
    all_lost number frames [] [] (z ∷ zs) h k = absurd k
    all_lost number frames [] (y ∷ ys) zs h k = absurd h
    all_lost number frames (x ∷ xs) [] zs h k = absurd h
    all_lost number frames (x ∷ xs) (y ∷ ys) [] h k = absurd k

-- ---- the whole period

module _ {E : Type 0} (moves : E → List StoreStep → E → Type 0) (e : Endpoint) (size : ℕ) (xs : List (StreamEntry E))
    (rises : RisesFrom 0 (clients_of xs)) (faults faults' : ℕ) (told told' : Option (List DeviceLog)) where
  -- an entry records the endpoint, and its device gave what it had
  pub whole_records : (ys : List (StreamEntry E)) (n : ℕ) → list_any (is_recorded e.no.0) xs ≡ true →
      (captures : Captures moves e.no.0 size e.format.channels (Ok n) xs ys faults told faults' told') →
      Records moves e size true captures.pieces xs ys faults told faults' told'
  whole_records ys n some captures =
      let f : Stream → Stream = feeds moves e size (flat_map (λ piece. piece) captures.pieces) true in
      let s : ℕ → List StoreStep = steps_of moves f xs ys captures.turned in
      record {
        steps = within xs s;
        went =
            go_alike moves f s (within xs s) xs ys (within_each xs s)
            (all_turned moves f 0 xs ys captures.turned rises);
        none = within_none xs s;
        given = subst (λ b. AreGiven (if b then bytes_of e size else 0) captures.pieces true) (sym some) captures.given;
        tells = captures.tells;
        rises = captures.rises;
      }

  -- or its device failed
  pub lost_records : (joins : (a b c : E) (s t : List StoreStep) → moves a s b → moves b t c → moves a (s ++ t) c)
      (ys zs : List (StreamEntry E)) (x : Failed) → list_any (is_recorded e.no.0) xs ≡ true →
      (captures : Captures moves e.no.0 size e.format.channels (Err x) xs ys faults told faults' told') →
      AllZip (Turned moves (closes_within Removal (Some e.no.0))) ys zs →
      Records moves e size false captures.pieces xs zs faults told faults' told'
  lost_records joins ys zs x some captures closes =
      let f : Stream → Stream = feeds moves e size (flat_map (λ piece. piece) captures.pieces) false in
      let g : Stream → Stream = closes_within Removal (Some e.no.0) in
      let s : ℕ → List StoreStep = steps_of moves f xs ys captures.turned in
      let t : ℕ → List StoreStep = steps_of moves g ys zs closes in
      let u : ℕ → List StoreStep = λ n. s n ++ t n in
      let first : AllGo moves f s xs ys = all_turned moves f 0 xs ys captures.turned rises in
      let rises' : RisesFrom 0 (clients_of ys) =
      subst (RisesFrom 0) (sym (clients_stay moves f s xs ys first)) rises in
      let last : AllGo moves g t ys zs = all_turned moves g 0 ys zs closes rises' in
      record {
        steps = within xs u;
        went =
            go_alike moves (recorded e size (flat_map (λ piece. piece) captures.pieces) false) u (within xs u) xs zs
            (within_each xs u)
            (all_after moves joins f g s t xs ys zs first last);
        none = within_none xs u;
        given = subst (λ b. AreGiven (if b then bytes_of e size else 0) captures.pieces false) (sym some)
            captures.given;
        tells = captures.tells;
        rises = captures.rises;
      }

-- no entry records the endpoint: its device isn't asked, and nothing changes
module _ {E : Type 0} (moves : E → List StoreStep → E → Type 0) (stays : (a : E) → moves a [] a) (e : Endpoint)
    (size : ℕ)
  where
    fed_none : (s : Stream) → is_recording e.no.0 s ≡ false → recorded e size [] true s ≡ s
    fed_none s h =
        chosen (λ t. t ≡ s) (whole_frames e.format.channels [] == 0) s
        (fed_if (is_recording e.no.0) (frames_given size e.format.channels []) s) refl
        (ap (λ b. if b then moved (fed (frames_given size e.format.channels [])) s else s) h)

    idle_goes : (xs : List (StreamEntry E)) → list_any (is_recorded e.no.0) xs ≡ false →
        AllGo moves (recorded e size [] true) (λ n. []) xs xs
    idle_goes [] none = tt
    idle_goes (x ∷ xs) none =
        let parts = or_parts (is_recorded e.no.0 x) (list_any (is_recorded e.no.0) xs) none in (
          record {
            same = same_but x x.store x.picked x.position x.offered x.ever x.after_gap;
            made = stays x.store;
            packs = tt;
            turns = λ d agrees. fed_none (stream_with d x) parts.0;
          },
          idle_goes xs parts.1,
        )

    pub idle_records : (xs : List (StreamEntry E)) (faults : ℕ) (told : Option (List DeviceLog)) →
        list_any (is_recorded e.no.0) xs ≡ false → Records moves e size true [] xs xs faults told faults told
    idle_records xs faults told none = record {
      steps = λ n. [];
      went = idle_goes xs none;
      none = λ client gone. refl;
      given = ap (λ b. if b then bytes_of e size else 0) none;
      tells = refl;
      rises = refl;
    }
