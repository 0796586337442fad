-- What the rows of data calls leave, and that a size beyond all frames stands for any other such size.
use Rattle.std.proofs.Common.{◌≡◌, ◌≢◌, ℕ, zero, suc, ◌+◌, ◌-◌, ◌*◌, ◌/◌, ◌<◌, ◌≤◌, ◌==◌, ◌&&◌, ◌||◌, not, nat_lt, min}
use Rattle.std.proofs.Common.{[], ◌∷◌}
use Rattle.std.proofs.Common.{length, Bool, true, false, Option, Some, None, IfSome, is_none, is_some, refl, sym, ap}
use Rattle.std.proofs.Common.{ap₂, ◌∙◌, arith, if◌then◌else◌, eqb, eqb-true}
use Rattle.std.proofs.Math.Nat.{mul-le-mul_left}
use Rattle.std.proofs.lemmas.Bool.{or_parts, true≢false}
use Rattle.std.proofs.lemmas.Option.{none-some}
use Rattle.std.proofs.lemmas.Bool.Decides.{nat_tests}
use Rattle.ca_base.specs.declared.codes.Hr.{Hr}
use Rattle.ca_base.specs.declared.codes.TheConstants.Hr as hr
use Rattle.ca_base.specs.declared.ids.Gate.{Gate}
use Rattle.ca_base.specs.declared.ids.Gate.TheVariants as gate
use Rattle.ca_base.specs.declared.ids.Seen.{Seen}
use Rattle.ca_base.specs.declared.ids.StreamKind.{StreamKind}
use Rattle.ca_base.specs.declared.ids.StreamKind.TheVariants as kind
use Rattle.ca_base.specs.declared.limits.TheConstants.{MAX_COUNT, MAX_STORE_WORDS}
use Rattle.ca_base.specs.declared.values.TheConstants.{BUFFER_SILENT}
use Rattle.ca_base.specs.Rows.{first}
use Rattle.client_state.specs.declared.check.DataCall.TheVariants as data_call
use Rattle.client_state.specs.declared.side.ClientSide.{ClientSide}
use Rattle.client_state.specs.Rows.{has_wrong_size, is_closed, is_lease_below, is_render, is_shut_down, padding_of}
use Rattle.client_state.specs.Rows.{side_rows}
use Rattle.buffer_ring.specs.Kept.{Kept}
use Rattle.ca_stage.specs.Stage.{is_render as renders_kind}
use Rattle.ca_machine.specs.Data.{dir_of}
use Rattle.period_engine.specs.declared.entry.StreamEntry.{StreamEntry}
use Rattle.service_core.specs.Core.{HasSide, seen_in}
use Rattle.service_core.specs.declared.both_ends.BothEnds.{BothEnds}

-- ---- the size

-- the verdict of the rows by what they test
verdict : Bool → Bool → Bool → Bool → Bool → Bool → Bool → Bool → Option Hr
verdict fresh shut closed other unleased below wrong worn = first (
    (fresh, hr.NOT_INITIALIZED)
    ∷ (shut, hr.SERVICE_NOT_RUNNING)
    ∷ (closed, hr.DEVICE_INVALIDATED)
    ∷ (other, hr.WRONG_ENDPOINT_TYPE)
    ∷ (unleased, hr.OUT_OF_ORDER)
    ∷ (below, hr.INVALID_SIZE)
    ∷ (wrong, hr.E_INVALIDARG)
    ∷ (worn, hr.WORN)
    ∷ [])

same_verdict : (fresh shut closed other unleased below wrong wrong' worn : Bool) →
    (other ≡ false → unleased ≡ false → below ≡ false → wrong ≡ wrong') →
    verdict fresh shut closed other unleased below wrong worn ≡ verdict fresh shut closed other unleased below wrong'
    worn
unfolding verdict
same_verdict fresh shut closed true unleased below wrong wrong' worn h = refl
same_verdict fresh shut closed false true below wrong wrong' worn h = refl
same_verdict fresh shut closed false false true wrong wrong' worn h = refl
same_verdict fresh shut closed false false false wrong wrong' worn h =
    ap (λ w. verdict fresh shut closed false false false w worn) (h refl refl refl)

same_test : (size x most : ℕ) → x < most → eqb (min size most) x ≡ eqb size x
same_test size x most lt = grind (arith, nat_tests)

-- a size of so many frames is far below 2 ^ 32
small_size : (frames frame_size n : ℕ) → frames ≤ n → n ≤ MAX_STORE_WORDS → frame_size ≤ 8 →
    frames * frame_size < 4294967295
small_size frames frame_size n few small narrow = omega (arith, mul-le-mul_left frames narrow)

not_less : (n m : ℕ) → nat_lt n m ≡ false → m ≤ n
not_less n m h = grind (arith, nat_tests)

pub size_stands : (side : ClientSide) (frames flags size : ℕ) (seen : Seen) →
    (not (is_render side.dir) ≡ false → IfSome side.lease (λ n. n ≤ MAX_STORE_WORDS)) → side.block ≤ 8 →
    first (side_rows side (data_call.Release frames flags (min size 4294967295)) seen)
    ≡ first (side_rows side (data_call.Release frames flags size) seen)
unfolding verdict
size_stands side frames flags size seen small narrow =
    same_verdict (side.buffer == 0) (is_shut_down seen.gate) (is_closed seen.gate) (not (is_render side.dir))
    (is_none side.lease) (is_lease_below frames side.lease)
    (has_wrong_size side frames flags (min size 4294967295)) (has_wrong_size side frames flags size)
    (nat_lt (MAX_COUNT - frames) side.released)
    (λ plays leased fits. ap₂
    (λ a b. not (flags == 0 || flags == BUFFER_SILENT) || not (a || flags == BUFFER_SILENT && b))
    (same_test size (frames * side.block) 4294967295 (fits_in side.lease leased fits (small plays)))
    (same_test size 0 4294967295 (omega arith)))
  where
    fits_in : (lease : Option ℕ) → is_none lease ≡ false → is_lease_below frames lease ≡ false →
        IfSome lease (λ n. n ≤ MAX_STORE_WORDS) → frames * side.block < 4294967295
    fits_in None leased fits small = cc
    fits_in (Some n) leased fits small = small_size frames side.block n (not_less n frames fits) small narrow

-- ---- what passes

-- no row refused: the stream plays, the gate is open, enough is leased, the data have the size of the frames unless
-- they are silent, and the count stays in range
pub record PassesRelease (side : ClientSide) (frames flags size : ℕ) (seen : Seen) : Type 0 where
  pub plays : is_render side.dir ≡ true
  pub opens : seen.gate ≡ gate.Open
  pub lease : ℕ
  pub leased : side.lease ≡ Some lease
  pub enough : frames ≤ lease
  pub fits : flags ≢ BUFFER_SILENT → size ≡ frames * side.block
  pub counts : side.released + frames ≤ MAX_COUNT

is_true : (b : Bool) → not b ≡ false → b ≡ true
is_true true h = refl
is_true false h = cc

-- a row that doesn't hold, and the rows behind it
no_row : (b : Bool) (code : Hr) (rest : Option Hr) → (if b then Some code else rest) ≡ None →
    (b ≡ false) × (rest ≡ None)
no_row true code rest h = absurd (none-some code (sym h))
no_row false code rest h = (refl, h)

open_gate : (g : Gate) → is_closed g ≡ false → g ≡ gate.Open
open_gate gate.Open h = refl
open_gate (gate.Closed reason) h = cc

has_lease : (frames : ℕ) (lease : Option ℕ) → is_none lease ≡ false → is_lease_below frames lease ≡ false →
    (n : ℕ) × (lease ≡ Some n) × (frames ≤ n)
has_lease frames None some fits = cc
has_lease frames (Some n) some fits = (n, refl, not_less n frames fits)

right_size : (side : ClientSide) (frames flags size : ℕ) → has_wrong_size side frames flags size ≡ false →
    flags ≢ BUFFER_SILENT → size ≡ frames * side.block
right_size side frames flags size h loud =
    let silent : (flags == BUFFER_SILENT) ≡ false = differ flags loud in
    let second : (not (size == frames * side.block || flags == BUFFER_SILENT && size == 0)) ≡ false =
    (or_parts (not (flags == 0 || flags == BUFFER_SILENT))
    (not (size == frames * side.block || flags == BUFFER_SILENT && size == 0)) h).1 in
    by (size == frames * side.block) refl
    (sym (ap (λ b. not (size == frames * side.block || b && size == 0)) silent) ∙ second)
  where
    differ : (n : ℕ) → n ≢ BUFFER_SILENT → eqb n BUFFER_SILENT ≡ false
    differ n h = grind (arith, nat_tests)

    by : (b : Bool) → eqb size (frames * side.block) ≡ b → not (b || false && size == 0) ≡ false →
        size ≡ frames * side.block
    by true t h = eqb-true size (frames * side.block) t
    by false t h = cc

pub release_passes : (side : ClientSide) (frames flags size : ℕ) (seen : Seen) → frames ≤ MAX_COUNT →
    first (side_rows side (data_call.Release frames flags size) seen) ≡ None →
    PassesRelease side frames flags size seen
release_passes side frames flags size seen few h =
    let a = no_row (side.buffer == 0) hr.NOT_INITIALIZED _ h in
    let b = no_row (is_shut_down seen.gate) hr.SERVICE_NOT_RUNNING _ a.1 in
    let c = no_row (is_closed seen.gate) hr.DEVICE_INVALIDATED _ b.1 in
    let d = no_row (not (is_render side.dir)) hr.WRONG_ENDPOINT_TYPE _ c.1 in
    let e = no_row (is_none side.lease) hr.OUT_OF_ORDER _ d.1 in
    let f = no_row (is_lease_below frames side.lease) hr.INVALID_SIZE _ e.1 in
    let g = no_row (has_wrong_size side frames flags size) hr.E_INVALIDARG _ f.1 in
    let k = no_row (nat_lt (MAX_COUNT - frames) side.released) hr.WORN _ g.1 in
    let lease = has_lease frames side.lease e.0 f.0 in
    record {
      plays = is_true (is_render side.dir) d.0;
      opens = open_gate seen.gate c.0;
      lease = lease.0;
      leased = lease.1;
      enough = lease.2;
      fits = right_size side frames flags size g.0;
      counts = below (not_less (MAX_COUNT - frames) side.released k.0);
    }
  where
    below : side.released ≤ MAX_COUNT - frames → side.released + frames ≤ MAX_COUNT
    below h = omega (arith, h, few)

-- a lease fits in the room that is left
pub get_passes : (side : ClientSide) (n : ℕ) (seen : Seen) → first (side_rows side (data_call.Get n) seen) ≡ None →
    (seen.gate ≡ gate.Open) × (n ≤ side.store_frames - seen.words)
get_passes side n seen h =
    let a = no_row (side.buffer == 0) hr.NOT_INITIALIZED _ h in
    let b = no_row (is_shut_down seen.gate) hr.SERVICE_NOT_RUNNING _ a.1 in
    let c = no_row (is_closed seen.gate) hr.DEVICE_INVALIDATED _ b.1 in
    let d = no_row (not (is_render side.dir)) hr.WRONG_ENDPOINT_TYPE _ c.1 in
    let e = no_row (is_some side.lease) hr.OUT_OF_ORDER _ d.1 in
    let f = no_row (side.exclusive && side.event && not (n == side.buffer)) hr.BUFFER_SIZE_ERROR _ e.1 in
    let g = no_row (nat_lt (side.store_frames - padding_of side seen.words) n) hr.BUFFER_TOO_LARGE _ f.1 in (
      open_gate seen.gate c.0,
      fits (is_render side.dir) d.0
          (not_less (side.store_frames - padding_of side seen.words) n g.0),
    )
  where
    fits : (b : Bool) → not b ≡ false →
        n ≤ side.store_frames - (if b then seen.words else seen.words / (side.period + 1) * side.period) →
        n ≤ side.store_frames - seen.words
    fits true t h = h
    fits false t h = cc

-- a packet is leased where the stream records, no lease is there, and there is some packet
pub record PassesPacket (side : ClientSide) (seen : Seen) : Type 0 where
  pub records : is_render side.dir ≡ false
  pub opens : seen.gate ≡ gate.Open
  pub some : 1 ≤ seen.words / (side.period + 1)

pub packet_passes : (side : ClientSide) (seen : Seen) → first (side_rows side data_call.CaptureGet seen) ≡ None →
    PassesPacket side seen
packet_passes side seen h =
    let a = no_row (side.buffer == 0) hr.NOT_INITIALIZED _ h in
    let b = no_row (is_shut_down seen.gate) hr.SERVICE_NOT_RUNNING _ a.1 in
    let c = no_row (is_closed seen.gate) hr.DEVICE_INVALIDATED _ b.1 in
    let d = no_row (is_render side.dir) hr.WRONG_ENDPOINT_TYPE _ c.1 in
    let e = no_row (is_some side.lease) hr.OUT_OF_ORDER _ d.1 in
    let f = no_row (padding_of side seen.words == 0) hr.S_BUFFER_EMPTY _ e.1 in
    record {
      records = d.0;
      opens = open_gate seen.gate c.0;
      some = some_packet (seen.words / (side.period + 1)) side.period
          (sym (ap (λ b. (if b then seen.words else seen.words / (side.period + 1) * side.period) == 0) d.0) ∙ f.0);
    }
  where
    some_packet : (n period : ℕ) → (n * period == 0) ≡ false → 1 ≤ n
    some_packet zero period h =
        let none : 0 * period ≡ 0 = omega arith in absurd (true≢false (sym (ap (λ n. n == 0) none) ∙ h))
    some_packet (suc n) period h = omega arith

-- a packet is released where the stream records, and none or all of its frames are
pub record PassesRead (side : ClientSide) (seen : Seen) : Type 0 where
  pub records : is_render side.dir ≡ false
  pub opens : seen.gate ≡ gate.Open

pub read_passes : (side : ClientSide) (frames : ℕ) (seen : Seen) →
    first (side_rows side (data_call.CaptureRelease frames) seen) ≡ None → PassesRead side seen
read_passes side frames seen h =
    let a = no_row (side.buffer == 0) hr.NOT_INITIALIZED _ h in
    let b = no_row (is_shut_down seen.gate) hr.SERVICE_NOT_RUNNING _ a.1 in
    let c = no_row (is_closed seen.gate) hr.DEVICE_INVALIDATED _ b.1 in
    let d = no_row (is_render side.dir) hr.WRONG_ENDPOINT_TYPE _ c.1 in
    record { records = d.0; opens = open_gate seen.gate c.0 }

-- the size of the next packet is asked where the stream records
pub next_passes : (side : ClientSide) (seen : Seen) → first (side_rows side data_call.NextSize seen) ≡ None →
    is_render side.dir ≡ false
next_passes side seen h =
    let a = no_row (side.buffer == 0) hr.NOT_INITIALIZED _ h in
    let b = no_row (is_shut_down seen.gate) hr.SERVICE_NOT_RUNNING _ a.1 in
    let c = no_row (is_closed seen.gate) hr.DEVICE_INVALIDATED _ b.1 in
    (no_row (is_render side.dir) hr.WRONG_ENDPOINT_TYPE _ c.1).0

-- ---- on an entry

-- the side of a stream that plays has that way
pub way_of : (k : StreamKind) → is_render (dir_of k) ≡ renders_kind k
way_of kind.Render = refl
way_of kind.Capture = refl
way_of kind.Loopback = refl

module _ {F : Type 0} (kept : F → Kept) (e : StreamEntry (BothEnds F)) (has : HasSide kept e) (few : e.channels ≤ 4)
  where
    -- the way of the client's side is that of the stream's kind
    pub side_way : is_render e.store.side.dir ≡ renders_kind e.kind
    side_way = ap (λ side. is_render side.dir) has.side ∙ way_of e.kind

    small_lease : (lease : Option ℕ) (words room : ℕ) → IfSome lease (λ n. n ≤ room - words) → room ≤ MAX_STORE_WORDS →
        IfSome lease (λ n. n ≤ MAX_STORE_WORDS)
    small_lease None words room fits small = tt
    small_lease (Some n) words room fits small = omega (arith, fits, small)

    pub block_is : e.store.side.block ≡ e.channels * 2
    block_is = ap (λ side. side.block) has.side

    -- the rows over the size that was handed on are those over the size
    pub entry_rows : (frames flags size handed : ℕ) → handed ≡ min size 4294967295 →
        first (side_rows e.store.side (data_call.Release frames flags handed) (seen_in (kept e.store.store)))
        ≡ first (side_rows e.store.side (data_call.Release frames flags size) (seen_in (kept e.store.store)))
    entry_rows frames flags size handed is =
        let narrow : e.store.side.block ≤ 8 = omega (arith, block_is, few) in
        ap (λ n. first (side_rows e.store.side (data_call.Release frames flags n) (seen_in (kept e.store.store)))) is
        ∙ size_stands e.store.side frames flags size (seen_in (kept e.store.store))
        (λ plays. small_lease e.store.side.lease (length (kept e.store.store).words) e.room
        (has.room (sym side_way ∙ is_true (is_render e.store.side.dir) plays)) has.small) narrow
