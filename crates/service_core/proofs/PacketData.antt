-- What calls tell of the packets of a store: how many frames wait, whether there is one, and the first.
use Rattle.std.proofs.Common.{◌≡◌, ℕ, zero, suc, ◌+◌, ◌*◌, ◌/◌, ◌≤◌, ◌==◌, List, [], ◌∷◌, length, take, drop}
use Rattle.std.proofs.Common.{Bool, true, false, Option, refl, sym, ap, ap₂, ◌∙◌, arith, if◌then◌else◌}
use Rattle.std.proofs.lemmas.Bool.Decides.{nat_tests}
use Rattle.std.proofs.lemmas.List.{length-map}
use Rattle.std.proofs.Math.Nat.{mul-div-le, mul-div_left, mul-le-mul_left}
use Rattle.std.proofs.lemmas.Nat.{le-div}
use Rattle.ca_base.specs.declared.ids.StreamKind.{StreamKind}
use Rattle.ca_base.specs.declared.ids.StreamKind.TheVariants as kind
use Rattle.buffer_ring.specs.Kept.{Kept}
use Rattle.wave_format.specs.Frame.{frame_of}
use Rattle.client_state.specs.Rows.{padding_of}
use Rattle.ca_stage.specs.Stage.{frames_waiting, is_render}
use Rattle.ca_machine.specs.Data.{first_packet, packet_bytes, side_of}
use Rattle.period_engine.specs.declared.entry.StreamEntry.{StreamEntry}
use Rattle.period_engine.specs.Agreement.{layout_of}
use Rattle.period_engine.specs.Entries.{stream_with}
use Rattle.period_engine.specs.Packed.{packet_of, packets_from, packets_in}
use Rattle.period_engine.proofs.PacketLists.{length-packets_in}
use Rattle.service_core.specs.Core.{ArePackets, data_in}
use Rattle.service_core.specs.declared.both_ends.BothEnds.{BothEnds}
use Rattle.service_core.proofs.StoreData.{layout_by}
use Rattle.std.specs.Prelude.{Some}

-- some packet has its words
pub one_packet : (n period : ℕ) → 1 ≤ n / (period + 1) → suc period ≤ n
one_packet n period some = omega (arith, mul-le-mul_left (period + 1) some, mul-div-le n (period + 1))

same_step : (n period : ℕ) → n / suc period ≡ n / (period + 1)
same_step n period = let more : suc period ≡ period + 1 = omega arith in ap (λ k. n / k) more

-- the frames that wait are those of the words, as the client's side counts them
pub waiting_is : {F : Type 0} (kept : F → Kept) (e : StreamEntry (BothEnds F)) (words : List ℕ) (count : ℕ)
    (leased : Option ℕ) → ArePackets (layout_of e) words →
    frames_waiting (stream_with (data_in (layout_of e) words count leased) e)
    ≡ padding_of (side_of (Some (stream_with (data_in (layout_of e) words count leased) e))) (length words)
waiting_is kept e words count leased whole = by e.kind
  where
    none : (k : StreamKind) → is_render k ≡ false →
        length (packets_in e.channels e.period words) * e.period ≡ length words / (e.period + 1) * e.period
    none k h =
        ap (λ n. n * e.period) (length-packets_in e.channels e.period words ∙ same_step (length words) e.period)

    by : (k : StreamKind) →
        frames_waiting (stream_with (data_in (layout_of (record e { kind = k })) words count leased)
        (record e { kind = k }))
        ≡ padding_of (side_of (Some (stream_with (data_in (layout_of (record e { kind = k })) words count leased)
        (record e { kind = k })))) (length words)
    by kind.Render = length-map words (frame_of e.channels)
    by kind.Capture = none kind.Capture refl
    by kind.Loopback = none kind.Loopback refl

positive : (n : ℕ) → (suc n == 0) ≡ false
positive n = grind (arith, nat_tests)

-- no packet waits if no word does
pub next_is : (k : StreamKind) (channels period : ℕ) (words : List ℕ) (count : ℕ) (leased : Option ℕ) →
    is_render k ≡ false → ArePackets (layout_by (is_render k) channels period) words →
    (if length (data_in (layout_by (is_render k) channels period) words count leased).packets == 0 then 0 else period)
    ≡ (if length words == 0 then 0 else period)
next_is k channels period words count leased records whole =
    ap (λ b. if length (if b then [] else packets_in channels period words) == 0 then 0 else period) records
    ∙ ap (λ b. if b then 0 else period)
    (ap (λ n. n == 0) (length-packets_in channels period words) ∙ same (whole records))
  where
    none_alike : (n : ℕ) → (n == 0) ≡ (n * suc period == 0)
    none_alike zero = let none : 0 * suc period ≡ 0 = omega arith in ap (λ m. m == 0) (sym none)
    none_alike (suc n) =
        let more : suc n * suc period ≡ suc (n * suc period + period) = grind arith in
        positive n ∙ sym (ap (λ m. m == 0) more ∙ positive (n * suc period + period))

    same : ((n : ℕ) × (length words ≡ n * suc period)) → (length words / suc period == 0) ≡ (length words == 0)
    same whole =
        ap (λ n. n == 0) (ap (λ n. n / suc period) whole.1 ∙ mul-div_left whole.0 (omega arith))
        ∙ none_alike whole.0
        ∙ ap (λ n. n == 0) (sym whole.1)

-- the first packet is that of the first words
pub first_is : (k : StreamKind) (channels period : ℕ) (words : List ℕ) (count : ℕ) (leased : Option ℕ) →
    is_render k ≡ false → ArePackets (layout_by (is_render k) channels period) words → suc period ≤ length words →
    first_packet (data_in (layout_by (is_render k) channels period) words count leased).packets
    ≡ packet_bytes (packet_of channels (take (suc period) words))
first_is k channels period words count leased records whole there =
    ap (λ b. first_packet (if b then [] else packets_in channels period words)) records
    ∙ some (length words / suc period) (least (length words) there)
  where
    least : (n : ℕ) → suc period ≤ n → 1 ≤ n / suc period
    least n h = le-div 1 n (suc period) (omega arith) (omega arith)

    some : (n : ℕ) → 1 ≤ n →
        first_packet (packets_from n channels period words)
        ≡ packet_bytes (packet_of channels (take (suc period) words))
    some zero h = absurd (omega arith)
    some (suc n) h = refl
