-- The first packet of a store, as bytes that are put batch by batch.
use Rattle.std.proofs.Common.{◌≡◌, ℕ, zero, suc, ◌+◌, ◌-◌, ◌*◌, ◌/◌, ◌%◌, ◌<◌, ◌≤◌, ◌==◌, List, [], ◌∷◌, ◌++◌}
use Rattle.std.proofs.Common.{length, map}
use Rattle.std.proofs.Common.{take, drop, min, Option, Some, None, slice_get, refl, sym, ap, subst, ◌∙◌}
use Rattle.std.proofs.Common.{append_assoc, arith}
use Rattle.std.specs.List.{flat_map}
use Rattle.std.specs.Int.{w32, w64, to_le_bytes}
use Rattle.std.proofs.Math.Nat.{mul-le-mul_left}
use Rattle.std.proofs.Math.Seq.{take-add}
use Rattle.std.proofs.lemmas.Grind.{flat_map-append}
use Rattle.std.proofs.lemmas.List.{drop-drop, length-drop, length-map, length-take-le, map-append}
use Rattle.std.specs.Option.{option_map_or}
use Rattle.std.proofs.lemmas.Option.{none-some}
use Rattle.buffer_ring.specs.Kept.{Kept, RunsSteps}
use Rattle.buffer_ring.specs.Steps.{reads_from}
use Rattle.wave_format.specs.Frame.{frame_bytes, frame_of}
use Rattle.ca_machine.specs.Data.{packet_bytes, packet_flags}
use Rattle.period_engine.specs.Packed.{packet_of}
use Rattle.period_engine.specs.declared.entry.StreamEntry.{StreamEntry}
use Rattle.reply_payload.specs.Packets.{frames_bytes, packet_head}
use Rattle.service_core.specs.Core.{IsLooked}
use Rattle.service_core.specs.declared.both_ends.BothEnds.{BothEnds}

-- one more look
pub looked_on : {F : Type 0} (kept : F → Kept) (a m : StreamEntry (BothEnds F)) → IsLooked kept a m → (s : F) →
    kept s ≡ kept m.store.store → IsLooked kept a (record m { store = record (m.store) { store = s } })
looked_on {F} kept a m looked s is = record {
  same = ap (λ e. let next : StreamEntry (BothEnds F) = record e { store = record (m.store) { store = s } } in next)
      looked.same;
  side = looked.side;
  store = is ∙ looked.store;
}

from_here : (i : ℕ) (words : List ℕ) (word : ℕ) → slice_get words i ≡ Some word →
    drop i words ≡ word ∷ drop (suc i) words
from_here zero [] word is = absurd (none-some word is)
from_here (suc i) [] word is = absurd (none-some word is)
from_here zero (x ∷ xs) word is = ap (λ o. option_map_or (λ (n : ℕ). n) o 0 ∷ xs) is
from_here (suc i) (x ∷ xs) word is = from_here i xs word is

-- what was read stands there, and nothing was changed
pub read_words : (k new : Kept) (i : ℕ) (words : List ℕ) → RunsSteps k (reads_from i words) new →
    (new ≡ k) × (take (length words) (drop i k.words) ≡ words)
read_words k new i [] run = (run, refl)
read_words k new i (word ∷ words) run =
    let rest = read_words k new (suc i) words
    (subst (λ m. RunsSteps m (reads_from (suc i) words) new) run.1.1 run.2) in (
      rest.0,
      ap (take (suc (length words))) (from_here i k.words word run.1.0) ∙ ap (λ l. word ∷ l) rest.1,
    )

pub frames_more : (channels : ℕ) (a b : List ℕ) →
    frames_bytes channels (a ++ b) ≡ frames_bytes channels a ++ frames_bytes channels b
frames_more channels a b =
    ap (flat_map frame_bytes) (map-append (frame_of channels) a b)
    ∙ flat_map-append frame_bytes (map (frame_of channels) a) (map (frame_of channels) b)

-- a batch more
pub batch_put : (channels place count : ℕ) (head out words batch : List ℕ) →
    out ≡ head ++ frames_bytes channels (take place (drop 1 words)) → take count (drop (1 + place) words) ≡ batch →
    out ++ frames_bytes channels batch ≡ head ++ frames_bytes channels (take (place + count) (drop 1 words))
batch_put channels place count head out words batch so_far here =
    let one : 1 + place ≡ place + 1 = omega arith in
    let behind : take count (drop place (drop 1 words)) ≡ batch =
    ap (take count) (drop-drop place 1 words) ∙ here in
    ap (λ l. l ++ frames_bytes channels batch) so_far
    ∙ append_assoc head (frames_bytes channels (take place (drop 1 words))) (frames_bytes channels batch)
    ∙ ap (λ l. head ++ l) (sym (frames_more channels (take place (drop 1 words)) batch)
    ∙ ap (frames_bytes channels) (ap (λ l. take place (drop 1 words) ++ l) (sym behind)
    ∙ sym (take-add place count (drop 1 words))))

pub batch_size : (channels place count : ℕ) →
    16 + place * (channels * 2) + count * (channels * 2) ≡ 16 + (place + count) * (channels * 2)
batch_size channels place count = grind arith

-- so many frames fit
pub batch_fits : (channels place count period most : ℕ) → channels ≤ 4 → place + count ≤ period →
    16 + period * 8 ≤ most → 16 + place * (channels * 2) + count * (channels * 2) ≤ most
batch_fits channels place count period most few within fits =
    let narrow : channels * 2 ≤ 8 = omega arith in
    let a : place * (channels * 2) ≤ place * 8 = mul-le-mul_left place narrow in
    let b : count * (channels * 2) ≤ count * 8 = mul-le-mul_left count narrow in
    omega (arith, a, b, within, fits)

-- the whole packet
pub packet_is : (channels period head : ℕ) (words : List ℕ) → slice_get words 0 ≡ Some head →
    suc period ≤ length words →
    packet_head period (head % 2 == 1) (head / 2) ++ frames_bytes channels (take period (drop 1 words))
    ≡ packet_bytes (packet_of channels (take (suc period) words))
packet_is channels period head words first there =
    let front : take (suc period) words ≡ head ∷ take period (drop 1 words) =
    ap (take (suc period)) (from_here 0 words head first) in
    let size : length (map (frame_of channels) (take period (drop 1 words))) ≡ period =
    length-map (take period (drop 1 words)) (frame_of channels)
    ∙ length-take-le period (drop 1 words) (omega (arith, length-drop 1 words, there)) in
    let body = frames_bytes channels (take period (drop 1 words)) in
    let flags = to_le_bytes w32 (packet_flags (packet_of channels (head ∷ take period (drop 1 words)))) in
    let position = to_le_bytes w64 (head / 2) in
    append_assoc (to_le_bytes w32 period) (flags ++ position) body
    ∙ ap (λ l. to_le_bytes w32 period ++ l) (append_assoc flags position body)
    ∙ ap (λ n. to_le_bytes w32 n ++ flags ++ position ++ body) (sym size)
    ∙ ap (λ ws. packet_bytes (packet_of channels ws)) (sym front)
