-- A packet that is offered to an entry: it waits behind the others, or is lost.
use Rattle.std.proofs.Common.{◌≡◌, ℕ, suc, ◌+◌, ◌*◌, ◌/◌, ◌%◌, ◌<◌, ◌≤◌, Bool, true, false}
use Rattle.std.proofs.Common.{List, [], ◌∷◌, length, drop, set, refl, sym, ap, ◌∙◌, arith}
use Rattle.std.specs.Prelude.{◌==◌, not, nat_lt}
use mir.Val.{bool_byte}
use Rattle.std.proofs.lemmas.Bool.Decides.{nat_tests}
use Rattle.std.proofs.lemmas.List.{length-map}
use Rattle.std.proofs.lemmas.Nat.{le-div, div_below}
use Rattle.ca_base.specs.declared.ids.Gate.TheVariants as gate
use Rattle.ca_stage.specs.Stage.{is_render}
use Rattle.ca_stage.specs.Moves.{fed, moved}
use Rattle.client_state.specs.Frames.{frames_in}
use Rattle.wave_format.specs.Frame.{frame_of}
use Rattle.buffer_ring.specs.declared.step.Deed.TheVariants as deed
use Rattle.buffer_ring.specs.declared.step.StoreStep.{StoreStep}
use Rattle.buffer_ring.specs.declared.step.StoreStep.TheVariants as step
use Rattle.period_engine.specs.declared.entry.StreamEntry.{StreamEntry}
use Rattle.period_engine.specs.Packed.{packet_of}
use Rattle.period_engine.specs.SubSteps.{Turned}
use Rattle.period_engine.specs.Feeds.{PutsIfRoom}
use Rattle.period_engine.proofs.Turns.{same_but}

-- the words of a packet: its head, which is written over the first word, and the others
pub with_head : (words : List ℕ) (head : ℕ) → 1 ≤ length words → set words 0 head ≡ head ∷ drop 1 words
with_head [] head some = absurd (omega arith)
with_head (word ∷ words) head some = refl

pub length-rest : (words : List ℕ) (n : ℕ) → length words ≡ n + 1 → length (drop 1 words) ≡ n
length-rest [] n is = absurd (omega arith)
length-rest (word ∷ words) n is = omega arith

-- what a head tells
pub read_packet : (channels offered : ℕ) (gap : Bool) (rest : List ℕ)
    → packet_of channels ((2 * offered + bool_byte gap) ∷ rest)
    ≡ record { position = offered; follows_gap = gap; frames = frames_in channels rest }
read_packet channels offered true rest =
    let place : (2 * offered + 1) / 2 ≡ offered = omega arith in
    let flag : ((2 * offered + 1) % 2 == 1) ≡ true = grind (arith, nat_tests) in
    λ i. record { position = place i; follows_gap = flag i; frames = frames_in channels rest }
read_packet channels offered false rest =
    let place : (2 * offered + 0) / 2 ≡ offered = omega arith in
    let flag : ((2 * offered + 0) % 2 == 1) ≡ false = grind (arith, nat_tests) in
    λ i. record { position = place i; follows_gap = flag i; frames = frames_in channels rest }

-- whether a store of so much room has room for a packet more
fits_more : (held n period room : ℕ) → held ≡ n * suc period → held + suc period ≤ room
    → nat_lt n (room / (period + 1)) ≡ true
fits_more held n period room is fits =
    let more : suc n * (period + 1) ≡ n * suc period + suc period = grind arith in
    let below = le-div (suc n) room (period + 1) (omega arith) (omega (arith, more)) in
    grind (arith, nat_tests)

fits_none : (held n period room : ℕ) → held ≡ n * suc period → room < held + suc period
    → nat_lt n (room / (period + 1)) ≡ false
fits_none held n period room is full =
    let more : suc n * (period + 1) ≡ n * suc period + suc period = grind arith in
    let above = div_below room (period + 1) (suc n) (omega arith) (omega (arith, more)) in
    grind (arith, nat_tests)

module _ {E : Type 0} (moves : E → List StoreStep → E → Type 0) (a : StreamEntry E) (store : E) (n : ℕ) (rest : List ℕ)
    (packs : is_render a.kind ≡ false) (size : length rest ≡ a.period) (n_is : n ≡ a.period) where
  count : length (frames_in a.channels rest) ≡ n
  count = length-map rest (frame_of a.channels) ∙ size ∙ sym n_is

  abbrev words : List ℕ
  words = (2 * a.offered + bool_byte a.after_gap) ∷ rest

  abbrev after : Bool → StreamEntry E
  after kept = record a {
    store = store;
    offered = a.offered + n;
    ever = a.ever + n;
    after_gap = not kept;
  }

  -- it waits
  waits : PutsIfRoom moves a.room words true a.store store
      → Turned moves (moved (fed (frames_in a.channels rest))) a (after true)
  waits puts = record {
    same = same_but a store a.picked a.position (a.offered + n) (a.ever + n) false;
    steps = step.Acts puts.0 gate.Open deed.Looks ∷ step.Acts puts.1 gate.Open (deed.Puts words) ∷ [];
    made = puts.3;
    packs = (tt, (λ stores. ap (λ k. suc k) size, tt));
    turns = λ d agrees.
        let found : puts.0 ≡ length d.packets * suc a.period = (rw packs at agrees.0) in
        let room = fits_more puts.0 (length d.packets) a.period a.room found (omega (arith, puts.2)) in
        let packet = read_packet a.channels a.offered a.after_gap rest in
        rw (packs, room, packet, count) refl;
    running = refl;
    gate = refl;
    position = refl;
    offered = ap (λ k. a.offered + k) (sym count);
    ever = ap (λ k. a.ever + k) (sym count);
  }

  -- it is lost
  is_lost : PutsIfRoom moves a.room words false a.store store
      → Turned moves (moved (fed (frames_in a.channels rest))) a (after false)
  is_lost puts = record {
    same = same_but a store a.picked a.position (a.offered + n) (a.ever + n) true;
    steps = step.Acts puts.0 gate.Open deed.Looks ∷ [];
    made = puts.2;
    packs = (tt, tt);
    turns = λ d agrees.
        let found : puts.0 ≡ length d.packets * suc a.period = (rw packs at agrees.0) in
        let room = fits_none puts.0 (length d.packets) a.period a.room found (omega (arith, puts.1)) in
        rw (room, count) refl;
    running = refl;
    gate = refl;
    position = refl;
    offered = ap (λ k. a.offered + k) (sym count);
    ever = ap (λ k. a.ever + k) (sym count);
  }

  -- whichever of both
  pub is_offered : (kept : Bool) → PutsIfRoom moves a.room words kept a.store store
      → Turned moves (moved (fed (frames_in a.channels rest))) a (after kept)
  is_offered true puts = waits puts
  is_offered false puts = is_lost puts
