-- Sub-steps of one entry: what its fields and the steps of its store are to a move of its stream.
use Rattle.std.proofs.Common.{◌≡◌, ℕ, Bool, true, false}
use Rattle.std.proofs.Common.{List, [], ◌∷◌, length, refl, sym, ap, arith}
use Rattle.std.specs.Prelude.{◌==◌, ◌&&◌, min}
use Rattle.ca_stage.specs.Stage.{Stream, BufferData, is_open_gate, is_render, no_data}
use Rattle.buffer_ring.specs.declared.step.Deed.TheVariants as deed
use Rattle.buffer_ring.specs.declared.step.StoreStep.{StoreStep}
use Rattle.buffer_ring.specs.declared.step.StoreStep.TheVariants as step
use Rattle.buffer_ring.specs.declared.step.EndState.{EndState}
use Rattle.period_engine.specs.declared.entry.StreamEntry.{StreamEntry}
use Rattle.period_engine.specs.Entries.{is_played, stream_with}
use Rattle.period_engine.specs.SubSteps.{IsSameEntry, Turned, picks_on}

pub both : (a b : Bool) → (a && b) ≡ true → (a ≡ true) × (b ≡ true)
both true b h = (refl, h)
both false b h = absurd (cc)

-- an entry whose store and counts alone may have changed
pub same_but : {E : Type 0} (a : StreamEntry E) (store : E) (picked position offered ever : ℕ) (after_gap : Bool)
    → IsSameEntry a (record a {
      store = store;
      picked = picked;
      position = position;
      offered = offered;
      ever = ever;
      after_gap = after_gap;
    })
same_but a store picked position offered ever after_gap = record {
  client = refl;
  endpoint = refl;
  kind = refl;
  exclusive = refl;
  event = refl;
  channels = refl;
  rate = refl;
  buffer = refl;
  period = refl;
  room = refl;
  latency = refl;
  session = refl;
  gains = refl;
}

-- an entry whose stream stays as it is
pub unmoved : {E : Type 0} (moves : E → List StoreStep → E → Type 0) (f : Stream → Stream) (a : StreamEntry E)
    → ((e : E) → moves e [] e) → ((d : BufferData) → f (stream_with d a) ≡ stream_with d a) → Turned moves f a a
unmoved moves f a none stays = record {
  same = same_but a a.store a.picked a.position a.offered a.ever a.after_gap;
  steps = [];
  made = none a.store;
  packs = tt;
  turns = λ d agrees. stays d;
  running = ap (λ s. s.running) (sym (stays no_data));
  gate = ap (λ s. s.gate) (sym (stays no_data));
  position = ap (λ s. s.position) (sym (stays no_data));
  offered = ap (λ s. s.offered) (sym (stays no_data));
  ever = ap (λ s. s.ever) (sym (stays no_data));
}

-- an entry that is played, whose store was looked at: what is due is picked
pub picks : {E : Type 0} (moves : E → List StoreStep → E → Type 0) (state : E → EndState) (number p held n : ℕ)
    (a : StreamEntry E) (store : E) → is_played number a ≡ true → n ≡ min held p
    → moves a.store (step.Acts held (state a.store).gate deed.Looks ∷ []) store
    → Turned moves (picks_on number p) a (record a { store = store; picked = n })
picks {E} moves state number p held n a store plays is made =
    let kind : is_render a.kind ≡ true =
    (both a.running (is_render a.kind) (both (is_open_gate a.gate) (a.running && is_render a.kind)
    (both (a.endpoint.0 == number) (is_open_gate a.gate && (a.running && is_render a.kind)) plays).1).1).1 in
    record {
      same = same_but a store n a.position a.offered a.ever a.after_gap;
      steps = step.Acts held (state a.store).gate deed.Looks ∷ [];
      made = made;
      packs = (tt, tt);
      turns = λ d agrees.
          let found : held ≡ length d.pending = (rw kind at agrees.0) in
          let due : min p (length d.pending) ≡ n = omega arith in
          rw plays (ap (λ k. record (stream_with d a) { picked = k }) due);
      running = rw plays refl;
      gate = rw plays refl;
      position = rw plays refl;
      offered = rw plays refl;
      ever = rw plays refl;
    }
