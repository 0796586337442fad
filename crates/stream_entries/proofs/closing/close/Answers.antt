use Rattle.std.proofs.Common.{◌≡◌, ℕ, [], ◌∷◌, false, true, Option, Some, None, refl, sym, ap, ◌∙◌, if◌then◌else◌}
use Rattle.ca_base.specs.declared.ids.Gate.TheVariants as gate
use Rattle.buffer_ring.specs.declared.step.Deed.TheVariants as deed
use Rattle.buffer_ring.specs.declared.step.StoreStep.TheVariants as step
use Rattle.ca_stage.specs.Stage.{BufferData, Stream, no_data}
use Rattle.ca_stage.specs.Moves.{closed, moved}
use Rattle.period_engine.specs.declared.entry.StreamEntry.{StreamEntry}
use Rattle.period_engine.specs.Entries.{stream_with}
use Rattle.stream_entries.specs.Closing.{closes_within, is_entry_within, is_open_within, scope_of}
use Rattle.stream_entries.proofs.Closable.{same_but_running}
use Rattle.stream_entries.proofs.closing.close.Goals as goal

-- whatever the data
within_any : {E : Type 0} (scope : Option ℕ) (d : BufferData) (e : StreamEntry E) →
    is_open_within scope (stream_with d e) ≡ is_entry_within scope e
within_any None d e = refl
within_any (Some number) d e = refl

pub returns-then-is_within-clause-turned : goal.returns-then-is_within-clause-turned
returns-then-is_within-clause-turned g c =
    let a = c.args.entry.now in
    let reason = c.args.reason in
    let within : is_entry_within (scope_of c.args.scope) a ≡ true = sym c.is_within.ensures ∙ c.if-is_within.true in
    let closes : (d : BufferData) → closes_within reason (scope_of c.args.scope) (stream_with d a)
    ≡ moved (closed reason) (stream_with d a) =
    λ d. ap (λ w. if w then moved (closed reason) (stream_with d a) else stream_with d a)
    (within_any (scope_of c.args.scope) d a ∙ within) in
    record {
      same = same_but_running a c.close.new.self (gate.Closed reason) false 0;
      steps = step.Acts c.close.result gate.Open (deed.Closes reason) ∷ [];
      made = c.close.ensures;
      packs = (tt, tt);
      turns = λ d agrees. closes d;
      running = sym (ap (λ (s : Stream). s.running) (closes no_data));
      gate = sym (ap (λ (s : Stream). s.gate) (closes no_data));
      position = sym (ap (λ (s : Stream). s.position) (closes no_data));
      offered = sym (ap (λ (s : Stream). s.offered) (closes no_data));
      ever = sym (ap (λ (s : Stream). s.ever) (closes no_data));
    }
