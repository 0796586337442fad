use Rattle.std.proofs.Common.{◌≡◌, ◌+◌, ◌/◌, ◌*◌, ◌==◌, ◌&&◌, [], ◌∷◌, Bool, true, false, refl}
use Rattle.std.proofs.Common.{sym, ap, ap₂, ◌∙◌, eq-eqb, if◌then◌else◌}
use Rattle.std.proofs.lemmas.Bool.{ne_eqb}
use Rattle.buffer_ring.specs.declared.step.Deed.TheVariants as deed
use Rattle.buffer_ring.specs.declared.step.StoreStep.TheVariants as step
use Rattle.ca_base.specs.declared.ids.Gate.TheVariants as gate
use Rattle.ca_stage.specs.Stage.{is_render, no_data}
use Rattle.period_engine.proofs.Turns.{same_but}
use Rattle.service_board.proofs.EmptiedEntries.{emptied_is, packed_whole, start_told}
use Rattle.service_board.proofs.streams.empty.Goals as goal
use Rattle.service_board.proofs.streams.empty.Goals.{else-whole-eq0-via-then-whole-eq0+else-position_of-eq0}
use Rattle.service_board.proofs.streams.empty.Goals.{else-whole-eq0-via-else-whole-eq0}

-- a test that fails, behind another, or ahead of it
fails_behind : (a b : Bool) → b ≡ false → (a && b) ≡ false
fails_behind true b e = e
fails_behind false b e = refl

pub returns-then-position_of-eq0-clause-empties : goal.returns-then-position_of-eq0-clause-empties
returns-then-position_of-eq0-clause-empties g c =
    let a = c.args.entry.now in
    let unit = c.word_unit-unit.result in
    let held = c.held.result in
    record {
      same = same_but a c.held.new.self a.picked a.position a.offered a.ever a.after_gap;
      steps = step.Acts held (g.E.EngineSide.state a.store).gate deed.Looks ∷ [];
      made = c.held.ensures;
      packs = (tt, tt);
      tells = λ d agrees.
          start_told a unit held (held / unit) c.word_unit-unit.ensures refl d agrees.0 c.requires.some
          c.position_of.result (c.position_of.ensures no_data)
          ∙ ap₂ (λ x y. x && y) (eq-eqb (held / unit) 0 c.if-whole-eq0.true)
          (eq-eqb c.position_of.result 0 c.if-position_of-eq0.true);
      turns = λ d agrees kind. refl;
    }

pub returns-clause-empties : goal.returns-clause-empties
returns-clause-empties g c =
    let a = c.args.entry.now in
    let unit = c.word_unit-unit.result in
    let held = c.held.result in
    let whole = held / unit in
    let u = c.word_unit-unit.ensures in
    let place = if is_render a.kind then a.position else a.offered in
    record {
      same = same_but a c.retire.new.self a.picked 0 0 a.ever false;
      steps = step.Acts held (g.E.EngineSide.state a.store).gate deed.Looks
          ∷ step.Acts c.retire.ensures.0 gate.Open (deed.Retires (whole * unit)) ∷ [];
      made = g.met.E.EngineSide.joins a.store c.held.new.self c.retire.new.self
          (step.Acts held (g.E.EngineSide.state a.store).gate deed.Looks ∷ [])
          (step.Acts c.retire.ensures.0 gate.Open (deed.Retires (whole * unit)) ∷ [])
          c.held.ensures c.retire.ensures.2;
      packs = (tt, (packed_whole a unit held whole u refl, tt));
      tells = λ d agrees.
          start_told a unit held whole u refl d agrees.0 c.requires.some place refl
          ∙ elim c.else-whole-eq0.branch [
            | else-whole-eq0-via-then-whole-eq0+else-position_of-eq0 w ↦
                fails_behind (whole == 0) (place == 0)
                (ap (λ k. k == 0) (sym (w.position_of.ensures no_data))
                ∙ ne_eqb w.position_of.result 0 w.if-position_of-eq0.false)
            | else-whole-eq0-via-else-whole-eq0 w ↦
                ap (λ x. x && place == 0) (ne_eqb whole 0 w.if-whole-eq0.false)
          ];
      turns = λ d agrees kind.
          emptied_is a unit held whole u refl d agrees.0 c.retire.ensures.0 (g.E.EngineSide.state a.store).gate
          c.retire.new.self kind c.requires.rested.unpicked;
    }
