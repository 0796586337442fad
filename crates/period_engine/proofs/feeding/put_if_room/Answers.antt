use Rattle.std.proofs.Common.{[], ◌∷◌, subst, arith}
use Rattle.ca_base.specs.declared.ids.Gate.TheVariants as gate
use Rattle.buffer_ring.specs.declared.step.Deed.TheVariants as deed
use Rattle.buffer_ring.specs.declared.step.StoreStep.TheVariants as step
use Rattle.period_engine.proofs.feeding.put_if_room.Goals as goal

pub returns-clause-puts : goal.returns-clause-puts
returns-clause-puts g c =
    let moves = g.E.EngineSide.moves in
    let put = c.put.ensures in
    let looked : moves c.args.store.now (step.Acts c.held-held.result gate.Open deed.Looks ∷ []) c.held-held.new.self =
    subst (λ seen. moves c.args.store.now (step.Acts c.held-held.result seen deed.Looks ∷ []) c.held-held.new.self)
    c.requires.open c.held-held.ensures in (
      c.held-held.result,
      put.0,
      omega arith,
      g.met.E.EngineSide.joins c.args.store.now c.held-held.new.self c.put.new.self _ _ looked put.2,
    )
