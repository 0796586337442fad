use Rattle.std.proofs.Common.{arith, sym, subst}
use Rattle.device_registry.specs.Registry.{IsList}
use Rattle.device_registry.proofs.Lists.{list_push}
use Rattle.device_registry.proofs.registry.Registry.add.Goals as goal

pub invariant_of-self : goal.invariant_of-self
invariant_of-self c = record {
  list = subst (λ list. IsList (record { list = list; last = c.args.e.no.0 })) (sym c.push_reserved.ensures.items)
      (list_push c.self.inside.endpoints.items c.self.inside.last c.args.e c.self.invariant.list
      (omega (arith, c.len.ensures)) c.if-e-self.false
      (record { state = c.requires.state; format = c.requires.format }));
  room = let room = c.self.invariant.room in omega (arith, c.push_reserved.ensures.capacity);
}
