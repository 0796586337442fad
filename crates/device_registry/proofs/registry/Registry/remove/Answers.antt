use Rattle.std.proofs.Common.{◌≡◌, rules, arith, ap, ◌∙◌, not}
use Rattle.std.proofs.lemmas.Fn.{filter_same}
use Rattle.device_registry.specs.Endpoints.{removed}
use Rattle.device_registry.specs.Changes.{without}
use Rattle.device_registry.proofs.Calls.{found, not_found}
use Rattle.device_registry.proofs.Finding.{found_none}
use Rattle.device_registry.proofs.Lists.{list_removed}
use Rattle.device_registry.proofs.registry.Registry.remove.Goals as goal

pub returns-then-is_none : goal.returns-then-is_none
returns-then-is_none c = rw (← c.self.view_is)
    (not_found _ _ _
    (found_none c.args.no.0 c.self.inside.endpoints.items c.deref.result.now c.deref.ensures.value
    c.place_of.result c.place_of.ensures ∙ ap not c.if-is_none.ensures))

left : (c : goal.After-retain) → c.retain.new.self.items ≡ removed c.args.no.0 c.self.inside.endpoints.items
left c = filter_same _ _ _ (λ x b f' k. search rules) _ _ c.retain.ensures.filtered

pub invariant_of-self : goal.invariant_of-self
invariant_of-self c = record {
  list = list_removed c.args.no.0 c.self.inside.endpoints.items c.retain.new.self.items c.self.inside.last
      c.self.invariant.list (left c) (omega (arith, c.retain.ensures.bound));
  room = let room = c.self.invariant.room in omega (arith, c.retain.ensures.capacity);
}

pub returns : goal.returns
returns c = rw (← c.self.view_is)
    (found (without c.args.no.0 (record { list = c.self.inside.endpoints.items; last = c.self.inside.last })) _ _ _
    (found_none c.args.no.0 c.self.inside.endpoints.items c.deref.result.now c.deref.ensures.value
    c.place_of.result c.place_of.ensures ∙ ap not c.if-is_none.ensures)
    (ap (λ list. record { list = list; last = c.self.inside.last }) (left c)))
