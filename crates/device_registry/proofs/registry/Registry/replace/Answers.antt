use Rattle.std.proofs.Common.{ap, refl, is_none}
use Rattle.ca_base.proofs.Numbered.{each_there}
use Rattle.device_registry.specs.Endpoints.{replaced_by}
use Rattle.device_registry.specs.Registry.{IsEndpoint}
use Rattle.device_registry.proofs.Calls.{changed_at, found, not_found}
use Rattle.device_registry.proofs.Finding.{found_none, found_there}
use Rattle.device_registry.proofs.Lists.{list_set}
use Rattle.device_registry.proofs.registry.Registry.replace.Goals as goal

pub returns-in_default : goal.returns-in_default
returns-in_default c = rw (← c.self.view_is)
    (not_found _ _ _
    (found_none c.args.e.no.0 c.self.inside.endpoints.items c.deref.result.now c.deref.ensures.value _
    c.in_default.ensures))

pub invariant_of-self : goal.invariant_of-self
invariant_of-self c =
    let there = found_there c.args.e.no.0 c.self.inside.endpoints.items c.deref.result.now c.deref.ensures.value
    c.in-Some.at c.index_mut-endpoint.result.now c.in-Some.ensures c.index_mut-endpoint.ensures.value in
    let list = c.self.invariant.list in
    let here = each_there IsEndpoint c.in-Some.at c.self.inside.endpoints.items c.index_mut-endpoint.result.now
    list.each there.1 in
    record {
      list = list_set c.self.inside.endpoints.items c.self.inside.last c.in-Some.at c.index_mut-endpoint.result.now
          (replaced_by c.args.e c.index_mut-endpoint.result.now) list there.1 refl
          (record { state = here.state; format = c.requires });
      room = c.self.invariant.room;
    }

pub returns : goal.returns
returns c =
    let there = found_there c.args.e.no.0 c.self.inside.endpoints.items c.deref.result.now c.deref.ensures.value
    c.in-Some.at c.index_mut-endpoint.result.now c.in-Some.ensures c.index_mut-endpoint.ensures.value in
    rw (← c.self.view_is)
    (found _ _ _ _ (ap is_none there.0)
    (changed_at c.args.e.no.0 c.in-Some.at (replaced_by c.args.e) _ c.index_mut-endpoint.result.now
    c.self.invariant.list there.0 there.1))
