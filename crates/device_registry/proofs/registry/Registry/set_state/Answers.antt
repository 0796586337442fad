use Rattle.std.proofs.Common.{sym, ap, ◌∙◌, refl, is_none}
use Rattle.ca_base.proofs.Numbered.{each_there}
use Rattle.device_registry.specs.Endpoints.{with_state}
use Rattle.device_registry.specs.Registry.{IsEndpoint}
use Rattle.device_registry.proofs.Calls.{changed_at, no_endpoint, no_state, state_set}
use Rattle.device_registry.proofs.Finding.{found_none, found_there}
use Rattle.device_registry.proofs.Lists.{list_set}
use Rattle.device_registry.proofs.registry.Registry.set_state.Goals as goal

pub returns-in_default : goal.returns-in_default
returns-in_default c = rw (← c.self.view_is)
    (no_endpoint c.args.state _ _ _
    (found_none c.args.no.0 c.self.inside.endpoints.items c.deref.result.now c.deref.ensures.value _
    c.in_default.ensures))

pub returns-then-not-is_state : goal.returns-then-not-is_state
returns-then-not-is_state c = rw (← c.self.view_is)
    (no_state c.args.state _ _ _
    (found_none c.args.no.0 c.self.inside.endpoints.items c.deref.result.now c.deref.ensures.value _
    c.in-Some.ensures)
    (sym c.is_state.ensures ∙ c.if-not-is_state.true))

pub invariant_of-self : goal.invariant_of-self
invariant_of-self c =
    let there = found_there c.args.no.0 c.self.inside.endpoints.items c.deref.result.now c.deref.ensures.value
    c.in-Some.at c.index_mut.result.now c.in-Some.ensures c.index_mut.ensures.value in
    let list = c.self.invariant.list in
    let here = each_there IsEndpoint c.in-Some.at c.self.inside.endpoints.items c.index_mut.result.now list.each
    there.1 in
    record {
      list = list_set c.self.inside.endpoints.items c.self.inside.last c.in-Some.at c.index_mut.result.now
          (with_state c.args.state c.index_mut.result.now) list there.1 refl
          (record { state = sym c.is_state.ensures ∙ c.if-not-is_state.false; format = here.format });
      room = c.self.invariant.room;
    }

pub returns : goal.returns
returns c =
    let there = found_there c.args.no.0 c.self.inside.endpoints.items c.deref.result.now c.deref.ensures.value
    c.in-Some.at c.index_mut.result.now c.in-Some.ensures c.index_mut.ensures.value in
    rw (← c.self.view_is)
    (state_set c.args.state _ _ _ _ (ap is_none there.0)
    (sym c.is_state.ensures ∙ c.if-not-is_state.false)
    (changed_at c.args.no.0 c.in-Some.at (with_state c.args.state) _ c.index_mut.result.now c.self.invariant.list
    there.0 there.1))
