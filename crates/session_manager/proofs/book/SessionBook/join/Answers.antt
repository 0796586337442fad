use Rattle.std.proofs.Common.{◌≡◌, ◌+◌, ◌++◌, ◌∷◌, [], arith, refl, sym, ◌∙◌, subst, ap, Some, None}
use Rattle.ca_base.proofs.Numbered.{each_there}
use Rattle.session_manager.specs.Book.{IsList, IsSession}
use Rattle.session_manager.specs.Sessions.{new_session, with_count}
use Rattle.session_manager.proofs.Finding.{named_nowhere, named_there}
use Rattle.session_manager.proofs.Joins.{
  free_room,
  is_session_joined,
  is_session_new,
  joined_found,
  joined_new,
  number_of,
}
use Rattle.session_manager.proofs.Limits.{list_push, list_set}
use Rattle.session_manager.proofs.book.SessionBook.join.Goals as goal

pub invariant_of-self : goal.invariant_of-self
invariant_of-self c =
    let key = c.args.key.now in
    let there = named_there key c.self.inside.sessions.items c.deref.result.now c.deref.ensures.value c.in-Some.at
    c.index_mut.result.now c.in-Some.ensures c.index_mut.ensures.value in
    let list = c.self.invariant.list in
    let here = each_there IsSession c.in-Some.at c.self.inside.sessions.items c.index_mut.result.now list.each
    there.1 in
    record {
      list = list_set c.self.inside.sessions.items c.self.inside.made c.in-Some.at c.index_mut.result.now
          (with_count c.args.channels c.index_mut.result.now) list there.1 refl
          (is_session_joined c.args.channels c.index_mut.result.now c.requires.least c.requires.most here);
      room = c.self.invariant.room;
    }

pub returns-in-Some-clause-number : goal.returns-in-Some-clause-number
returns-in-Some-clause-number c =
    let key = c.args.key.now in
    rw (← c.self.view_is)
    (number_of key _ (Some c.index.result.now)
    (named_there key c.self.inside.sessions.items c.deref.result.now c.deref.ensures.value c.in-Some.at
    c.index.result.now c.in-Some.ensures c.index.ensures).0)

pub returns-in-Some-clause-after : goal.returns-in-Some-clause-after
returns-in-Some-clause-after c =
    let key = c.args.key.now in
    let there = named_there key c.self.inside.sessions.items c.deref.result.now c.deref.ensures.value c.in-Some.at
    c.index_mut.result.now c.in-Some.ensures c.index_mut.ensures.value in
    rw (← c.self.view_is)
    (joined_found key c.args.kept c.args.persist c.args.channels _ c.in-Some.at c.index_mut.result.now
    c.self.invariant.list there.0 there.1)

pub push_reserved-requires : goal.push_reserved-requires
push_reserved-requires c =
    let key = c.args.key.now in
    let free = free_room key (record { list = c.self.inside.sessions.items; made = c.self.inside.made }) c.args.self.now
    c.self.view_is
    (named_nowhere key c.self.inside.sessions.items c.deref.result.now c.deref.ensures.value c.in_default.ensures)
    c.requires.free in
    let taken = c.self.invariant.room in
    omega arith

pushed : (c : goal.After-push_reserved) → c.push_reserved.new.self.items ≡ c.self.inside.sessions.items
    ++ new_session (c.self.inside.made + 1) c.args.key.now c.args.kept c.args.persist c.args.channels ∷ []
pushed c = c.push_reserved.ensures.items ∙ ap (λ s. c.self.inside.sessions.items ++ s ∷ []) c.new_session.ensures

pub invariant_of-self-2 : goal.invariant_of-self-2
invariant_of-self-2 c =
    let key = c.args.key.now in
    let number = c.self.inside.made + 1 in
    let free = free_room key (record { list = c.self.inside.sessions.items; made = c.self.inside.made }) c.args.self.now
    c.self.view_is
    (named_nowhere key c.self.inside.sessions.items c.deref.result.now c.deref.ensures.value c.in_default.ensures)
    c.requires.free in
    let new = new_session number key c.args.kept c.args.persist c.args.channels in
    record {
      list = subst (λ list. IsList (record { list = list; made = number })) (sym (pushed c))
          (list_push c.self.inside.sessions.items c.self.inside.made new c.self.invariant.list free.0 free.1 refl
          (is_session_new number key c.args.kept c.args.persist c.args.channels c.requires.least c.requires.most
          c.requires.level c.requires.name));
      room = let taken = c.self.invariant.room in omega (arith, c.push_reserved.ensures.capacity);
    }

pub returns-clause-number : goal.returns-clause-number
returns-clause-number c =
    let key = c.args.key.now in
    rw (← c.self.view_is)
    (number_of key _ None
    (named_nowhere key c.self.inside.sessions.items c.deref.result.now c.deref.ensures.value c.in_default.ensures))

pub returns-clause-after : goal.returns-clause-after
returns-clause-after c =
    let key = c.args.key.now in
    rw (← c.self.view_is, pushed c)
    (joined_new key c.args.kept c.args.persist c.args.channels _
    (named_nowhere key c.self.inside.sessions.items c.deref.result.now c.deref.ensures.value c.in_default.ensures))
