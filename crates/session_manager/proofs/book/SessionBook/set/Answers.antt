use Rattle.std.proofs.Common.{◌≡◌, sym, ◌∙◌, subst, ap, Some, false}
use Rattle.std.proofs.lemmas.Option.{same_Some}
use Rattle.ca_base.proofs.FoundPlaces.{found_nowhere, found_there}
use Rattle.ca_base.proofs.Numbered.{each_there}
use Rattle.session_manager.specs.Book.{IsSession}
use Rattle.session_manager.specs.Changes.{is_wrong}
use Rattle.session_manager.specs.Sessions.{is_session}
use Rattle.session_manager.proofs.Calls.{not_there, set_there, wrong_there}
use Rattle.session_manager.proofs.Limits.{is_session_after, list_set, number_after}
use Rattle.session_manager.proofs.book.SessionBook.set.Goals as goal

pub returns-in_default : goal.returns-in_default
returns-in_default c = rw (← c.self.view_is)
    (not_there c.args.s.0 c.args.by.now _
    (found_nowhere (is_session c.args.s.0) c.self.inside.sessions.items c.deref.result.now c.deref.ensures.value
    c.in_default.ensures))

pub returns-then-is_wrong : goal.returns-then-is_wrong
returns-then-is_wrong c = rw (← c.self.view_is)
    (wrong_there c.args.s.0 c.args.by.now _ c.index.result.now
    (found_there (is_session c.args.s.0) c.self.inside.sessions.items c.deref.result.now c.in-Some.at
    c.index.result.now c.deref.ensures.value c.in-Some.ensures c.index.ensures).0
    (sym c.is_wrong.ensures ∙ c.if-is_wrong.true))

right : (c : goal.After-self-1) → is_wrong c.args.by.now (Some c.index_mut.result.now) ≡ false
right c =
    let read = found_there (is_session c.args.s.0) c.self.inside.sessions.items c.deref.result.now c.in-Some.at
    c.index.result.now c.deref.ensures.value c.in-Some.ensures c.index.ensures in
    let written = found_there (is_session c.args.s.0) c.self.inside.sessions.items c.deref.result.now c.in-Some.at
    c.index_mut.result.now c.deref.ensures.value c.in-Some.ensures c.index_mut.ensures.value in
    let same = same_Some c.index.result.now c.index_mut.result.now (sym read.0 ∙ written.0) in
    subst (λ s. is_wrong c.args.by.now (Some s) ≡ false) same (sym c.is_wrong.ensures ∙ c.if-is_wrong.false)

pub invariant_of-self : goal.invariant_of-self
invariant_of-self c =
    let there = found_there (is_session c.args.s.0) c.self.inside.sessions.items c.deref.result.now c.in-Some.at
    c.index_mut.result.now c.deref.ensures.value c.in-Some.ensures c.index_mut.ensures.value in
    let list = c.self.invariant.list in
    let here = each_there IsSession c.in-Some.at c.self.inside.sessions.items c.index_mut.result.now list.each
    there.1 in
    record {
      list = list_set c.self.inside.sessions.items c.self.inside.made c.in-Some.at c.index_mut.result.now c.apply.new.s
          list there.1
          (ap (λ s. s.no.0) c.apply.ensures ∙ number_after c.args.by.now c.index_mut.result.now)
          (subst IsSession (sym c.apply.ensures)
          (is_session_after c.args.by.now c.index_mut.result.now here (right c)));
      room = c.self.invariant.room;
    }

pub returns : goal.returns
returns c =
    let there = found_there (is_session c.args.s.0) c.self.inside.sessions.items c.deref.result.now c.in-Some.at
    c.index_mut.result.now c.deref.ensures.value c.in-Some.ensures c.index_mut.ensures.value in
    rw (← c.self.view_is, c.apply.ensures)
    (set_there c.args.s.0 c.args.by.now _ c.index_mut.result.now there.0 c.in-Some.at c.self.invariant.list there.1
    (right c))
