use Rattle.std.proofs.Common.{◌∙◌, true, refl, sym, subst}
use Rattle.std.specs.List.{All, AllZip}
use Rattle.std.specs.Vec.{with_items}
use Rattle.std.proofs.lemmas.List.{with_items_is}
use Rattle.period_engine.specs.Entries.{IsRested}
use Rattle.period_engine.specs.SubSteps.{Turned}
use Rattle.stream_entries.specs.Closing.{Disconnects, closes_if, scope_of}
use Rattle.stream_entries.proofs.Closable.{rested_closable}
use Rattle.stream_entries.proofs.TurnedEntries.{length_turned, none_lost}
use Rattle.stream_entries.proofs.closing.disconnect.Goals as goal

pub close_all-requires : goal.close_all-requires
close_all-requires g c =
    rw c.deref_mut.ensures.value (rested_closable g.E.EngineSide.state (scope_of c.args.scope)
    c.args.entries.now.items c.requires)

pub returns-then-lost : goal.returns-then-lost
returns-then-lost g c =
    let moves = g.E.EngineSide.moves in
    let state = g.E.EngineSide.state in
    let reason = c.args.reason in
    let scope = scope_of c.args.scope in
    let old = c.args.entries.now in
    let ys = c.close_all.new.all in
    let turned : AllZip (Turned moves (closes_if true reason scope)) old.items ys =
    subst (λ xs. AllZip (Turned moves (closes_if true reason scope)) xs ys) c.deref_mut.ensures.value
    c.close_all.ensures.turned in
    let items =
    with_items_is old ys (length_turned moves (closes_if true reason scope) old.items ys turned ∙ sym old.ok.0) in
    subst (λ l. Disconnects moves state l reason scope old (with_items old ys)) (sym c.if-lost.true)
    (record {
      turned = subst (AllZip (Turned moves (closes_if true reason scope)) old.items) (sym items) turned;
      rested = subst (All (IsRested state)) (sym items) c.close_all.ensures.rested;
      room = refl;
    })

pub returns-else-lost : goal.returns-else-lost
returns-else-lost g c =
    subst (λ l. Disconnects g.E.EngineSide.moves g.E.EngineSide.state l c.args.reason (scope_of c.args.scope)
    c.args.entries.now c.args.entries.now) (sym c.if-lost.false)
    (none_lost g.E.EngineSide.moves g.met.E.EngineSide.none g.E.EngineSide.state c.args.reason (scope_of c.args.scope)
    c.args.entries.now c.requires)
