use Rattle.std.proofs.Common.{◌≡◌, ◌+◌, List, rules, arith, sym, ap, ◌∙◌, subst}
use Rattle.std.proofs.lemmas.Fn.{filter_same}
use Rattle.ca_base.proofs.FoundPlaces.{found_nowhere, found_there}
use Rattle.ducking.specs.declared.rows.DuckRow.{DuckRow}
use Rattle.ducking.specs.Book.{Distinct}
use Rattle.ducking.specs.Ducking.{count_of, is_row, removed}
use Rattle.ducking.proofs.Changes.{distinct_removed}
use Rattle.ducking.proofs.Counts.{count_removed}
use Rattle.ducking.proofs.Sessions.{removed_lacks}
use Rattle.ducking.proofs.book.DuckBook.remove.Goals as goal

counted : (c : goal.After-share) →
    count_of (removed c.args.s.0 c.self.inside.rows.items) + c.share.result ≡ c.self.inside.count
counted c =
    let inv = c.self.invariant in
    let rows = c.self.inside.rows.items in
    let there = found_there (is_row c.args.s.0) rows c.deref.result.now c.in-Some.at c.index.result.now
    c.deref.ensures.value c.in-Some.ensures c.index.ensures in
    ap (λ n. count_of (removed c.args.s.0 rows) + n) c.share.ensures
    ∙ count_removed c.args.s.0 rows c.index.result.now inv.distinct there.0 ∙ sym inv.counted

pub overflow_sub-self : goal.overflow_sub-self
overflow_sub-self c = omega (arith, counted c)

left : (c : goal.After-retain) → c.retain.new.self.items ≡ removed c.args.s.0 c.self.inside.rows.items
left c = filter_same _ _ _ (λ x b f' k. search rules) _ _ c.retain.ensures.filtered

pub invariant_of-self : goal.invariant_of-self
invariant_of-self c =
    let inv = c.self.invariant in
    let fewer = c.retain.ensures.bound in
    record {
      distinct = subst Distinct (sym (left c)) (distinct_removed c.args.s.0 c.self.inside.rows.items inv.distinct);
      few = let few = inv.few in omega (arith, fewer);
      counted = omega (
        arith,
        inv.counted,
        c.share.ensures,
        ap count_of (left c),
        count_removed c.args.s.0 c.self.inside.rows.items c.index.result.now inv.distinct
            (found_there (is_row c.args.s.0) c.self.inside.rows.items c.deref.result.now c.in-Some.at c.index.result.now
            c.deref.ensures.value c.in-Some.ensures c.index.ensures).0,
      );
      rule = inv.rule;
      room = let room = inv.room in omega (arith, c.retain.ensures.capacity);
    }

pub returns-in-Some : goal.returns-in-Some
returns-in-Some c = rw (← c.self.view_is)
    (ap (λ (rows : List DuckRow). record { rows = rows; rule = c.self.inside.rule }) (left c))

pub returns-in_default : goal.returns-in_default
returns-in_default c = rw (← c.self.view_is)
    (sym (ap (λ (rows : List DuckRow). record { rows = rows; rule = c.self.inside.rule })
    (removed_lacks c.args.s.0 c.self.inside.rows.items
    (found_nowhere (is_row c.args.s.0) c.self.inside.rows.items c.deref.result.now c.deref.ensures.value
    c.in_default.ensures))))
