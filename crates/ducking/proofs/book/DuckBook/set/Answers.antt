use Rattle.std.proofs.Common.{◌∷◌, [], length, arith, sym, ap, subst}
use Rattle.std.proofs.lemmas.List.{length-append, length-set}
use Rattle.ca_base.proofs.FoundPlaces.{found_nowhere, found_there}
use Rattle.ducking.specs.Book.{Distinct}
use Rattle.ducking.specs.Ducking.{count_of, is_row}
use Rattle.ducking.proofs.Changes.{distinct_push, distinct_replaced, replaced_there}
use Rattle.ducking.proofs.Counts.{count_few, count_push, count_set, share_few, share_there}
use Rattle.ducking.proofs.Sessions.{found_own}
use Rattle.ducking.proofs.Setting.{room_left, set_found, set_new}
use Rattle.ducking.proofs.book.DuckBook.set.Goals as goal

-- ---- the session is there

pub overflow_sub-self : goal.overflow_sub-self
overflow_sub-self c =
    let inv = c.self.invariant in
    let rows = c.self.inside.rows.items in
    let there = found_there (is_row c.args.row.session.0) rows c.deref.result.now c.in-Some.at c.index.result.now
    c.deref.ensures.value c.in-Some.ensures c.index.ensures in
    omega (arith, inv.counted, c.share.ensures, share_there c.in-Some.at rows c.index.result.now there.1)

pub overflow_add-self : goal.overflow_add-self
overflow_add-self c =
    let inv = c.self.invariant in
    let few = inv.few in
    omega (arith, inv.counted, count_few c.self.inside.rows.items, c.share-in-Some.ensures, share_few c.args.row)

pub invariant_of-self : goal.invariant_of-self
invariant_of-self c =
    let inv = c.self.invariant in
    let rows = c.self.inside.rows.items in
    let old = c.index.result.now in
    let there = found_there (is_row c.args.row.session.0) rows c.deref.result.now c.in-Some.at old
    c.deref.ensures.value c.in-Some.ensures c.index.ensures in
    let replaces = replaced_there c.args.row c.in-Some.at rows old inv.distinct there.1
    (found_own c.args.row.session.0 rows old there.0) in
    record {
      distinct = subst Distinct (sym replaces) (distinct_replaced c.args.row rows inv.distinct);
      few = let few = inv.few in omega (arith, length-set rows c.in-Some.at c.args.row);
      counted = omega (
        arith,
        inv.counted,
        c.share.ensures,
        c.share-in-Some.ensures,
        share_there c.in-Some.at rows old there.1,
        count_set c.in-Some.at rows old c.args.row there.1,
      );
      rule = inv.rule;
      room = inv.room;
    }

pub returns-in-Some : goal.returns-in-Some
returns-in-Some c =
    let inv = c.self.invariant in
    let rows = c.self.inside.rows.items in
    let old = c.index.result.now in
    let there = found_there (is_row c.args.row.session.0) rows c.deref.result.now c.in-Some.at old
    c.deref.ensures.value c.in-Some.ensures c.index.ensures in
    let replaces = replaced_there c.args.row c.in-Some.at rows old inv.distinct there.1
    (found_own c.args.row.session.0 rows old there.0) in
    rw (← c.self.view_is) (set_found c.args.row rows c.self.inside.rule old _ there.0 replaces)

-- ---- it isn't

pub overflow_add-self-in-None : goal.overflow_add-self-in-None
overflow_add-self-in-None c =
    let inv = c.self.invariant in
    let few = inv.few in
    omega (arith, inv.counted, count_few c.self.inside.rows.items, c.share-in-None.ensures, share_few c.args.row)

pub push_reserved-requires : goal.push_reserved-requires
push_reserved-requires c =
    let rows = c.self.inside.rows.items in
    let lacks = found_nowhere (is_row c.args.row.session.0) rows c.deref.result.now c.deref.ensures.value
    c.in-None.ensures in
    let room = c.self.invariant.room in
    omega (arith, room_left c.args.row rows c.self.inside.rule c.args.self.now c.self.view_is lacks c.requires.room)

pub invariant_of-self-in-None : goal.invariant_of-self-in-None
invariant_of-self-in-None c =
    let inv = c.self.invariant in
    let rows = c.self.inside.rows.items in
    let lacks = found_nowhere (is_row c.args.row.session.0) rows c.deref.result.now c.deref.ensures.value
    c.in-None.ensures in
    let free = room_left c.args.row rows c.self.inside.rule c.args.self.now c.self.view_is lacks c.requires.room in
    let more = length-append rows (c.args.row ∷ []) in
    let pushed = c.push_reserved.ensures.items in
    record {
      distinct = subst Distinct (sym pushed) (distinct_push rows c.args.row inv.distinct lacks);
      few = omega (arith, free, more, ap length pushed);
      counted = omega (arith, inv.counted, c.share-in-None.ensures, count_push rows c.args.row, ap count_of pushed);
      rule = inv.rule;
      room = let room = inv.room in omega (arith, c.push_reserved.ensures.capacity);
    }

pub returns-in-None : goal.returns-in-None
returns-in-None c =
    let rows = c.self.inside.rows.items in
    let lacks = found_nowhere (is_row c.args.row.session.0) rows c.deref.result.now c.deref.ensures.value
    c.in-None.ensures in
    rw (← c.self.view_is)
    (set_new c.args.row rows c.self.inside.rule _ lacks c.push_reserved.ensures.items)
