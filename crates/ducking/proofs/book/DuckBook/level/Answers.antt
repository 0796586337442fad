use Rattle.std.proofs.Common.{◌&&◌, sym, ap₂, ◌∙◌, arith, if◌then◌else◌}
use Rattle.std.proofs.lemmas.Bool.{le-ltb, lt-ltb}
use Rattle.ca_base.proofs.FoundPlaces.{found_nowhere, found_there}
use Rattle.ca_base.specs.declared.limits.TheConstants.{MAX_LEVEL}
use Rattle.ducking.specs.Ducking.{count_of, is_row, reduced}
use Rattle.ducking.proofs.Levels.{level_found, level_lacks, level_silent}
use Rattle.ducking.proofs.book.DuckBook.level.Goals as goal

pub returns-in-Some : goal.returns-in-Some
returns-in-Some c =
    let inv = c.self.invariant in
    let rows = c.self.inside.rows.items in
    let there = found_there (is_row c.args.s.0) rows c.deref.result.now c.in-Some.at c.index.result.now
    c.deref.ensures.value c.in-Some.ensures c.index.ensures in
    rw (← c.self.view_is)
    (c.reduced.ensures
    ∙ sym (level_found c.args.s.0 rows c.self.inside.rule c.index.result.now inv.distinct there.0
    ∙ ap₂ (λ a b. if a && b then reduced c.self.inside.rule else MAX_LEVEL)
    (lt-ltb 0 (count_of rows) (omega (arith, inv.counted))) (sym c.may_be_ducked.ensures ∙ c.if-may_be_ducked.true)))

pub returns-in_default : goal.returns-in_default
returns-in_default c =
    let inv = c.self.invariant in
    let rows = c.self.inside.rows.items in
    let there = found_there (is_row c.args.s.0) rows c.deref.result.now c.in-Some.at c.index.result.now
    c.deref.ensures.value c.in-Some.ensures c.index.ensures in
    rw (← c.self.view_is)
    (sym (level_found c.args.s.0 rows c.self.inside.rule c.index.result.now inv.distinct there.0
    ∙ ap₂ (λ a b. if a && b then reduced c.self.inside.rule else MAX_LEVEL)
    (lt-ltb 0 (count_of rows) (omega (arith, inv.counted)))
    (sym c.may_be_ducked.ensures ∙ c.if-may_be_ducked.false)))

pub returns-in_default-2 : goal.returns-in_default-2
returns-in_default-2 c =
    let inv = c.self.invariant in
    let rows = c.self.inside.rows.items in
    let none = le-ltb 0 (count_of rows) (omega (arith, inv.counted, c.if-self-gt0.false)) in
    rw (← c.self.view_is) (level_silent c.args.s.0 rows c.self.inside.rule inv.distinct none)

pub returns-in_default-3 : goal.returns-in_default-3
returns-in_default-3 c =
    rw (← c.self.view_is)
    (sym (level_lacks c.args.s.0 c.self.inside.rows.items c.self.inside.rule
    (found_nowhere (is_row c.args.s.0) c.self.inside.rows.items c.deref.result.now c.deref.ensures.value
    c.in_default.ensures)))
