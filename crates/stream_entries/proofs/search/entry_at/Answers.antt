use Rattle.std.proofs.Common.{ℕ, rules, arith}
use Rattle.period_engine.specs.declared.entry.StreamEntry.{StreamEntry}
use Rattle.service_book.proofs.SortedSearch.{parts, place_found, place_other, place_past, says_no, says_yes}
use Rattle.stream_entries.specs.Search.{is_entry_of}
use Rattle.stream_entries.proofs.search.entry_at.Goals as goal

abbrev number : {E : Type 0} → StreamEntry E → ℕ
number x = x.client.0

pub returns-then-at-entries : goal.returns-then-at-entries
returns-then-at-entries g c =
    let n = c.args.client.0 in
    let xs = c.args.entries.now in
    let at = c.partition_point-at.result in
    place_past number 0 n xs at (is_entry_of n) (λ y h. h) c.requires c.partition_point-at.ensures.bound
    (parts number 0 n xs at c.requires c.partition_point-at.ensures.partitioned (λ a r q k. search rules)) (omega arith)

pub returns-then-ne : goal.returns-then-ne
returns-then-ne g c =
    let n = c.args.client.0 in
    let xs = c.args.entries.now in
    let at = c.partition_point-at.result in
    place_other number 0 n xs at (is_entry_of n) (λ y h. h) c.requires c.partition_point-at.ensures.bound
    (parts number 0 n xs at c.requires c.partition_point-at.ensures.partitioned (λ a r q k. search rules))
    _ c.if-at-entries.false (says_no _ c.if-ne.ensures)

pub returns : goal.returns
returns g c =
    let n = c.args.client.0 in
    let xs = c.args.entries.now in
    let at = c.partition_point-at.result in
    place_found number 0 n xs at (is_entry_of n) (λ y h. h) c.requires c.partition_point-at.ensures.bound
    (parts number 0 n xs at c.requires c.partition_point-at.ensures.partitioned (λ a r q k. search rules))
    _ c.if-at-entries.false (says_yes _ c.if-ne.ensures)
