-- Notices that come one after another.
use Rattle.std.proofs.Common.{◌≡◌, ℕ, ◌+◌, ◌-◌, ◌^◌, ◌<◌, ◌≤◌, List, [], ◌++◌, length, drop}
use Rattle.std.proofs.Common.{sym, ap, ap₂, ◌∙◌, arith, append_assoc, append-nil}
use Rattle.std.proofs.lemmas.List.{drop-append-le, drop-drop, length-append, length-drop}
use Rattle.std.proofs.lemmas.List.Elements.{filter-append}
use Rattle.ca_base.specs.declared.limits.TheConstants.{NOTICES}
use Rattle.event_notices.specs.declared.notice.Notice.{Notice}
use Rattle.event_notices.specs.Notices.{Notices, gathered, is_matched, last_of, matched, pushed_all}

-- the last of the last with more behind them are the last of all
last_of-append : (n : ℕ) (xs ys : List Notice) → last_of n (last_of n xs ++ ys) ≡ last_of n (xs ++ ys)
last_of-append n xs ys =
    let past = length xs - n in
    let more = length (drop past xs ++ ys) - n in
    let both : past + more ≡ length (xs ++ ys) - n =
    omega (arith, length-append (drop past xs) ys, length-append xs ys, length-drop past xs) in
    ap (drop more) (sym (drop-append-le past xs ys (omega arith)))
    ∙ drop-drop more past (xs ++ ys)
    ∙ ap (λ m. drop m (xs ++ ys)) both

-- notices as they are with others kept, and lost
abbrev with_kept : Notices → List Notice → ℕ → Notices
with_kept q kept lost = record q { kept = kept; lost = lost }

-- to push one list and then another is to push both
pub pushed_all-append : (xs ys : List Notice) (q : Notices) →
    pushed_all ys (pushed_all xs q) ≡ pushed_all (xs ++ ys) q
pushed_all-append xs ys q =
    let first = gathered xs q in
    let second = matched q.registrations ys in
    let both : gathered (xs ++ ys) q ≡ first ++ second =
    ap (λ ns. q.kept ++ ns) (filter-append (is_matched q.registrations) xs ys)
    ∙ sym (append_assoc q.kept (matched q.registrations xs) second) in
    ap₂ (with_kept q)
    (last_of-append NOTICES first second ∙ ap (last_of NOTICES) (sym both))
    (omega (
      arith,
      ap length both,
      length-append first second,
      length-append (last_of NOTICES first) second,
      length-drop (length first - NOTICES) first,
    ))

-- none changes nothing
pub pushed_all-none : (q : Notices) → length q.kept ≤ NOTICES → q.lost < 2 ^ 64 → pushed_all [] q ≡ q
pushed_all-none q few lost =
    let same = append-nil q.kept in
    let none : length q.kept - NOTICES ≡ 0 = omega arith in
    ap₂ (with_kept q)
    (ap (last_of NOTICES) same ∙ ap (λ m. drop m q.kept) none)
    (omega (arith, ap length same))
