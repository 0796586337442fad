use Rattle.std.proofs.Common.{◌≡◌, ℕ, ◌+◌, ◌<◌, List, ◌∷◌, ◌++◌, length, drop, flat_map, get_or, sym, ap, ◌∙◌}
use Rattle.std.proofs.Common.{append_assoc, arith}
use Rattle.std.proofs.lemmas.List.{at_drop_more}
use Rattle.event_notices.specs.declared.notice.Notice.{Notice}
use Rattle.event_notices.specs.Bytes.{notice_bytes}
use Rattle.reply_payload.proofs.notices.put_each.Goals as goal

-- the bytes of a notice behind others, and of those that are left
next_bytes : (f : Notice → List ℕ) (old : List ℕ) (ns : List Notice) (i : ℕ) (n : Notice) → i < length ns →
    n ≡ get_or ns i n → (old ++ f n) ++ flat_map f (drop (i + 1) ns) ≡ old ++ flat_map f (drop i ns)
next_bytes f old ns i n below is =
    append_assoc old (f n) (flat_map f (drop (i + 1) ns))
    ∙ ap (λ bytes. old ++ bytes)
    (ap (λ m. flat_map f (m ∷ drop (i + 1) ns)) is ∙ sym (at_drop_more (flat_map f) ns i n below))

pub notices-preserved : goal.notices-preserved
notices-preserved c =
    let ns = c.args.notices.now in
    let i = c.notices.notice-index in
    record {
      list = ap (λ bytes. bytes ++ flat_map notice_bytes (drop (i + 1) ns)) c.put_notice.ensures.list
          ∙ next_bytes notice_bytes c.notices.out.list ns i c.notice-item.result c.notices-test.true c.notice-item.is
          ∙ c.notices.invariant.list;
      length = let before = c.notices.invariant.length in
          let one = c.put_notice.ensures.within in
          omega arith;
      keeps = let before = c.notices.invariant.keeps in
          let one = c.put_notice.ensures.keeps in
          omega arith;
    }
