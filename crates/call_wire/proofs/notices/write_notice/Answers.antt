use Rattle.std.proofs.Common.{◌≡◌, ℕ, List, [], ◌∷◌, ◌++◌, length, append_assoc}
use Rattle.std.specs.Int.{w16, w64, w128, to_le_bytes, to_be_bytes}
use Rattle.call_wire.proofs.notices.write_notice.Goals as goal

-- six pieces, one after another
joined : (old a b c d e f : List ℕ) → old ++ a ++ b ++ c ++ d ++ e ++ f ≡ old ++ (a ++ b ++ c ++ d ++ e ++ f)
joined old a b c d e f = simp append_assoc

pub returns-clause-ok : goal.returns-clause-ok
returns-clause-ok c =
    let n = c.args.notice.now in
    cc (joined c.args.out.now.list (n.kind ∷ []) (to_le_bytes w64 n.subject) (to_be_bytes w128 n.context.0)
    (to_le_bytes w64 n.value) (to_le_bytes w16 (length n.text)) n.text)
