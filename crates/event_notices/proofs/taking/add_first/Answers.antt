use Rattle.std.proofs.Common.{◌-◌, ◌++◌, take, ap, ◌∙◌, append_assoc}
use Rattle.event_notices.proofs.Pieces.{two_pieces}
use Rattle.event_notices.proofs.taking.add_first.Goals as goal

pub returns-clause-items : goal.returns-clause-items
returns-clause-items c =
    let front = c.args.front.now in
    let back = c.args.back.now in
    let count = c.args.count in
    c.add-2.ensures.items
    ∙ ap (λ ns. ns ++ take (count - c.min-from_front.result) back) c.add.ensures.items
    ∙ append_assoc c.args.out.now.items (take c.min-from_front.result front)
    (take (count - c.min-from_front.result) back)
    ∙ ap (λ m. c.args.out.now.items ++ (take m front ++ take (count - m) back)) c.min-from_front.ensures
    ∙ ap (λ ns. c.args.out.now.items ++ ns) (two_pieces front back count)
