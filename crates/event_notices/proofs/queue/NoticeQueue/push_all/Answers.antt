use Rattle.std.proofs.Common.{◌≡◌, ◌+◌, ◌++◌, ◌∷◌, [], take, ap, sym, ◌∙◌, arith}
use Rattle.std.proofs.lemmas.List.{take_more}
use Rattle.event_notices.specs.Notices.{pushed, pushed_all}
use Rattle.event_notices.specs.Queue.{notices_of}
use Rattle.event_notices.proofs.Pushes.{pushed_all-append, pushed_all-none}
use Rattle.event_notices.proofs.queue.NoticeQueue.push_all.Goals as goal

pub loop-n-init : goal.loop-n-init
loop-n-init c =
    let held = c.self.invariant.notices in
    rw (← c.self.view_is) (sym (pushed_all-none (notices_of c.self.inside) held.few held.lost))

pub loop-n-preserved : goal.loop-n-preserved
loop-n-preserved c =
    let ns = c.args.ns.now in
    let i = c.loop-n.n-index in
    let n = c.n-item.result in
    let more : take (i + 1) ns ≡ take i ns ++ n ∷ [] =
    take_more ns i n (omega arith) ∙ ap (λ x. take i ns ++ x ∷ []) (sym c.n-item.is) in
    c.push.ensures
    ∙ ap (pushed n) c.loop-n.invariant
    ∙ pushed_all-append (take i ns) (n ∷ []) c.args.self.now
    ∙ ap (λ xs. pushed_all xs c.args.self.now) (sym more)
