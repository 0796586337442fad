use Rattle.std.proofs.Common.{map, sym, ap, ◌∙◌, subst}
use Rattle.event_notices.specs.Notices.{pushed_all}
use Rattle.service_book.specs.Telling.{step_notices}
use Rattle.service_board.specs.InOrder.{InOrder}
use Rattle.service_board.proofs.Tellings.{told_order}
use Rattle.service_board.proofs.board.Board.tell_failed.Goals as goal

pub returns-clause-notices : goal.returns-clause-notices
returns-clause-notices g c = λ datas tally.
    c.push_drafts.ensures.notices
    ∙ ap (λ ns. map (pushed_all ns) c.args.self.now.book.notices.items)
    (c.put_step.ensures.items
    ∙ ap (step_notices c.args.self.now.failed c.args.ev.now) (c.noted-after.ensures datas tally))

pub returns-clause-order : goal.returns-clause-order
returns-clause-order g c =
    subst (InOrder g.E.EngineSide.state) (sym c.push_drafts.ensures.told)
    (told_order g.E.EngineSide.state c.args.self.now c.put_step.new.out.items c.push_drafts.new.self.book.notices
    c.put_step.new.out c.push_drafts.ensures.notices c.put_step.ensures.room c.requires.order)
