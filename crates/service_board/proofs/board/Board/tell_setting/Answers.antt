use Rattle.std.proofs.Common.{map, option_to_list, ◌++◌, sym, ap, ◌∙◌, subst}
use Rattle.event_notices.specs.Notices.{pushed_all}
use Rattle.service_board.specs.Board.{stage_with}
use Rattle.service_board.specs.InOrder.{InOrder}
use Rattle.service_board.proofs.Tellings.{told_order}
use Rattle.service_board.proofs.board.Board.tell_setting.Goals as goal

pub returns-clause-notices : goal.returns-clause-notices
returns-clause-notices g c = λ datas tally.
    c.push_drafts.ensures.notices
    ∙ ap (λ ns. map (pushed_all ns) c.args.self.now.book.notices.items)
    (c.put_note.ensures.items
    ∙ ap (λ ns. ns ++ option_to_list c.setting_note-note.result) c.clear.ensures.items
    ∙ c.setting_note-note.ensures
    (stage_with datas c.args.self.now.seats.items c.args.self.now.entries.items) tally)

pub returns-clause-order : goal.returns-clause-order
returns-clause-order g c =
    subst (InOrder g.E.EngineSide.state) (sym c.push_drafts.ensures.told)
    (told_order g.E.EngineSide.state c.args.self.now c.put_note.new.out.items c.push_drafts.new.self.book.notices
    c.put_note.new.out c.push_drafts.ensures.notices (c.put_note.ensures.room ∙ c.clear.ensures.capacity)
    c.requires.order)
