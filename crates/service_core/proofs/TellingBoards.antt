-- What a board tells its service tells: only the notices of the connections change.
use Rattle.std.proofs.Common.{◌≡◌, List, map, true, sym, ap, subst, ◌∙◌}
use Rattle.buffer_ring.specs.declared.step.EndState.{EndState}
use Rattle.buffer_ring.specs.Kept.{Kept}
use Rattle.ca_machine.specs.View.{MachineView}
use Rattle.event_notices.specs.Notices.{pushed_all}
use Rattle.event_notices.specs.declared.notice.Notice.{Notice}
use Rattle.service_board.specs.InOrder.{InOrder}
use Rattle.service_board.specs.declared.board.Board.{Board}
use Rattle.service_core.specs.Core.{HaveSides, core_state}
use Rattle.service_core.specs.Service.{IsCore, core_view, tally_of}
use Rattle.service_core.specs.Telling.{after_telling}
use Rattle.service_core.specs.declared.both_ends.BothEnds.{BothEnds}
use Rattle.service_core.specs.declared.tally.Tally.{Tally as Counts}

-- only notices were changed, and the scratch for them
abbrev pub ToldBoard : {D F : Type 0} → Board D (BothEnds F) → Board D (BothEnds F) → Type 0
ToldBoard old new = new ≡ record old {
  book = record (old.book) { notices = new.book.notices };
  drafts = new.drafts;
}

module _ {D F : Type 0} (kept : F → Kept) (old new : Board D (BothEnds F)) (told : ToldBoard old new) where
  pub told_core : (state : F → EndState) → InOrder (λ ends. state ends.store) new → IsCore state kept old →
      IsCore state kept new
  told_core state order core = record {
    order = order;
    sides = subst (HaveSides kept) (sym told) core.sides;
  }

  pub told_view : (counts : Counts) (ns : List Notice) →
      new.book.notices.items ≡ map (pushed_all ns) old.book.notices.items →
      core_view kept new counts ≡ after_telling true ns (core_view kept old counts)
  told_view counts ns notices =
      ap (λ b. core_view kept b counts) told
      ∙ ap (λ qs. let v : MachineView D = record {
        devices = old.devices;
        state = record (core_state kept (tally_of counts) old) { notices = qs };
      } in v) notices
