use Rattle.std.proofs.Common.{◌≡◌, ◌<◌, ◌∙◌, refl, subst, sym, arith}
use Rattle.std.proofs.lemmas.List.{length-drop}
use Rattle.event_loop.proofs.Turns.{SoFar, after_event, after_piece, at_start, drop_shorter, still}
use Rattle.event_loop.proofs.Finishes.{ends_at_once, ends_done, ends_inside, ends_malformed}
use Rattle.event_loop.proofs.Finishes.{ends_stopped, ends_too_long, ends_unread}
use Rattle.event_loop.proofs.events.answer_events.Goals as goal

pub returns-in_default-clause-ends : goal.returns-in_default-clause-ends
returns-in_default-clause-ends g c = ends_at_once g.M.Desk.answers _ _ _

pub events-init : goal.events-init
events-init g c = record {
  so_far = at_start g.M.Desk.answers _ _ _ _ c.new-pending.ensures;
  source = refl;
  sink = refl;
  within = omega arith;
  room = c.in-Ok.ensures;
  size = λ some. absurd (omega (arith, some));
}

pub events-preserved-in-Ok-Answered : goal.events-preserved-in-Ok-Answered
events-preserved-in-Ok-Answered g c =
    let front = rw (c.in-Ok-Answered.field-0-is, c.as_slice.ensures) at c.in-Ok-Answered.ensures.ok in
    record {
      so_far = rw c.drop_front.ensures.list
          (after_event g.M.Desk.answers _ _ _ _ _ _ c.events.invariant.so_far c.in-Ok-Answered.used _ _ front);
      source = c.events.invariant.source;
      sink = c.in-Ok-Answered.ensures.faults ∙ c.events.invariant.sink;
      within = c.events.invariant.within;
      room = c.in-Ok-Answered.ensures.room ∙ c.events.invariant.room;
      size = rw c.drop_front.ensures.size c.events.invariant.size;
    }

pub events-smaller-in-Ok-Answered : goal.events-smaller-in-Ok-Answered
events-smaller-in-Ok-Answered g c =
    let front = rw (c.in-Ok-Answered.field-0-is, c.as_slice.ensures) at c.in-Ok-Answered.ensures.ok in
    let less = drop_shorter front.event c.events.pending.list c.in-Ok-Answered.used front.next in
    rw c.drop_front.ensures.list (omega (arith, less))

pub returns-in-Ok-eq0-2-clause-ends : goal.returns-in-Ok-eq0-2-clause-ends
returns-in-Ok-eq0-2-clause-ends g c =
    let front = rw (c.in-Ok-NeedMore.field-0-is, c.as_slice.ensures) at c.in-Ok-NeedMore.ensures.ok in
    let now = still g.M.Desk.answers _ _ _ _ _ _ c.events.invariant.so_far _ _ front.1 in
    ends_inside g.M.Desk.answers _ _ _ _ _ _ now _ _ _ _ c.in-Ok-eq0.ensures.ok c.in-Ok-eq0.field-0-test
    (omega (arith, c.events.invariant.within, c.if-taken-eq-LONGEST_INPUT.false)) c.len-in-Ok-eq0-2.result front.0
    (omega arith) c.len-in-Ok-eq0-2.ensures

pub events-preserved : goal.events-preserved
events-preserved g c =
    let front = rw (c.in-Ok-NeedMore.field-0-is, c.as_slice.ensures) at c.in-Ok-NeedMore.ensures.ok in
    let now = still g.M.Desk.answers _ _ _ _ _ _ c.events.invariant.so_far _ _ front.1 in
    record {
      so_far = after_piece g.M.Desk.answers _ _ _ _ _ _ now _ _ _ _ c.in-Ok-read.ensures.ok;
      source = c.in-Ok-read.ensures.faults ∙ c.events.invariant.source;
      sink = c.in-Ok-NeedMore.ensures.faults ∙ c.events.invariant.sink;
      within = omega (arith, c.in-Ok-read.ensures.ok.within, c.events.invariant.within);
      room = c.in-Ok-NeedMore.ensures.room ∙ c.events.invariant.room;
      size = λ some. c.in-Ok-read.ensures.size;
    }

pub returns-in-Err-clause-ends : goal.returns-in-Err-clause-ends
returns-in-Err-clause-ends g c =
    rw c.into-in-Err.ensures
    (ends_stopped g.M.Desk.answers _ _ _ _ _ _ c.events.invariant.so_far c.in-Err.stop _ _
    (rw c.as_slice.ensures at c.in-Err.ensures.err) c.events.invariant.within)
