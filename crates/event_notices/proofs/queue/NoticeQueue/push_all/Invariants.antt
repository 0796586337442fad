use Rattle.std.proofs.Common.{◌≡◌, take}
use Rattle.event_notices.specs.Notices.{pushed_all}
use Rattle.event_notices.proofs.queue.NoticeQueue.push_all.Given as goal

-- those so far were pushed
abbrev pub invariant-loop-n : goal.invariant-loop-n
invariant-loop-n l = l.self ≡ pushed_all (take l.n-index l.ns) l.initial.self
