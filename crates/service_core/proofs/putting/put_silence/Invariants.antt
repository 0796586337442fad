use Rattle.std.proofs.Common.{◌≡◌, ◌++◌, replicate}
use Rattle.service_core.proofs.PutFrames.{IsFilling}
use Rattle.service_core.proofs.putting.put_silence.Given as goal

-- the silent frames put so far and those that are left are all
abbrev pub invariant-loop-left : goal.invariant-loop-left
invariant-loop-left g l = record {
  all : (g.F.FrameStore.kept l.store).words ++ replicate l.left 0
      ≡ (g.F.FrameStore.kept l.initial.store).words ++ replicate l.frames 0;
  filling : IsFilling l.left l.frames (g.F.FrameStore.kept l.initial.store) (g.F.FrameStore.kept l.store);
}

abbrev pub decreases-loop-left : goal.decreases-loop-left
decreases-loop-left g l = l.left
