use Rattle.std.proofs.Common.{◌≡◌, ℕ, ◌*◌, ◌++◌, length}
use Rattle.client_state.specs.Frames.{frames_in}
use Rattle.wave_format.specs.Frame.{frames_from}
use Rattle.service_core.proofs.PutFrames.{IsFilling}
use Rattle.service_core.proofs.putting.put_frames_of.Given as goal

-- the frames put so far and those of the bytes that are left are all
abbrev pub invariant-loop-left : goal.invariant-loop-left
invariant-loop-left g l = record {
  size : length l.rest ≡ l.left * g.row.N;
  all : (channels : ℕ) → g.row.N ≡ channels * 2 →
      frames_in channels (g.F.FrameStore.kept l.store).words ++ frames_from l.left channels l.rest
      ≡ frames_in channels (g.F.FrameStore.kept l.initial.store).words ++ frames_from l.frames channels l.bytes;
  filling : IsFilling l.left l.frames (g.F.FrameStore.kept l.initial.store) (g.F.FrameStore.kept l.store);
}

abbrev pub decreases-loop-left : goal.decreases-loop-left
decreases-loop-left g l = l.left
