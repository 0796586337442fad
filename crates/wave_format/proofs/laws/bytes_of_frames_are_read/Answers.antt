use Rattle.wave_format.proofs.FrameLaws.{frame_from-frame_bytes, length-frame_bytes}
use Rattle.wave_format.proofs.BlockLaws.{frames_from-frame_bytes}
use Rattle.wave_format.proofs.laws.bytes_of_frames_are_read.Goals as goal

pub returns : goal.returns
returns c = record {
  one = λ channels samples h. frame_from-frame_bytes samples h.within;
  size = λ channels samples h. rw (← h.count) (length-frame_bytes samples);
  many = frames_from-frame_bytes;
}
