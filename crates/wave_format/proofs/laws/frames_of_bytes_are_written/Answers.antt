use Rattle.std.proofs.Common.{arith}
use Rattle.wave_format.proofs.FrameLaws.{frame_bytes-frame_from}
use Rattle.wave_format.proofs.BlockLaws.{frame_from-frame, length-frames_from, frames_from-frames}
use Rattle.wave_format.proofs.laws.frames_of_bytes_are_written.Goals as goal

pub returns : goal.returns
returns c = record {
  one = λ channels bytes h l. (frame_from-frame channels bytes h l, frame_bytes-frame_from bytes (omega arith) h);
  count = length-frames_from;
  many = frames_from-frames;
}
