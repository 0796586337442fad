use Rattle.std.proofs.Common.{arith}
use Rattle.std.proofs.lemmas.List.FromFn.{get_or-map-range_with_len}
use Rattle.wave_format.specs.Frame.{sample_at}
use Rattle.wave_format.proofs.BlockLaws.{frame_of-frame, word_of-frame_of}
use Rattle.wave_format.proofs.laws.word_is_its_frame.Goals as goal

pub returns : goal.returns
returns c = record {
  frame = frame_of-frame;
  sample = λ channels channel word other below.
      get_or-map-range_with_len (sample_at word) 0 channels channel channel other below (omega arith);
  word = word_of-frame_of;
}
