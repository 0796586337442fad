use Rattle.std.proofs.Common.{arith}
use Rattle.wave_format.proofs.FrameLaws.{frame_back, sample_of_word, word_fits}
use Rattle.wave_format.proofs.laws.word_holds_the_frame.Goals as goal

pub returns : goal.returns
returns c = record {
  frame = λ channels samples h. rw (← h.count) (frame_back samples h.within);
  sample = λ channels channel samples other h below.
      sample_of_word samples channel other h.within (omega (arith, h.count));
  fits = λ channels samples h. rw (← h.count) (word_fits samples h.within);
}
