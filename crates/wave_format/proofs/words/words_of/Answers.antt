use Rattle.std.proofs.Common.{ℕ, ◌<◌, length, take, drop, arith, ap, ◌∙◌}
use Rattle.std.proofs.lemmas.List.{length-set, take_more_set}
use Rattle.wave_format.proofs.BlockLaws.{AreBytes-drop}
use Rattle.wave_format.proofs.FrameWords.{one_written, holds, one_less}
use Rattle.wave_format.proofs.words.words_of.Goals as goal

pub loop-i-preserved : goal.loop-i-preserved
loop-i-preserved g c =
    let lt : c.loop-i.i < length c.loop-i.words = omega arith in
    let size = one_less (length c.loop-i.words) c.loop-i.i g.row.N (length c.loop-i.rest.now)
    (length c.split_at.result.1.now) lt c.loop-i.invariant.size c.split_at.ensures.back_len in
    record {
      bytes = rw c.split_at.ensures.back (AreBytes-drop g.row.N c.loop-i.rest.now c.loop-i.invariant.bytes);
      size = rw length-set size.1;
      all = λ channels is. rw (length-set, take_more_set c.loop-i.words c.loop-i.i c.word_from_bytes.result lt) (
          one_written channels (length c.loop-i.words) c.loop-i.i (take c.loop-i.i c.loop-i.words)
          c.word_from_bytes.result c.loop-i.rest.now c.split_at.result.1.now _ lt
          (holds channels g.row.N c.loop-i.rest.now c.split_at.result.0.now c.word_from_bytes.result c.requires.block
          is size.0 c.loop-i.invariant.bytes c.split_at.ensures.front c.word_from_bytes.ensures
          c.frames_of_bytes_are_written.ensures.one c.word_holds_the_frame.ensures.frame)
          (c.split_at.ensures.back ∙ ap (λ (k : ℕ). drop k c.loop-i.rest.now) is)
          (c.loop-i.invariant.all channels is));
      len = rw length-set c.loop-i.invariant.len;
    }
