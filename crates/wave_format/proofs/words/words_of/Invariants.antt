use Rattle.std.proofs.Common.{◌≡◌, ℕ, ◌-◌, ◌*◌, ◌++◌, length, take, map}
use Rattle.wave_format.specs.Frame.{frame_of, frames_from, AreBytes}
use Rattle.wave_format.proofs.words.words_of.Given as goal

-- the frames of the words written so far and those of the bytes that are left are all
abbrev pub invariant-loop-i : goal.invariant-loop-i
invariant-loop-i g l = record {
  bytes : AreBytes l.rest;
  size : length l.rest ≡ (length l.words - l.i) * g.row.N;
  all : (channels : ℕ) → g.row.N ≡ channels * 2 →
      map (frame_of channels) (take l.i l.words) ++ frames_from (length l.words - l.i) channels l.rest
      ≡ frames_from (length l.words) channels l.bytes;
  len : length l.words ≡ length l.initial.words;
}
