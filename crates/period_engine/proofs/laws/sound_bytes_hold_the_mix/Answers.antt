use Rattle.period_engine.proofs.HeardFrames.{frames_of_sound}
use Rattle.period_engine.proofs.laws.sound_bytes_hold_the_mix.Goals as goal

pub returns : goal.returns
returns c p channels m streams =
    frames_of_sound p channels m streams (c.mix_sums.ensures m streams) c.bytes_of_frames_are_read.ensures.many
