use Rattle.device_io.proofs.DeviceLogLaws.{left_at-take_same, left_at-take_other, written_at-take_left, take_left-twice}
use Rattle.device_io.proofs.laws.a_read_takes_the_front.Goals as goal

pub returns : goal.returns
returns c = record {
  same = left_at-take_same;
  other = left_at-take_other;
  written = written_at-take_left;
  twice = take_left-twice;
}
