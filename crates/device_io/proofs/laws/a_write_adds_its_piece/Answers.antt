use Rattle.device_io.proofs.DeviceLogLaws.{
  written_at-add_same,
  written_at-add_other,
  left_at-add_written,
  add_written-twice,
}
use Rattle.device_io.proofs.laws.a_write_adds_its_piece.Goals as goal

pub returns : goal.returns
returns c = record {
  same = written_at-add_same;
  other = written_at-add_other;
  left = left_at-add_written;
  twice = add_written-twice;
}
