use Rattle.device_io.proofs.DeviceLogLaws.{written_at-add_all, left_at-add_all, add_all-append, pieces_at-append}
use Rattle.device_io.proofs.laws.writes_gather.Goals as goal

pub returns : goal.returns
returns c = record {
  written = written_at-add_all;
  left = left_at-add_all;
  joins = add_all-append;
  pieces = pieces_at-append;
}
