use Rattle.wave_format.proofs.FormatLaws.{written-read, plain-read, spellings_differ}
use Rattle.wave_format.proofs.laws.written_format_is_read.Goals as goal

pub returns : goal.returns
returns c = record { written = written-read; any_extra_size = plain-read; apart = spellings_differ }
