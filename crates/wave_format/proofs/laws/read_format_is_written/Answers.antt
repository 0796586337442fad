use Rattle.wave_format.proofs.FormatLaws.{read-valid, read-plain, read-extensible, read-again}
use Rattle.wave_format.proofs.laws.read_format_is_written.Goals as goal

pub returns : goal.returns
returns c = record { valid = read-valid; plain = read-plain; extensible = read-extensible; again = read-again }
