use Rattle.call_wire.proofs.Cuts.{spelling_undoes_reading}
use Rattle.call_wire.proofs.laws.spelling_undoes_reading.Goals as goal

pub returns : goal.returns
returns c = spelling_undoes_reading
