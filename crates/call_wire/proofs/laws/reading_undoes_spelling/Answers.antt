use Rattle.call_wire.proofs.Cuts.{reading_undoes_spelling}
use Rattle.call_wire.proofs.laws.reading_undoes_spelling.Goals as goal

pub returns : goal.returns
returns c = reading_undoes_spelling
