use Rattle.call_wire.proofs.Cuts.{one_spelling}
use Rattle.call_wire.proofs.laws.one_spelling.Goals as goal

pub returns : goal.returns
returns c = one_spelling
