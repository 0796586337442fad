use Rattle.call_wire.proofs.Cuts.{malformed_stays}
use Rattle.call_wire.proofs.laws.malformed_stays.Goals as goal

pub returns : goal.returns
returns c = malformed_stays
