use Rattle.call_wire.proofs.Cuts.{cut_is_longest}
use Rattle.call_wire.proofs.laws.cut_is_longest.Goals as goal

pub returns : goal.returns
returns c = cut_is_longest
