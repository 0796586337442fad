use Rattle.ca_stage.proofs.Conservation as Lemmas
use Rattle.ca_stage.proofs.laws.conservation.Goals as goal

pub returns : goal.returns
returns c = Lemmas.conservation
