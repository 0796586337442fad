use Rattle.ca_stage.proofs.StageHolds as Lemmas
use Rattle.ca_stage.proofs.laws.stage_holds.Goals as goal

pub returns : goal.returns
returns c = Lemmas.stage_holds
