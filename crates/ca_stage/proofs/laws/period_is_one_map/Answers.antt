use Rattle.ca_stage.proofs.Periods as Lemmas
use Rattle.ca_stage.proofs.laws.period_is_one_map.Goals as goal

pub returns : goal.returns
returns c = Lemmas.period_is_one_map
