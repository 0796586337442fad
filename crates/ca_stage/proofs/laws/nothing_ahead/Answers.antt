use Rattle.ca_stage.proofs.EachPlaceOnce as Lemmas
use Rattle.ca_stage.proofs.laws.nothing_ahead.Goals as goal

pub returns : goal.returns
returns c = Lemmas.nothing_ahead
