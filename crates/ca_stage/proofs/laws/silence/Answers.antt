use Rattle.ca_stage.proofs.Silence as Lemmas
use Rattle.ca_stage.proofs.laws.silence.Goals as goal

pub returns : goal.returns
returns c = Lemmas.silence
