use Rattle.ca_stage.proofs.Mixing as Lemmas
use Rattle.ca_stage.proofs.laws.mix_sums.Goals as goal

pub returns : goal.returns
returns c = Lemmas.mix_sums
