use Rattle.ca_stage.proofs.PacketSources as Lemmas
use Rattle.ca_stage.proofs.laws.packets_come_from.Goals as goal

pub returns : goal.returns
returns c = Lemmas.packets_come_from
