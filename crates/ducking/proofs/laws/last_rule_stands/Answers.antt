use Rattle.ducking.proofs.Histories.{rule_stands}
use Rattle.ducking.proofs.laws.last_rule_stands.Goals as goal

pub returns : goal.returns
returns c = rule_stands
