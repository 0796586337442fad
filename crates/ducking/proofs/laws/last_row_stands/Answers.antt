use Rattle.ducking.proofs.Histories.{row_stands}
use Rattle.ducking.proofs.laws.last_row_stands.Goals as goal

pub returns : goal.returns
returns c = λ steps session. row_stands session steps
