use Rattle.ducking.proofs.LastRows.{count_stands}
use Rattle.ducking.proofs.laws.count_is_of_last_rows.Goals as goal

pub returns : goal.returns
returns c = count_stands
