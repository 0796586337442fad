use Rattle.ducking.proofs.LastRows.{level_stands}
use Rattle.ducking.proofs.laws.level_is_of_last_rows.Goals as goal

pub returns : goal.returns
returns c = level_stands
