use Rattle.std.proofs.Common.{◌∙◌}
use Rattle.service_board.specs.Openings.{is_above}
use Rattle.service_board.proofs.Places.{place_end, place_found}
use Rattle.service_board.proofs.board.Board.new_place.Goals as goal

pub returns-in-Some : goal.returns-in-Some
returns-in-Some g c =
    place_found (is_above c.args.client.0) c.args.self.now.entries.items c.in-Some.at c.in-Some.ensures

pub returns-in-None : goal.returns-in-None
returns-in-None g c =
    place_end (is_above c.args.client.0) c.args.self.now.entries.items c.len.result c.in-None.ensures
    (c.len.ensures ∙ c.args.self.now.entries.ok.0)
