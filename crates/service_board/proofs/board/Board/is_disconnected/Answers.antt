use Rattle.std.proofs.Common.{not, sym, ap, ◌∙◌}
use Rattle.ca_stage.specs.Stage.{is_open_gate}
use Rattle.service_board.proofs.ValidEndpoints.{disconnected_there, not_disconnected}
use Rattle.service_board.proofs.board.Board.is_disconnected.Goals as goal

pub returns-in_default : goal.returns-in_default
returns-in_default g c = not_disconnected c.args.client.0 c.args.self.now.entries.items c.in_default.ensures

pub returns-in-Open : goal.returns-in-Open
returns-in-Open g c =
    sym (ap (λ gate. not (is_open_gate gate)) c.in-Open.is)
    ∙ disconnected_there c.args.client.0 c.args.self.now.entries.items c.in-Some.at c.index.result.now c.in-Some.ensures
    c.index.ensures

pub returns-in-Closed : goal.returns-in-Closed
returns-in-Closed g c =
    sym (ap (λ gate. not (is_open_gate gate)) c.in-Closed.is)
    ∙ disconnected_there c.args.client.0 c.args.self.now.entries.items c.in-Some.at c.index.result.now c.in-Some.ensures
    c.index.ensures
