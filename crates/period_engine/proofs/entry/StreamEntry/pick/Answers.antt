use Rattle.std.proofs.Common.{sym, ◌∙◌}
use Rattle.period_engine.proofs.Turns.{picks}
use Rattle.period_engine.proofs.entry.StreamEntry.pick.Goals as goal

pub returns-then-is_played-clause-turned : goal.returns-then-is_played-clause-turned
returns-then-is_played-clause-turned g c =
    picks g.E.EngineSide.moves g.E.EngineSide.state c.args.e.0 c.args.p c.held-held.result c.min-self.result
    c.args.self.now c.held-held.new.self (sym c.is_played.ensures ∙ c.if-is_played.true) c.min-self.ensures
    c.held-held.ensures
