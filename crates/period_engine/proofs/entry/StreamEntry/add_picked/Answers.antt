use Rattle.std.proofs.Common.{◌≡◌, arith}
use Rattle.period_engine.proofs.StoreReads.{adds_picked}
use Rattle.period_engine.proofs.entry.StreamEntry.add_picked.Goals as goal

pub returns-in-1 : goal.returns-in-1
returns-in-1 g c =
    adds_picked g.E.EngineSide.moves g.E.EngineSide.state c.args.channels 1 c.args.self.now c.add_words.new.store _ _
    c.in-1.is c.add_words.ensures

pub returns-in-2 : goal.returns-in-2
returns-in-2 g c =
    adds_picked g.E.EngineSide.moves g.E.EngineSide.state c.args.channels 2 c.args.self.now
    c.add_words-in-2.new.store _ _ c.in-2.is c.add_words-in-2.ensures

pub returns-in-3 : goal.returns-in-3
returns-in-3 g c =
    adds_picked g.E.EngineSide.moves g.E.EngineSide.state c.args.channels 3 c.args.self.now
    c.add_words-in-3.new.store _ _ c.in-3.is c.add_words-in-3.ensures

pub returns-in_default : goal.returns-in_default
returns-in_default g c =
    let is : c.args.channels ≡ 4 = omega arith in
    adds_picked g.E.EngineSide.moves g.E.EngineSide.state c.args.channels 4 c.args.self.now
    c.add_words-in_default.new.store _ _ is c.add_words-in_default.ensures
