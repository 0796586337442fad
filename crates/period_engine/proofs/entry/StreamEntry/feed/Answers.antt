use Rattle.std.proofs.Common.{◌-◌, ◌≤◌, length, drop, subst, arith}
use Rattle.period_engine.specs.Feeds.{PutsIfRoom}
use Rattle.period_engine.proofs.Packets.{is_offered, length-rest, with_head}
use Rattle.period_engine.proofs.entry.StreamEntry.feed.Goals as goal

pub returns-clause-turned : goal.returns-clause-turned
returns-clause-turned g c =
    let moves = g.E.EngineSide.moves in
    let a = c.args.self.now in
    let store = c.put_if_room-kept.new.store in
    let words = c.args.words.now in
    let some : 1 ≤ length words = omega arith in
    is_offered moves a store (length words - 1) (drop 1 words) c.requires.stores
    (length-rest words a.period c.requires.packet) (omega arith) c.put_if_room-kept.result
    (subst (λ ws. PutsIfRoom moves a.room ws c.put_if_room-kept.result a.store store) (with_head words _ some)
    c.put_if_room-kept.ensures.puts)
