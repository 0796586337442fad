use Rattle.std.proofs.Common.{length}
use Rattle.period_engine.specs.SubSteps.{picks_on}
use Rattle.service_board.proofs.Playing.{all_mixable, picks_gate, still_entries}
use Rattle.service_board.proofs.plays.play.Goals as goal

pub sound-requires-clause-entries : goal.sound-requires-clause-entries
sound-requires-clause-entries g c =
    still_entries g.E.EngineSide.moves g.E.EngineSide.state c.args.e.0 c.args.p (picks_on c.args.e.0 c.args.p)
    c.args.all.now c.pick.new.all c.pick.ensures.turned c.requires.entries

pub sound-requires-clause-mixable : goal.sound-requires-clause-mixable
sound-requires-clause-mixable g c =
    all_mixable g.E.EngineSide.moves g.E.EngineSide.state c.args.e.0 c.args.p (picks_on c.args.e.0 c.args.p)
    (λ a. picks_gate g.E.EngineSide.moves g.E.EngineSide.state c.args.e.0 c.args.p a) (length c.args.ends.now)
    c.args.all.now c.pick.new.all c.pick.ensures.turned c.requires.playable c.pick.ensures.picked

pub returns-clause-sounds : goal.returns-clause-sounds
returns-clause-sounds g c =
    record { mid = c.pick.new.all; picks = c.pick.ensures.turned; sounds = c.sound.ensures.sounds }
