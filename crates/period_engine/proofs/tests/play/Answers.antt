use Rattle.std.proofs.Common.{length, arith}
use Rattle.buffer_ring.specs.Kept.{RunsSteps}
use Rattle.period_engine.specs.SubSteps.{picks_on, retires_on}
use Rattle.period_engine.proofs.SameEntries.{picks_keep, read_fed, retires_keep, still_entries, still_fed}
use Rattle.period_engine.proofs.SameEntries.{still_mixable}
use Rattle.period_engine.proofs.tests.play.Goals as goal

pub sound-requires-clause-entries : goal.sound-requires-clause-entries
sound-requires-clause-entries c =
    still_entries RunsSteps (picks_on 1 c.args.p) c.args.all.now c.pick.new.all c.pick.ensures.turned c.requires.entries

pub sound-requires-clause-mixable : goal.sound-requires-clause-mixable
sound-requires-clause-mixable c =
    still_mixable RunsSteps (picks_on 1 c.args.p) (length c.args.ends.now) c.args.all.now c.pick.new.all
    c.pick.ensures.turned c.requires.channels c.requires.gains

pub feed_loopback-requires-clause-feedable : goal.feed_loopback-requires-clause-feedable
feed_loopback-requires-clause-feedable c =
    let channels = length c.args.ends.now in
    let p = c.args.p in
    let room = c.requires.room in
    let same = c.sound.ensures.block in
    let sounds = c.sound.ensures.sounds in (
      channels,
      record {
        some = room.some;
        few = room.few;
        words = omega (arith, room.words, same.frames);
        bytes = omega (arith, room.bytes, same.bytes);
      },
      still_fed RunsSteps 1 channels p (retires_on 1) (retires_keep 1) c.sound.new.all c.retire.new.all
          c.retire.ensures.turned
          (read_fed RunsSteps 1 channels p sounds.steps c.pick.new.all c.sound.new.all sounds.made
          (still_fed RunsSteps 1 channels p (picks_on 1 p) (picks_keep 1 p) c.args.all.now c.pick.new.all
          c.pick.ensures.turned c.requires.fed)),
    )
