use Rattle.std.proofs.Common.{drop, subst, ◌∙◌}
use Rattle.std.specs.List.{AllZip}
use Rattle.ca_stage.specs.Periods.{fed_if}
use Rattle.period_engine.specs.Feeds.{is_fed}
use Rattle.period_engine.specs.SubSteps.{Turned}
use Rattle.period_engine.proofs.FedEntries.{all_fed, is_fed_by_entry}
use Rattle.period_engine.proofs.GivenFrames.{frames_of_front}
use Rattle.period_engine.proofs.feeding.feed_frames.Goals as goal

pub returns-clause-turned : goal.returns-clause-turned
returns-clause-turned g c =
    let moves = g.E.EngineSide.moves in
    let test = is_fed c.args.kind c.args.e.0 in
    let frames = c.write_frames.ensures ∙ frames_of_front c.args.p c.args.channels c.args.bytes.now in
    subst (λ fs. AllZip (Turned moves (fed_if test fs)) c.args.all.now c.feed_all.new.all) frames
    (all_fed moves test (is_fed_by_entry c.args.kind c.args.e.0) c.args.channels (drop 1 c.write_frames.new.words)
    c.args.all.now c.feed_all.new.all (λ k d lt so. (c.requires.feedable k d lt so).channels_are)
    c.feed_all.ensures.turned)
