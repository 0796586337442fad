use Rattle.std.proofs.Common.{◌≡◌, ◌-◌, drop, get_or, length, true, subst, ◌∙◌}
use Rattle.ca_stage.specs.Stage.{no_data}
use Rattle.period_engine.specs.Entries.{IsFeedable, IsRested, stream_with}
use Rattle.period_engine.specs.Feeds.{TurnedBy, is_fed}
use Rattle.period_engine.proofs.FedEntries.{Feeds}
use Rattle.period_engine.proofs.Passes.{Alone, next_has, one_passed, all_passed, all_zip, all_after}
use Rattle.period_engine.proofs.feeding.feed_all.Goals as goal

pub feed_if-requires-clause-rested : goal.feed_if-requires-clause-rested
feed_if-requires-clause-rested g c =
    next_has c.loop-entry.invariant.passed (IsRested g.E.EngineSide.state) c.entry-item.result c.loop-entry-test.true
    c.requires.rested

pub feed_if-requires-clause-feedable : goal.feed_if-requires-clause-feedable
feed_if-requires-clause-feedable g c =
    rw c.loop-entry.invariant.size (next_has c.loop-entry.invariant.passed
    (λ entry. is_fed c.args.kind c.args.e.0 (stream_with no_data entry) ≡ true →
    IsFeedable entry.channels (length c.args.words.now - 1) entry)
    c.entry-item.result c.loop-entry-test.true c.requires.feedable)

pub loop-entry-preserved : goal.loop-entry-preserved
loop-entry-preserved g c =
    let so_far = c.loop-entry.invariant in
    let entry = get_or c.loop-entry.all c.loop-entry.entry-index c.entry-item.result in
    let turned = subst
    (λ ws. TurnedBy g.E.EngineSide.moves (is_fed c.args.kind c.args.e.0) ws entry c.feed_if.new.self) so_far.rest
    c.feed_if.ensures.turned in
    record {
      passed = one_passed so_far.passed c.entry-item.result c.feed_if.new.self 0 c.loop-entry-test.true
          c.loop-entry.auto.all (turned, c.feed_if.ensures.rested);
      rest = c.feed_if.ensures.words ∙ so_far.rest;
      size = c.feed_if.auto.words ∙ so_far.size;
    }

pub returns-clause-turned : goal.returns-clause-turned
returns-clause-turned g c =
    let moves = g.E.EngineSide.moves in
    let test = is_fed c.args.kind c.args.e.0 in
    let rest = drop 1 c.args.words.now in
    all_zip (Feeds moves g.E.EngineSide.state test rest) (TurnedBy moves test rest) (λ a b feeds. feeds.0)
    c.args.all.now c.loop-entry.all 0 0
    (all_passed c.loop-entry.invariant.passed c.loop-entry-test.false c.loop-entry.auto.all)

pub returns-clause-rested : goal.returns-clause-rested
returns-clause-rested g c =
    all_after (Alone (Feeds g.E.EngineSide.moves g.E.EngineSide.state (is_fed c.args.kind c.args.e.0)
    (drop 1 c.args.words.now))) (IsRested g.E.EngineSide.state) (λ a b old new feeds. feeds.1) c.args.all.now
    c.loop-entry.all 0 0
    (all_passed c.loop-entry.invariant.passed c.loop-entry-test.false c.loop-entry.auto.all)
