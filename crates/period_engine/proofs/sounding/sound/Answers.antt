use Rattle.std.proofs.Common.{◌≡◌, ◌*◌, ◌≤◌, ◌++◌, length, vec_len, take, drop, is_ok, refl, ap, subst, ◌∙◌, arith}
use Rattle.period_engine.specs.Offers.{Offers}
use Rattle.period_engine.proofs.Mixable.{addable, all_picked, front_of}
use Rattle.period_engine.proofs.SoundSteps.{steps_of, steps_follow, all_take, steps_leave}
use Rattle.period_engine.proofs.SoundMix.{mixed_bytes}
use Rattle.period_engine.proofs.sounding.sound.Goals as goal

pub mix-requires-clause-addable : goal.mix-requires-clause-addable
mix-requires-clause-addable g c = λ k d lt.
    addable g.E.EngineSide.state c.args.e.0 c.args.p (length c.args.ends.now) _ (c.requires.picked k d lt)
    (c.requires.mixable k d lt)

pub returns-clause-sounds : goal.returns-clause-sounds
returns-clause-sounds g c =
    let moves = g.E.EngineSide.moves in
    let state = g.E.EngineSide.state in
    let faults = g.D.Devices.faults in
    let told = g.D.Devices.told in
    let ends = c.args.ends.now in
    let size = c.args.p * length ends in
    let xs = c.args.all.now in
    let ys = c.mix.new.all in
    let sums = c.mix.ensures.sums in
    let h = c.mix.ensures.adds in
    let steps = steps_of moves state (length ends) xs ys _ sums h in
    let follows = steps_follow moves state (length ends) 0 xs ys _ sums h c.requires.entries.order in
    let items = c.block.inside.bytes in
    let samples : vec_len c.block.inside.sums ≡ c.args.block.now.samples = ap (λ b. b.samples) c.block.view_is in
    let held : vec_len items ≡ 2 * vec_len c.block.inside.sums = c.block.invariant.bytes_are in
    let within : 2 * size ≤ vec_len items = omega (arith, samples, held, c.requires.block) in
    let stand = take items.len (c.mix.new.bytes ++ drop (length c.mix.new.bytes) items.items) in
    let front : take (2 * size) stand ≡ take (2 * size) c.mix.new.bytes =
    front_of (2 * size) items.len c.mix.new.bytes (drop (length c.mix.new.bytes) items.items) within (omega arith) in
    record {
      steps = steps;
      made = all_take moves state (length ends) steps xs ys _ sums h follows;
      mixed = λ datas m agree mixes.
          front ∙ mixed_bytes moves state ends c.args.e.0 c.args.p size xs ys sums steps h follows datas m agree mixes
          (λ k d lt. (c.requires.picked k d lt).plays) (λ k d lt. (c.requires.mixable k d lt).fits)
          (take (2 * size) c.mix.new.bytes) c.mix.ensures.size_is refl c.mix.ensures.holds;
      reads = λ d client l. steps_leave moves state (length ends) xs ys _ sums h d client l;
      offers = subst (λ bytes. Offers c.args.e.0 bytes (is_ok c.offer.result) (faults c.args.devices.now)
          (told c.args.devices.now) (faults c.offer.new.devices) (told c.offer.new.devices))
          (ap (take (2 * size)) c.deref.ensures.value) c.offer.ensures;
    }

pub returns-clause-picked : goal.returns-clause-picked
returns-clause-picked g c =
    all_picked g.E.EngineSide.moves g.E.EngineSide.state c.args.e.0 c.args.p (length c.args.ends.now) c.args.all.now
    c.mix.new.all _ c.mix.ensures.sums c.mix.ensures.adds c.requires.picked
