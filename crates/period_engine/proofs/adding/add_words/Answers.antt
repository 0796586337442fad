use Rattle.std.proofs.Common.{◌≡◌, ◌-◌, ◌*◌, ◌≤◌, length, drop, ap, sym, arith}
use Rattle.std.proofs.lemmas.List.{length-take}
use Rattle.volume_stack.specs.Sums.{AreWithin}
use Rattle.period_engine.specs.Added.{AddsWords, most_sum}
use Rattle.period_engine.proofs.WordBlocks.{near_block, place_within, room_left}
use Rattle.period_engine.proofs.StoreReads.{one_block}
use Rattle.period_engine.proofs.adding.add_words.Goals as goal

pub add_block-requires-clause-room : goal.add_block-requires-clause-room
add_block-requires-clause-room g c =
    let place = c.loop-place.place in
    let size : length c.read.new.words ≡ c.min-size.result =
    omega (arith, c.read.ensures.size, length-take c.min-size.result c.loop-place.block) in
    let total = length c.loop-place.sums in
    let same : total ≡ length c.args.sums.now = omega arith in
    let left : c.args.channels * c.min-size.result ≤ total - c.args.channels * place =
    room_left c.args.channels place c.min-size.result c.args.count total (omega arith) (omega (arith, same)) in
    rw size (omega (arith, left, c.split_at_mut-rest.ensures.back_len))

pub add_block-requires-clause-sums : goal.add_block-requires-clause-sums
add_block-requires-clause-sums g c =
    let so_far = c.loop-place.invariant.adds in
    let at = c.args.channels * c.loop-place.place in
    let near : AreWithin most_sum (drop at c.loop-place.sums) =
    near_block so_far.adds at (ap (λ n. c.args.channels * n) (sym so_far.count_is)) most_sum c.requires.sums in
    rw c.split_at_mut-rest.ensures.back near

pub loop-place-preserved : goal.loop-place-preserved
loop-place-preserved g c =
    let so_far = c.loop-place.invariant.adds in
    let gains = c.args.gains.now in
    let channels = c.args.channels in
    let at = channels * c.loop-place.place in
    let words = c.read.new.words in
    let part = c.add_block.new.sums in
    let size : length words ≡ c.min-size.result =
    omega (arith, c.read.ensures.size, length-take c.min-size.result c.loop-place.block) in
    let same : length c.loop-place.sums ≡ length c.args.sums.now = omega arith in
    let within : at ≤ length c.loop-place.sums =
    place_within channels c.loop-place.place c.args.count (length c.loop-place.sums) (omega arith)
    (omega (arith, same)) in
    let adds : AddsWords gains channels words (drop at c.loop-place.sums) part =
    rw (sym c.split_at_mut-rest.ensures.back) c.add_block.ensures in
    record {
      adds = rw c.split_at_mut-rest.ensures.front
          (one_block so_far g.met.E.EngineSide.joins c.read.new.self words c.min-size.result part size within
          c.read.ensures.reads c.read.ensures.keeps adds);
      within = omega arith;
    }
