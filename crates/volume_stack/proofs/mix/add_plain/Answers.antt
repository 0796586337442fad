use Rattle.std.proofs.Common.{◌≡◌, ◌≤◌, ◌<◌, ◌+◌, ◌+ℤ◌, pos, length, arith, rules, FitsSigned, get_or, unsigned_abs}
use Rattle.std.specs.Int.{w16, w64}
use Rattle.std.proofs.lemmas.Int.{to_z-of_z}
use Rattle.volume_stack.specs.Scaling.{scaled}
use Rattle.volume_stack.specs.Sums.{sample_limit}
use Rattle.volume_stack.proofs.SumLemmas.{as_it_is, one_more, within_at, one_less_left, near_more}
use Rattle.volume_stack.proofs.mix.add_plain.Goals as goal

pub sum_with-requires-clause-sum : goal.sum_with-requires-clause-sum
sum_with-requires-clause-sum c =
    let there : c.loop-i.i < length c.args.sums.now = omega arith in
    let near = within_at c.loop-i.sums c.args.sums.now c.loop-i.i c.loop-i.invariant.rest c.requires.sums there in
    rw (as_it_is (get_or c.loop-i.sums c.loop-i.i (pos 0)) near) near

pub loop-i-preserved : goal.loop-i-preserved
loop-i-preserved c =
    let so_far = c.loop-i.invariant in
    let sums = c.loop-i.sums in
    let old = c.args.sums.now in
    let i = c.loop-i.i in
    let sum = get_or sums i (pos 0) in
    let sample = get_or c.args.samples.now i (pos 0) in
    let there : i < length old = omega arith in
    let here : i < length sums = omega arith in
    let sum_is = as_it_is sum (within_at sums old i so_far.rest c.requires.sums there) in
    let sample_fits : FitsSigned w16 sample = search rules in
    let sample_is = to_z-of_z w16 sample sample_fits in
    let v = c.sum_with.result in
    let v_fits : FitsSigned w64 v = search rules in
    let exact : v ≡ sum +ℤ scaled sample c.args.gain = rw (sum_is, sample_is) at c.sum_with.ensures.exact in
    let within : unsigned_abs v ≤ unsigned_abs sum + sample_limit = rw sum_is at c.sum_with.ensures.within in
    rw (to_z-of_z w64 v v_fits) (record {
      done = one_more c.args.gain c.args.samples.now sums i v _ c.loop-i-test.true here exact so_far.done;
      rest = one_less_left sums old i v here there so_far.rest;
      near = near_more sums old i v there (omega arith) so_far.rest within so_far.near;
    })
