use Rattle.std.proofs.Common.{◌≡◌, ◌*◌, length, take, get_or, ap, sym, subst, ◌∙◌, arith}
use Rattle.std.proofs.lemmas.List.{take_more, length-take-le}
use Rattle.period_engine.specs.Added.{AddsWord, AddsWords}
use Rattle.period_engine.proofs.SumSteps.{one_word}
use Rattle.period_engine.proofs.adding.add_block.Goals as goal

pub loop-place-preserved : goal.loop-place-preserved
loop-place-preserved c =
    let gains = c.args.gains.now in
    let channels = c.args.channels in
    let words = c.args.words.now in
    let place = c.loop-place.place in
    let word = get_or words place 0 in
    let mid = c.loop-place.sums in
    let new = c.add_word.new.sums in
    let long : length (take place words) ≡ place = length-take-le place words (omega arith) in
    let at : c.loop-place.at ≡ channels * length (take place words) =
    c.loop-place.invariant.at_is ∙ ap (λ n. channels * n) (sym long) in
    let one : AddsWord gains channels word (channels * length (take place words)) mid new =
    subst (λ n. AddsWord gains channels word n mid new) at c.add_word.ensures in
    record {
      adds = subst (λ ws. AddsWords gains channels ws c.args.sums.now new) (sym (take_more words place 0 (omega arith)))
          (one_word c.loop-place.invariant.adds one);
      at_is = omega (arith, c.loop-place.invariant.at_is);
    }
