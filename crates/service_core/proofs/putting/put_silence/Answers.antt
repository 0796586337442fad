use Rattle.std.proofs.Common.{◌≤◌, length, ap, arith, ◌∙◌}
use Rattle.std.proofs.lemmas.List.{length-replicate, take-replicate}
use Rattle.service_core.proofs.PutFrames.{fills_on, puts_open, silence_goes_in}
use Rattle.service_core.proofs.putting.put_silence.Goals as goal

pub loop-left-preserved : goal.loop-left-preserved
loop-left-preserved g c =
    let old = g.F.FrameStore.kept c.loop-left.store in
    let new = g.F.FrameStore.kept c.client_put.new.self in
    let few : c.min-count.result ≤ c.loop-left.left = omega arith in
    let puts = puts_open c.client_put.result _ old new
    (c.loop-left.invariant.filling.opens ∙ c.requires.opens) c.client_put.ensures in
    let silent = take-replicate c.min-count.result 64 0 (omega arith) in
    record {
      all = silence_goes_in c.loop-left.left c.min-count.result old new _ _ few silent puts c.loop-left.invariant.all;
      filling = fills_on c.loop-left.left c.args.frames c.min-count.result (g.F.FrameStore.kept c.args.store.now) old
          new
          _ c.loop-left.invariant.filling puts (ap length silent ∙ length-replicate c.min-count.result 0) few;
    }
