use Rattle.std.proofs.Common.{◌≡◌, ℕ, ◌-◌, ◌≤◌, ◌++◌, length, ap, sym, arith, ◌∙◌}
use Rattle.std.proofs.lemmas.List.{length-take}
use Rattle.wave_format.specs.Frame.{frames_from}
use Rattle.client_state.specs.Frames.{frames_in}
use Rattle.service_core.proofs.PutFrames.{batch_goes_in, fills_on, puts_open}
use Rattle.service_core.proofs.putting.put_frames_of.Goals as goal

pub loop-left-preserved : goal.loop-left-preserved
loop-left-preserved g c =
    let old = g.F.FrameStore.kept c.loop-left.store in
    let new = g.F.FrameStore.kept c.client_put.new.self in
    let few : c.min-count.result ≤ c.loop-left.left = omega arith in
    let size : length c.words_of.new.words ≡ c.min-count.result =
    c.words_of.auto.words ∙ rw length-take (omega arith) in
    let puts = puts_open c.client_put.result c.words_of.new.words old new
    (c.loop-left.invariant.filling.opens ∙ c.requires.opens) c.client_put.ensures in
    record {
      size = grind arith;
      all = λ channels is.
          ap (λ k. frames_in channels k.words ++ frames_from (c.loop-left.left - c.min-count.result) channels
          c.split_at.result.1.now) puts
          ∙ batch_goes_in channels c.loop-left.left c.min-count.result g.row.N old.words c.words_of.new.words
          c.loop-left.rest.now _ c.split_at.result.1.now _ few is c.split_at.ensures.front c.split_at.ensures.back
          (c.words_of.ensures.frames channels is
          ∙ ap (λ (n : ℕ). frames_from n channels c.split_at.result.0.now) (sym c.words_of.auto.words ∙ size))
          (c.loop-left.invariant.all channels is);
      filling = fills_on c.loop-left.left c.args.frames c.min-count.result (g.F.FrameStore.kept c.args.store.now) old
          new
          c.words_of.new.words c.loop-left.invariant.filling puts size few;
    }
