use Rattle.std.proofs.Common.{◌∙◌, List, ℕ, take, sym, subst, arith}
use Rattle.std.proofs.Math.Seq.{take-add}
use Rattle.std.proofs.KnownBytes.{Appends-trans}
use Rattle.std.specs.Io.KnownBytes.{Appends}
use Rattle.event_loop.proofs.replies.write_all.Goals as goal

pub pieces-preserved : goal.pieces-preserved
pieces-preserved g c =
    let so_far = c.pieces.invariant in
    let now = c.in_ok-done.ensures in
    let count = c.in_ok-done.field-0 in
    let before = g.K.Sink.written c.args.output.now in
    let after = g.K.Sink.written c.write.new.self in
    let piece = subst (λ (t : List ℕ). Appends (g.K.Sink.written c.pieces.output) after (take count t))
    c.split_at.ensures.back now.takes in
    record {
      within = omega (arith, now.count);
      wrote = subst (λ (t : List ℕ). Appends before after t) (sym (take-add c.pieces.done count c.args.bytes.now))
          (Appends-trans _ _ _ _ _ so_far.wrote piece);
      faults = now.cause ∙ so_far.faults;
    }
