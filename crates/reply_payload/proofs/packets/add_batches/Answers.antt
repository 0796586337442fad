use Rattle.std.proofs.Common.{◌≡◌, ℕ, ◌+◌, ◌*◌, length, length-append, ap, arith, ◌∙◌}
use Rattle.std.proofs.lemmas.Grind.{common_steps}
use Rattle.reply_payload.proofs.packets.add_batches.Goals as goal

-- the bytes of a batch more, and of the words that are left
batch_more : (size out new front after rest all : ℕ) → rest ≡ front + after → new ≡ out + front * size
    → out + rest * size ≡ all → new + after * size ≡ all
batch_more size out new front after rest all split grown so_far = grind (arith, split, grown, so_far)

pub loop-rest-preserved : goal.loop-rest-preserved
loop-rest-preserved g c = record {
  list = grind (arith, common_steps);
  length = batch_more g.row.N (length c.loop-rest.out.list) (length c.append_reserved.new.self.list)
      (length c.split_at.result.0.now) (length c.split_at.result.1.now) (length c.loop-rest.rest.now) _
      (omega arith)
      (ap length c.append_reserved.ensures.list ∙ length-append c.loop-rest.out.list c.write_frames.new.bytes
      ∙ ap (λ (n : ℕ). length c.loop-rest.out.list + n) c.write_frames.ensures.length)
      c.loop-rest.invariant.length;
  keeps = omega arith;
}
