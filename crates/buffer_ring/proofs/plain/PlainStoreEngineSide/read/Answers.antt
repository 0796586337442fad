use Rattle.std.proofs.Common.{◌≡◌, ◌++◌, length, take, drop, ap, ◌∙◌}
use Rattle.buffer_ring.proofs.Reading.{reads_taken}
use Rattle.buffer_ring.proofs.plain.PlainStoreEngineSide.read.Goals as goal

pub returns-clause-reads : goal.returns-clause-reads
returns-clause-reads c =
    let whole : c.as_slices.result.0.now ++ c.as_slices.result.1.now ≡ c.args.self.now.words =
    c.as_slices.ensures ∙ ap (λ s. s.words) c.self.view_is in
    reads_taken c.args.self.now c.args.i (length c.args.words.now) c.copy_from.new.words
    (c.copy_from.ensures ∙ ap (λ l. take (length c.args.words.now) (drop c.args.i l)) whole)
