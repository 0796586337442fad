use Rattle.std.specs.Io.KnownBytes.{Keeps}
use Rattle.ca_base.proofs.standard.write_once.Given as goal

-- no byte was written so far
abbrev pub invariant-loop : goal.invariant-loop
invariant-loop g l = Keeps (g.W.Write.contents l.initial.out) (g.W.Write.contents l.out)
