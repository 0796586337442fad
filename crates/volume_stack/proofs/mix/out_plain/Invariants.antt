use Rattle.std.proofs.Common.{◌≡◌, ◌++◌, take, drop}
use Rattle.volume_stack.specs.Sums.{samples_of}
use Rattle.volume_stack.proofs.mix.out_plain.Given as goal

-- what is written, and what is left to be written, are the whole
abbrev pub invariant-loop-i : goal.invariant-loop-i
invariant-loop-i l = take l.i l.out ++ samples_of l.gain (drop l.i l.sums) ≡ samples_of l.gain l.sums
