use Rattle.std.proofs.Common.{◌≡◌, ◌++◌, take, drop, ℕ, ◌+◌}
use Rattle.volume_stack.specs.Sums.{sample_limit, sums_with, AreWithin}
use Rattle.volume_stack.proofs.mix.add_plain.Given as goal

-- the sums that are done, and those that are left with their samples, are the whole
abbrev pub invariant-loop-i : goal.invariant-loop-i
invariant-loop-i l = record {
  done : take l.i l.sums ++ sums_with l.gain (drop l.i l.samples) (drop l.i l.sums)
      ≡ sums_with l.gain l.samples l.fn.sums;
  rest : drop l.i l.sums ≡ drop l.i l.fn.sums;
  near : (bound : ℕ) → AreWithin bound l.fn.sums → AreWithin (bound + sample_limit) l.sums;
}
