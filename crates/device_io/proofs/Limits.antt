-- A write that is limited takes something, and no more than it was offered.
use Rattle.std.proofs.Common.{ℕ, ◌<◌, ◌≤◌, List, [], ◌∷◌, arith}
use Rattle.std.proofs.lemmas.Bool.Decides.{nat_tests}
use Rattle.device_io.specs.Memory.{limited}

pub limited_within : (failing : List (ℕ × ℕ)) (number most : ℕ) → limited failing number most ≤ most
limited_within [] number most = omega arith
limited_within (f ∷ fs) number most = grind (arith, nat_tests, limited_within fs number)

pub limited_some : (failing : List (ℕ × ℕ)) (number most : ℕ) → 0 < most → 0 < limited failing number most
limited_some [] number most h = h
limited_some (f ∷ fs) number most h = grind (arith, nat_tests, limited_some fs number)
