-- Bounds on products of levels.
use Rattle.std.proofs.Common.{ℕ, ◌*◌, ◌/◌, ◌≤◌}
use Rattle.std.proofs.Math.Nat.{mul-le-mul, div-le_of_le-mul}

-- a product of four levels, over the third power of the greatest, is at most the greatest
pub four_levels : (a b c d : ℕ) → a ≤ 65536 → b ≤ 65536 → c ≤ 65536 → d ≤ 65536
    → a * b * c * d / 281474976710656 ≤ 65536
four_levels a b c d p q r s =
    div-le_of_le-mul 281474976710656 {n = 65536} (mul-le-mul (mul-le-mul (mul-le-mul p q) r) s)
