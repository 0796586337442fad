-- Samples times gains, their sums, and the range of a sample (this project's own, but for the range: WAVEFORMATEX,
-- wBitsPerSample).
use Rattle.std.specs.Prelude.{ℕ, ℤ, pos, negsuc, ◌+ℤ◌, ◌*ℤ◌, int_div, int_lt, List, [], ◌∷◌, if◌then◌else◌}
use Rattle.ca_base.specs.declared.limits.TheConstants.{MAX_LEVEL}

-- the gain that changes nothing; levels and gains are whole numbers from 0 to this
abbrev pub unit_gain : ℕ
unit_gain = MAX_LEVEL

-- a number times a gain, toward zero
abbrev pub scaled : ℤ → ℕ → ℤ
scaled z gain = int_div (z *ℤ pos gain) (pos unit_gain)

-- the nearest number of 16 bits
abbrev pub clamp16 : ℤ → ℤ
clamp16 z = if int_lt z (negsuc 32767) then negsuc 32767 else (if int_lt (pos 32767) z then pos 32767 else z)

-- the exact sum of numbers
abbrev pub sum_of : List ℤ → ℤ
sum_of [] = pos 0
sum_of (z ∷ zs) = z +ℤ sum_of zs
