-- What samples add to sums, and what sums give as samples (this project's own).
use Rattle.std.specs.Prelude.{ℕ, ◌^◌, ℤ, ◌+ℤ◌, ◌≤◌, List, map, unsigned_abs, All}
use Rattle.std.specs.List.{zip}
use Rattle.volume_stack.specs.Scaling.{scaled, clamp16}

-- how far from 0 a sum may be, so that its product with a gain fits 64 bits (this project's own)
abbrev pub sum_limit : ℕ
sum_limit = 2 ^ 40

-- how far from 0 a sample may be (WAVEFORMATEX, wBitsPerSample)
abbrev pub sample_limit : ℕ
sample_limit = 2 ^ 15

-- each sum is so near to 0
abbrev pub AreWithin : ℕ → List ℤ → Type 0
AreWithin bound sums = All (λ sum. unsigned_abs sum ≤ bound) sums

-- the sums after a stream's samples were added, each times the stream's gain
abbrev pub sums_with : ℕ → List ℤ → List ℤ → List ℤ
sums_with gain samples sums = map (λ p. p.0 +ℤ scaled p.1 gain) (zip sums samples)

-- the samples that an endpoint is given: each sum times the endpoint's gain, in the range of a sample
abbrev pub samples_of : ℕ → List ℤ → List ℤ
samples_of gain sums = map (λ sum. clamp16 (scaled sum gain)) sums
