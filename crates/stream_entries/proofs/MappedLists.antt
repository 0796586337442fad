-- A list that a loop went through, in which each became what a function makes of it.
use Rattle.std.proofs.Common.{◌≡◌, ℕ, ◌≤◌, List, [], ◌∷◌, length, map, refl, ap₂}
use Rattle.std.specs.List.{AllZip}
use Rattle.period_engine.proofs.Passes.{Alone, Passed, all_passed, all_zip}

-- a list in which each is what f makes of the one at its place
pub mapped_zip : {X : Type 0} (f : X → X) (xs ys : List X) → AllZip (λ a b. b ≡ f a) xs ys → ys ≡ map f xs
mapped_zip f [] [] h = refl
mapped_zip {X} f (x ∷ xs) (y ∷ ys) h = ap₂ (λ (z : X) (zs : List X). z ∷ zs) h.0 (mapped_zip f xs ys h.1)
mapped_zip f [] (y ∷ ys) h = absurd h
mapped_zip f (x ∷ xs) [] h = absurd h

-- the same of a loop that went through all
pub mapped : {X : Type 0} (f : X → X) (xs ys : List X) (i : ℕ) → Passed (Alone (λ a b. b ≡ f a)) xs ys i 0 0 →
    length xs ≤ i → length ys ≡ length xs → ys ≡ map f xs
mapped f xs ys i so_far ends same =
    mapped_zip f xs ys
    (all_zip (λ a b. b ≡ f a) (λ a b. b ≡ f a) (λ a b h. h) xs ys 0 0 (all_passed so_far ends same))
