use Rattle.std.proofs.Common.{◌≡◌, ℕ, List, [], ◌∷◌, Some, refl, sym, ap, ◌∙◌, slice_get, slice_set, zero, suc}
use Rattle.std.proofs.lemmas.Option.{same_Some}
use Rattle.service_board.proofs.initialize.put_block.Goals as goal

-- what stands there is set again
set_same : {X : Type 0} (xs : List X) (i : ℕ) (x : X) → slice_get xs i ≡ Some x → xs ≡ slice_set xs i x
set_same [] i x here = refl
set_same (y ∷ xs) zero x here = ap (λ z. z ∷ xs) (same_Some y x here)
set_same (y ∷ xs) (suc i) x here = ap (λ zs. y ∷ zs) (set_same xs i x here)

pub returns-in_default : goal.returns-in_default
returns-in_default c = λ seat here.
    set_same c.args.seats.now c.args.at seat here
    ∙ ap (λ o. slice_set c.args.seats.now c.args.at (Rattle.service_board.specs.Openings.with_scratch o seat))
    (sym c.in_default.is)
