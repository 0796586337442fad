-- Steps of a volume part as levels: each halves the one before.
use Rattle.std.proofs.Common.{ℕ, ◌≡◌, ◌+◌, ◌*◌, ◌/◌, ◌^◌, ◌≤◌, ◌<◌, refl, sym, ap, ◌∙◌, arith}
use Rattle.std.proofs.Math.Nat.{div-div-eq-div-mul, one-le-pow, pow-le-pow_right, pow-suc}
use Rattle.std.proofs.lemmas.Nat.{le-div}
use Rattle.std.proofs.Math.Numerals.{add-one}
use Rattle.topology.specs.Laws.{StepsHalve}
use Rattle.topology.specs.Settings.{factor}

-- a step halves the level of the one before
halved : (step : ℕ) → factor (step + 1) ≡ factor step / 2
halved step =
    ap (λ (n : ℕ). 65536 / 2 ^ n) (add-one step)
    ∙ ap (λ (n : ℕ). 65536 / n) (pow-suc 2 step)
    ∙ sym (div-div-eq-div-mul 65536 (2 ^ step) 2)

-- the greatest step is heard
heard : (step : ℕ) → step ≤ 16 → 0 < factor step
heard step h =
    let two : 0 < 2 = omega arith in
    let above : 0 < 2 ^ step = one-le-pow step 2 two in
    let within : 1 * 2 ^ step ≤ 65536 = omega (arith, pow-le-pow_right {n = 2} two h) in
    le-div 1 65536 (2 ^ step) above within

pub steps_halve : StepsHalve
steps_halve = record { none = refl; half = halved; some = heard }
