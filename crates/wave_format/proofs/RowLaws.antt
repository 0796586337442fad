-- Of a table of refusals: the answer is none exactly if no row holds.
use Rattle.std.proofs.Common.{◌≡◌, Bool, true, false, cond, List, [], ◌∷◌, Option, Some, None, refl}
use Rattle.std.specs.List.{AllByRecursion}
use Rattle.ca_base.specs.Rows.{Row, first}

row_skipped : {A : Type 0} (b : Bool) (x : A) (rest : Option A) → b ≡ false → rest ≡ None → cond b (Some x) rest ≡ None
row_skipped true x rest b e = absurd (cc)
row_skipped false x rest b e = e

row_passes : {A : Type 0} (b : Bool) (x : A) (rest : Option A) → cond b (Some x) rest ≡ None
    → (b ≡ false) × (rest ≡ None)
row_passes true x rest e = absurd (cc)
row_passes false x rest e = (refl, e)

pub first-none : {A : Type 0} (rows : List (Row A)) → AllByRecursion (λ row. row.0 ≡ false) rows → first rows ≡ None
first-none [] h = refl
first-none (row ∷ rows) h = row_skipped row.0 row.1 (first rows) h.0 (first-none rows h.1)

pub none_holds : {A : Type 0} (rows : List (Row A)) → first rows ≡ None → AllByRecursion (λ row. row.0 ≡ false) rows
none_holds [] e = tt
none_holds (row ∷ rows) e =
    let passes = row_passes row.0 row.1 (first rows) e in
    (passes.0, none_holds rows passes.1)
