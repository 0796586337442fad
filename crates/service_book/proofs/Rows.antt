-- Rows one after another: of one that doesn't hold, and of one that does.
use Rattle.std.proofs.Common.{◌≡◌, Bool, true, false, Option, Some, None, refl, sym, ap, ◌∙◌, if◌then◌else◌}
use Rattle.std.proofs.lemmas.Option.{none-some}

pub row_passes : {A : Type 0} (b : Bool) (code : A) (rest : Option A) {verdict : Option A} → b ≡ false →
    rest ≡ verdict → (if b then Some code else rest) ≡ verdict
row_passes b code rest e later = ap (λ v. if v then Some code else rest) e ∙ later

pub row_holds : {A : Type 0} (b : Bool) (code : A) (rest : Option A) → b ≡ true →
    (if b then Some code else rest) ≡ Some code
row_holds b code rest e = ap (λ v. if v then Some code else rest) e

-- if no row holds, neither does the first one, nor one of those behind it
pub row_fails : {A : Type 0} (b : Bool) (code : A) (rest : Option A) → (if b then Some code else rest) ≡ None →
    (b ≡ false) × (rest ≡ None)
row_fails true code rest e = absurd (none-some code (sym e))
row_fails false code rest e = (refl, e)
