-- Steps of reading that found something.
use Rattle.std.proofs.Common.{◌≡◌, ℕ, Bool, true, false, cond, eqb, ltb, ◌||◌, List, [], ◌∷◌, Option, Some, None, refl}
use Rattle.std.proofs.Common.{ap, subst}
use Rattle.ca_base.specs.declared.limits.TheConstants.{CONNECTIONS}
use Rattle.call_wire.specs.Reading.{◌>>=◌, byte_at, connection_at}

-- the value of a step
pub bind_some : {A B : Type 0} (r : Option A) (f : A → Option B) (y : B) → (r >>= f) ≡ Some y
    → (x : A) × (r ≡ Some x) × (f x ≡ Some y)
bind_some (Some x) f y e = (x, refl, e)
bind_some None f y e = absurd cc

-- a test that did not fail
pub guard_some : {A : Type 0} (b : Bool) (r : Option A) (y : A) → cond b None r ≡ Some y
    → (b ≡ false) × (r ≡ Some y)
guard_some true r y e = absurd cc
guard_some false r y e = (refl, e)

pub some_is : {A : Type 0} (x y : A) → Some x ≡ Some y → x ≡ y
some_is x y e = cc

-- a byte that is read is the first
pub byte_is : (bs : List ℕ) (x : ℕ × List ℕ) → byte_at bs ≡ Some x → bs ≡ x.0 ∷ x.1
unfolding byte_at
byte_is [] x e = absurd cc
byte_is (n ∷ bs) x e = ap (λ (y : ℕ × List ℕ). y.0 ∷ y.1) (some_is (n, bs) x e)

-- so is a connection's number, if it is within its limits
pub connection_byte : (bs : List ℕ) (x : ℕ × List ℕ) → connection_at bs ≡ Some x
    → (byte_at bs ≡ Some x) × ((eqb x.0 0 || ltb CONNECTIONS x.0) ≡ false)
unfolding connection_at
connection_byte bs x e =
    let a = bind_some (byte_at bs) (λ n. cond (eqb n.0 0 || ltb CONNECTIONS n.0) None (Some n)) x e in
    let g = guard_some (eqb a.0.0 0 || ltb CONNECTIONS a.0.0) (Some a.0) x a.2 in
    let Within : ℕ → Type 0 = λ n. (eqb n 0 || ltb CONNECTIONS n) ≡ false in
    subst (λ (y : ℕ × List ℕ). (byte_at bs ≡ Some y) × Within y.0) (some_is a.0 x g.1) (a.1, g.0)
