-- Known bytes after calls that keep them, and then one that moves some.
use Rattle.std.proofs.Common.{ℕ, List, ◌++◌, Option, None, Some, take, refl, sym, ap, ◌∙◌, append-nil}
use Rattle.std.specs.Io.KnownBytes.{Appends, Consumes, Keeps}

pub keeps_all : (a : Option (List ℕ)) → Keeps a a
keeps_all None = tt
keeps_all (Some x) = refl

pub keeps_on : (a b c : Option (List ℕ)) → Keeps a b → Keeps b c → Keeps a c
keeps_on None b c p q = tt
keeps_on (Some x) None c p q = absurd p
keeps_on (Some x) (Some y) None p q = absurd q
keeps_on (Some x) (Some y) (Some z) p q = q ∙ p

pub kept_consumes : (a b c : Option (List ℕ)) (bs : List ℕ) → Keeps a b → Consumes b c bs → Consumes a c bs
kept_consumes None b c bs p q = tt
kept_consumes (Some x) None c bs p q = absurd p
kept_consumes (Some x) (Some y) None bs p q = absurd q
kept_consumes (Some x) (Some y) (Some z) bs p q = sym p ∙ q

pub kept_appends : (a b c : Option (List ℕ)) (bs : List ℕ) → Keeps a b → Appends b c bs → Appends a c bs
kept_appends None b c bs p q = tt
kept_appends (Some x) None c bs p q = absurd p
kept_appends (Some x) (Some y) None bs p q = absurd q
kept_appends (Some x) (Some y) (Some z) bs p q = q ∙ ap (λ (l : List ℕ). l ++ bs) p

-- a write of no bytes keeps what is known
pub nothing_appended : (a b : Option (List ℕ)) (piece : List ℕ) → Appends a b (take 0 piece) → Keeps a b
nothing_appended None b piece p = tt
nothing_appended (Some x) None piece p = p
nothing_appended (Some x) (Some y) piece p = p ∙ append-nil x

-- what several tries, of which the last moves some bytes, did together
pub ruleset after_tries = (keeps_all, keeps_on, kept_consumes, kept_appends, nothing_appended)
