-- Worked claims: what a client gets beside the streams of others.
use Rattle.std.proofs.Common.{◌≡◌, [], ◌∷◌, true, false, Some, None, refl}
use Rattle.ca_base.specs.declared.codes.TheConstants.Hr as hr
use Rattle.ca_base.specs.Rows.{first}
use Rattle.exclusive_mode.specs.declared.claims.Claim.TheVariants as gets
use Rattle.exclusive_mode.specs.declared.claims.Held.{Held}
use Rattle.exclusive_mode.specs.Claims.{claim, claim_rows}

-- a shared stream of client 1, and an exclusive one of client 2
abbrev shared : Held
shared = record { client = record { 0 = 1 }; exclusive = false }

abbrev alone : Held
alone = record { client = record { 0 = 2 }; exclusive = true }

none_there : claim true [] false ≡ gets.Granted
none_there = refl

shared_beside_shared : claim false (shared ∷ shared ∷ []) true ≡ gets.Granted
shared_beside_shared = refl

shared_beside_exclusive : claim false (alone ∷ []) true ≡ gets.Refused hr.DEVICE_IN_USE
shared_beside_exclusive = refl

takes_shared_over : claim true (shared ∷ shared ∷ []) true ≡ gets.TakeOver
takes_shared_over = refl

without_priority : claim true (shared ∷ []) false ≡ gets.Refused hr.DEVICE_IN_USE
without_priority = refl

takes_no_exclusive_over : claim true (shared ∷ alone ∷ []) true ≡ gets.Refused hr.DEVICE_IN_USE
takes_no_exclusive_over = refl

refused_row : first (claim_rows (claim true (alone ∷ []) true)) ≡ Some hr.DEVICE_IN_USE
refused_row = refl

no_row : first (claim_rows gets.TakeOver) ≡ None
no_row = refl
