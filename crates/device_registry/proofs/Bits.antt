-- The bit of a state in a mask.
use Rattle.std.proofs.Common.{◌≡◌, ℕ, zero, suc, ◌*◌, ◌/◌, ◌%◌, nat_eq, Bool, true, false, not, ◌||◌, bit_and}
use Rattle.std.proofs.Common.{refl, sym, ap, ◌∙◌, subst, arith, eqb-true, ne_eqb}
use Rattle.std.proofs.lemmas.Nat.Bits.{and_pow}
use Rattle.device_registry.specs.Endpoints.{has_bit, is_state}

same_zero : (a b : ℕ) → (a ≡ 0 → b ≡ 0) → (b ≡ 0 → a ≡ 0) → nat_eq a 0 ≡ nat_eq b 0
same_zero zero zero f g = refl
same_zero zero (suc b) f g = let e = f refl in absurd (omega (arith, e))
same_zero (suc a) zero f g = let e = g refl in absurd (omega (arith, e))
same_zero (suc a) (suc b) f g =
    ne_eqb (suc a) 0 (λ h. omega (arith, h)) ∙ sym (ne_eqb (suc b) 0 (λ h. omega (arith, h)))

abbrev TestsBit : ℕ → ℕ → Type 0
TestsBit mask state = not (nat_eq (bit_and mask state) 0) ≡ has_bit mask state

active : (mask : ℕ) → TestsBit mask 1
active mask =
    let e : bit_and mask 1 ≡ mask / 1 % 2 * 1 = and_pow mask 0 in
    ap not (same_zero (bit_and mask 1) (mask / 1 % 2) (λ z. omega (arith, e, z)) (λ z. omega (arith, e, z)))

disabled : (mask : ℕ) → TestsBit mask 2
disabled mask =
    let e : bit_and mask 2 ≡ mask / 2 % 2 * 2 = and_pow mask 1 in
    ap not (same_zero (bit_and mask 2) (mask / 2 % 2) (λ z. omega (arith, e, z)) (λ z. omega (arith, e, z)))

notpresent : (mask : ℕ) → TestsBit mask 4
notpresent mask =
    let e : bit_and mask 4 ≡ mask / 4 % 2 * 4 = and_pow mask 2 in
    ap not (same_zero (bit_and mask 4) (mask / 4 % 2) (λ z. omega (arith, e, z)) (λ z. omega (arith, e, z)))

unplugged : (mask : ℕ) → TestsBit mask 8
unplugged mask =
    let e : bit_and mask 8 ≡ mask / 8 % 2 * 8 = and_pow mask 3 in
    ap not (same_zero (bit_and mask 8) (mask / 8 % 2) (λ z. omega (arith, e, z)) (λ z. omega (arith, e, z)))

pub tests_bit : (mask state : ℕ) → is_state state ≡ true → TestsBit mask state
tests_bit mask state h =
    by (nat_eq state 1) (nat_eq state 2) (nat_eq state 4) (nat_eq state 8) refl refl refl refl h
  where
    by : (a b c d : Bool) → nat_eq state 1 ≡ a → nat_eq state 2 ≡ b → nat_eq state 4 ≡ c → nat_eq state 8 ≡ d →
        (a || (b || (c || d))) ≡ true → TestsBit mask state
    by true b c d p q r s h = subst (TestsBit mask) (sym (eqb-true state 1 p)) (active mask)
    by false true c d p q r s h = subst (TestsBit mask) (sym (eqb-true state 2 q)) (disabled mask)
    by false false true d p q r s h = subst (TestsBit mask) (sym (eqb-true state 4 r)) (notpresent mask)
    by false false false true p q r s h = subst (TestsBit mask) (sym (eqb-true state 8 s)) (unplugged mask)
    by false false false false p q r s h = absurd cc
