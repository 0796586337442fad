-- The numbers of registrations rise.
use Rattle.std.proofs.Common.{◌≡◌, ℕ, ◌+◌, ◌≤◌, List, [], ◌∷◌, ◌++◌, filter, Bool, true, false, if◌then◌else◌, arith}
use Rattle.event_notices.specs.declared.notice.Registration.{Registration}
use Rattle.event_notices.specs.Queue.{Rise}

pub rise_lower : (low low' last : ℕ) (rs : List Registration) → low' ≤ low → Rise low last rs → Rise low' last rs
rise_lower low low' last [] l h = omega (arith, h)
rise_lower low low' last (r ∷ rs) l h = let k = h.0 in (omega arith, h.1)

-- a new one above the last
pub rise_push : (low last : ℕ) (rs : List Registration) (r : Registration) → r.no ≡ last + 1 → Rise low last rs →
    Rise low (last + 1) (rs ++ r ∷ [])
rise_push low last [] r e h = (omega (arith, h), omega arith)
rise_push low last (x ∷ rs) r e h = (h.0, rise_push x.no last rs r e h.1)

-- those that pass a test
pub rise_filter : (test : Registration → Bool) (low last : ℕ) (rs : List Registration) → Rise low last rs →
    Rise low last (filter test rs)
rise_filter test low last [] h = h
rise_filter test low last (r ∷ rs) h = by (test r) (rise_filter test r.no last rs h.1)
  where
    by : (b : Bool) → Rise r.no last (filter test rs) →
        Rise low last (if b then r ∷ filter test rs else filter test rs)
    by true rest = (h.0, rest)
    by false rest = let k = h.0 in rise_lower r.no low last (filter test rs) (omega arith) rest
