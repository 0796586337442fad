-- What is told of the defaults from a place on.
use Rattle.std.proofs.Common.{◌≡◌, ℕ, ◌+◌, ◌-◌, ◌<◌, List, ◌∷◌, map, filter, slice_index, true, false, arith, refl, suc}
use Rattle.std.specs.List.{range_with_len}
use Rattle.event_notices.specs.declared.kinds.TheConstants as kinds
use Rattle.event_notices.specs.declared.notice.Notice.{Notice}
use Rattle.step_notices.specs.declared.records.TheConstants.{DEFAULTS}
use Rattle.step_notices.specs.Notes.{Notes}
use Rattle.step_notices.specs.Changes.{is_another_default, note}

abbrev pub from_place : Notes → Notes → ℕ → List Notice
from_place a b first =
    map (λ place. note kinds.DEFAULT_CHANGED place (slice_index b.defaults place))
    (filter (is_another_default a b) (range_with_len first (DEFAULTS - first)))

-- a place whose default is another one is told, before those behind it
pub place_told : (a b : Notes) (place : ℕ) → place < DEFAULTS → is_another_default a b place ≡ true →
    from_place a b place
    ≡ note kinds.DEFAULT_CHANGED place (slice_index b.defaults place) ∷ from_place a b (place + 1)
place_told a b place h e =
    let left : DEFAULTS - place ≡ suc (DEFAULTS - (place + 1)) = omega arith in
    rw (left, e) refl

-- another place isn't
pub place_passed : (a b : Notes) (place : ℕ) → place < DEFAULTS → is_another_default a b place ≡ false →
    from_place a b place ≡ from_place a b (place + 1)
place_passed a b place h e =
    let left : DEFAULTS - place ≡ suc (DEFAULTS - (place + 1)) = omega arith in
    rw (left, e) refl
