-- What refuses a registration, and its end (IMMDeviceEnumerator::RegisterEndpointNotificationCallback,
-- UnregisterEndpointNotificationCallback and the like; the order of the rows is this project's own).
use Rattle.std.specs.Prelude.{ℕ, not, nat_le, List, [], ◌∷◌}
use Rattle.ca_base.specs.declared.codes.Hr.{Hr}
use Rattle.ca_base.specs.declared.codes.TheConstants.Hr as hr
use Rattle.ca_base.specs.declared.limits.TheConstants.{MAX_COUNT}
use Rattle.ca_base.specs.Rows.{Row}
use Rattle.event_notices.specs.Kinds.{is_class}
use Rattle.event_notices.specs.Notices.{Notices, is_registered}

-- what refuses a registration of a class
abbrev pub register_rows : ℕ → Notices → List (Row Hr)
register_rows class q = (not (is_class class), hr.E_INVALIDARG) ∷ (nat_le MAX_COUNT q.made, hr.WORN) ∷ []

-- what refuses the end of the registration of a number
abbrev pub unregister_rows : ℕ → Notices → List (Row Hr)
unregister_rows number q = (not (is_registered number q), hr.E_NOTFOUND) ∷ []
