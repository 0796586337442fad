-- What holds of the notices of steps (this project's own). Public contracts cite it.
use Rattle.std.specs.Prelude.{◌≡◌, nat_eq, [], map}
use Rattle.std.specs.List.{IsDistinct}
use Rattle.step_notices.specs.Notes.{Notes}
use Rattle.step_notices.specs.Changes.{device_notices, session_notices}

-- nothing is told of devices if nothing changes, and no endpoint is noted twice
abbrev pub SameDevicesAreQuiet : Type 0
SameDevicesAreQuiet =
    (a : Notes) → IsDistinct nat_eq (map (λ e. e.no.0) a.endpoints) → device_notices a a ≡ []

-- nothing is told of sessions if nothing changes, and no client is noted twice
abbrev pub SameSessionsAreQuiet : Type 0
SameSessionsAreQuiet =
    (a : Notes) → IsDistinct nat_eq (map (λ s. s.client.0) a.streams) → session_notices a a ≡ []
