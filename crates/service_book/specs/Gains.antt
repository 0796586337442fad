-- The gains of a stream (this project's own).
use Rattle.std.specs.Prelude.{ℕ, List, [], ◌∷◌, Bool, if◌then◌else◌}
use Rattle.volume_stack.specs.Scaling.{unit_gain}
use Rattle.std.specs.Prelude.{Option}
use Rattle.session_manager.specs.declared.session.Session.{Session}
use Rattle.ca_machine.specs.Periods.{gain_in}

-- the gains of a stream's four channels, by its levels and its session
abbrev pub gains_by : List ℕ → Option Session → List ℕ
gains_by levels session =
    gain_in levels session 0 ∷ gain_in levels session 1 ∷ gain_in levels session 2 ∷ gain_in levels session 3 ∷ []

-- or those of an exclusive stream, which sounds as it is
abbrev pub gains_if : Bool → List ℕ → Option Session → List ℕ
gains_if exclusive levels session =
    if exclusive then unit_gain ∷ unit_gain ∷ unit_gain ∷ unit_gain ∷ [] else gains_by levels session
