-- What registers, and what ends it (this project's own).
use Rattle.std.specs.Prelude.{◌≡◌, ℕ, ◌+◌, Some, None, Result, Ok, Err}
use Rattle.ca_base.specs.declared.codes.Hr.{Hr}
use Rattle.ca_base.specs.Rows.{first}
use Rattle.event_notices.specs.declared.notice.NoticeFault.{NoticeFault}
use Rattle.event_notices.specs.declared.notice.NoticeFault.TheVariants as fault
use Rattle.event_notices.specs.Notices.{Notices, registered, unregistered}
use Rattle.event_notices.specs.Rows.{register_rows, unregister_rows}

-- the first row that holds refuses it, and nothing is changed; if no row holds, it is registered with the next number,
-- or memory ran out, and nothing is changed
abbrev pub Registers : ℕ → ℕ → Result ℕ NoticeFault → Notices → Notices → Type 0
Registers class subject (Ok number) old new =
    (first (register_rows class old) ≡ None) × (number ≡ old.made + 1) × (new ≡ registered class subject old)
Registers class subject (Err (fault.Refused code)) old new =
    (first (register_rows class old) ≡ Some code) × (new ≡ old)
Registers class subject (Err fault.NoMemory) old new = (first (register_rows class old) ≡ None) × (new ≡ old)

-- the first row that holds refuses it, and nothing is changed; if no row holds, the registration is gone
abbrev pub Unregisters : ℕ → Result (Unit {0}) Hr → Notices → Notices → Type 0
Unregisters number (Ok done) old new =
    (first (unregister_rows number old) ≡ None) × (new ≡ unregistered number old)
Unregisters number (Err code) old new = (first (unregister_rows number old) ≡ Some code) × (new ≡ old)
