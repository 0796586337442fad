-- What holds of claims (this project's own, over AUDCLNT_SHAREMODE). Public contracts cite it.
use Rattle.std.specs.Prelude.{◌≡◌, List, [], Bool, true, false}
use Rattle.ca_base.specs.declared.codes.Hr.{Hr}
use Rattle.ca_base.specs.declared.codes.TheConstants.Hr as hr
use Rattle.exclusive_mode.specs.declared.claims.Claim.{Claim}
use Rattle.exclusive_mode.specs.declared.claims.Claim.TheVariants as gets
use Rattle.exclusive_mode.specs.declared.claims.Held.{Held}
use Rattle.exclusive_mode.specs.Claims.{claim, has_exclusive, is_in_use, is_refused, is_takeover, takes_over}

-- an endpoint without streams is for whoever asks
abbrev pub UnusedIsGranted : Type 0
UnusedIsGranted = (exclusive priority : Bool) → claim exclusive [] priority ≡ gets.Granted

-- beside an exclusive stream there is no other
abbrev pub ExclusiveIsAlone : Type 0
ExclusiveIsAlone =
    (exclusive : Bool) (held : List Held) (priority : Bool) → has_exclusive held ≡ true →
    claim exclusive held priority ≡ gets.Refused hr.DEVICE_IN_USE

-- one that asks for a shared stream takes nothing over
abbrev pub SharedTakesNothing : Type 0
SharedTakesNothing =
    (held : List Held) (priority : Bool) → is_takeover (claim false held priority) ≡ false

-- one that is refused takes nothing over
abbrev pub RefusedTakesNothing : Type 0
RefusedTakesNothing = (claimed : Claim) → is_refused claimed ≡ true → is_takeover claimed ≡ false

-- a claim is refused exactly where the endpoint is in use, and takes over exactly where that is said
abbrev pub ToldApart : Type 0
ToldApart =
    (exclusive : Bool) (held : List Held) (priority : Bool) →
    (is_refused (claim exclusive held priority) ≡ is_in_use exclusive held priority)
    × (is_takeover (claim exclusive held priority) ≡ takes_over exclusive held priority)

-- a claim is refused with one code
abbrev pub OneCode : Type 0
OneCode =
    (exclusive : Bool) (held : List Held) (priority : Bool) (code : Hr) →
    claim exclusive held priority ≡ gets.Refused code → code ≡ hr.DEVICE_IN_USE
