-- What a client that asks for a stream gets, over the open streams of the endpoint and whether the endpoint gives
-- exclusive ones priority (AUDCLNT_SHAREMODE, AUDCLNT_E_DEVICE_IN_USE, DisconnectReasonExclusiveModeOverride).
use Rattle.std.specs.Prelude.{List, [], ◌∷◌, length, ◌==◌, ◌&&◌, ◌||◌, not, Bool, true, false, if◌then◌else◌}
use Rattle.std.specs.List.{list_any}
use Rattle.ca_base.specs.declared.codes.Hr.{Hr}
use Rattle.ca_base.specs.declared.codes.TheConstants.Hr as hr
use Rattle.ca_base.specs.Rows.{Row}
use Rattle.exclusive_mode.specs.declared.claims.Claim.{Claim}
use Rattle.exclusive_mode.specs.declared.claims.Claim.TheVariants as gets
use Rattle.exclusive_mode.specs.declared.claims.Held.{Held}

-- one of these streams is exclusive
abbrev pub has_exclusive : List Held → Bool
has_exclusive held = list_any (λ stream. stream.exclusive) held

-- there are streams
abbrev pub has_streams : List Held → Bool
has_streams held = not (length held == 0)

-- the endpoint is in use: a stream is exclusive, or an exclusive one is asked for where others are and it has no
-- priority (AUDCLNT_E_DEVICE_IN_USE)
abbrev pub is_in_use : Bool → List Held → Bool → Bool
is_in_use exclusive held priority = has_exclusive held || exclusive && has_streams held && not priority

-- an exclusive stream takes the endpoint over: it has priority, and there are others, which are shared
abbrev pub takes_over : Bool → List Held → Bool → Bool
takes_over exclusive held priority = exclusive && priority && has_streams held && not (has_exclusive held)

-- what a client gets that asks for an exclusive or a shared stream
abbrev pub claim : Bool → List Held → Bool → Claim
claim exclusive held priority =
    if is_in_use exclusive held priority then gets.Refused hr.DEVICE_IN_USE
    else if takes_over exclusive held priority then gets.TakeOver
    else gets.Granted

-- it gets no stream
abbrev pub is_refused : Claim → Bool
is_refused (gets.Refused code) = true
is_refused _ = false

-- the streams that are there are disconnected first
abbrev pub is_takeover : Claim → Bool
is_takeover gets.TakeOver = true
is_takeover _ = false

-- the row of a call that asks for a stream: the endpoint is in use
abbrev pub claim_rows : Claim → List (Row Hr)
claim_rows claimed = (is_refused claimed, hr.DEVICE_IN_USE) ∷ []
