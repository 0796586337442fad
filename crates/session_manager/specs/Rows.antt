-- What refuses a stream that would join, and calls on a session (ISimpleAudioVolume, IChannelAudioVolume,
-- IAudioSessionControl; the order of the rows is this project's own).
use Rattle.std.specs.Prelude.{ℕ, ◌&&◌, nat_le, List, [], ◌∷◌, length, Bool, false}
use Rattle.std.specs.Prelude.{Option, is_none}
use Rattle.std.specs.Option.{option_map_or}
use Rattle.ca_base.specs.declared.codes.Hr.{Hr}
use Rattle.ca_base.specs.declared.codes.TheConstants.Hr as hr
use Rattle.ca_base.specs.declared.limits.TheConstants.{MAX_COUNT, SESSIONS}
use Rattle.ca_base.specs.Rows.{Row}
use Rattle.session_manager.specs.declared.session.Session.{Session}
use Rattle.session_manager.specs.declared.session.SessionKey.{SessionKey}
use Rattle.session_manager.specs.Sessions.{SessionList, session_for}

-- a stream would make a session
abbrev pub is_new : SessionKey → SessionList → Bool
is_new key book = is_none (session_for key book.list)

abbrev pub join_rows : SessionKey → SessionList → List (Row Hr)
join_rows key book =
    (is_new key book && nat_le SESSIONS (length book.list), hr.SESSIONS_FULL)
    ∷ (is_new key book && nat_le MAX_COUNT book.made, hr.WORN)
    ∷ []

-- the session that a call names isn't there
abbrev pub found_rows : Option Session → List (Row Hr)
found_rows s = (is_none s, hr.E_NOTFOUND) ∷ []

-- a session doesn't have this channel
abbrev pub lacks_channel : Option Session → ℕ → Bool
lacks_channel s channel = option_map_or (λ s. nat_le s.count channel) s false
