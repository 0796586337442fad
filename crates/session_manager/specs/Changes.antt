-- What calls change of a session (ISimpleAudioVolume, IChannelAudioVolume, IAudioSessionControl).
use Rattle.std.specs.Prelude.{◌≡◌, ℕ, ◌==◌, not, nat_lt, ◌||◌, List, [], ◌∷◌, ◌++◌, Bool, false, slice_set}
use Rattle.std.specs.Prelude.{Option, Result, is_ok, if◌then◌else◌}
use Rattle.std.specs.Result.{result_err}
use Rattle.std.specs.Str.{is_utf8}
use Rattle.ca_base.specs.declared.codes.Hr.{Hr}
use Rattle.ca_base.specs.declared.codes.TheConstants.Hr as hr
use Rattle.ca_base.specs.declared.limits.TheConstants.{MAX_LEVEL}
use Rattle.ca_base.specs.Rows.{Row, first}
use Rattle.session_manager.specs.declared.changes.Change.{Change}
use Rattle.session_manager.specs.declared.changes.Change.TheVariants as change
use Rattle.session_manager.specs.declared.session.Session.{Session}
use Rattle.session_manager.specs.Rows.{found_rows, lacks_channel}
use Rattle.session_manager.specs.Sessions.{SessionList, session_at, with_changed}

-- ISimpleAudioVolume::SetMasterVolume
abbrev pub with_level : ℕ → Session → Session
with_level level s = record s { level = level }

-- ISimpleAudioVolume::SetMute
abbrev pub with_mute : Bool → Session → Session
with_mute mute s = record s { mute = mute }

-- IChannelAudioVolume::SetChannelVolume
abbrev pub with_channel : ℕ → ℕ → Session → Session
with_channel channel level s = record s { channels = slice_set s.channels channel level }

-- IAudioSessionControl::SetDisplayName
abbrev pub with_display : List ℕ → Session → Session
with_display text s = record s { display = text }

-- IAudioSessionControl::SetIconPath
abbrev pub with_icon : List ℕ → Session → Session
with_icon text s = record s { icon = text }

-- IAudioSessionControl::SetGroupingParam
abbrev pub with_grouping : ℕ → Session → Session
with_grouping guid s = record s { grouping = record { 0 = guid } }

-- a session after one of these
abbrev pub after : Change → Session → Session
after (change.Level level) s = with_level level s
after (change.Mute mute) s = with_mute (mute == 1) s
after (change.Channel channel level) s = with_channel channel level s
after (change.Display text) s = with_display text s
after (change.Icon text) s = with_icon text s
after (change.Grouping guid) s = with_grouping guid.0 s

-- its values are wrong
abbrev pub is_wrong : Change → Option Session → Bool
is_wrong (change.Level level) s = nat_lt MAX_LEVEL level
is_wrong (change.Mute mute) s = nat_lt 1 mute
is_wrong (change.Channel channel level) s = lacks_channel s channel || nat_lt MAX_LEVEL level
is_wrong (change.Display text) s = not (is_utf8 text)
is_wrong (change.Icon text) s = not (is_utf8 text)
is_wrong (change.Grouping guid) s = false

-- what refuses it
abbrev pub change_rows : Change → Option Session → List (Row Hr)
change_rows by s = found_rows s ++ (is_wrong by s, hr.E_INVALIDARG) ∷ []

-- a call that changes a session answers the first row that holds, and changes nothing then
pub record Sets (number : ℕ) (rows : Option Session → List (Row Hr)) (f : Session → Session)
    (result : Result (Unit {0}) Hr) (old new : SessionList) : Type 0 where
  pub says : result_err result ≡ first (rows (session_at number old.list))
  pub now : new ≡ (if is_ok result then with_changed number f old else old)
