-- Kinds of notices and their classes (IMMNotificationClient, IAudioSessionNotification, IAudioSessionEvents,
-- IAudioVolumeDuckNotification, IAudioEndpointVolumeCallback, IControlChangeNotify; the numbers are this project's
-- own).
use Rattle.std.specs.Prelude.{ℕ, ◌==◌, ◌&&◌, nat_le, Bool, if◌then◌else◌}
use Rattle.event_notices.specs.declared.kinds.TheConstants.{
  CLASS_DEVICES,
  CLASS_DUCKING,
  CLASS_ENDPOINT_VOLUME,
  CLASS_PARTS,
  CLASS_SESSION,
  CLASS_SESSIONS,
  DEVICE_ADDED,
  DEVICE_PROPERTY,
  DISCONNECTED,
  DUCK,
  ENDPOINT_VOLUME,
  GROUPING,
  PART_CHANGED,
  SESSION_CREATED,
  UNDUCK,
}

-- a number is one of those from the first to the last
abbrev pub is_among : ℕ → ℕ → ℕ → Bool
is_among first last n = nat_le first n && nat_le n last

-- the class of a kind, 0 if there is no such kind
abbrev pub class_of : ℕ → ℕ
class_of kind =
    if is_among DEVICE_ADDED DEVICE_PROPERTY kind then CLASS_DEVICES
    else if kind == SESSION_CREATED then CLASS_SESSIONS
    else if is_among DISCONNECTED GROUPING kind then CLASS_SESSION
    else if is_among DUCK UNDUCK kind then CLASS_DUCKING
    else if kind == ENDPOINT_VOLUME then CLASS_ENDPOINT_VOLUME
    else if kind == PART_CHANGED then CLASS_PARTS
    else 0

-- a class that there is
abbrev pub is_class : ℕ → Bool
is_class class = is_among CLASS_DEVICES CLASS_PARTS class
