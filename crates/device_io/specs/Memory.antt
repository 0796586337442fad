-- Devices in memory, whose failing calls are chosen by number. This project's own.
use Rattle.std.specs.Prelude.{ℕ, ◌-◌, ◌==◌, ◌&&◌, not, min, if◌then◌else◌, Bool, List, [], length, map}
use Rattle.std.specs.List.{list_any, filter, fold}
use Rattle.ca_base.specs.Memory.{raised}
use Rattle.device_io.specs.DeviceLog.{DeviceLog, written_at, add_written, take_left}

-- the logs of the devices, how many bytes each endpoint takes in all, how many calls were made, the calls that fail or
-- are cut short, and how many calls failed
pub record DevicesState : Type 0 where
  pub logs : List DeviceLog
  pub capacity : ℕ
  pub calls : ℕ
  pub failing : List (ℕ × ℕ)
  pub faults : ℕ

-- the log of an endpoint to which nothing was written
abbrev pub new_log : ℕ → List ℕ → DeviceLog
new_log e left = record { endpoint = e; written = []; left = left }

-- devices to which no call was made
abbrev pub new_devices : List DeviceLog → ℕ → List (ℕ × ℕ) → DevicesState
new_devices logs capacity failing =
    record { logs = logs; capacity = capacity; calls = 0; failing = failing; faults = 0 }

-- whether an endpoint has a log
abbrev pub has_log : ℕ → List DeviceLog → Bool
has_log e logs = list_any (λ log. e == log.endpoint) logs

-- how many bytes an endpoint still takes: none if it has no log
abbrev pub room_at : ℕ → ℕ → List DeviceLog → ℕ
room_at e capacity logs = if has_log e logs then capacity - length (written_at e logs) else 0

-- whether a call fails by its number: an entry (n, 0) names call n, an entry (n, k) with another k the call after n
abbrev pub fails_by_number : List (ℕ × ℕ) → ℕ → Bool
fails_by_number failing number = list_any (λ f. if f.1 == 0 then f.0 == number else f.0 == number - 1) failing

-- the k of the entries (n, k) of a call n, but for 0: a write takes at most k bytes
abbrev pub limits : List (ℕ × ℕ) → ℕ → List ℕ
limits failing number = map (λ f. f.1) (filter (λ f. f.0 == number && not (f.1 == 0)) failing)

-- the smallest of the limits of a call and of `most`
abbrev pub limited : List (ℕ × ℕ) → ℕ → ℕ → ℕ
limited failing number most = fold min most (limits failing number)

-- whether the next call fails by its number
abbrev pub is_failing : DevicesState → Bool
is_failing s = fails_by_number s.failing (raised s.calls)

-- how many of `offered` bytes the next call takes for an endpoint, if it is a write that doesn't fail by its number
abbrev pub taken_count : ℕ → ℕ → DevicesState → ℕ
taken_count e offered s = min (limited s.failing (raised s.calls) offered) (room_at e s.capacity s.logs)

-- the devices after a write of these bytes to an endpoint
abbrev pub devices_took : ℕ → List ℕ → DevicesState → DevicesState
devices_took e front s = record s { logs = add_written e front s.logs; calls = raised s.calls }

-- the devices after a read of n bytes from an endpoint
abbrev pub devices_gave : ℕ → ℕ → DevicesState → DevicesState
devices_gave e n s = record s { logs = take_left e n s.logs; calls = raised s.calls }

-- the devices after a call that failed
abbrev pub devices_failed : DevicesState → DevicesState
devices_failed s = record s { calls = raised s.calls; faults = raised s.faults }
