use Rattle.std.proofs.Common.{◌≡◌, ◌-◌, ◌≤◌, length, take}
use Rattle.period_engine.proofs.Reading.{Giving}
use Rattle.period_engine.proofs.device_read.read_bytes.Given as goal

-- the device gave the bytes so far, and no call failed
abbrev pub invariant-loop-place : goal.invariant-loop-place
invariant-loop-place g l = record {
  giving : Giving l.e.0 (length l.initial.bytes) (take l.place l.bytes) (g.D.Devices.told l.initial.devices)
      (g.D.Devices.told l.devices);
  within : l.place ≤ length l.bytes;
  size : length l.bytes ≡ length l.initial.bytes;
  faults : g.D.Devices.faults l.devices ≡ g.D.Devices.faults l.initial.devices;
}

abbrev pub decreases-loop-place : goal.decreases-loop-place
decreases-loop-place g l = length l.bytes - l.place
