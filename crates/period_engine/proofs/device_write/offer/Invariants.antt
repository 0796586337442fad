use Rattle.std.proofs.Common.{◌≡◌, length}
use Rattle.period_engine.proofs.Pieces.{Taking}
use Rattle.period_engine.proofs.device_write.offer.Given as goal

-- the device took the bytes but for the rest, and no call failed
abbrev pub invariant-loop-rest : goal.invariant-loop-rest
invariant-loop-rest g l = record {
  taking : Taking l.e.0 l.bytes l.rest (g.D.Devices.told l.initial.devices) (g.D.Devices.told l.devices);
  faults : g.D.Devices.faults l.devices ≡ g.D.Devices.faults l.initial.devices;
}

abbrev pub decreases-loop-rest : goal.decreases-loop-rest
decreases-loop-rest g l = length l.rest
