use Rattle.std.proofs.Common.{◌≡◌, ◌<◌, length, false, is_ok, ◌∙◌, arith, rules}
use Rattle.std.proofs.lemmas.Bool.Decides.{nat_tests}
use Rattle.period_engine.proofs.Pieces.{taking_more, took_all, gave_up}
use Rattle.period_engine.proofs.device_write.offer.Goals as goal

pub loop-rest-preserved : goal.loop-rest-preserved
loop-rest-preserved g c =
    let taking = c.loop-rest.invariant.taking in
    let wrote = c.in_ok-count.ensures in
    record {
      taking = taking_more taking c.in_ok-count.count c.split_at.result.1.now (g.D.Devices.told c.write.new.self)
          wrote.some wrote.count c.split_at.ensures.back wrote.takes;
      faults = wrote.cause ∙ c.loop-rest.invariant.faults;
    }

pub returns-in_err-count : goal.returns-in_err-count
returns-in_err-count g c =
    let some : 0 < length c.loop-rest.rest.now = grind (arith, nat_tests) in
    let failed : is_ok c.from_residual.result ≡ false = search rules in
    let wrote = c.in_err-count.ensures in
    rw failed (gave_up c.loop-rest.invariant.taking (g.D.Devices.faults c.args.devices.now)
    (g.D.Devices.faults c.loop-rest.devices) (g.D.Devices.faults c.write.new.self) (g.D.Devices.told c.write.new.self)
    some c.loop-rest.invariant.faults wrote.cause wrote.err)

pub returns : goal.returns
returns g c =
    let none : length c.loop-rest.rest.now ≡ 0 = grind (arith, nat_tests) in
    took_all c.loop-rest.invariant.taking (g.D.Devices.faults c.args.devices.now)
    (g.D.Devices.faults c.loop-rest.devices) none c.loop-rest.invariant.faults
