use Rattle.std.proofs.Common.{◌≡◌, ◌+◌, ◌++◌, length, take, false, is_ok, sym, subst, ◌∙◌, arith, rules}
use Rattle.std.proofs.Common.{length-append}
use Rattle.period_engine.proofs.Reading.{Giving, read_all, read_failed, read_more, read_none}
use Rattle.period_engine.proofs.device_read.read_bytes.Goals as goal

pub loop-place-preserved : goal.loop-place-preserved
loop-place-preserved g c =
    let so_far = c.loop-place.invariant in
    let gave = c.in_ok-count.ensures in
    let front = c.split_at_mut-rest.result.0.now in
    let told = g.D.Devices.told in
    let place : length front ≡ c.loop-place.place = c.split_at_mut-rest.ensures.front_len in
    let size : c.loop-place.place + length c.read.new.buf ≡ length c.args.bytes.now = omega arith in
    let all : length (front ++ c.read.new.buf) ≡ length c.args.bytes.now =
    length-append front c.read.new.buf ∙ omega arith in
    let giving : Giving c.args.e.0 (length c.args.bytes.now) front (told c.args.devices.now)
    (told c.loop-place.devices) =
    rw c.split_at_mut-rest.ensures.front so_far.giving in
    record {
      giving = read_more giving place c.read.new.buf size c.in_ok-count.count (told c.read.new.self) (omega arith)
          gave.count gave.front gave.end gave.gives;
      within = omega (arith, all, gave.count);
      size = all;
      faults = gave.cause ∙ so_far.faults;
    }

pub returns-in_err-count : goal.returns-in_err-count
returns-in_err-count g c =
    let so_far = c.loop-place.invariant in
    let front = c.split_at_mut-rest.result.0.now in
    let told = g.D.Devices.told in
    let faults = g.D.Devices.faults in
    let failed : is_ok c.from_residual.result ≡ false = search rules in
    let place : length front ≡ c.loop-place.place = c.split_at_mut-rest.ensures.front_len in
    let size : c.loop-place.place + length c.read.new.buf ≡ length c.args.bytes.now = omega arith in
    let giving : Giving c.args.e.0 (length c.args.bytes.now) front (told c.args.devices.now)
    (told c.loop-place.devices) =
    rw c.split_at_mut-rest.ensures.front so_far.giving in
    read_failed giving place c.read.new.buf size c.from_residual.result (faults c.args.devices.now)
    (faults c.loop-place.devices) (faults c.read.new.self) (told c.read.new.self) failed (omega arith) so_far.faults
    c.in_err-count.ensures.cause c.in_err-count.ensures.err

pub returns-after-loop-place : goal.returns-after-loop-place
returns-after-loop-place g c =
    let so_far = c.loop-place.invariant in
    let giving = subst
    (λ n. Giving c.args.e.0 n (take c.loop-place.place c.loop-place.bytes) (g.D.Devices.told c.args.devices.now)
    (g.D.Devices.told c.loop-place.devices)) (sym so_far.size) so_far.giving in
    read_all giving (g.D.Devices.faults c.args.devices.now) (g.D.Devices.faults c.loop-place.devices) so_far.within
    c.loop-place-test.false so_far.faults

pub returns-then-count-eq0 : goal.returns-then-count-eq0
returns-then-count-eq0 g c =
    let so_far = c.loop-place.invariant in
    let gave = c.in_ok-count.ensures in
    let front = c.split_at_mut-rest.result.0.now in
    let told = g.D.Devices.told in
    let faults = g.D.Devices.faults in
    let place : length front ≡ c.loop-place.place = c.split_at_mut-rest.ensures.front_len in
    let size : c.loop-place.place + length c.read.new.buf ≡ length c.args.bytes.now = omega arith in
    let giving : Giving c.args.e.0 (length c.args.bytes.now) front (told c.args.devices.now)
    (told c.loop-place.devices) =
    rw c.split_at_mut-rest.ensures.front so_far.giving in
    read_none giving place c.read.new.buf size (faults c.args.devices.now) (faults c.read.new.self)
    (told c.read.new.self) c.in_ok-count.count c.if-count-eq0.true (omega arith) gave.front gave.end gave.gives
    (gave.cause ∙ so_far.faults)
