use Rattle.std.proofs.Common.{arith, sym}
use Rattle.std.proofs.lemmas.Grind.{common_steps}
use Rattle.step_notices.proofs.Places.{place_passed, place_told}
use Rattle.step_notices.proofs.devices.put_defaults.Goals as goal
use Rattle.step_notices.proofs.devices.put_defaults.Goals.{then-is_another_default, else-is_another_default}

pub places-preserved : goal.places-preserved
places-preserved c =
    elim c.if-is_another_default.branch [
      | then-is_another_default w ↦
          let told =
          place_told c.args.before.now c.args.after.now c.places.place c.places-test.true
          (sym w.if-is_another_default.ensures) in
          grind (arith, common_steps, told)
      | else-is_another_default w ↦
          let passed =
          place_passed c.args.before.now c.args.after.now c.places.place c.places-test.true
          (sym w.if-is_another_default.ensures) in
          grind (arith, common_steps, passed)
    ]
