use Rattle.std.proofs.Common.{◌*◌}
use Rattle.wave_format.proofs.FieldLaws.{field_bytes-low}
use Rattle.wave_format.proofs.format.fields_of_format.Goals as goal

pub returns : goal.returns
returns c =
    let f = c.args.format.now in
    field_bytes-low c.args.tag f.channels f.rate (f.rate * (f.channels * 2)) (f.channels * 2) 16 c.args.extra
