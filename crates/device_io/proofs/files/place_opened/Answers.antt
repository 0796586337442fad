use Rattle.std.proofs.Common.{ap}
use Rattle.device_io.specs.declared.kept.KeptFile.{KeptFile}
use Rattle.device_io.proofs.OpenFiles.{opens_new}
use Rattle.device_io.proofs.files.place_opened.Goals as goal

pub returns-in_ok-kept-in-None-clause-opens : goal.returns-in_ok-kept-in-None-clause-opens
returns-in_ok-kept-in-None-clause-opens g c =
    let kept = c.in_ok-kept-in-None.kept in
    opens_new c.args.e.0 c.args.files.now.items c.keep_open.new.files.items kept c.keep_open.result
    (rw c.deref.ensures.value at c.in-None.ensures)
    (ap (λ (k : KeptFile g.row.R-File.Denot). k.endpoint.0) c.in_ok-kept-in-None.ensures) c.keep_open.ensures.last
