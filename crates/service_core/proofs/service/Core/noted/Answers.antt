use Rattle.std.proofs.Common.{◌≡◌, subst}
use Rattle.ca_machine.specs.Notices.{noted}
use Rattle.ca_machine.specs.View.{MachineView}
use Rattle.service_core.specs.Core.{core_datas}
use Rattle.service_core.specs.Service.{tally_of}
use Rattle.service_core.proofs.service.Core.noted.Goals as goal

pub returns : goal.returns
returns g c =
    subst (λ (v : MachineView g.row.D.Denot). c.noted.result ≡ noted v.state) c.self.view_is
    (c.noted.ensures (core_datas g.F.FrameStore.kept c.self.inside.board.entries.items) (tally_of c.self.inside.tally))
