use Rattle.ca_machine.specs.Data.{get_next_packet_size_plan}
use Rattle.reply_payload.specs.Answers.{code_of, payload_of}
use Rattle.service_core.specs.Service.{tally_of}
use Rattle.service_core.proofs.CoreAnswers.{answers_viewed}
use Rattle.service_core.proofs.CoreCounts.{goes_still}
use Rattle.service_core.proofs.TallyStays.{tally_of_next}
use Rattle.service_core.proofs.service.Core.get_next_packet_size.Goals as goal

pub returns : goal.returns
returns g c =
    answers_viewed g.D.Devices.faults g.D.Devices.told g.F.FrameStore.kept
    (λ st. get_next_packet_size_plan st c.args.conn.0 c.args.client.0)
    (code_of c.get_next_packet_size.result) (payload_of c.get_next_packet_size.result) c.self.inside.board
    c.get_next_packet_size.new.board c.self.inside.tally c.self.inside.tally c.args.self.now c.self.view_is
    (goes_still g.D.Devices.faults g.D.Devices.told g.F.FrameStore.kept
    (λ st. get_next_packet_size_plan st c.args.conn.0 c.args.client.0)
    (code_of c.get_next_packet_size.result) (payload_of c.get_next_packet_size.result) (tally_of c.self.inside.tally)
    c.self.inside.board c.get_next_packet_size.new.board
    (c.get_next_packet_size.ensures.goes (tally_of c.self.inside.tally))
    (λ st. tally_of_next st c.args.conn.0 c.args.client.0))
