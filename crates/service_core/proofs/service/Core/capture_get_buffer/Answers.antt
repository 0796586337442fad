use Rattle.ca_machine.specs.Data.{capture_get_buffer_plan}
use Rattle.reply_payload.specs.Answers.{told_code}
use Rattle.service_core.specs.Service.{tally_of}
use Rattle.service_core.proofs.CoreAnswers.{answers_viewed}
use Rattle.service_core.proofs.CoreCounts.{goes_still}
use Rattle.service_core.proofs.TallyStays.{tally_of_packet}
use Rattle.service_core.proofs.service.Core.capture_get_buffer.Goals as goal

pub returns-clause-answers : goal.returns-clause-answers
returns-clause-answers g c =
    rw c.told_code.ensures (
    answers_viewed g.D.Devices.faults g.D.Devices.told g.F.FrameStore.kept
    (λ st. capture_get_buffer_plan st c.args.conn.0 c.args.client.0)
    (told_code c.capture_get_buffer.result) c.capture_get_buffer.new.out.list c.self.inside.board
    c.capture_get_buffer.new.board c.self.inside.tally c.self.inside.tally c.args.self.now c.self.view_is
    (goes_still g.D.Devices.faults g.D.Devices.told g.F.FrameStore.kept
    (λ st. capture_get_buffer_plan st c.args.conn.0 c.args.client.0)
    (told_code c.capture_get_buffer.result) c.capture_get_buffer.new.out.list (tally_of c.self.inside.tally)
    c.self.inside.board c.capture_get_buffer.new.board
    (c.capture_get_buffer.ensures.goes (tally_of c.self.inside.tally))
    (λ st. tally_of_packet st c.args.conn.0 c.args.client.0)))
