use Rattle.ca_machine.specs.Data.{capture_release_buffer_plan}
use Rattle.reply_payload.specs.Answers.{code_of, payload_of}
use Rattle.service_core.specs.Service.{tally_of}
use Rattle.service_core.proofs.CoreAnswers.{answers_viewed}
use Rattle.service_core.proofs.CoreCounts.{goes_still}
use Rattle.service_core.proofs.TallyStays.{tally_of_read}
use Rattle.service_core.proofs.service.Core.capture_release_buffer.Goals as goal

pub returns : goal.returns
returns g c =
    answers_viewed g.D.Devices.faults g.D.Devices.told g.F.FrameStore.kept
    (λ st. capture_release_buffer_plan st c.args.conn.0 c.args.client.0 c.args.frames)
    (code_of c.capture_release_buffer.result) (payload_of c.capture_release_buffer.result) c.self.inside.board
    c.capture_release_buffer.new.board c.self.inside.tally c.self.inside.tally c.args.self.now c.self.view_is
    (goes_still g.D.Devices.faults g.D.Devices.told g.F.FrameStore.kept
    (λ st. capture_release_buffer_plan st c.args.conn.0 c.args.client.0 c.args.frames)
    (code_of c.capture_release_buffer.result) (payload_of c.capture_release_buffer.result)
    (tally_of c.self.inside.tally) c.self.inside.board c.capture_release_buffer.new.board
    (c.capture_release_buffer.ensures.goes (tally_of c.self.inside.tally))
    (λ st. tally_of_read st c.args.conn.0 c.args.client.0 c.args.frames))
