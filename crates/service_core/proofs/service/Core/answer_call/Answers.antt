use Rattle.ca_model.specs.declared.event.Call.TheVariants as call
use Rattle.ca_model.specs.declared.event.Event.TheVariants as event
use Rattle.ca_machine.specs.Endpoints.{device_info_plan, enum_endpoints_plan}
use Rattle.ca_machine.specs.Sessions.{enum_sessions_plan, get_session_plan}
use Rattle.reply_payload.specs.Answers.{told_code}
use Rattle.service_board.specs.Does.{AnyData}
use Rattle.service_core.specs.Service.{tally_of}
use Rattle.service_core.proofs.CoreAnswers.{answers_unchanged, board_still}
use Rattle.service_core.proofs.EventsFall.{keeps_event}
use Rattle.service_core.proofs.TallyStays.{tally_of_endpoints, tally_of_enum, tally_of_get, tally_of_info}
use Rattle.service_core.proofs.service.Core.answer_call.Goals as goal

pub returns-in-EnumSessions-clause-answers : goal.returns-in-EnumSessions-clause-answers
returns-in-EnumSessions-clause-answers g c =
    let conn = c.args.conn in
    let e = c.in-EnumSessions.endpoint in
    rw (c.in-EnumSessions.is, c.told_code.ensures) (
    answers_unchanged g.D.Devices.faults g.D.Devices.told g.F.FrameStore.kept (λ st. enum_sessions_plan st conn.0 e.0)
    (told_code c.enum_sessions.result) c.enum_sessions.new.out.list c.self.inside.board c.self.inside.tally
    c.args.self.now c.self.view_is
    (board_still g.D.Devices.faults g.D.Devices.told g.F.FrameStore.kept g.F.EngineSide.state
    g.F.EngineSide.moves g.met.F.FrameStore.exact c.self.inside.board c.self.inside.board c.self.invariant
    c.self.invariant.order (λ st. enum_sessions_plan st conn.0 e.0)
    (told_code c.enum_sessions.result) c.enum_sessions.new.out.list
    (λ st. keeps_event st (event.Call conn 0 (call.EnumSessions e)) tt) AnyData c.enum_sessions.ensures.does tt
    (λ st. tally_of_enum st conn.0 e.0) (tally_of c.self.inside.tally)))

pub returns-in-EnumEndpoints-clause-answers : goal.returns-in-EnumEndpoints-clause-answers
returns-in-EnumEndpoints-clause-answers g c =
    let conn = c.args.conn in
    let flow = c.in-EnumEndpoints.flow in
    let mask = c.in-EnumEndpoints.mask in
    let own = c.self-in-EnumEndpoints in
    rw (c.in-EnumEndpoints.is, c.told_code-in-EnumEndpoints.ensures) (
    answers_unchanged g.D.Devices.faults g.D.Devices.told g.F.FrameStore.kept
    (λ st. enum_endpoints_plan st conn.0 flow mask)
    (told_code c.enum_endpoints.result) c.enum_endpoints.new.out.list own.inside.board own.inside.tally
    c.args.self.now own.view_is
    (board_still g.D.Devices.faults g.D.Devices.told g.F.FrameStore.kept g.F.EngineSide.state
    g.F.EngineSide.moves g.met.F.FrameStore.exact own.inside.board own.inside.board own.invariant
    own.invariant.order (λ st. enum_endpoints_plan st conn.0 flow mask)
    (told_code c.enum_endpoints.result) c.enum_endpoints.new.out.list
    (λ st. keeps_event st (event.Call conn 0 (call.EnumEndpoints flow mask)) tt) AnyData
    c.enum_endpoints.ensures.does tt
    (λ st. tally_of_endpoints st conn.0 flow mask) (tally_of own.inside.tally)))

pub returns-in-DeviceInfo-clause-answers : goal.returns-in-DeviceInfo-clause-answers
returns-in-DeviceInfo-clause-answers g c =
    let conn = c.args.conn in
    let e = c.in-DeviceInfo.endpoint in
    let own = c.self-in-DeviceInfo in
    rw (c.in-DeviceInfo.is, c.told_code-in-DeviceInfo.ensures) (
    answers_unchanged g.D.Devices.faults g.D.Devices.told g.F.FrameStore.kept (λ st. device_info_plan st conn.0 e.0)
    (told_code c.device_info.result) c.device_info.new.out.list own.inside.board own.inside.tally
    c.args.self.now own.view_is
    (board_still g.D.Devices.faults g.D.Devices.told g.F.FrameStore.kept g.F.EngineSide.state
    g.F.EngineSide.moves g.met.F.FrameStore.exact own.inside.board own.inside.board own.invariant
    own.invariant.order (λ st. device_info_plan st conn.0 e.0)
    (told_code c.device_info.result) c.device_info.new.out.list
    (λ st. keeps_event st (event.Call conn 0 (call.DeviceInfo e)) tt) AnyData c.device_info.ensures.does tt
    (λ st. tally_of_info st conn.0 e.0) (tally_of own.inside.tally)))

pub returns-in-GetSession-clause-answers : goal.returns-in-GetSession-clause-answers
returns-in-GetSession-clause-answers g c =
    let conn = c.args.conn in
    let s = c.in-GetSession.session in
    let own = c.self-in-GetSession in
    rw (c.in-GetSession.is, c.told_code-in-GetSession.ensures) (
    answers_unchanged g.D.Devices.faults g.D.Devices.told g.F.FrameStore.kept (λ st. get_session_plan st conn.0 s.0)
    (told_code c.get_session.result) c.get_session.new.out.list own.inside.board own.inside.tally
    c.args.self.now own.view_is
    (board_still g.D.Devices.faults g.D.Devices.told g.F.FrameStore.kept g.F.EngineSide.state
    g.F.EngineSide.moves g.met.F.FrameStore.exact own.inside.board own.inside.board own.invariant
    own.invariant.order (λ st. get_session_plan st conn.0 s.0)
    (told_code c.get_session.result) c.get_session.new.out.list
    (λ st. keeps_event st (event.Call conn 0 (call.GetSession s)) tt) AnyData c.get_session.ensures.does tt
    (λ st. tally_of_get st conn.0 s.0) (tally_of own.inside.tally)))

pub returns-in-CaptureGetBuffer-clause-answers : goal.returns-in-CaptureGetBuffer-clause-answers
returns-in-CaptureGetBuffer-clause-answers g c =
    rw c.in-CaptureGetBuffer.is c.capture_get_buffer.ensures.answers
