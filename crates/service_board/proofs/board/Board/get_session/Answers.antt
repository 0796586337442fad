use Rattle.std.proofs.Common.{◌∙◌, ap, sym}
use Rattle.std.proofs.lemmas.Result.{err_from_is_err_and}
use Rattle.ca_machine.specs.Plan.{answered}
use Rattle.ca_machine.specs.Sessions.{session_payload, state_of_session, with_session}
use Rattle.period_engine.specs.Entries.{streams_of}
use Rattle.session_manager.specs.Rows.{found_rows}
use Rattle.session_manager.specs.Sessions.{session_at}
use Rattle.service_board.proofs.TellingSessions.{get_refused, get_told, told_unconnected}
use Rattle.service_board.proofs.board.Board.get_session.Goals as goal

pub returns-in_err-connected-clause-does : goal.returns-in_err-connected-clause-does
returns-in_err-connected-clause-does g c =
    let p = err_from_is_err_and c.from_residual.result c.from_residual.ensures.1 in
    rw (p.1, p.2, c.requires.empty) (told_unconnected g.D.Devices.faults g.D.Devices.told g.E.EngineSide.moves
    g.met.E.EngineSide.none c.args.self.now c.args.conn.0
    (λ st. found_rows (session_at c.args.session.0 st.sessions))
    (λ st. with_session st (session_at c.args.session.0 st.sessions)
    (λ s. answered st (session_payload (state_of_session c.args.session.0 st.stage.streams) s)))
    c.in_err-connected.field-0.0 c.in_err-connected.ensures)

pub returns-in_default-clause-does : goal.returns-in_default-clause-does
returns-in_default-clause-does g c =
    rw c.requires.empty (get_refused g.D.Devices.faults g.D.Devices.told g.E.EngineSide.moves
    g.met.E.EngineSide.none c.args.self.now c.args.conn.0 c.in_ok-connected.ensures c.args.session.0
    (sym c.in_default.ensures.session))

pub returns-clause-does : goal.returns-clause-does
returns-clause-does g c =
    rw c.put_session.ensures.list (get_told g.D.Devices.faults g.D.Devices.told g.E.EngineSide.moves
    g.met.E.EngineSide.none c.args.self.now c.args.conn.0 c.in_ok-connected.ensures c.args.session.0
    c.in-Some.s.now (sym c.in-Some.ensures.session) c.state_of_session.result
    (λ datas. c.state_of_session.ensures datas
    ∙ ap (λ entries. state_of_session c.args.session.0 (streams_of datas entries)) c.deref.ensures.value))
