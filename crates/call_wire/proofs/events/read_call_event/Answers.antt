use Rattle.std.proofs.Common.{ℕ, List}
use Rattle.std.proofs.lemmas.Result.{err_from_is_err_and}
use Rattle.call_wire.proofs.CallBodies.{IsCallHead, call_given, call_fails}
use Rattle.call_wire.proofs.events.read_call_event.Goals as goal

pub returns : goal.returns
returns c =
    let tag : ℕ × List ℕ = (c.in_ok-tag.tag, c.in_ok-tag.rest.now) in
    let code : ℕ × List ℕ = (c.in_ok-code.code, c.in_ok-code.rest.now) in
    let head : IsCallHead c.args.input.now (c.in_ok-conn.conn.0, c.in_ok-conn.rest.now) tag code =
    record { first = c.in_ok-conn.ensures; second = c.in_ok-tag.ensures; third = c.in_ok-code.ensures } in
    call_given c.args.input.now c.in_ok-conn.conn c.in_ok-conn.rest.now tag code c.in_ok-call.call head
    c.in_ok-call.ensures

pub returns-in_err-call : goal.returns-in_err-call
returns-in_err-call c =
    let conn : ℕ × List ℕ = (c.in_ok-conn.conn.0, c.in_ok-conn.rest.now) in
    let tag : ℕ × List ℕ = (c.in_ok-tag.tag, c.in_ok-tag.rest.now) in
    let code : ℕ × List ℕ = (c.in_ok-code.code, c.in_ok-code.rest.now) in
    let head : IsCallHead c.args.input.now conn tag code =
    record { first = c.in_ok-conn.ensures; second = c.in_ok-tag.ensures; third = c.in_ok-code.ensures } in
    let p = err_from_is_err_and c.from_residual-in_err-call.result c.from_residual-in_err-call.ensures.1 in
    rw (p.1, p.2) (call_fails c.args.input.now conn tag code c.in_err-call.field-0.0 head c.in_err-call.ensures)
