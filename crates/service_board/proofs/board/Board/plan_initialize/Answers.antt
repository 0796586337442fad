use Rattle.std.proofs.Common.{◌≡◌, ◌≤◌, length, nat_le, Some, None, sym, ap, ◌∙◌, subst, arith, if◌then◌else◌}
use Rattle.std.specs.Option.{option_map_or}
use Rattle.exclusive_mode.specs.Claims.{claim, claim_rows, is_refused}
use Rattle.ca_machine.specs.Formats.{is_exclusive}
use Rattle.service_book.proofs.Rows.{row_fails}
use Rattle.stream_entries.specs.Holding.{held_on}
use Rattle.service_board.specs.declared.board.Seat.{Seat}
use Rattle.ca_base.specs.declared.limits.TheConstants.{CLIENTS}
use Rattle.service_board.proofs.DuePeriods.{seat_at, seat_by_number, seats_length}
use Rattle.service_board.proofs.NotedStates.{few_entries}
use Rattle.std.proofs.lemmas.Result.{err_from_is_err_and}
use Rattle.ca_base.specs.declared.codes.TheConstants.Hr as hr
use Rattle.ca_base.specs.Rows.{first}
use Rattle.session_manager.specs.Rows.{join_rows}
use Rattle.ca_machine.specs.State.{is_connection}
use Rattle.service_book.proofs.Finding.{found_there}
use Rattle.service_board.proofs.OpeningRows.{at_arguments, at_claim, at_control, at_endpoint, at_session, at_stream}
use Rattle.service_board.proofs.OpeningRows.{argument_says, claim_says, connected_says, no_entry, number_read}
use Rattle.service_board.proofs.OpeningRows.{opening_refused, past_arguments, past_claim, past_endpoint, past_session}
use Rattle.service_board.proofs.OpeningRows.{past_three, read_endpoint, session_says, shut_says, stream_refuses}
use Rattle.service_board.proofs.OpeningRows.{there_read, unconnected_says, within}
use Rattle.service_board.proofs.board.Board.plan_initialize.Goals as goal

pub returns-in_default-clause-refused : goal.returns-in_default-clause-refused
returns-in_default-clause-refused g c =
    opening_refused g.D.Devices.faults g.D.Devices.told g.E.EngineSide.moves g.met.E.EngineSide.none c.args.self.now
    c.args.x.now hr.E_HANDLE
    (at_control c.args.self.now c.args.x.now hr.E_HANDLE
    (unconnected_says c.args.self.now c.args.x.now c.in_default.ensures))

pub returns-in_err-runs-clause-refused : goal.returns-in_err-runs-clause-refused
returns-in_err-runs-clause-refused g c =
    let p = err_from_is_err_and c.from_residual.result c.from_residual.ensures.1 in
    rw (p.1, p.2) (opening_refused g.D.Devices.faults g.D.Devices.told g.E.EngineSide.moves g.met.E.EngineSide.none
    c.args.self.now c.args.x.now c.in_err-runs.field-0.0
    (at_control c.args.self.now c.args.x.now c.in_err-runs.field-0.0
    (shut_says c.args.self.now c.args.x.now c.in-Some.from c.in_err-runs.field-0.0 c.in-Some.ensures
    c.in_err-runs.ensures)))

pub returns-in_err-place-clause-refused : goal.returns-in_err-place-clause-refused
returns-in_err-place-clause-refused g c =
    let p = err_from_is_err_and c.from_residual-in_err-place.result c.from_residual-in_err-place.ensures.1 in
    rw (p.1, p.2) (opening_refused g.D.Devices.faults g.D.Devices.told g.E.EngineSide.moves g.met.E.EngineSide.none
    c.args.self.now c.args.x.now c.in_err-place.field-0.0
    (at_endpoint c.args.self.now c.args.x.now c.in_err-place.field-0.0 c.in_err-place.ensures.refused
    (connected_says c.args.self.now c.args.x.now c.in-Some.from c.in-Some.ensures c.in_ok-runs.ensures)))

pub returns-then-is_some-clause-refused : goal.returns-then-is_some-clause-refused
returns-then-is_some-clause-refused g c =
    opening_refused g.D.Devices.faults g.D.Devices.told g.E.EngineSide.moves g.met.E.EngineSide.none c.args.self.now
    c.args.x.now hr.ALREADY_INITIALIZED
    (at_stream c.args.self.now c.args.x.now hr.ALREADY_INITIALIZED
    (stream_refuses c.args.self.now c.args.x.now c.entry_place.result c.entry_place.ensures (sym c.if-is_some.ensures))
    (past_endpoint c.args.self.now c.args.x.now c.in_ok-place.place c.in_ok-place.ensures.found
    (connected_says c.args.self.now c.args.x.now c.in-Some.from c.in-Some.ensures c.in_ok-runs.ensures)))

pub endpoint-endpoint-requires : goal.endpoint-endpoint-requires
endpoint-endpoint-requires g c = within c.args.self.now c.args.x.now c.in_ok-place.place c.in_ok-place.ensures.found

pub returns-in_err-format-clause-refused : goal.returns-in_err-format-clause-refused
returns-in_err-format-clause-refused g c =
    let p = err_from_is_err_and c.from_residual-in_err-format.result c.from_residual-in_err-format.ensures.1 in
    let b = c.args.self.now in
    let x = c.args.x.now in
    let at = c.in_ok-place.place in
    let found = c.in_ok-place.ensures.found in
    let e = c.endpoint-endpoint.result.now in
    let same = read_endpoint b x at found e c.endpoint-endpoint.ensures in
    let none = no_entry b x c.entry_place.result c.entry_place.ensures (sym c.if-is_some.ensures) in
    rw (p.1, p.2) (opening_refused g.D.Devices.faults g.D.Devices.told g.E.EngineSide.moves g.met.E.EngineSide.none b x
    c.in_err-format.field-0.0
    (at_arguments b x c.in_err-format.field-0.0
    (argument_says b x at found e same (Some c.in_err-format.field-0.0) c.in_err-format.ensures.says)
    (past_three b x c.in-Some.from at c.in-Some.ensures c.in_ok-runs.ensures found none)))

pub claim_endpoint-claim-requires : goal.claim_endpoint-claim-requires
claim_endpoint-claim-requires g c =
    subst (λ es. length es ≤ CLIENTS) (sym c.deref.ensures.value)
    (few_entries g.E.EngineSide.state c.args.self.now c.requires.order)

pub returns-in-Some-refusal-clause-refused : goal.returns-in-Some-refusal-clause-refused
returns-in-Some-refusal-clause-refused g c =
    let b = c.args.self.now in
    let x = c.args.x.now in
    let at = c.in_ok-place.place in
    let found = c.in_ok-place.ensures.found in
    let e = c.endpoint-endpoint.result.now in
    let same = read_endpoint b x at found e c.endpoint-endpoint.ensures in
    let none = no_entry b x c.entry_place.result c.entry_place.ensures (sym c.if-is_some.ensures) in
    let claims : c.claim_endpoint-claim.result ≡ claim (is_exclusive x.share) (held_on e.no.0 b.entries.items)
    e.priority =
    c.claim_endpoint-claim.ensures
    ∙ ap (λ v. claim v (held_on e.no.0 c.deref.result.now) e.priority) c.is_exclusive.ensures
    ∙ ap (λ es. claim (is_exclusive x.share) (held_on e.no.0 es) e.priority) c.deref.ensures.value in
    opening_refused g.D.Devices.faults g.D.Devices.told g.E.EngineSide.moves g.met.E.EngineSide.none b x
    c.in-Some-refusal.code
    (at_claim b x c.in-Some-refusal.code
    (claim_says b x at found e same (Some c.in-Some-refusal.code)
    (sym (ap (λ k. first (claim_rows k)) claims) ∙ sym c.in-Some-refusal.ensures))
    (past_arguments b x (argument_says b x at found e same None c.in_ok-format.ensures.says)
    (past_three b x c.in-Some.from at c.in-Some.ensures c.in_ok-runs.ensures found none)))

pub returns-in_err-check_join-clause-refused : goal.returns-in_err-check_join-clause-refused
returns-in_err-check_join-clause-refused g c =
    let p = err_from_is_err_and c.from_residual-in_err-check_join.result
    c.from_residual-in_err-check_join.ensures.1 in
    let b = c.args.self.now in
    let x = c.args.x.now in
    let at = c.in_ok-place.place in
    let found = c.in_ok-place.ensures.found in
    let e = c.endpoint-endpoint.result.now in
    let same = read_endpoint b x at found e c.endpoint-endpoint.ensures in
    let none = no_entry b x c.entry_place.result c.entry_place.ensures (sym c.if-is_some.ensures) in
    let k = c.index.result.now in
    let there = found_there (is_connection x.conn.0) b.book.connections.items c.in-Some.from k c.in-Some.ensures
    c.index.ensures in
    let claims : c.claim_endpoint-claim.result ≡ claim (is_exclusive x.share) (held_on e.no.0 b.entries.items)
    e.priority =
    c.claim_endpoint-claim.ensures
    ∙ ap (λ v. claim v (held_on e.no.0 c.deref.result.now) e.priority) c.is_exclusive.ensures
    ∙ ap (λ es. claim (is_exclusive x.share) (held_on e.no.0 es) e.priority) c.deref.ensures.value in
    rw (p.1, p.2) (opening_refused g.D.Devices.faults g.D.Devices.told g.E.EngineSide.moves g.met.E.EngineSide.none b x
    c.in_err-check_join.field-0.0
    (at_session b x c.in_err-check_join.field-0.0
    (session_says b x at found e same k there (Some c.in_err-check_join.field-0.0)
    (ap (λ key. first (join_rows key b.book.sessions)) (sym c.session_key-key.ensures)
    ∙ sym c.in_err-check_join.ensures.says))
    (past_claim b x (claim_says b x at found e same None
    (sym (ap (λ k. first (claim_rows k)) claims) ∙ sym c.in_default-refusal.ensures))
    (past_arguments b x (argument_says b x at found e same None c.in_ok-format.ensures.says)
    (past_three b x c.in-Some.from at c.in-Some.ensures c.in_ok-runs.ensures found none)))))

pub scratch_for-requires : goal.scratch_for-requires
scratch_for-requires g c =
    let within = c.in_ok-place.ensures.found.active.within in
    let same = seats_length c.args.self.now.seats.items c.args.self.now.book.registry.list c.requires.order.seats in
    omega arith

pub returns-clause-planned : goal.returns-clause-planned
returns-clause-planned g c =
    let b = c.args.self.now in
    let x = c.args.x.now in
    let at = c.in_ok-place.place in
    let found = c.in_ok-place.ensures.found in
    let e = c.endpoint-endpoint.result.now in
    let same = read_endpoint b x at found e c.endpoint-endpoint.ensures in
    let none = no_entry b x c.entry_place.result c.entry_place.ensures (sym c.if-is_some.ensures) in
    let k = c.index.result.now in
    let there = found_there (is_connection x.conn.0) b.book.connections.items c.in-Some.from k c.in-Some.ensures
    c.index.ensures in
    let claims : c.claim_endpoint-claim.result ≡ claim (is_exclusive x.share) (held_on e.no.0 b.entries.items)
    e.priority =
    c.claim_endpoint-claim.ensures
    ∙ ap (λ v. claim v (held_on e.no.0 c.deref.result.now) e.priority) c.is_exclusive.ensures
    ∙ ap (λ es. claim (is_exclusive x.share) (held_on e.no.0 es) e.priority) c.deref.ensures.value in
    let joins = sym c.in_ok-check_join.ensures.says in
    let here = found.active.here ∙ ap (λ y. Some y) same in
    let seat = seat_at b.seats.items b.book.registry.list at e c.requires.order.seats here in
    record {
      names = record {
        named = found.named;
        found = found.found;
        client_is = found.client_is;
        on = number_read b x at found e same;
        endpoint = e;
        there = there_read b x at found e same;
        connection = k;
        connected = there;
        key = c.session_key-key.ensures;
        format = c.in_ok-format.ensures.format;
        kind = c.kind_on-kind.ensures;
        exclusive = c.is_exclusive-2.ensures;
        event = c.is_event_driven.ensures;
        sizes = c.sizes-sizes.ensures;
        joins = joins;
      };
      fresh = none;
      claimed = c.claim_endpoint-claim.result;
      claims = claims
          ∙ ap (λ v. claim v (held_on e.no.0 b.entries.items) e.priority) (sym c.is_exclusive-2.ensures);
      granted =
          (row_fails (is_refused c.claim_endpoint-claim.result) hr.DEVICE_IN_USE None
          (sym c.in_default-refusal.ensures)).0;
      takes_over = c.is_takeover.ensures;
      scratch =
          c.scratch_for.ensures seat.seat seat.here
          ∙ ap (λ n. if nat_le c.sizes-sizes.result.period n then None else Some c.sizes-sizes.result.period)
          (sym (ap (λ o. option_map_or (λ (s : Seat). s.block.frames) o 0)
          (seat_by_number 0 b.seats.items b.book.registry.list at e c.requires.order.seats
          c.requires.order.book.endpoints here seat.seat seat.here)));
      says = past_session b x
          (session_says b x at found e same k there None
          (ap (λ key. first (join_rows key b.book.sessions)) (sym c.session_key-key.ensures) ∙ joins))
          (past_claim b x (claim_says b x at found e same None
          (sym (ap (λ v. first (claim_rows v)) claims) ∙ sym c.in_default-refusal.ensures))
          (past_arguments b x (argument_says b x at found e same None c.in_ok-format.ensures.says)
          (past_three b x c.in-Some.from at c.in-Some.ensures c.in_ok-runs.ensures found none)));
    }
