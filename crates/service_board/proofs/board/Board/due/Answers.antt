use Rattle.std.proofs.Common.{◌∙◌, ap, arith, eq-eqb, false, true}
use Rattle.std.proofs.lemmas.Bool.Decides.{nat_tests}
use Rattle.stream_entries.specs.Holding.{period_frames}
use Rattle.service_board.proofs.DuePeriods.{finds_due, inactive_says, no_endpoint_says, seat_bound, seat_within}
use Rattle.std.proofs.lemmas.Result.{err_from_is_err_and}
use Rattle.ca_base.specs.declared.values.TheConstants.{STATE_ACTIVE}
use Rattle.service_board.proofs.DuePeriods.{shut_period_says, worn_of, worn_says, worn_stream_says}
use Rattle.service_board.proofs.LookingUp.{runs_by, shut_by}
use Rattle.service_board.proofs.board.Board.due.Goals as goal
use Rattle.service_board.proofs.board.Board.due.Goals.{
  then-next-frames-gt-MAX_COUNT-via-then-next-frames-gt-MAX_COUNT,
  then-next-frames-gt-MAX_COUNT-via-else-next-frames-gt-MAX_COUNT+then-is_worn,
}

pub returns-in_default-clause-refused : goal.returns-in_default-clause-refused
returns-in_default-clause-refused g c =
    no_endpoint_says c.args.self.now c.args.e.0 (runs_by c.args.self.now c.in_ok-runs.ensures) c.in_default.ensures

pub returns-in_err-runs-clause-refused : goal.returns-in_err-runs-clause-refused
returns-in_err-runs-clause-refused g c =
    let p = err_from_is_err_and c.from_residual.result c.from_residual.ensures.1 in
    let shut = shut_by c.args.self.now c.in_err-runs.field-0.0 c.in_err-runs.ensures in
    rw (p.1, p.2, shut.1) (shut_period_says c.args.self.now c.args.e.0 shut.0)

pub returns-then-endpoint-ne-STATE_ACTIVE-clause-refused :
    goal.returns-then-endpoint-ne-STATE_ACTIVE-clause-refused
returns-then-endpoint-ne-STATE_ACTIVE-clause-refused g c =
    inactive_says c.args.self.now c.args.e.0 c.in-Some.at (runs_by c.args.self.now c.in_ok-runs.ensures)
    c.requires.order.seats c.in-Some.ensures c.endpoint-endpoint.result.now c.endpoint-endpoint.ensures
    (grind (arith, nat_tests))

pub index-requires : goal.index-requires
index-requires g c =
    let within =
    seat_within c.args.self.now c.args.e.0 c.in-Some.at (runs_by c.args.self.now c.in_ok-runs.ensures)
    c.requires.order.seats c.in-Some.ensures c.endpoint-endpoint.result.now c.endpoint-endpoint.ensures in
    omega arith

pub overflow_add-next : goal.overflow_add-next
overflow_add-next g c =
    let bound =
    seat_bound c.args.self.now c.args.e.0 c.in-Some.at (runs_by c.args.self.now c.in_ok-runs.ensures)
    c.requires.order.seats c.in-Some.ensures c.endpoint-endpoint.result.now c.endpoint-endpoint.ensures
    c.index.result.now c.index.ensures in
    omega arith

pub returns-then-next-frames-gt-MAX_COUNT-clause-refused :
    goal.returns-then-next-frames-gt-MAX_COUNT-clause-refused
returns-then-next-frames-gt-MAX_COUNT-clause-refused g c =
    let active = eq-eqb c.endpoint-endpoint.result.now.state STATE_ACTIVE c.if-endpoint-ne-STATE_ACTIVE.false in
    elim c.then-next-frames-gt-MAX_COUNT.branch [
      | then-next-frames-gt-MAX_COUNT-via-then-next-frames-gt-MAX_COUNT w ↦
          worn_says c.args.self.now c.args.e.0 c.in-Some.at (runs_by c.args.self.now c.in_ok-runs.ensures)
          c.requires.order.seats c.in-Some.ensures c.endpoint-endpoint.result.now c.endpoint-endpoint.ensures
          c.index.result.now c.index.ensures active
          (let frames = (c.period_frames-frames.ensures
          ∙ ap (period_frames c.endpoint-endpoint.result.now) c.deref.ensures.value) in let beyond =
          w.if-next-frames-gt-MAX_COUNT.true in
          omega arith)
      | then-next-frames-gt-MAX_COUNT-via-else-next-frames-gt-MAX_COUNT+then-is_worn w ↦
          worn_stream_says c.args.self.now c.args.e.0 c.in-Some.at (runs_by c.args.self.now c.in_ok-runs.ensures)
          c.requires.order.seats c.in-Some.ensures c.endpoint-endpoint.result.now c.endpoint-endpoint.ensures
          c.index.result.now c.index.ensures c.requires.order.belong
          (let frames = (c.period_frames-frames.ensures
          ∙ ap (period_frames c.endpoint-endpoint.result.now) c.deref.ensures.value) in let within =
          w.if-next-frames-gt-MAX_COUNT.false in
          omega arith)
          active
          (worn_of c.args.self.now c.endpoint-endpoint.result.now c.period_frames-frames.result w.is_worn.result true
          (c.period_frames-frames.ensures
          ∙ ap (period_frames c.endpoint-endpoint.result.now) c.deref.ensures.value) w.is_worn.ensures
          w.if-is_worn.true)
    ]

pub returns-clause-found : goal.returns-clause-found
returns-clause-found g c =
    finds_due c.args.self.now c.args.e.0 c.in-Some.at (runs_by c.args.self.now c.in_ok-runs.ensures)
    c.requires.order.seats c.in-Some.ensures c.endpoint-endpoint.result.now c.endpoint-endpoint.ensures
    c.index.result.now c.index.ensures c.requires.order.belong
    (let frames = (c.period_frames-frames.ensures
    ∙ ap (period_frames c.endpoint-endpoint.result.now) c.deref.ensures.value) in let within =
    c.if-next-frames-gt-MAX_COUNT.false in omega arith)
    c.if-endpoint-ne-STATE_ACTIVE.false
    (worn_of c.args.self.now c.endpoint-endpoint.result.now c.period_frames-frames.result c.is_worn.result false
    (c.period_frames-frames.ensures
    ∙ ap (period_frames c.endpoint-endpoint.result.now) c.deref.ensures.value) c.is_worn.ensures c.if-is_worn.false)
