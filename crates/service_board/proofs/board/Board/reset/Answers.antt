use Rattle.std.proofs.Common.{◌≡◌, ℕ, ◌≤◌, List, [], ◌∷◌, Bool, true, false, Option, Some, None, ap, ap₂, ◌∙◌}
use Rattle.std.proofs.Common.{subst, arith, is_some, if◌then◌else◌}
use Rattle.std.specs.Vec.{with_item}
use Rattle.std.proofs.lemmas.Result.{err_from_is_err_and}
use Rattle.device_io.specs.DeviceLog.{DeviceLog}
use Rattle.ca_base.specs.declared.codes.Hr.{Hr}
use Rattle.ca_base.specs.declared.codes.TheConstants.Hr as hr
use Rattle.ca_base.specs.Rows.{first}
use Rattle.buffer_ring.specs.declared.step.EndState.{EndState}
use Rattle.buffer_ring.specs.declared.step.StoreStep.{StoreStep}
use Rattle.ca_stage.specs.Stage.{BufferData, Stream}
use Rattle.ca_stage.specs.Moves.{of_client, reset}
use Rattle.ca_machine.specs.Plan.{granted}
use Rattle.ca_machine.specs.Streams.{is_at_start, reset_plan, reset_rows}
use Rattle.period_engine.specs.Agreement.{Layout, layout_of}
use Rattle.period_engine.specs.declared.entry.StreamEntry.{StreamEntry}
use Rattle.period_engine.specs.Entries.{IsRested, stream_of, stream_with}
use Rattle.period_engine.specs.SubSteps.{IsSameEntry}
use Rattle.service_board.specs.Does.{Does}
use Rattle.service_board.specs.InOrder.{InOrder}
use Rattle.service_board.specs.declared.board.Board.{Board}
use Rattle.service_board.specs.StreamCalls.{IsKnown, IsOfKind}
use Rattle.service_board.proofs.StreamMoves.{layout_there, look_done, move_done, order_kept, same_read, sets_one}
use Rattle.service_board.proofs.PeriodSizes.{few_period_at, some_period_at}
use Rattle.service_board.proofs.PlainEvents.{known_more}
use Rattle.service_board.proofs.StreamRows.{Opened, opened_there, own_refused, stream_refused}
use Rattle.service_board.proofs.board.Board.reset.Goals as goal

-- what is known of the data of the stream that is reset
abbrev KnownHere : Layout → Bool → BufferData → Type 0
KnownHere l has_lease d = (is_some d.lease ≡ has_lease) × IsOfKind l d

-- what the rows say, by their tests
row_running : (s : Stream) → s.running ≡ true → first (reset_rows (Some s)) ≡ Some hr.NOT_STOPPED
row_running s runs =
    ap (λ x. if x then Some hr.NOT_STOPPED else
    if is_some s.buffer_data.lease then Some hr.BUFFER_OPERATION_PENDING else
    if is_at_start s then Some hr.S_FALSE else None) runs

row_leased : (s : Stream) → s.running ≡ false → is_some s.buffer_data.lease ≡ true →
    first (reset_rows (Some s)) ≡ Some hr.BUFFER_OPERATION_PENDING
row_leased s runs leased =
    ap₂ (λ x y. if x then Some hr.NOT_STOPPED else
    if y then Some hr.BUFFER_OPERATION_PENDING else
    if is_at_start s then Some hr.S_FALSE else None) runs leased

row_start : (s : Stream) (whether : Bool) → s.running ≡ false → is_some s.buffer_data.lease ≡ false →
    is_at_start s ≡ whether → first (reset_rows (Some s)) ≡ (if whether then Some hr.S_FALSE else None)
row_start s whether runs leased start =
    ap₂ (λ x y. if x then Some hr.NOT_STOPPED else
    if y then Some hr.BUFFER_OPERATION_PENDING else
    if is_at_start s then Some hr.S_FALSE else None) runs leased
    ∙ ap (λ x. if x then Some hr.S_FALSE else None) start

-- what is done by what is known of the stream, is done by what the caller says
module _ {D E : Type 0} (b new : Board D E) (conn client at : ℕ) (has_lease : Bool) (e : StreamEntry E)
    (there : Opened conn client b at e) (state : E → EndState) (order : InOrder state b) where
  by_kind : (faults : D → ℕ) (told : D → Option (List DeviceLog)) (moves : E → List StoreStep → E → Type 0)
      (code : Hr) →
      Does faults told moves None (λ datas. KnownHere (layout_of e) has_lease (datas client)) b new
      (λ st. reset_plan st conn client) code [] →
      Does faults told moves None (IsKnown client has_lease b.entries.items) b new (λ st. reset_plan st conn client)
      code []
  by_kind faults told moves code =
      known_more faults told moves None (λ datas. KnownHere (layout_of e) has_lease (datas client))
      (IsKnown client has_lease b.entries.items) b new (λ st. reset_plan st conn client) code []
      (λ datas knows. (
        knows.leased,
        subst (λ l. IsOfKind l (datas client)) (layout_there conn client b at e there order.order) knows.kind,
      ))

-- the board with an emptied entry stays in order
emptied_order : {D E : Type 0} (b : Board D E) (conn client at : ℕ) (e emptied : StreamEntry E)
    (there : Opened conn client b at e) (state : E → EndState) → InOrder state b → IsSameEntry e emptied →
    IsRested state emptied → emptied.position ≤ e.position → emptied.ever ≡ e.ever →
    InOrder state (record b { entries = with_item b.entries at emptied })
emptied_order b conn client at e emptied there state order same rested back ever =
    order_kept state b (record b { entries = with_item b.entries at emptied }) at e emptied there.here
    (λ k. there.opens) (sets_one b at emptied) same rested back (omega (arith, ever)) order

pub returns-in_err-at-clause-does : goal.returns-in_err-at-clause-does
returns-in_err-at-clause-does g c =
    let p = err_from_is_err_and c.from_residual.result c.from_residual.ensures.1 in
    rw (p.1, p.2) (stream_refused g.D.Devices.faults g.D.Devices.told g.E.EngineSide.moves g.met.E.EngineSide.none
    c.args.self.now c.args.conn.0 c.args.client.0 reset_rows
    (λ st s. granted [] (of_client c.args.client.0 reset ∷ []) st)
    (IsKnown c.args.client.0 c.args.has_lease c.args.self.now.entries.items)
    c.in_err-at.field-0.0 c.in_err-at.ensures.refused)

pub returns-then-index-clause-does : goal.returns-then-index-clause-does
returns-then-index-clause-does g c =
    own_refused g.D.Devices.faults g.D.Devices.told g.E.EngineSide.moves g.met.E.EngineSide.none
    c.args.self.now c.args.conn.0 c.args.client.0 reset_rows
    (λ st s. granted [] (of_client c.args.client.0 reset ∷ []) st)
    (IsKnown c.args.client.0 c.args.has_lease c.args.self.now.entries.items)
    c.in_ok-at.at c.index.result.now
    (opened_there c.args.conn.0 c.args.client.0 c.args.self.now c.in_ok-at.at c.index.result.now
    c.in_ok-at.ensures.found c.index.ensures)
    hr.NOT_STOPPED (λ datas knows. row_running (stream_of datas c.index.result.now) c.if-index.true)

pub returns-then-has_lease-clause-does : goal.returns-then-has_lease-clause-does
returns-then-has_lease-clause-does g c =
    let there = opened_there c.args.conn.0 c.args.client.0 c.args.self.now c.in_ok-at.at c.index.result.now
    c.in_ok-at.ensures.found c.index.ensures in
    own_refused g.D.Devices.faults g.D.Devices.told g.E.EngineSide.moves g.met.E.EngineSide.none
    c.args.self.now c.args.conn.0 c.args.client.0 reset_rows
    (λ st s. granted [] (of_client c.args.client.0 reset ∷ []) st)
    (IsKnown c.args.client.0 c.args.has_lease c.args.self.now.entries.items)
    c.in_ok-at.at c.index.result.now there hr.BUFFER_OPERATION_PENDING
    (λ datas knows. row_leased (stream_of datas c.index.result.now) c.if-index.false
    (ap (λ n. is_some (datas n).lease) there.client_is ∙ knows.leased ∙ c.if-has_lease.true))

pub empty-requires-clause-open : goal.empty-requires-clause-open
empty-requires-clause-open g c =
    (opened_there c.args.conn.0 c.args.client.0 c.args.self.now c.in_ok-at.at c.index_mut.result.now
    c.in_ok-at.ensures.found c.index_mut.ensures.value).opens

pub empty-requires-clause-some : goal.empty-requires-clause-some
empty-requires-clause-some g c =
    let there = opened_there c.args.conn.0 c.args.client.0 c.args.self.now c.in_ok-at.at c.index_mut.result.now
    c.in_ok-at.ensures.found c.index_mut.ensures.value in
    some_period_at g.E.EngineSide.state c.args.self.now c.in_ok-at.at c.index_mut.result.now there.here there.opens
    c.requires.order

pub empty-requires-clause-most : goal.empty-requires-clause-most
empty-requires-clause-most g c =
    let there = opened_there c.args.conn.0 c.args.client.0 c.args.self.now c.in_ok-at.at c.index_mut.result.now
    c.in_ok-at.ensures.found c.index_mut.ensures.value in
    few_period_at g.E.EngineSide.state c.args.self.now c.in_ok-at.at c.index_mut.result.now there.here there.opens
    c.requires.order

pub returns-then-not-empty : goal.returns-then-not-empty
returns-then-not-empty g c =
    let b = c.args.self.now in
    let at = c.in_ok-at.at in
    let e = c.index_mut.result.now in
    let read = opened_there c.args.conn.0 c.args.client.0 b at c.index.result.now c.in_ok-at.ensures.found
    c.index.ensures in
    let there = opened_there c.args.conn.0 c.args.client.0 b at e c.in_ok-at.ensures.found c.index_mut.ensures.value in
    let same = same_read c.args.conn.0 c.args.client.0 b at e c.index.result.now there read in
    let found = c.if-not-empty.ensures.empties in
    record {
      does = by_kind b _ c.args.conn.0 c.args.client.0 at c.args.has_lease e there g.E.EngineSide.state
          c.requires.order g.D.Devices.faults g.D.Devices.told g.E.EngineSide.moves hr.S_FALSE
          (look_done g.D.Devices.faults g.D.Devices.told g.E.EngineSide.moves g.met.E.EngineSide.none b _
          c.args.conn.0 c.args.client.0 at e c.empty.new.entry there c.requires.order.order
          (sets_one b at c.empty.new.entry) found.same.client found.steps found.made found.packs reset_rows
          (KnownHere (layout_of e) c.args.has_lease)
          (λ st s. granted [] (of_client c.args.client.0 reset ∷ []) st) hr.S_FALSE
          (λ d agrees knows. row_start (stream_with d e) true
          (ap (λ x. x.running) same ∙ c.if-index.false) (knows.0 ∙ c.if-has_lease.false) (found.tells d agrees))
          (λ d agrees knows. found.turns d agrees knows.1));
      order = emptied_order b c.args.conn.0 c.args.client.0 at e c.empty.new.entry there g.E.EngineSide.state
          c.requires.order found.same c.empty.ensures.rested c.empty.ensures.back c.empty.ensures.ever;
    }

pub returns : goal.returns
returns g c =
    let b = c.args.self.now in
    let at = c.in_ok-at.at in
    let e = c.index_mut.result.now in
    let read = opened_there c.args.conn.0 c.args.client.0 b at c.index.result.now c.in_ok-at.ensures.found
    c.index.ensures in
    let there = opened_there c.args.conn.0 c.args.client.0 b at e c.in_ok-at.ensures.found c.index_mut.ensures.value in
    let same = same_read c.args.conn.0 c.args.client.0 b at e c.index.result.now there read in
    let found = c.if-not-empty.ensures.empties in
    record {
      does = by_kind b _ c.args.conn.0 c.args.client.0 at c.args.has_lease e there g.E.EngineSide.state
          c.requires.order g.D.Devices.faults g.D.Devices.told g.E.EngineSide.moves hr.S_OK
          (move_done g.D.Devices.faults g.D.Devices.told g.E.EngineSide.moves g.met.E.EngineSide.none b _
          c.args.conn.0 c.args.client.0 at e c.empty.new.entry there c.requires.order.order
          (sets_one b at c.empty.new.entry) found.same.client found.steps found.made found.packs reset_rows
          (KnownHere (layout_of e) c.args.has_lease) reset
          (λ d agrees knows. row_start (stream_with d e) false
          (ap (λ x. x.running) same ∙ c.if-index.false) (knows.0 ∙ c.if-has_lease.false) (found.tells d agrees))
          (λ d agrees knows. found.turns d agrees knows.1));
      order = emptied_order b c.args.conn.0 c.args.client.0 at e c.empty.new.entry there g.E.EngineSide.state
          c.requires.order found.same c.empty.ensures.rested c.empty.ensures.back c.empty.ensures.ever;
    }
