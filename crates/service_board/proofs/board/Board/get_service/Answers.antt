use Rattle.std.proofs.Common.{◌≡◌, [], Bool, true, false, Some, None, refl, sym, ap, ap₂, not, if◌then◌else◌}
use Rattle.std.proofs.lemmas.Result.{err_from_is_err_and}
use Rattle.ca_base.specs.declared.codes.TheConstants.Hr as hr
use Rattle.ca_machine.specs.Plan.{answered}
use Rattle.ca_machine.specs.Streams.{get_service_rows, is_of_other_kind}
use Rattle.period_engine.specs.Entries.{stream_of}
use Rattle.service_board.specs.Does.{AnyData}
use Rattle.service_board.proofs.StreamRows.{opened_found, opened_there, own_refused, own_told, stream_refused}
use Rattle.service_board.proofs.board.Board.get_service.Goals as goal

-- the rows of a service, by their two tests
service_rows : (listed other : Bool) {l o : Bool} → listed ≡ l → other ≡ o →
    (if not l then Some hr.E_NOINTERFACE else if o then Some hr.WRONG_ENDPOINT_TYPE else None)
    ≡ (if not listed then Some hr.E_NOINTERFACE else if other then Some hr.WRONG_ENDPOINT_TYPE else None)
service_rows listed other l o =
    sym (ap₂ (λ a b. if not a then Some hr.E_NOINTERFACE else if b then Some hr.WRONG_ENDPOINT_TYPE else None) l o)

no_service : (other : Bool) {l : Bool} → false ≡ l →
    (if not l then Some hr.E_NOINTERFACE else if other then Some hr.WRONG_ENDPOINT_TYPE else None)
    ≡ Some hr.E_NOINTERFACE
no_service other l =
    sym (ap (λ a. if not a then Some hr.E_NOINTERFACE else if other then Some hr.WRONG_ENDPOINT_TYPE else None) l)

pub returns-in_err-at : goal.returns-in_err-at
returns-in_err-at g c =
    let p = err_from_is_err_and c.from_residual.result c.from_residual.ensures.1 in
    rw (p.1, p.2) (record {
      does = stream_refused g.D.Devices.faults g.D.Devices.told g.E.EngineSide.moves g.met.E.EngineSide.none
          c.args.self.now c.args.conn.0 c.args.client.0 (get_service_rows c.args.service)
          (λ st s. answered st []) AnyData
          c.in_err-at.field-0.0 c.in_err-at.ensures.refused;
    })

pub returns-then-not-is_service : goal.returns-then-not-is_service
returns-then-not-is_service g c = record {
  does = own_refused g.D.Devices.faults g.D.Devices.told g.E.EngineSide.moves g.met.E.EngineSide.none
      c.args.self.now c.args.conn.0 c.args.client.0 (get_service_rows c.args.service) (λ st s. answered st []) AnyData
      c.in_ok-at.at c.in_ok-at.ensures.found.entry
      (opened_found c.args.conn.0 c.args.client.0 c.args.self.now c.in_ok-at.at c.in_ok-at.ensures.found)
      hr.E_NOINTERFACE
      (λ datas knows. no_service (is_of_other_kind c.args.service (stream_of datas c.in_ok-at.ensures.found.entry))
      c.if-not-is_service.ensures);
}

pub returns-then-is_of_other_kind : goal.returns-then-is_of_other_kind
returns-then-is_of_other_kind g c = record {
  does = own_refused g.D.Devices.faults g.D.Devices.told g.E.EngineSide.moves g.met.E.EngineSide.none
      c.args.self.now c.args.conn.0 c.args.client.0 (get_service_rows c.args.service) (λ st s. answered st []) AnyData
      c.in_ok-at.at c.index.result.now
      (opened_there c.args.conn.0 c.args.client.0 c.args.self.now c.in_ok-at.at c.index.result.now
      c.in_ok-at.ensures.found c.index.ensures)
      hr.WRONG_ENDPOINT_TYPE
      (λ datas knows. service_rows true true c.if-not-is_service.ensures c.if-is_of_other_kind.ensures);
}

pub returns : goal.returns
returns g c = record {
  does = own_told g.D.Devices.faults g.D.Devices.told g.E.EngineSide.moves g.met.E.EngineSide.none
      c.args.self.now c.args.conn.0 c.args.client.0 (get_service_rows c.args.service) (λ st s. answered st []) AnyData
      c.in_ok-at.at c.index.result.now
      (opened_there c.args.conn.0 c.args.client.0 c.args.self.now c.in_ok-at.at c.index.result.now
      c.in_ok-at.ensures.found c.index.ensures)
      []
      (λ datas knows. service_rows true false c.if-not-is_service.ensures c.if-is_of_other_kind.ensures)
      (λ st datas. refl);
}
