-- Control calls on what a client may open: they leave the board as it was.
use Rattle.std.proofs.Common.{◌≡◌, ℕ, List, [], Option, None, refl, sym, ap, ◌∙◌, get_or}
use Rattle.std.proofs.lemmas.Option.{get_or_from_slice_get}
use Rattle.device_io.specs.DeviceLog.{DeviceLog}
use Rattle.ca_base.specs.declared.codes.Hr.{Hr}
use Rattle.ca_base.specs.Rows.{Row}
use Rattle.buffer_ring.specs.declared.step.StoreStep.{StoreStep}
use Rattle.ca_stage.specs.Stage.{BufferData}
use Rattle.ca_stage.specs.Tally.{Tally}
use Rattle.device_registry.specs.declared.endpoint.Endpoint.{Endpoint}
use Rattle.ca_machine.specs.State.{State, client_of}
use Rattle.ca_machine.specs.Plan.{Outcome, plain}
use Rattle.ca_machine.specs.SharedRows.{endpoint_of, with_endpoint}
use Rattle.service_book.specs.Lookups.{IsActiveAt}
use Rattle.service_book.specs.declared.book.Book.{Book}
use Rattle.service_board.specs.Board.{state_of}
use Rattle.service_board.specs.Does.{Does}
use Rattle.service_board.specs.Lookups.{FindsEndpoint, Says}
use Rattle.service_board.specs.declared.board.Board.{Board}
use Rattle.service_board.proofs.GrantedEvents.{book_does}
use Rattle.service_board.proofs.StreamRows.{grants_outcome}

-- an outcome that changes nothing
abbrev pub told : State → Hr → List ℕ → Outcome
told st code payload = record { result = code; payload = payload; moves = []; output = []; after = st }

-- a call that asks nothing tells
pub plain_tells : {D E : Type 0} (faults : D → ℕ) (log : D → Option (List DeviceLog))
    (moves : E → List StoreStep → E → Type 0) (given : Option E) (known : (ℕ → BufferData) → Type 0)
    (stays : (a : E) → moves a [] a) (b : Board D E) (rows : State → List (Row Hr)) (outcome : State → Outcome)
    (code : Hr) (payload : List ℕ) → Says b rows None →
    ((datas : ℕ → BufferData) (tally : Tally) →
    outcome (state_of datas tally b) ≡ told (state_of datas tally b) code payload) →
    Does faults log moves given known b b (λ st. plain (rows st) (outcome st)) code payload
plain_tells faults log moves given known stays b rows outcome code payload says tells =
    book_does faults log moves given known stays b b.book (λ st. plain (rows st) (outcome st)) code payload
    (λ datas tally.
    let st = state_of datas tally b in
    grants_outcome (plain (rows st) (outcome st)) (told st code payload) (says datas tally) refl (tells datas tally)
    refl)

-- what a call does with the endpoint that was found
pub endpoint_there : {D E : Type 0} (b : Board D E) (conn client at : ℕ) (f : FindsEndpoint conn client b at)
    (outcome : State → Endpoint → Outcome) (datas : ℕ → BufferData) (tally : Tally) →
    with_endpoint (state_of datas tally b) (endpoint_of (state_of datas tally b)
    (client_of conn client (state_of datas tally b))) (outcome (state_of datas tally b))
    ≡ outcome (state_of datas tally b) f.active.endpoint
endpoint_there b conn client at f outcome datas tally =
    let st = state_of datas tally b in
    ap (λ o. with_endpoint st (endpoint_of st o) (outcome st)) f.found
    ∙ ap (λ o. with_endpoint st o (outcome st)) f.active.found

-- the endpoint, as it is read by its place
pub endpoint_read : (book : Book) (number at : ℕ) (e : Endpoint) (f : IsActiveAt number book at) →
    e ≡ get_or book.registry.list at e → f.endpoint ≡ e
endpoint_read book number at e f read =
    sym (get_or_from_slice_get book.registry.list at f.endpoint e f.here) ∙ sym read
