-- Start: its rows ask for the handle of the stream's client (IAudioClient).
use Rattle.std.proofs.Common.{◌≡◌, ℕ, ◌==◌, ◌&&◌, List, [], ◌∷◌, true, false, Option, Some, None, refl, ap, ◌∙◌}
use Rattle.std.specs.List.{find}
use Rattle.device_io.specs.DeviceLog.{DeviceLog}
use Rattle.ca_base.specs.declared.codes.Hr.{Hr}
use Rattle.ca_base.specs.declared.codes.TheConstants.Hr as hr
use Rattle.ca_base.specs.Rows.{Row, first}
use Rattle.buffer_ring.specs.declared.step.StoreStep.{StoreStep}
use Rattle.ca_stage.specs.Stage.{BufferData, Stream}
use Rattle.ca_stage.specs.Moves.{of_client, started}
use Rattle.ca_machine.specs.declared.state.Client.{Client}
use Rattle.ca_machine.specs.Plan.{Outcome, granted}
use Rattle.ca_machine.specs.SharedRows.{stream_plan}
use Rattle.ca_machine.specs.State.{State, is_client_of}
use Rattle.ca_machine.specs.Streams.{start_plan, start_rows}
use Rattle.period_engine.specs.declared.entry.StreamEntry.{StreamEntry}
use Rattle.period_engine.specs.Entries.{stream_with}
use Rattle.service_book.proofs.Rows.{row_holds, row_passes}
use Rattle.service_board.specs.Does.{AnyData, Does}
use Rattle.service_board.specs.declared.board.Board.{Board}
use Rattle.service_board.proofs.ChangedClients.{Named}
use Rattle.service_board.proofs.GrantedEvents.{replanned}

module _ {D E : Type 0} (b : Board D E) (conn client : ℕ) where
  -- the rows, over the clients of the board
  abbrev pub rows_here : Option Stream → List (Row Hr)
  rows_here = start_rows (find (is_client_of conn client) b.book.clients.items)

  abbrev pub starts : State → Stream → Outcome
  starts st s = granted [] (of_client client started ∷ []) st

  -- what a call by them does, a Start does
  pub by_start : (faults : D → ℕ) (told : D → Option (List DeviceLog)) (moves : E → List StoreStep → E → Type 0)
      (new : Board D E) (result : Hr) →
      Does faults told moves None AnyData b new (λ st. stream_plan st conn client rows_here (starts st)) result [] →
      Does faults told moves None AnyData b new (λ st. start_plan st conn client) result []
  by_start faults told moves new result does =
      replanned faults told moves None AnyData b new (λ st. stream_plan st conn client rows_here (starts st))
      (λ st. start_plan st conn client) result [] (λ datas tally. refl) does

  module _ (e : StreamEntry E) where
    pub row_runs : (d : BufferData) → e.running ≡ true →
        first (rows_here (Some (stream_with d e))) ≡ Some hr.NOT_STOPPED
    row_runs d runs = row_holds e.running hr.NOT_STOPPED _ runs

    module _ (place : ℕ) (c : Client) (named : Named conn client b.book.clients.items place c) where
      by_client : (d : BufferData) →
          first (rows_here (Some (stream_with d e))) ≡ first (start_rows (Some c) (Some (stream_with d e)))
      by_client d = ap (λ o. first (start_rows o (Some (stream_with d e)))) named.found

      pub row_lacks : (d : BufferData) → e.running ≡ false → (e.event && c.handle == 0) ≡ true →
          first (rows_here (Some (stream_with d e))) ≡ Some hr.EVENTHANDLE_NOT_SET
      row_lacks d stands lacks =
          by_client d
          ∙ row_passes e.running hr.NOT_STOPPED _ stands
          (row_holds (e.event && c.handle == 0) hr.EVENTHANDLE_NOT_SET None lacks)

      pub rows_pass : (d : BufferData) → e.running ≡ false → (e.event && c.handle == 0) ≡ false →
          first (rows_here (Some (stream_with d e))) ≡ None
      rows_pass d stands has =
          by_client d
          ∙ row_passes e.running hr.NOT_STOPPED _ stands
          (row_passes (e.event && c.handle == 0) hr.EVENTHANDLE_NOT_SET None has refl)
