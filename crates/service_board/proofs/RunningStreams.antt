-- Start and Stop: a client's stream runs, or doesn't, and nothing else is changed (IAudioClient).
use Rattle.std.proofs.Common.{◌≡◌, ℕ, List, [], ◌∷◌, Bool, Option, Some, None, refl, le_refl}
use Rattle.std.specs.Vec.{with_item}
use Rattle.device_io.specs.DeviceLog.{DeviceLog}
use Rattle.ca_base.specs.declared.codes.Hr.{Hr}
use Rattle.ca_base.specs.declared.codes.TheConstants.Hr as hr
use Rattle.ca_base.specs.Rows.{Row, first}
use Rattle.buffer_ring.specs.declared.step.EndState.{EndState}
use Rattle.buffer_ring.specs.declared.step.StoreStep.{StoreStep}
use Rattle.ca_stage.specs.Stage.{BufferData, Stream}
use Rattle.ca_stage.specs.Moves.{StreamMove, moved, of_client}
use Rattle.ca_machine.specs.Plan.{granted}
use Rattle.ca_machine.specs.SharedRows.{stream_plan}
use Rattle.period_engine.specs.declared.entry.StreamEntry.{StreamEntry}
use Rattle.period_engine.specs.Entries.{IsRested, stream_with}
use Rattle.period_engine.specs.SubSteps.{IsSameEntry}
use Rattle.service_board.specs.Does.{AnyData, Does}
use Rattle.service_board.specs.InOrder.{InOrder}
use Rattle.service_board.specs.declared.board.Board.{Board}
use Rattle.stream_entries.proofs.Closable.{same_but_running}
use Rattle.service_board.proofs.StreamMoves.{move_done, order_kept, rested_at, sets_one}
use Rattle.service_board.proofs.StreamRows.{Opened}

-- an entry that runs, or doesn't
abbrev pub with_running : {E : Type 0} → Bool → StreamEntry E → StreamEntry E
with_running runs e = record e { running = runs }

same_running : {E : Type 0} (runs : Bool) (e : StreamEntry E) → IsSameEntry e (with_running runs e)
same_running runs e = same_but_running e e.store e.gate runs e.picked

rested_running : {E : Type 0} (state : E → EndState) (runs : Bool) (e : StreamEntry E) → IsRested state e →
    IsRested state (with_running runs e)
rested_running state runs e h = record {
  fits = record {
    gate = h.fits.gate;
    size = h.fits.size;
    position = h.fits.position;
    offered = h.fits.offered;
    ever = h.fits.ever;
    some_channel = h.fits.some_channel;
    few_channels = h.fits.few_channels;
  };
  unpicked = h.unpicked;
}

-- a board in which the stream at a place runs, or doesn't
abbrev pub board_running : {D E : Type 0} → Bool → Board D E → ℕ → StreamEntry E → Board D E
board_running runs b at e = record b { entries = with_item b.entries at (with_running runs e) }

module _ {D E : Type 0} (runs : Bool) (b : Board D E) (conn client at : ℕ) (e : StreamEntry E)
    (there : Opened conn client b at e) (state : E → EndState) (order : InOrder state b) where
  -- the call is granted
  pub runs_does : (faults : D → ℕ) (told : D → Option (List DeviceLog)) (moves : E → List StoreStep → E → Type 0) →
      ((a : E) → moves a [] a) → (rows : Option Stream → List (Row Hr)) (m : StreamMove) →
      ((d : BufferData) → first (rows (Some (stream_with d e))) ≡ None) →
      ((d : BufferData) → moved m (stream_with d e) ≡ stream_with d (with_running runs e)) →
      Does faults told moves None AnyData b (board_running runs b at e)
      (λ st. stream_plan st conn client rows (λ s. granted [] (of_client client m ∷ []) st)) hr.S_OK []
  runs_does faults told moves stays rows m own turns =
      move_done faults told moves stays b (board_running runs b at e) conn client at e (with_running runs e) there
      order.order (sets_one b at (with_running runs e)) refl [] (stays e.store) tt rows (λ d. Unit {0}) m
      (λ d agrees knows. own d) (λ d agrees knows. turns d)

  -- and the board stays in order
  pub runs_order : InOrder state (board_running runs b at e)
  runs_order =
      order_kept state b (board_running runs b at e) at e (with_running runs e) there.here (λ k. there.opens)
      (sets_one b at (with_running runs e)) (same_running runs e)
      (rested_running state runs e (rested_at state b at e there.here order)) (le_refl e.position) (le_refl e.ever)
      order
