-- A board on which nothing is yet (this project's own).
use Rattle.std.specs.Prelude.{◌≡◌, ℕ, []}
use Rattle.buffer_ring.specs.declared.step.EndState.{EndState}
use Rattle.ca_stage.specs.Stage.{BufferData}
use Rattle.ca_stage.specs.Tally.{no_tally}
use Rattle.ca_machine.specs.State.{empty_state}
use Rattle.service_board.specs.Board.{state_of}
use Rattle.service_board.specs.InOrder.{InOrder}
use Rattle.service_board.specs.declared.board.Board.{Board}

-- a board in order, over these devices and of no stream, that stands for the empty state, whatever the data
pub record IsNewBoard {D E : Type 0} (state : E → EndState) (devices : D) (b : Board D E) : Type 0 where
  pub order : InOrder state b
  pub devices_are : b.devices ≡ devices
  pub entries : b.entries.items ≡ []
  pub empty : (datas : ℕ → BufferData) → state_of datas no_tally b ≡ empty_state
