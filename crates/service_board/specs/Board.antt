-- The state that a board stands for, with any data of its streams (this project's own).
use Rattle.std.specs.Prelude.{ℕ, List, map}
use Rattle.ca_stage.specs.Stage.{BufferData, Playhead, Stage}
use Rattle.ca_stage.specs.Tally.{Tally}
use Rattle.ca_machine.specs.State.{State}
use Rattle.period_engine.specs.declared.entry.StreamEntry.{StreamEntry}
use Rattle.period_engine.specs.Entries.{streams_of}
use Rattle.service_book.specs.BookState.{book_state}
use Rattle.service_board.specs.declared.board.Seat.{Seat}
use Rattle.service_board.specs.declared.board.Board.{Board}

-- the playhead of a seat
abbrev pub playhead_of : Seat → Playhead
playhead_of s = record { number = s.endpoint.0; next = s.next }

-- the stage of seats and entries, with the data of each client's stream
abbrev pub stage_with : {E : Type 0} → (ℕ → BufferData) → List Seat → List (StreamEntry E) → Stage
stage_with datas seats entries =
    record { playheads = map playhead_of seats; streams = streams_of datas entries }

-- the state of a board, with the data of each client's stream, and a tally
abbrev pub state_of : {D E : Type 0} → (ℕ → BufferData) → Tally → Board D E → State
state_of datas tally b = book_state b.book (stage_with datas b.seats.items b.entries.items) tally
