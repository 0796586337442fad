-- What is noted of a board, and the notices that it tells (this project's own).
use Rattle.std.specs.Prelude.{◌≡◌, ℕ, Bool, false, if◌then◌else◌}
use Rattle.std.specs.Prelude.{Result, Ok, Err}
use Rattle.ca_base.specs.declared.codes.Hr.{Hr}
use Rattle.step_notices.specs.Notes.{Notes}
use Rattle.ca_stage.specs.Stage.{BufferData}
use Rattle.ca_stage.specs.Tally.{Tally}
use Rattle.ca_machine.specs.Notices.{noted}
use Rattle.reply_payload.specs.Answers.{is_failure}
use Rattle.reply_payload.specs.declared.payload.Payload.{Payload}
use Rattle.service_board.specs.Board.{state_of}
use Rattle.service_board.specs.declared.board.Board.{Board}

-- ---- what is noted

-- a period's answer says that its device failed
abbrev pub has_failed : Result Payload Hr → Bool
has_failed (Ok p) = is_failure p
has_failed (Err code) = false

-- a period of a board, with this answer, notes what there was of the service before it, if its device failed; in every
-- other case what was noted stays as it was
abbrev pub NotesFailure : {D E : Type 0} → Result Payload Hr → Notes → Notes → Board D E → Type 0
NotesFailure result was now b = (datas : ℕ → BufferData) (tally : Tally) →
    now ≡ (if has_failed result then noted (state_of datas tally b) else was)

-- ---- what is told
