-- Woven moves: lists of moves in which each period is its sub-steps in order, with data calls between them (this
-- project's own).
use Rattle.std.specs.Prelude.{◌≡◌, List, [], ◌∷◌, ◌++◌, Bool, true, false, Some}
use Rattle.std.specs.Bool.{MatchBool}
use Rattle.ca_stage.specs.Stage.{Playhead, Stage}
use Rattle.ca_stage.specs.Moves.{StreamMove, leased, released, read, picked, retired, fed, Move, of_client, sounded}
use Rattle.ca_stage.specs.Moves.{finished, captured}
use Rattle.ca_stage.specs.Moves.{Mixing, after_move, playhead_at}
use Rattle.ca_stage.specs.Periods.{picks, after_sound, feeds, is_recording}

-- data calls make these, which may come between the sub-steps of a period
abbrev pub is_data_move : StreamMove → Bool
is_data_move (leased n) = true
is_data_move (released frames) = true
is_data_move (read n) = true
is_data_move _ = false

abbrev pub is_data : Move → Bool
is_data (of_client client m) = is_data_move m
is_data _ = false

-- these come in a period alone
abbrev pub is_period_move : StreamMove → Bool
is_period_move (picked n) = true
is_period_move retired = true
is_period_move (fed frames) = true
is_period_move _ = false

abbrev pub is_sub_step : Move → Bool
is_sub_step (of_client client m) = is_period_move m
is_sub_step (sounded m whole) = true
is_sub_step (finished m whole) = true
is_sub_step _ = false

-- these are the sub-steps of a period up to its Sound, of an endpoint that has a playhead
pub record IsPeriod (st : Stage) (steps : List Move) : Type 0 where
  pub mixing : Mixing
  pub whole : Bool
  pub playhead : Playhead
  pub there : playhead_at mixing.endpoint st ≡ Some playhead
  pub steps_are : steps ≡ picks mixing st ++ sounded mixing whole ∷ []

-- what is due of a period once this move, which was due, is made: at the Sound the rest of the period is known
abbrev pub due_after : Stage → Move → List Move → List Move
due_after st (sounded m whole) due = after_sound m whole st
due_after st _ due = due

-- what is due once a move is made that is no sub-step: if a device gave frames, they are offered to those that
-- record it
abbrev pub due_of : Stage → Move → List Move
due_of st (captured number frames) = feeds (is_recording number) frames st
due_of st _ = []

-- if no period is under way, a move begins one, of which the rest is due; or it is no sub-step
abbrev pub Begins : Stage → Move → (List Move → Type 0) → Type 0
Begins st x GoesOn =
    MatchBool (is_sub_step x) ((due : List Move) × IsPeriod st (x ∷ due) × GoesOn (due_after st x due))
    (GoesOn (due_of st x))

-- in a period, a data call leaves due what is due, and any other move is the next that is due
abbrev pub Continues : Stage → Move → Move → List Move → (List Move → Type 0) → Type 0
Continues st x next due GoesOn = MatchBool (is_data x) (GoesOn (next ∷ due)) ((x ≡ next) × GoesOn (due_after st x due))

-- these moves are woven, if the first list is due of the period that is under way; no period is left half done
abbrev pub IsWoven : Stage → List Move → List Move → Type 0
IsWoven st [] [] = Unit {0}
IsWoven st (next ∷ due) [] = ⊥
IsWoven st [] (x ∷ xs) = Begins st x (λ due. IsWoven (after_move st x) due xs)
IsWoven st (next ∷ due) (x ∷ xs) = Continues st x next due (λ left. IsWoven (after_move st x) left xs)
