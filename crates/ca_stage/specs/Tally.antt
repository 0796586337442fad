-- The tally: how many frames were rendered, reset and dropped, counted as moves are made (this project's own).
use Rattle.std.specs.Prelude.{ℕ, ◌+◌, min, List, [], ◌∷◌, Option, Some, None, if◌then◌else◌}
use Rattle.ca_base.specs.declared.limits.TheConstants.{MAX_TALLY}
use Rattle.ca_stage.specs.Stage.{Stream, Stage, padding}
use Rattle.ca_stage.specs.Moves.{StreamMove, reset, closed, retired, Move, of_client, is_open_of, after_move, stream_at}

pub record Tally : Type 0 where
  pub rendered : ℕ
  pub reset : ℕ
  pub dropped : ℕ

-- no frame has a fate yet
abbrev pub no_tally : Tally
no_tally = record { rendered = 0; reset = 0; dropped = 0 }

-- a count of the tally with more frames: it saturates at the greatest count that it can have
abbrev pub counted : ℕ → ℕ → ℕ
counted total more = min MAX_TALLY (total + more)

-- a tally after a move of a stream, of one that may be there, and of the stage
abbrev pub tally_of_stream : StreamMove → Stream → Tally → Tally
tally_of_stream retired s t = record t { rendered = counted t.rendered s.picked }
tally_of_stream reset s t = record t { reset = counted t.reset (padding s) }
tally_of_stream (closed reason) s t = record t { dropped = counted t.dropped (padding s) }
tally_of_stream _ s t = t

abbrev pub tally_of_found : ℕ → StreamMove → Option Stream → Tally → Tally
tally_of_found client m None t = t
tally_of_found client m (Some s) t = if is_open_of client s then tally_of_stream m s t else t

abbrev pub tally_by : Stage → Move → Tally → Tally
tally_by st (of_client client m) t = tally_of_found client m (stream_at client st) t
tally_by st _ t = t

-- a tally after a list of moves
abbrev pub tally_after : Tally → Stage → List Move → Tally
tally_after t st [] = t
tally_after t st (x ∷ xs) = tally_after (tally_by st x t) (after_move st x) xs
