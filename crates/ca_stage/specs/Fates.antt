-- The fates of frames: what became of each frame that a client released, as functions of a list of moves (this
-- project's own).
use Rattle.std.specs.Prelude.{ℕ, ◌+◌, ◌==◌, ◌&&◌, ◌||◌, List, [], ◌∷◌, ◌++◌, map, take, Bool, true, false, Option, Some}
use Rattle.std.specs.Prelude.{None, if◌then◌else◌}
use Rattle.ca_base.specs.declared.ids.Reason.{Reason}
use Rattle.ca_stage.specs.Stage.{Frame, Stream, Playhead, Stage}
use Rattle.ca_stage.specs.Moves.{StreamMove, released, reset, closed, retired, Move, of_client, is_open_of, after_move}
use Rattle.ca_stage.specs.Moves.{playhead_at, stream_at}

pub data Fate : Type 0 where
  -- an endpoint played it, at a place of its own
  Rendered : ℕ → ℕ → Fate
  -- Reset threw it away
  Reset : Fate
  -- it was lost as the stream was closed
  Dropped : Reason → Fate

-- what a function gives of a stream, if there is one
abbrev pub of_found : {A : Type 0} → (Stream → List A) → Option Stream → List A
of_found f None = []
of_found f (Some s) = f s

-- a list, if the stream is the open one of this client
abbrev pub passing : {A : Type 0} → ℕ → Stream → List A → List A
passing client s xs = if is_open_of client s then xs else []

-- the next place of an endpoint, 0 if it has no playhead
abbrev pub place_of : Option Playhead → ℕ
place_of None = 0
place_of (Some e) = e.next

abbrev pub next_of : ℕ → Stage → ℕ
next_of number st = place_of (playhead_at number st)

-- the frames that a move releases: of its own stream, and of each stream
abbrev pub frames_handed : StreamMove → List Frame
frames_handed (released frames) = frames
frames_handed _ = []

abbrev pub released_by : Move → Stream → List Frame
released_by (of_client client m) s = passing client s (frames_handed m)
released_by _ s = []

-- the fates of frames that an endpoint plays one after another, from a place on
abbrev pub rendered_from : ℕ → ℕ → List Frame → List Fate
rendered_from number place [] = []
rendered_from number place (frame ∷ frames) = Rendered number place ∷ rendered_from number (place + 1) frames

-- the fates that a move gives to the first pending frames: of its own stream, if `next` is the next place of the
-- stream's endpoint, and of each stream
abbrev pub fates_given : StreamMove → ℕ → Stream → List Fate
fates_given retired next s = rendered_from s.endpoint next (take s.picked s.buffer_data.pending)
fates_given reset next s = map (λ frame. Reset) s.buffer_data.pending
fates_given (closed reason) next s = map (λ frame. Dropped reason) s.buffer_data.pending
fates_given _ next s = []

abbrev pub fated_by : Stage → Move → Stream → List Fate
fated_by st (of_client client m) s = passing client s (fates_given m (next_of s.endpoint st) s)
fated_by st _ s = []

-- of the stream of client n: the pending frames, all frames that it ever released, and their fates, in order
abbrev pub pending_of : ℕ → Stage → List Frame
pending_of n st = of_found (λ s. s.buffer_data.pending) (stream_at n st)

abbrev pub all_released : ℕ → Stage → List Move → List Frame
all_released n st [] = []
all_released n st (x ∷ xs) = of_found (released_by x) (stream_at n st) ++ all_released n (after_move st x) xs

abbrev pub fates : ℕ → Stage → List Move → List Fate
fates n st [] = []
fates n st (x ∷ xs) = of_found (fated_by st x) (stream_at n st) ++ fates n (after_move st x) xs

-- whether a move resets the stream of client n, and whether one of a list of moves does
abbrev pub is_open_in : Option Stream → ℕ → Bool
is_open_in None n = false
is_open_in (Some s) n = is_open_of n s

abbrev pub resets : ℕ → Stage → Move → Bool
resets n st (of_client client reset) = is_open_in (stream_at n st) client
resets n st _ = false

abbrev pub has_reset : ℕ → Stage → List Move → Bool
has_reset n st [] = false
has_reset n st (x ∷ xs) = resets n st x || has_reset n (after_move st x) xs

-- the fates since the last Reset: if a Reset comes they begin after the next move, and else they are all
abbrev pub fates_since : ℕ → Stage → List Move → List Fate
fates_since n st [] = []
fates_since n st (x ∷ xs) = if has_reset n st (x ∷ xs) then fates_since n (after_move st x) xs else fates n st (x ∷ xs)

-- which kind of fate it is
abbrev pub is_rendered : Fate → Bool
is_rendered (Rendered number place) = true
is_rendered _ = false

abbrev pub is_reset : Fate → Bool
is_reset Reset = true
is_reset _ = false

abbrev pub is_dropped : Fate → Bool
is_dropped (Dropped reason) = true
is_dropped _ = false

-- the places at which frames were rendered
abbrev pub places_of : List Fate → List ℕ
places_of [] = []
places_of (Rendered number place ∷ fs) = place ∷ places_of fs
places_of (Reset ∷ fs) = places_of fs
places_of (Dropped reason ∷ fs) = places_of fs

-- whether a fate is that of being rendered at this place of this endpoint
abbrev pub is_rendered_at : ℕ → ℕ → Fate → Bool
is_rendered_at number place (Rendered e p) = e == number && p == place
is_rendered_at number place _ = false

-- the frames that have this fate
abbrev pub having : ℕ → ℕ → List Frame → List Fate → List Frame
having number place (frame ∷ frames) (fate ∷ fs) =
    if is_rendered_at number place fate
    then frame ∷ having number place frames fs
    else having number place frames fs
having number place _ _ = []
