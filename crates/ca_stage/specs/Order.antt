-- What holds of a stage (this project's own).
use Rattle.std.specs.Prelude.{◌≡◌, ℕ, suc, ◌≤◌, ◌==◌, List, [], ◌∷◌, map, Bool, false, Option, Some, None}
use Rattle.std.specs.List.{AllByRecursion, list_any}
use Rattle.wave_format.specs.Frame.{IsFrame}
use Rattle.ca_stage.specs.Stage.{Frame, Stream, Stage, padding, is_open}
use Rattle.ca_stage.specs.Moves.{released, Move, of_client, sounded, finished, after_move, stream_at}

-- the clients that have a stream, and the numbers of the playheads
abbrev pub clients : Stage → List ℕ
clients st = map (λ s. s.client) st.streams

abbrev pub numbers : Stage → List ℕ
numbers st = map (λ e. e.number) st.playheads

-- whether a number is among these
abbrev pub is_among : ℕ → List ℕ → Bool
is_among n ns = list_any (λ m. m == n) ns

abbrev pub IsWithout : ℕ → List ℕ → Type 0
IsWithout n ns = is_among n ns ≡ false

-- each number is there once
abbrev pub AreDistinct : List ℕ → Type 0
AreDistinct [] = Unit {0}
AreDistinct (n ∷ ns) = IsWithout n ns × AreDistinct ns

-- these numbers rise from a lowest one: each is above the one before it
abbrev pub RisesFrom : ℕ → List ℕ → Type 0
RisesFrom low [] = Unit {0}
RisesFrom low (n ∷ ns) = (low ≤ n) × RisesFrom (suc n) ns

-- a stream that holds nothing and doesn't run
pub record IsStill (s : Stream) : Type 0 where
  pub empty : s.buffer_data.pending ≡ []
  pub no_packets : s.buffer_data.packets ≡ []
  pub rests : s.running ≡ false
  pub unpicked : s.picked ≡ 0

-- a closed stream is still
abbrev pub IsSettled : Stream → Type 0
IsSettled s = is_open s ≡ false → IsStill s

-- only pending frames are picked
abbrev pub IsHeld : Stream → Type 0
IsHeld s = s.picked ≤ padding s

-- what holds of a stage at any moment: the streams are in the order of their clients, who have one each; each
-- endpoint has one playhead; a closed stream is still; what is picked is there
pub record IsStage (st : Stage) : Type 0 where
  pub rising : RisesFrom 0 (clients st)
  pub playheads : AreDistinct (numbers st)
  pub settled : AllByRecursion IsSettled st.streams
  pub held : AllByRecursion IsHeld st.streams

-- nothing is picked, as between periods
abbrev pub Rests : Stream → Type 0
Rests s = s.picked ≡ 0

-- the frames of the period whose Sound or Finish comes first among these moves; 0 if none does
abbrev pub frames_ahead : List Move → ℕ
frames_ahead [] = 0
frames_ahead (sounded m whole ∷ xs) = m.frames
frames_ahead (finished m whole ∷ xs) = m.frames
frames_ahead (_ ∷ xs) = frames_ahead xs

-- each pending frame has as many samples as the stream has channels, each of 16 bits
abbrev pub AreFrames : ℕ → List Frame → Type 0
AreFrames channels frames = AllByRecursion (IsFrame channels) frames

abbrev pub HasFrames : Stream → Type 0
HasFrames s = AreFrames s.channels s.buffer_data.pending

-- a move releases frames of the stream's channels, if there is one
abbrev pub FitsStream : List Frame → Option Stream → Type 0
FitsStream frames None = Unit {0}
FitsStream frames (Some s) = AreFrames s.channels frames

abbrev pub ReleasesFrames : Stage → Move → Type 0
ReleasesFrames st (of_client client (released frames)) = FitsStream frames (stream_at client st)
ReleasesFrames st _ = Unit {0}

-- and so does each of a list of moves
abbrev pub AllReleaseFrames : Stage → List Move → Type 0
AllReleaseFrames st [] = Unit {0}
AllReleaseFrames st (x ∷ xs) = ReleasesFrames st x × AllReleaseFrames (after_move st x) xs
