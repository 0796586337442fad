-- The laws of the stage over lists of moves (this project's own).
use Rattle.std.specs.Prelude.{◌≡◌, ℕ, ◌+◌, ◌-◌, ◌<◌, ◌≤◌, ◌==◌, ◌&&◌, nat_lt, nat_le, List, [], ◌∷◌, ◌++◌, length, map}
use Rattle.std.specs.Prelude.{drop, slice_get, Bool, true, false, Option, Some, None, if◌then◌else◌, sum_by, count_by}
use Rattle.std.specs.Prelude.{min, flat_map}
use Rattle.std.specs.List.{AllByRecursion}
use Rattle.ca_base.specs.declared.ids.StreamKind.{StreamKind}
use Rattle.ca_base.specs.declared.ids.StreamKind.TheVariants as kind
use Rattle.ca_base.specs.declared.limits.TheConstants.{MAX_TALLY}
use Rattle.ca_stage.specs.Stage.{empty_stage, Frame, Stream, Playhead, Stage, padding, is_open}
use Rattle.ca_stage.specs.Moves.{Move, captured, sounded, Mixing, after_move, after_moves, playhead_at, stream_at}
use Rattle.ca_stage.specs.Periods.{sub_steps, captures, after_period, after_captures}
use Rattle.ca_stage.specs.Mix.{due_frames, streams_on, mix_of, mixed}
use Rattle.ca_stage.specs.Fates.{Fate, next_of, pending_of, all_released, fates, fates_since, is_rendered, is_reset}
use Rattle.ca_stage.specs.Fates.{is_dropped, places_of, having}
use Rattle.ca_stage.specs.Packets.{PacketBook, book, packets_marked, is_pending, is_read, all_read}
use Rattle.ca_stage.specs.Woven.{IsWoven}
use Rattle.ca_stage.specs.Tally.{Tally, no_tally, tally_after}
use Rattle.ca_stage.specs.Order.{AreFrames, clients, IsWithout, AreDistinct, RisesFrom, IsStage, Rests, frames_ahead}
use Rattle.ca_stage.specs.Order.{HasFrames, AllReleaseFrames}
use Rattle.ca_stage.specs.Present.{present, AreGone, IsWhole, OpensPresent}

-- 1. Conservation. The padding is what was released and has no fate: frame i has fate i, or is padding if there are
-- fewer fates
pub record IsKept (pending released : List Frame) (fs : List Fate) : Type 0 where
  pub rest : pending ≡ drop (length fs) released
  pub within : length fs ≤ length released

-- over every list of moves, for the stream of each client; if it has none all these lists are empty
abbrev pub Conservation : Type 0
Conservation = (n : ℕ) (xs : List Move) →
    IsKept (pending_of n (after_moves empty_stage xs)) (all_released n empty_stage xs) (fates n empty_stage xs)

-- a stream's own count is the length of what was released to it
abbrev pub Counts : Type 0
Counts = (n : ℕ) (s : Stream) (xs : List Move) →
    stream_at n (after_moves empty_stage xs) ≡ Some s → s.buffer_data.released ≡ length (all_released n empty_stage xs)

-- a stream's position is how many of its frames were rendered since its last Reset
abbrev pub Positions : Type 0
Positions = (n : ℕ) (s : Stream) (xs : List Move) →
    stream_at n (after_moves empty_stage xs) ≡ Some s → s.position ≡ count_by is_rendered (fates_since n empty_stage xs)

-- a closed stream has no padding
abbrev pub ClosedIsEmpty : Type 0
ClosedIsEmpty = (n : ℕ) (s : Stream) (xs : List Move) →
    stream_at n (after_moves empty_stage xs) ≡ Some s → is_open s ≡ false → padding s ≡ 0

-- over these clients' streams, how many frames have a fate of this kind
abbrev pub count_fates : (Fate → Bool) → List ℕ → List Move → ℕ
count_fates kind numbers xs = sum_by (λ n. count_by kind (fates n empty_stage xs)) numbers

-- over these clients' streams, the frames released are those rendered, padding, reset and dropped
abbrev pub AddsUp : List ℕ → List Move → Type 0
AddsUp numbers xs =
    sum_by (λ n. length (all_released n empty_stage xs)) numbers
    ≡ count_fates is_rendered numbers xs
    + sum_by (λ n. length (pending_of n (after_moves empty_stage xs))) numbers
    + count_fates is_reset numbers xs
    + count_fates is_dropped numbers xs

-- over all streams that there ever were: each stays on the stage, closed or not
abbrev pub Totals : Type 0
Totals = (xs : List Move) → AddsUp (clients (after_moves empty_stage xs)) xs

-- the tally is how many fates of each kind there are, over all streams that there ever were, and saturates
pub record IsTally (t : Tally) (numbers : List ℕ) (xs : List Move) : Type 0 where
  pub rendered : t.rendered ≡ min MAX_TALLY (count_fates is_rendered numbers xs)
  pub reset : t.reset ≡ min MAX_TALLY (count_fates is_reset numbers xs)
  pub dropped : t.dropped ≡ min MAX_TALLY (count_fates is_dropped numbers xs)

abbrev pub Tallies : Type 0
Tallies = (xs : List Move) → IsTally (tally_after no_tally empty_stage xs) (clients (after_moves empty_stage xs)) xs

-- a client is once among those that have a stream, and nothing is released if it has none
abbrev pub EachClientOnce : Type 0
EachClientOnce = (xs : List Move) → AreDistinct (clients (after_moves empty_stage xs))
    × ((n : ℕ) → IsWithout n (clients (after_moves empty_stage xs)) → all_released n empty_stage xs ≡ [])

-- the stage is in order at any moment
abbrev pub StageHolds : Type 0
StageHolds = (xs : List Move) → IsStage (after_moves empty_stage xs)

-- between periods nothing is picked
abbrev pub RestsBetween : Type 0
RestsBetween = (xs : List Move) → IsWoven empty_stage [] xs → AllByRecursion Rests (after_moves empty_stage xs).streams

-- at any moment no stream has more picked than the period that is under way has frames
abbrev pub PicksFit : Type 0
PicksFit = (before rest : List Move) → IsWoven empty_stage [] (before ++ rest) →
    AllByRecursion (λ s. s.picked ≤ frames_ahead rest) (after_moves empty_stage before).streams

-- if frames of its channels alone are released to each stream, its padding is such frames
abbrev pub FramesFit : Type 0
FramesFit = (xs : List Move) → AllReleaseFrames empty_stage xs →
    AllByRecursion HasFrames (after_moves empty_stage xs).streams

-- 2. Each place once. The frames of a Sound are as many as the period has, each a sample of 16 bits for each channel of
-- the mixing; each is the mix of the frames that are due there
pub record IsMix (m : Mixing) (streams : List Stream) : Type 0 where
  pub count : length (mixed m streams) ≡ m.frames
  pub frames : AreFrames m.channels (mixed m streams)
  pub each : (i : ℕ) → i < m.frames →
      slice_get (mixed m streams) i ≡ Some (mix_of m (due_frames i (streams_on m.endpoint streams)))

abbrev pub MixSums : Type 0
MixSums = (m : Mixing) (streams : List Stream) → IsMix m streams

-- a period by this mixing that begins here has this place
abbrev pub covers : ℕ → Mixing → Playhead → Bool
covers place m e = nat_le e.next place && nat_lt place (e.next + m.frames)

-- what a Sound sums at a place: the frames due there, each beside its client's number
abbrev pub heard : ℕ → Mixing → Playhead → List Stream → List (ℕ × Frame)
heard place m e streams = due_frames (place - e.next) (streams_on m.endpoint streams)

-- the whole Sounds of an endpoint that mixed a place: for each, what it summed there
abbrev pub heard_at : ℕ → Mixing → List Stream → Option Playhead → List (List (ℕ × Frame))
heard_at place m streams None = []
heard_at place m streams (Some e) = if covers place m e then heard place m e streams ∷ [] else []

-- the same of one move
abbrev pub sound_of : ℕ → ℕ → Stage → Move → List (List (ℕ × Frame))
sound_of number place st (sounded m true) =
    if m.endpoint == number then heard_at place m st.streams (playhead_at number st) else []
sound_of number place st _ = []

abbrev pub sounds : ℕ → ℕ → Stage → List Move → List (List (ℕ × Frame))
sounds number place st [] = []
sounds number place st (x ∷ xs) = sound_of number place st x ++ sounds number place (after_move st x) xs

-- the frames whose fate is to be rendered at a place of an endpoint, over all streams in order, each beside its
-- client's number
abbrev pub rendered_of : ℕ → ℕ → List Move → ℕ → List (ℕ × Frame)
rendered_of number place xs n =
    map (λ frame. (n, frame)) (having number place (all_released n empty_stage xs) (fates n empty_stage xs))

abbrev pub rendered : ℕ → ℕ → List Move → List (ℕ × Frame)
rendered number place xs = flat_map (rendered_of number place xs) (clients (after_moves empty_stage xs))

-- below the next place of an endpoint each place was mixed by one whole Sound, which summed the frames that are
-- rendered there
abbrev pub EachPlaceOnce : Type 0
EachPlaceOnce = (number place : ℕ) (xs : List Move) → IsWoven empty_stage [] xs →
    place < next_of number (after_moves empty_stage xs) →
    sounds number place empty_stage xs ≡ rendered number place xs ∷ []

-- from the next place on nothing was mixed, and nothing is rendered there
pub record IsAhead (number place : ℕ) (xs : List Move) : Type 0 where
  pub unsounded : sounds number place empty_stage xs ≡ []
  pub unrendered : rendered number place xs ≡ []

-- between periods
abbrev pub NothingAhead : Type 0
NothingAhead = (number place : ℕ) (xs : List Move) → IsWoven empty_stage [] xs →
    next_of number (after_moves empty_stage xs) ≤ place → IsAhead number place xs

-- the frame that a Sound of an endpoint writes at a place
abbrev pub written_at : ℕ → ℕ → Mixing → Stage → Option Frame
written_at number place m st = slice_get (mixed m st.streams) (place - next_of number st)

-- one whole Sound mixed a place: it summed the frames that are rendered there, and none did before it or after it.
-- What it wrote there is the mix of these frames
pub record HasOneSound (number place : ℕ) (xs : List Move) : Type 0 where
  pub before : List Move
  pub mixing : Mixing
  pub rest : List Move
  pub stands : xs ≡ before ++ sounded mixing true ∷ rest
  pub none_before : sounds number place empty_stage before ≡ []
  pub here : sound_of number place (after_moves empty_stage before) (sounded mixing true)
      ≡ rendered number place xs ∷ []
  pub none_after : sounds number place (after_moves empty_stage (before ++ sounded mixing true ∷ [])) rest ≡ []
  pub written : written_at number place mixing (after_moves empty_stage before)
      ≡ Some (mix_of mixing (rendered number place xs))

abbrev pub OneSound : Type 0
OneSound = (number place : ℕ) (xs : List Move) → IsWoven empty_stage [] xs →
    place < next_of number (after_moves empty_stage xs) → HasOneSound number place xs

-- a period with nothing between its sub-steps is woven, and changes each stream by itself
pub record IsOneMap (m : Mixing) (whole : Bool) (st : Stage) : Type 0 where
  pub woven : (e : Playhead) → playhead_at m.endpoint st ≡ Some e → IsWoven st [] (sub_steps m whole st)
  pub stage : after_moves st (sub_steps m whole st) ≡ after_period m whole st

abbrev pub PeriodIsOneMap : Type 0
PeriodIsOneMap = (m : Mixing) (whole : Bool) (xs : List Move) → IsOneMap m whole (after_moves empty_stage xs)

-- and so is a period of an endpoint that captures
pub record IsOneFeed (number : ℕ) (frames : List Frame) (st : Stage) : Type 0 where
  pub woven : IsWoven st [] (captures number frames st)
  pub stage : after_moves st (captures number frames st) ≡ after_captures number frames st

abbrev pub CaptureIsOneMap : Type 0
CaptureIsOneMap = (number : ℕ) (frames : List Frame) (xs : List Move) →
    IsOneFeed number frames (after_moves empty_stage xs)

-- the places of a stream's rendered frames rise
abbrev pub PlacesRise : Type 0
PlacesRise = (n : ℕ) (xs : List Move) → IsWoven empty_stage [] xs → RisesFrom 0 (places_of (fates n empty_stage xs))

-- 3. Silence after disconnect. No Sound, whole or failed, sums a frame of the client's stream at any place
abbrev pub IsOfOther : ℕ → ℕ × Frame → Type 0
IsOfOther n placed = (placed.0 == n) ≡ false

abbrev pub SumsNone : ℕ → Stage → Move → Type 0
SumsNone n st (sounded m whole) =
    (i : ℕ) → AllByRecursion (IsOfOther n) (due_frames i (streams_on m.endpoint st.streams))
SumsNone n st _ = Unit {0}

-- and none of a list of moves does
abbrev pub IsSilent : ℕ → Stage → List Move → Type 0
IsSilent n st [] = Unit {0}
IsSilent n st (x ∷ xs) = SumsNone n st x × IsSilent n (after_move st x) xs

-- from a moment on, nothing more is released to a stream, no frame of it gets a fate, and no Sound sums one
pub record IsOver (n : ℕ) (before rest : List Move) : Type 0 where
  pub released : all_released n empty_stage (before ++ rest) ≡ all_released n empty_stage before
  pub fated : fates n empty_stage (before ++ rest) ≡ fates n empty_stage before
  pub silent : IsSilent n (after_moves empty_stage before) rest

-- once a stream is closed it is over, whatever comes
abbrev pub Silence : Type 0
Silence = (n : ℕ) (s : Stream) (before rest : List Move) →
    stream_at n (after_moves empty_stage before) ≡ Some s → is_open s ≡ false → IsOver n before rest

-- 4. The streams of released clients may be left out: they are closed, and a period is the same without them
abbrev pub PresentIsWhole : Type 0
PresentIsWhole = (numbers : List ℕ) (xs : List Move) →
    AreGone numbers (after_moves empty_stage xs) → IsWhole numbers (after_moves empty_stage xs)

-- and what is present goes through moves by itself
abbrev pub PresentGoesOn : Type 0
PresentGoesOn = (numbers : List ℕ) (before rest : List Move) → AllByRecursion (OpensPresent numbers) rest →
    present numbers (after_moves empty_stage (before ++ rest))
    ≡ after_moves (present numbers (after_moves empty_stage before)) rest

-- 5. Packets. What waits in a stream are the packets of its book that are pending, and its counts are those of the book
pub record IsBooked (s : Stream) (b : PacketBook) : Type 0 where
  pub waits : s.buffer_data.packets ≡ packets_marked is_pending b.offers
  pub offered : s.offered ≡ b.offered
  pub after_gap : s.after_gap ≡ b.after_gap
  pub ever : s.ever ≡ sum_by (λ o. length o.packet.frames) b.offers

abbrev pub Booked : Type 0
Booked = (n : ℕ) (s : Stream) (xs : List Move) →
    stream_at n (after_moves empty_stage xs) ≡ Some s → IsBooked s (book n empty_stage xs)

-- the packets that were read are those that are marked so, in the order in which they were offered
abbrev pub ReadInOrder : Type 0
ReadInOrder = (n : ℕ) (xs : List Move) →
    all_read n empty_stage xs ≡ packets_marked is_read (book n empty_stage xs).offers

-- a whole Sound of an endpoint wrote these frames; an endpoint's device gave them
pub record WasWritten (number : ℕ) (xs : List Move) (frames : List Frame) : Type 0 where
  pub before : List Move
  pub mixing : Mixing
  pub rest : List Move
  pub stands : xs ≡ before ++ sounded mixing true ∷ rest
  pub endpoint : mixing.endpoint ≡ number
  pub frames_are : frames ≡ mixed mixing (after_moves empty_stage before).streams

pub record WasGiven (number : ℕ) (xs : List Move) (frames : List Frame) : Type 0 where
  pub before : List Move
  pub rest : List Move
  pub stands : xs ≡ before ++ captured number frames ∷ rest

-- what a packet's frames are from: a stream that hears an endpoint gets what one Sound of it wrote, one that records
-- it what its device gave, and one that plays gets none
abbrev pub IsFrom : StreamKind → ℕ → List Move → List Frame → Type 0
IsFrom kind.Loopback number xs frames = WasWritten number xs frames
IsFrom kind.Capture number xs frames = WasGiven number xs frames
IsFrom kind.Render number xs frames = ⊥

abbrev pub PacketsComeFrom : Type 0
PacketsComeFrom = (n : ℕ) (s : Stream) (xs : List Move) → IsWoven empty_stage [] xs →
    stream_at n (after_moves empty_stage xs) ≡ Some s →
    AllByRecursion (λ o. IsFrom s.kind s.endpoint xs o.packet.frames) (book n empty_stage xs).offers
