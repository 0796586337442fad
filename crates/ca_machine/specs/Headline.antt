-- The headline: what holds of every run of the machine (this project's own).
use Rattle.std.specs.Prelude.{◌≡◌, ℕ, ◌<◌, ◌≤◌, ◌==◌, ◌↔◌, IsTrue, List, [], ◌∷◌, ◌++◌, Bool, false, Some}
use Rattle.std.specs.Prelude.{if◌then◌else◌, count_by, flat_map}
use Rattle.std.specs.List.{AllByRecursion}
use Rattle.ca_base.specs.declared.codes.Hr.{Hr}
use Rattle.ca_base.specs.declared.codes.TheConstants.Hr as hr
use Rattle.ca_model.specs.declared.event.Event.{Event}
use Rattle.ca_model.specs.declared.event.Event.TheVariants as event
use Rattle.ca_model.specs.declared.event.Call.{Call}
use Rattle.ca_model.specs.declared.event.Call.TheVariants as call
use Rattle.ca_stage.specs.Stage.{empty_stage, Frame, Stream, Stage, padding, is_open}
use Rattle.ca_stage.specs.Moves.{Move, Mixing, sounded, captured, after_move, after_moves, stream_at}
use Rattle.ca_stage.specs.Mix.{sound_bytes}
use Rattle.ca_stage.specs.Fates.{of_found, next_of, pending_of, all_released, fates, fates_since, places_of}
use Rattle.ca_stage.specs.Fates.{is_rendered}
use Rattle.ca_stage.specs.Order.{clients, RisesFrom}
use Rattle.ca_stage.specs.Present.{present, AreGone}
use Rattle.ca_stage.specs.Given.{frames_given}
use Rattle.ca_stage.specs.Packets.{all_read, book, is_read, packets_marked}
use Rattle.ca_stage.specs.Laws.{IsKept, AddsUp, IsTally, IsAhead, MixSums, HasOneSound, IsOver, IsBooked, IsFrom}
use Rattle.device_registry.specs.declared.endpoint.Endpoint.{Endpoint}
use Rattle.ca_machine.specs.State.{State, empty_state, endpoint_numbers, live_clients, endpoint_at}
use Rattle.ca_machine.specs.Seats.{with_playheads}
use Rattle.ca_machine.specs.Data.{frames_released}
use Rattle.ca_machine.specs.Plan.{Answer, bytes_given}
use Rattle.ca_machine.specs.Periods.{mixing_of, period_frames}
use Rattle.ca_machine.specs.Step.{Entry, IsRun, Steps, moves_of}

-- the whole stage: every stream that ever was, those of released clients too
abbrev pub whole_stage : List Entry → Stage
whole_stage entries = after_moves empty_stage (moves_of entries)

-- ---- what clients release

-- the frames that a call hands over for a client's stream of this many channels (IAudioRenderClient::ReleaseBuffer)
abbrev pub handed : ℕ → ℕ → Call → List Frame
handed n channels (call.ReleaseBuffer client frames flags bytes) =
    if client.0 == n then frames_released frames flags bytes.list channels else []
handed n channels _ = []

-- those that an event hands over
abbrev pub handed_by : ℕ → ℕ → Event → List Frame
handed_by n channels (event.Call conn tag x) = handed n channels x
handed_by n channels _ = []

-- the same, if the event was answered S_OK
abbrev pub handed_in : ℕ → Stage → Event → Hr → List Frame
handed_in n st e result =
    if result.0 == hr.S_OK.0 then of_found (λ s. handed_by n s.channels e) (stream_at n st) else []

-- the frames of a client's ReleaseBuffer calls that were answered S_OK, in order
abbrev pub all_handed : ℕ → Stage → List Entry → List Frame
all_handed n st [] = []
all_handed n st (entry ∷ entries) =
    handed_in n st entry.event entry.result ++ all_handed n (after_moves st entry.moves) entries

-- ---- by what is mixed, and what is recorded

-- a mixing is that of its endpoint in this state
abbrev pub IsMixingOf : State → Mixing → Type 0
IsMixingOf st m = (e : _) × (endpoint_at m.endpoint st ≡ Some e) × (m ≡ mixing_of st e)

-- each Sound among these moves mixes by the gains of this state
abbrev pub MixesBy : State → List Move → Type 0
MixesBy st [] = Unit {0}
MixesBy st (sounded m whole ∷ moves) = IsMixingOf st m × MixesBy st moves
MixesBy st (_ ∷ moves) = MixesBy st moves

-- frames that an endpoint's device gave, by these answers, are a period's of the endpoint in this state
abbrev pub IsGivenIn : State → List Answer → ℕ → List Frame → Type 0
IsGivenIn st given number frames =
    (e : Endpoint)
    × (endpoint_at number st ≡ Some e)
    × (frames ≡ frames_given (period_frames e st.stage.streams) e.format.channels (bytes_given given))

-- so are the frames of each capture among these moves
abbrev pub RecordsBy : State → List Answer → List Move → Type 0
RecordsBy st given [] = Unit {0}
RecordsBy st given (captured number frames ∷ moves) = IsGivenIn st given number frames × RecordsBy st given moves
RecordsBy st given (_ ∷ moves) = RecordsBy st given moves

-- each Sound of each entry mixes by the gains of the state before that entry, and each capture has the frames that the
-- device gave in it
abbrev pub EachMixes : State → List Entry → State → Type 0
EachMixes st [] new = new ≡ st
EachMixes st (entry ∷ entries) new =
    (mid : State)
    × Steps st entry mid
    × MixesBy st entry.moves
    × RecordsBy st entry.answers entry.moves
    × EachMixes mid entries new

-- ---- what devices get

-- a Sound: its endpoint, whether its device took all of it, and the bytes of its mixed frames
pub record Sound : Type 0 where
  pub endpoint : ℕ
  pub whole : Bool
  pub bytes : List ℕ

-- the Sounds of a move
abbrev pub sound_made : Stage → Move → List Sound
sound_made st (sounded m whole) =
    record { endpoint = m.endpoint; whole = whole; bytes = sound_bytes m st.streams } ∷ []
sound_made st _ = []

-- and of a list of moves
abbrev pub sounds_made : Stage → List Move → List Sound
sounds_made st [] = []
sounds_made st (x ∷ xs) = sound_made st x ++ sounds_made (after_move st x) xs

-- a Sound's device took these pieces: joined they are the front of its bytes, and all of them exactly if the Sound is
-- whole
pub record IsTaken (sound : Sound) (pieces : List (ℕ × List ℕ)) : Type 0 where
  pub its_own : AllByRecursion (λ piece. piece.0 ≡ sound.endpoint) pieces
  pub rest : List ℕ
  pub joined : sound.bytes ≡ flat_map (λ piece. piece.1) pieces ++ rest
  pub all : IsTrue sound.whole ↔ (rest ≡ [])

-- Sound by Sound, devices took the pieces, and no others
abbrev pub AreTaken : List Sound → List (ℕ × List ℕ) → Type 0
AreTaken [] output = output ≡ []
AreTaken (sound ∷ more) output =
    (pieces others : List (ℕ × List ℕ)) × (output ≡ pieces ++ others) × IsTaken sound pieces × AreTaken more others

-- entry by entry, devices took what its Sounds gave
abbrev pub EachPlays : Stage → List Entry → Type 0
EachPlays st [] = Unit {0}
EachPlays st (entry ∷ entries) =
    AreTaken (sounds_made st entry.moves) entry.output × EachPlays (after_moves st entry.moves) entries

-- ---- the headline

-- What holds of the entries of a run and the state after it. Each event's reply is its table's, as a run says.
pub record Headline (entries : List Entry) (new : State) : Type 0 where
  -- the stage has the streams of live clients and the playheads of endpoints that are there, of all that the entries'
  -- moves made of an empty one
  pub stands : new.stage
      ≡ with_playheads (endpoint_numbers new.endpoints) (present (live_clients new.clients) (whole_stage entries))
  -- and a stream that is left out is closed
  pub gone : AreGone (live_clients new.clients) (whole_stage entries)
  -- released to a client's stream are the frames of its ReleaseBuffer calls that were answered S_OK, in order
  pub released : (n : ℕ) → all_released n empty_stage (moves_of entries) ≡ all_handed n empty_stage entries
  -- each of them has one fate, in order (it was rendered at a place, reset, or dropped for a reason), or is padding
  pub kept : (n : ℕ) → IsKept (pending_of n (whole_stage entries)) (all_handed n empty_stage entries)
      (fates n empty_stage (moves_of entries))
  -- over all streams that ever were the frames released are those rendered, padding, reset and dropped, as the tally
  -- counts them up to its greatest count
  pub totals : AddsUp (clients (whole_stage entries)) (moves_of entries)
  pub tally : IsTally new.tally (clients (whole_stage entries)) (moves_of entries)
  -- a closed stream has no padding
  pub closed_is_empty : (n : ℕ) (s : Stream) → stream_at n (whole_stage entries) ≡ Some s → is_open s ≡ false →
      padding s ≡ 0
  -- a stream's position is how many of its frames were rendered since its last Reset
  pub positions : (n : ℕ) (s : Stream) → stream_at n (whole_stage entries) ≡ Some s →
      s.position ≡ count_by is_rendered (fates_since n empty_stage (moves_of entries))
  -- each place that an endpoint has played was mixed by one whole Sound, which summed the frames whose fate is to be
  -- rendered there, each times its gain
  pub once : (number place : ℕ) → place < next_of number (whole_stage entries) →
      HasOneSound number place (moves_of entries)
  -- no whole Sound mixed a place beyond, and no frame is rendered there
  pub ahead : (number place : ℕ) → next_of number (whole_stage entries) ≤ place →
      IsAhead number place (moves_of entries)
  -- the places of a stream's rendered frames rise
  pub rises : (n : ℕ) → RisesFrom 0 (places_of (fates n empty_stage (moves_of entries)))
  -- a Sound's frames are the mixes of the frames that are due
  pub sums : MixSums
  -- each Sound mixes by the gains of the state before its event, and each capture has what the device gave in its event
  pub mixes : EachMixes empty_state entries new
  -- every packet that was offered to a stream has one mark: it waits to be read, was read, was lost for want of room,
  -- was reset, or was dropped for a reason; and those that wait are the stream's, in order
  pub packets : (n : ℕ) (s : Stream) → stream_at n (whole_stage entries) ≡ Some s →
      IsBooked s (book n empty_stage (moves_of entries))
  -- those that were read stand in the order in which they were offered
  pub reads : (n : ℕ) → all_read n empty_stage (moves_of entries)
      ≡ packets_marked is_read (book n empty_stage (moves_of entries)).offers
  -- a packet of a loopback stream has what one Sound of its endpoint wrote, one of a capture stream what one period's
  -- device gave
  pub sources : (n : ℕ) (s : Stream) → stream_at n (whole_stage entries) ≡ Some s →
      AllByRecursion (λ o. IsFrom s.kind s.endpoint (moves_of entries) o.packet.frames)
      (book n empty_stage (moves_of entries)).offers
  -- once a stream is closed nothing is released to it, no frame of it gets a fate, and no Sound sums one
  pub silent : (n : ℕ) (s : Stream) (before rest : List Entry) → entries ≡ before ++ rest →
      stream_at n (whole_stage before) ≡ Some s → is_open s ≡ false → IsOver n (moves_of before) (moves_of rest)
  -- devices got the bytes of the Sounds, each whole or, if its device failed, a front of it, and nothing else
  pub plays : EachPlays empty_stage entries

-- every run has the headline
abbrev pub RunsHaveHeadline : Type 0
RunsHaveHeadline = (entries : List Entry) (new : State) → IsRun empty_state entries new → Headline entries new

-- runs go on: one run and a run from its last state are one run
abbrev pub RunsGoOn : Type 0
RunsGoOn = (st mid new : State) (xs ys : List Entry) → IsRun st xs mid → IsRun mid ys new → IsRun st (xs ++ ys) new
