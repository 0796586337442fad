-- What a period of an endpoint makes of entries (this project's own).
use Rattle.std.specs.Prelude.{◌≡◌, ℕ, ◌+◌, ◌≤◌, ◌==◌, ◌&&◌, List, [], ◌∷◌, length, map, Bool, true, false}
use Rattle.std.specs.Prelude.{if◌then◌else◌}
use Rattle.std.specs.Prelude.{Option, Some, None}
use Rattle.std.specs.List.{All, AllZip}
use Rattle.device_io.specs.DeviceLog.{DeviceLog}
use Rattle.ca_base.specs.declared.ids.Gate.TheVariants as gate
use Rattle.ca_base.specs.declared.ids.Reason.TheVariants.{Removal}
use Rattle.volume_stack.specs.Scaling.{unit_gain}
use Rattle.buffer_ring.specs.declared.step.EndState.{EndState}
use Rattle.buffer_ring.specs.declared.step.StoreStep.{StoreStep}
use Rattle.wave_format.specs.Frame.{frames_from}
use Rattle.ca_stage.specs.Stage.{Frame, Stream, BufferData}
use Rattle.ca_stage.specs.Periods.{fed_if, is_hearing}
use Rattle.ca_stage.specs.Moves.{Mixing}
use Rattle.ca_stage.specs.Mix.{sound_bytes}
use Rattle.period_engine.specs.declared.entry.StreamEntry.{StreamEntry}
use Rattle.period_engine.specs.Agreement.{Agrees, AllAgree, ArePacked, data_after, layout_of}
use Rattle.period_engine.specs.Entries.{HasRoom, IsFeedable, IsRested, is_heard, stream_with, streams_of}
use Rattle.period_engine.specs.Offers.{Offers}
use Rattle.period_engine.specs.Sounds.{MixesThese, Sounds}
use Rattle.period_engine.specs.SubSteps.{IsSameEntry, Turned, picks_on, retires_on}
use Rattle.stream_entries.specs.Closing.{closes_within}
use Rattle.service_board.specs.Does.{store_at}

-- A period of an endpoint as far as its Sound: what is due was picked, mixed and offered to the endpoint's device.
pub record PicksAndSounds {E : Type 0} (moves : E → List StoreStep → E → Type 0) (number frames : ℕ) (ends : List ℕ)
    (bytes : List ℕ) (whole : Bool) (old new : List (StreamEntry E)) (faults : ℕ) (told : Option (List DeviceLog))
    (faults' : ℕ) (told' : Option (List DeviceLog)) : Type 0 where
  pub mid : List (StreamEntry E)
  pub picks : AllZip (Turned moves (picks_on number frames)) old mid
  pub sounds : Sounds moves number frames ends bytes whole mid new faults told faults' told'

-- what follows a Sound that wrote these frames: what was picked is rendered, and those who hear are offered them; or
-- the device failed and the endpoint's streams are closed
abbrev pub ends_on : ℕ → List Frame → Bool → Stream → Stream
ends_on number heard true s = fed_if (is_hearing number) heard (retires_on number s)
ends_on number heard false s = closes_within Removal (Some number) s

-- what a period of an endpoint makes of a stream
abbrev pub plays_on : ℕ → ℕ → List Frame → Bool → Stream → Stream
plays_on number frames heard whole s = ends_on number heard whole (picks_on number frames s)

-- an entry that a period may play: its position has room for the period, if it is open on the endpoint it has the
-- endpoint's channels, if it hears the endpoint it may be offered a packet, and its gains are in range
pub record IsPlayable {E : Type 0} (state : E → EndState) (number frames channels : ℕ) (e : StreamEntry E) : Type 0
  where
    pub rested : IsRested state e
    pub counts : HasRoom number frames e
    pub fits : e.endpoint.0 ≡ number → e.gate ≡ gate.Open → e.channels ≡ channels
    pub hears : is_heard number e ≡ true → IsFeedable channels frames e
    pub gains : All (λ gain. gain ≤ unit_gain) e.gains

-- an entry went on as f moves its stream, by these steps of its store, for all data that agree with them
pub record GoesBy {E : Type 0} (moves : E → List StoreStep → E → Type 0) (f : Stream → Stream) (steps : List StoreStep)
    (a b : StreamEntry E) : Type 0 where
  pub same : IsSameEntry a b
  pub made : moves a.store steps b.store
  pub packs : ArePacked (layout_of a) steps
  pub turns : (d : BufferData) → Agrees (layout_of a) steps d →
      f (stream_with d a) ≡ stream_with (data_after (layout_of a) steps d) b

-- entry by entry, each by its client's steps
abbrev pub AllGo : {E : Type 0} → (E → List StoreStep → E → Type 0) → (Stream → Stream) → (ℕ → List StoreStep)
    → List (StreamEntry E) → List (StreamEntry E) → Type 0
AllGo moves f steps [] [] = Unit {0}
AllGo moves f steps (a ∷ xs) (b ∷ ys) = GoesBy moves f (steps a.client.0) a b × AllGo moves f steps xs ys
AllGo moves f steps [] (b ∷ ys) = ⊥
AllGo moves f steps (a ∷ xs) [] = ⊥

-- a position and what was offered rise by a period's frames at most, and only on its endpoint if the device took all;
-- and no gate opens
pub record StaysNear {E : Type 0} (number frames : ℕ) (whole : Bool) (a b : StreamEntry E) : Type 0 where
  pub position : b.position ≤ a.position + (if whole && a.endpoint.0 == number then frames else 0)
  pub ever : b.ever ≤ a.ever + (if whole && a.endpoint.0 == number then frames else 0)
  pub opens : b.gate ≡ gate.Open → a.gate ≡ gate.Open

-- A period of an endpoint over entries. By steps of their stores, and of no other client, they went on as the period
-- moves their streams; what was picked was mixed by any mixing of these gains, and offered to the endpoint's device.
pub record Plays {E : Type 0} (moves : E → List StoreStep → E → Type 0) (number frames : ℕ) (ends : List ℕ)
    (whole : Bool) (old new : List (StreamEntry E)) (faults : ℕ) (told : Option (List DeviceLog)) (faults' : ℕ)
    (told' : Option (List DeviceLog)) : Type 0 where
  pub steps : ℕ → List StoreStep
  pub bytes : List ℕ
  pub went : AllGo moves (plays_on number frames (frames_from frames (length ends) bytes) whole) steps old new
  pub none : (client : ℕ) → store_at client old ≡ None → steps client ≡ []
  pub places : AllZip (StaysNear number frames whole) old new
  pub mixed : (datas : ℕ → BufferData) (m : Mixing) → AllAgree steps datas old →
      MixesThese m number frames ends old → bytes ≡ sound_bytes m (map (picks_on number frames) (streams_of datas old))
  pub offers : Offers number bytes whole faults told faults' told'
