-- A Sound over entries: what was picked is mixed, each stream by its gains, and offered to the endpoint's device (this
-- project's own).
use Rattle.std.specs.Prelude.{◌≡◌, ℕ, ◌*◌, ◌^◌, ◌<◌, ◌≤◌, List, [], ◌∷◌, length, slice_index, Bool, Option}
use Rattle.std.specs.List.{All}
use Rattle.device_io.specs.DeviceLog.{DeviceLog}
use Rattle.volume_stack.specs.Scaling.{unit_gain}
use Rattle.ca_stage.specs.Stage.{BufferData}
use Rattle.ca_stage.specs.Moves.{Mixing}
use Rattle.ca_stage.specs.Mix.{sound_bytes}
use Rattle.buffer_ring.specs.declared.step.StoreStep.{StoreStep}
use Rattle.period_engine.specs.declared.entry.StreamEntry.{StreamEntry}
use Rattle.period_engine.specs.Entries.{streams_of}
use Rattle.period_engine.specs.Agreement.{AllAgree, ArePacked, Layout, data_after}
use Rattle.period_engine.specs.Offers.{Offers}
use Rattle.period_engine.specs.SubSteps.{IsSameEntry}

-- an entry that has picked frames has the endpoint's channels, and its gains are in range
pub record IsMixable {E : Type 0} (channels : ℕ) (e : StreamEntry E) : Type 0 where
  pub fits : 0 < e.picked → e.channels ≡ channels
  pub gains : All (λ gain. gain ≤ unit_gain) e.gains

-- the gains of an endpoint's channels: one to four, each in range
pub record AreEnds (ends : List ℕ) : Type 0 where
  pub some : 1 ≤ length ends
  pub few : length ends ≤ 4
  pub within : All (λ gain. gain ≤ unit_gain) ends

-- scratch for a period: how many samples fit, how many frames a packet may have, and the bytes that are there
pub record BlockState : Type 0 where
  pub samples : ℕ
  pub frames : ℕ
  pub bytes : List ℕ

-- a block has two bytes for each sample, and a word ahead of those of a packet's frames, of which a u32 counts
pub record IsWholeBlock (sums bytes words : ℕ) : Type 0 where
  pub bytes_are : bytes ≡ 2 * sums
  pub some : 1 ≤ words
  pub most : words ≤ 2 ^ 32

-- a block for this many frames of this many channels
pub record IsBlockFor (frames channels : ℕ) (b : BlockState) : Type 0 where
  pub samples : b.samples ≡ frames * channels
  pub frames_are : b.frames ≡ frames
  pub bytes : length b.bytes ≡ 2 * (frames * channels)

-- and one that has room for a packet of this many frames
pub record HasFeedRoom (channels frames : ℕ) (b : BlockState) : Type 0 where
  pub some : 1 ≤ channels
  pub few : channels ≤ 4
  pub words : frames ≤ b.frames
  pub bytes : frames * channels * 2 ≤ length b.bytes

-- the gains of a mixing are those of the entries, and of the endpoint
pub record MixesThese {E : Type 0} (m : Mixing) (number frames : ℕ) (ends : List ℕ) (entries : List (StreamEntry E))
    : Type 0 where
  pub endpoint : m.endpoint ≡ number
  pub lasts : m.frames ≡ frames
  pub channels : m.channels ≡ length ends
  pub gains : All (λ e. (channel : ℕ) → channel < length ends → m.gain e.client.0 channel ≡ slice_index e.gains channel)
      entries
  pub end_gains : (channel : ℕ) → channel < length ends → m.endpoint_gain channel ≡ slice_index ends channel

-- an entry whose store took these steps, and nothing else
pub record TakesSteps {E : Type 0} (moves : E → List StoreStep → E → Type 0) (steps : List StoreStep)
    (a b : StreamEntry E) : Type 0 where
  pub same : IsSameEntry a b
  pub running : b.running ≡ a.running
  pub gate : b.gate ≡ a.gate
  pub picked : b.picked ≡ a.picked
  pub position : b.position ≡ a.position
  pub offered : b.offered ≡ a.offered
  pub ever : b.ever ≡ a.ever
  pub after_gap : b.after_gap ≡ a.after_gap
  pub made : moves a.store steps b.store
  pub packs : (l : Layout) → ArePacked l steps

-- entry by entry, each by its client's steps
abbrev pub AllTakeSteps : {E : Type 0} → (E → List StoreStep → E → Type 0) → (ℕ → List StoreStep) → List (StreamEntry E)
    → List (StreamEntry E) → Type 0
AllTakeSteps moves steps [] [] = Unit {0}
AllTakeSteps moves steps (a ∷ xs) (b ∷ ys) = TakesSteps moves (steps a.client.0) a b × AllTakeSteps moves steps xs ys
AllTakeSteps moves steps [] (b ∷ ys) = ⊥
AllTakeSteps moves steps (a ∷ xs) [] = ⊥

-- A Sound: the stores were read; for all data that agree with what was read the data stay as they are, and the bytes
-- offered to the device are the mix of the streams, by any mixing of these gains.
pub record Sounds {E : Type 0} (moves : E → List StoreStep → E → Type 0) (number frames : ℕ) (ends bytes : List ℕ)
    (whole : Bool) (old new : List (StreamEntry E)) (faults : ℕ) (told : Option (List DeviceLog)) (faults' : ℕ)
    (told' : Option (List DeviceLog)) : Type 0 where
  pub steps : ℕ → List StoreStep
  pub made : AllTakeSteps moves steps old new
  pub mixed : (datas : ℕ → BufferData) (m : Mixing) → AllAgree steps datas old → MixesThese m number frames ends old →
      bytes ≡ sound_bytes m (streams_of datas old)
  pub reads : (d : BufferData) (client : ℕ) (l : Layout) → data_after l (steps client) d ≡ d
  pub offers : Offers number bytes whole faults told faults' told'

-- scratch for a period is as large as before
pub record IsSameSize (old new : BlockState) : Type 0 where
  pub samples : new.samples ≡ old.samples
  pub frames : new.frames ≡ old.frames
  pub bytes : length new.bytes ≡ length old.bytes
