-- What the steps of the engine's end are to a client's data: all data that agree with what the steps found and read go
-- the same way (this project's own).
use Rattle.std.specs.Prelude.{◌≡◌, ℕ, suc, ◌*◌, ◌/◌, List, [], ◌∷◌, ◌++◌, length}
use Rattle.std.specs.Prelude.{drop, slice_get, Bool, true, false, Some, if◌then◌else◌}
use Rattle.ca_stage.specs.Stage.{BufferData, is_render}
use Rattle.client_state.specs.Frames.{frames_in}
use Rattle.wave_format.specs.Frame.{frame_of}
use Rattle.buffer_ring.specs.declared.step.Deed.{Deed}
use Rattle.buffer_ring.specs.declared.step.Deed.TheVariants as deed
use Rattle.buffer_ring.specs.declared.step.StoreStep.{StoreStep}
use Rattle.buffer_ring.specs.declared.step.StoreStep.TheVariants as step
use Rattle.period_engine.specs.declared.entry.StreamEntry.{StreamEntry}
use Rattle.period_engine.specs.Packed.{packet_of}

-- what the words of a stream's store represent: each a frame of `channels` channels that is to be played, or `period`
-- of them and one more a packet
pub record Layout : Type 0 where
  pub plays : Bool
  pub channels : ℕ
  pub period : ℕ

abbrev pub layout_of : {E : Type 0} → StreamEntry E → Layout
layout_of e = record { plays = is_render e.kind; channels = e.channels; period = e.period }

-- how many words a client's data take
abbrev pub words_of : Layout → BufferData → ℕ
words_of l d = if l.plays then length d.pending else length d.packets * suc l.period

-- a client's data after a deed
abbrev pub data_on : Layout → Deed → BufferData → BufferData
data_on l deed.Looks d = d
data_on l (deed.Retires n) d = record d {
  pending = if l.plays then drop n d.pending else d.pending;
  packets = if l.plays then d.packets else drop (n / suc l.period) d.packets;
}
data_on l (deed.Puts words) d = record d {
  pending = if l.plays then d.pending ++ frames_in l.channels words else d.pending;
  packets = if l.plays then d.packets else d.packets ++ packet_of l.channels words ∷ [];
}
data_on l (deed.Closes reason) d = record d { pending = []; packets = [] }

-- and after steps
abbrev pub data_after : Layout → List StoreStep → BufferData → BufferData
data_after l [] d = d
data_after l (step.Acts found gate deed ∷ ss) d = data_after l ss (data_on l deed d)
data_after l (step.Reads place word ∷ ss) d = data_after l ss d

-- a look found as many words as the data take; what the other deeds find may be anything
abbrev pub AgreesWith : Layout → Deed → ℕ → BufferData → Type 0
AgreesWith l deed.Looks found d = found ≡ words_of l d
AgreesWith l _ found d = Unit {0}

-- the data agree with what the steps found, and with what they read of words that are to be played
abbrev pub Agrees : Layout → List StoreStep → BufferData → Type 0
Agrees l [] d = Unit {0}
Agrees l (step.Acts found gate deed ∷ ss) d = AgreesWith l deed found d × Agrees l ss (data_on l deed d)
Agrees l (step.Reads place word ∷ ss) d =
    (l.plays ≡ true → slice_get d.pending place ≡ Some (frame_of l.channels word)) × Agrees l ss d

-- a deed at a store of packets puts or retires whole ones, and so does each of a list of steps
abbrev pub IsPacked : Layout → Deed → Type 0
IsPacked l (deed.Puts words) = l.plays ≡ false → length words ≡ suc l.period
IsPacked l (deed.Retires n) = l.plays ≡ false → (k : ℕ) × (n ≡ k * suc l.period)
IsPacked l _ = Unit {0}

abbrev pub ArePacked : Layout → List StoreStep → Type 0
ArePacked l [] = Unit {0}
ArePacked l (step.Acts found gate deed ∷ ss) = IsPacked l deed × ArePacked l ss
ArePacked l (step.Reads place word ∷ ss) = ArePacked l ss

-- by client: the steps agree with the data of each entry's client
abbrev pub AllAgree : {E : Type 0} → (ℕ → List StoreStep) → (ℕ → BufferData) → List (StreamEntry E) → Type 0
AllAgree steps datas [] = Unit {0}
AllAgree steps datas (e ∷ entries) =
    Agrees (layout_of e) (steps e.client.0) (datas e.client.0) × AllAgree steps datas entries
