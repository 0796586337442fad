-- The part of a stage that is still there: the streams of clients that are not released (this project's own).
use Rattle.std.specs.Prelude.{◌≡◌, ℕ, List, filter, Bool, true, false}
use Rattle.std.specs.List.{AllByRecursion}
use Rattle.ca_stage.specs.Stage.{Frame, Stream, Stage, is_open}
use Rattle.ca_stage.specs.Moves.{Move, opened, Mixing, stream_at}
use Rattle.ca_stage.specs.Periods.{captures, sub_steps, playing_streams_on, open_streams_on}
use Rattle.ca_stage.specs.Mix.{streams_on, due_frames, mixed}
use Rattle.ca_stage.specs.Tally.{Tally, tally_by}
use Rattle.ca_stage.specs.Order.{is_among}

-- the stage with the streams of these clients alone
abbrev pub present : List ℕ → Stage → Stage
present numbers st = record st { streams = filter (λ s. is_among s.client numbers) st.streams }

-- a stream that is left out is closed
abbrev pub IsGone : List ℕ → Stream → Type 0
IsGone numbers s = is_among s.client numbers ≡ false → is_open s ≡ false

abbrev pub AreGone : List ℕ → Stage → Type 0
AreGone numbers st = AllByRecursion (IsGone numbers) st.streams

-- what is the same of the present streams and of all: what a period plays and sums, what a failed device closes, the
-- sub-steps of a period, the streams of present clients, and what a move adds to the tally
pub record IsWhole (numbers : List ℕ) (st : Stage) : Type 0 where
  pub playing : (endpoint : ℕ) → playing_streams_on endpoint (present numbers st) ≡ playing_streams_on endpoint st
  pub open_on : (endpoint : ℕ) → open_streams_on endpoint (present numbers st) ≡ open_streams_on endpoint st
  pub due : (endpoint i : ℕ) →
      due_frames i (streams_on endpoint (present numbers st).streams) ≡ due_frames i (streams_on endpoint st.streams)
  pub mixes : (m : Mixing) → mixed m (present numbers st).streams ≡ mixed m st.streams
  pub periods : (m : Mixing) (whole : Bool) → sub_steps m whole (present numbers st) ≡ sub_steps m whole st
  pub feeds : (endpoint : ℕ) (frames : List Frame) →
      captures endpoint frames (present numbers st) ≡ captures endpoint frames st
  pub found : (n : ℕ) → is_among n numbers ≡ true → stream_at n (present numbers st) ≡ stream_at n st
  pub tallies : (x : Move) (t : Tally) → tally_by (present numbers st) x t ≡ tally_by st x t

-- a move opens no stream but one of these clients
abbrev pub OpensPresent : List ℕ → Move → Type 0
OpensPresent numbers (opened s) = is_among s.client numbers ≡ true
OpensPresent numbers _ = Unit {0}
