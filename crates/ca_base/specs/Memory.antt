-- A source and a sink in memory, whose failing calls are chosen by number. This project's own.
use Rattle.std.specs.Prelude.{ℕ, ◌+◌, ◌-◌, ◌^◌, ◌==◌, min, Bool, List, [], ◌++◌, length, drop}
use Rattle.std.specs.List.{list_any}

-- what a source has left, how many calls were made, the numbers of the calls that fail, and how many calls failed
pub record SourceState : Type 0 where
  pub left : List ℕ
  pub calls : ℕ
  pub failing : List ℕ
  pub faults : ℕ

-- what was written to a sink, how many bytes it takes in all, and its calls as for a source
pub record SinkState : Type 0 where
  pub written : List ℕ
  pub capacity : ℕ
  pub calls : ℕ
  pub failing : List ℕ
  pub faults : ℕ

-- a source to which no call was made
abbrev pub new_source : List ℕ → List ℕ → SourceState
new_source bytes failing = record { left = bytes; calls = 0; failing = failing; faults = 0 }

-- a sink to which no call was made
abbrev pub new_sink : ℕ → List ℕ → SinkState
new_sink capacity failing = record { written = []; capacity = capacity; calls = 0; failing = failing; faults = 0 }

-- how many bytes a sink still takes
abbrev pub room_of : SinkState → ℕ
room_of s = s.capacity - length s.written

-- a count after one more: it saturates at 2^64 - 1
abbrev pub raised : ℕ → ℕ
raised n = min (n + 1) (2 ^ 64 - 1)

-- whether the call after `calls` others, the first having number 1, is one of those that fail
abbrev pub is_failing : ℕ → List ℕ → Bool
is_failing calls failing = list_any (λ n. n == raised calls) failing

-- a source after a call that gave n bytes
abbrev pub source_gave : ℕ → SourceState → SourceState
source_gave n s = record { left = drop n s.left; calls = raised s.calls; failing = s.failing; faults = s.faults }

-- a source after a call that failed
abbrev pub source_failed : SourceState → SourceState
source_failed s = record { left = s.left; calls = raised s.calls; failing = s.failing; faults = raised s.faults }

-- a sink after a call that took these bytes
abbrev pub sink_took : List ℕ → SinkState → SinkState
sink_took front s = record {
  written = s.written ++ front;
  capacity = s.capacity;
  calls = raised s.calls;
  failing = s.failing;
  faults = s.faults;
}

-- a sink after a call that failed
abbrev pub sink_failed : SinkState → SinkState
sink_failed s = record {
  written = s.written;
  capacity = s.capacity;
  calls = raised s.calls;
  failing = s.failing;
  faults = raised s.faults;
}
