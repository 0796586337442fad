-- What is counted of events that give frames a fate (this project's own).
use Rattle.std.specs.Prelude.{ℕ, ◌≤◌, Result, Ok, Err, if◌then◌else◌}
use Rattle.ca_base.specs.declared.codes.Hr.{Hr}
use Rattle.ca_base.specs.declared.limits.TheConstants.{MAX_TALLY}
use Rattle.ca_stage.specs.Tally.{Tally, counted}
use Rattle.reply_payload.specs.declared.payload.Payload.{Payload}
use Rattle.reply_payload.specs.Answers.{is_failure}

-- counts that are in range
pub record HasCounts (t : Tally) : Type 0 where
  pub rendered : t.rendered ≤ MAX_TALLY
  pub reset : t.reset ≤ MAX_TALLY
  pub dropped : t.dropped ≤ MAX_TALLY

-- a tally after frames were reset, and after frames were dropped
abbrev pub more_reset : ℕ → Tally → Tally
more_reset n t = record t { reset = counted t.reset n }

abbrev pub more_dropped : ℕ → Tally → Tally
more_dropped n t = record t { dropped = counted t.dropped n }

-- a tally after a period that took so many frames: they were dropped if the device failed, or else rendered
abbrev pub after_taking : Result Payload Hr → ℕ → Tally → Tally
after_taking (Ok p) n t = if is_failure p then more_dropped n t else record t { rendered = counted t.rendered n }
after_taking (Err code) n t = t
