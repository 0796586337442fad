-- What the check of a data call says (this project's own).
use Rattle.std.specs.Prelude.{Option, Some, None}
use Rattle.ca_base.specs.declared.codes.Hr.{Hr}
use Rattle.client_state.specs.declared.check.Verdict.{Verdict}
use Rattle.client_state.specs.declared.check.Verdict.TheVariants as verdict

-- the answer of the first row that holds, or that the call goes on if none does
abbrev pub verdict_of : Option Hr → Verdict
verdict_of (Some code) = verdict.Answer code
verdict_of None = verdict.Go
